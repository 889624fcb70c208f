-- What a move of the communications state brings with it.
use Rattle.std.specs.Prelude.{cond}
use Rattle.spooling.specs.Leaving.{activated, unloading, dropped}
use Rattle.spooling.specs.declared.state.Unload.{Unload}
use Rattle.spooling.specs.declared.state.Unload.TheVariants.{NoOutput, Transmit, Purge}
use Rattle.states.specs.Links.{link_after}
use Rattle.states.specs.declared.link.Link.{Link}
use Rattle.states.specs.declared.link.Link.TheVariants.{Disabled, WaitCra, WaitDelay, Communicating}
use Rattle.states.specs.declared.link.LinkEvent.{LinkEvent}
use Rattle.rules.specs.declared.event.Event.TheVariants.{SpoolActivated, TransmitFailed}
use Rattle.rules.specs.declared.state.Next.{Next}
use Rattle.rules.specs.declared.state.SessionRequest.TheVariants.{Establish}
use Rattle.rules.specs.Views.{View, with_held, with_link, closed_all}
use Rattle.rules.specs.Sends.{asked}
use Rattle.rules.specs.Reporting.{evented}

-- a transmit that is broken off goes to no output, and its event is reported
abbrev pub stopped_at : Next → Unload → View → View
stopped_at n NoOutput v = v
stopped_at n Transmit v = evented n TransmitFailed (with_held (unloading NoOutput v.held) v)
stopped_at n Purge v = v

-- an inactive spool becomes active and its event is reported; an active one stops a transmit
abbrev pub spool_started : Next → View → View
spool_started n v =
    cond v.held.spooling.active
    (stopped_at n v.held.spooling.unload v)
    (evented n SpoolActivated (with_held (activated v.state.settings.overwrite v.held) v))

-- communication is lost: open transactions close, and reports go to the spool from now on
unfoldable pub lost : Next → View → View
lost n v = spool_started n (closed_all v)

-- communication is switched off: open transactions close and the queue is dropped
abbrev pub switched_off : View → View
switched_off v = with_held (dropped (closed_all v).held) (closed_all v)

-- WAIT CRA is entered: from COMMUNICATING communication is lost first
abbrev pub into_wait_cra : Next → Link → View → View
into_wait_cra n Disabled v = asked n Establish v
into_wait_cra n WaitCra v = v
into_wait_cra n WaitDelay v = asked n Establish v
into_wait_cra n Communicating v = asked n Establish (lost n v)

-- WAIT DELAY is entered from WAIT CRA: communication is lost
abbrev pub into_wait_delay : Next → Link → View → View
into_wait_delay n Disabled v = v
into_wait_delay n WaitCra v = lost n v
into_wait_delay n WaitDelay v = v
into_wait_delay n Communicating v = v

-- DISABLED is entered from any other state
abbrev pub into_disabled : Link → View → View
into_disabled Disabled v = v
into_disabled WaitCra v = switched_off v
into_disabled WaitDelay v = switched_off v
into_disabled Communicating v = switched_off v

-- what follows a move from one state to another
abbrev pub followed : Next → Link → Link → View → View
followed n before Disabled v = into_disabled before v
followed n before WaitCra v = into_wait_cra n before v
followed n before WaitDelay v = into_wait_delay n before v
followed n before Communicating v = v

-- an event moves the communications state as the table says
unfoldable pub linked : Next → LinkEvent → View → View
linked n e v = followed n v.state.link (link_after v.state.link e) (with_link (link_after v.state.link e) v)
