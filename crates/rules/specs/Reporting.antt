-- Reports are made only on-line.
use Rattle.std.specs.Prelude.{ℕ, Bool, true, false, cond}
use Rattle.bodies.specs.Bodies.{body_of}
use Rattle.bodies.specs.declared.body.Body.{Body}
use Rattle.bodies.specs.declared.body.Body.TheVariants as body
use Rattle.spooling.specs.Entering.{made}
use Rattle.states.specs.Controls.{is_online}
use Rattle.states.specs.declared.link.Link.{Link}
use Rattle.states.specs.declared.link.Link.TheVariants.{Disabled, WaitCra, WaitDelay, Communicating}
use Rattle.rules.specs.Events.{event_number}
use Rattle.rules.specs.declared.event.Event.{Event}
use Rattle.rules.specs.declared.state.Next.{Next}
use Rattle.rules.specs.Views.{View, with_held, with_counts}

abbrev pub is_disabled : Link → Bool
is_disabled Disabled = true
is_disabled WaitCra = false
is_disabled WaitDelay = false
is_disabled Communicating = false

-- a report takes the next report number, which is the count then
abbrev pub report_made : Next → ℕ → ℕ → Body → View → View
report_made n stream function b v =
    with_held (made (is_disabled v.state.link) v.state.settings.overwrite (record { number = n.report; stream = stream; function = function; body = body_of b }) v.held)
    (with_counts (record { transactions = v.state.counts.transactions; reports = n.report }) v)

-- an event is reported by S6,F11
unfoldable pub evented : Next → Event → View → View
evented n event v = cond (is_online v.state.control) (report_made n 6 11 (body.Event n.report (event_number event)) v) v

-- an alarm is reported by S5,F1
unfoldable pub alarm_reported : Next → ℕ → ℕ → View → View
alarm_reported n alcd alarm v = cond (is_online v.state.control) (report_made n 5 1 (body.Alarm alcd alarm) v) v
