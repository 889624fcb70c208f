-- The communications states.
use Rattle.states.specs.declared.link.Link.{Link}
use Rattle.states.specs.declared.link.Link.TheVariants.{Disabled, WaitCra, WaitDelay, Communicating}
use Rattle.states.specs.declared.link.LinkEvent.{LinkEvent}
use Rattle.states.specs.declared.link.LinkEvent.TheVariants.{Enable, Disable, Failure, DelayOver, NoReply, HostEstablishes, Accepted, Denied, OtherFrame}

-- where an event leads from DISABLED
abbrev pub from_disabled : LinkEvent → Link
from_disabled Enable = WaitCra
from_disabled Disable = Disabled
from_disabled Failure = Disabled
from_disabled DelayOver = Disabled
from_disabled NoReply = Disabled
from_disabled HostEstablishes = Disabled
from_disabled Accepted = Disabled
from_disabled Denied = Disabled
from_disabled OtherFrame = Disabled

-- from WAIT CRA
abbrev pub from_wait_cra : LinkEvent → Link
from_wait_cra Enable = WaitCra
from_wait_cra Disable = Disabled
from_wait_cra Failure = WaitDelay
from_wait_cra DelayOver = WaitCra
from_wait_cra NoReply = WaitDelay
from_wait_cra HostEstablishes = Communicating
from_wait_cra Accepted = Communicating
from_wait_cra Denied = WaitDelay
from_wait_cra OtherFrame = WaitCra

-- from WAIT DELAY
abbrev pub from_wait_delay : LinkEvent → Link
from_wait_delay Enable = WaitDelay
from_wait_delay Disable = Disabled
from_wait_delay Failure = WaitDelay
from_wait_delay DelayOver = WaitCra
from_wait_delay NoReply = WaitDelay
from_wait_delay HostEstablishes = Communicating
from_wait_delay Accepted = WaitDelay
from_wait_delay Denied = WaitDelay
from_wait_delay OtherFrame = WaitCra

-- from COMMUNICATING
abbrev pub from_communicating : LinkEvent → Link
from_communicating Enable = Communicating
from_communicating Disable = Disabled
from_communicating Failure = WaitCra
from_communicating DelayOver = Communicating
from_communicating NoReply = Communicating
from_communicating HostEstablishes = Communicating
from_communicating Accepted = Communicating
from_communicating Denied = Communicating
from_communicating OtherFrame = Communicating

-- the table: state and event to state
abbrev pub link_after : Link → LinkEvent → Link
link_after Disabled e = from_disabled e
link_after WaitCra e = from_wait_cra e
link_after WaitDelay e = from_wait_delay e
link_after Communicating e = from_communicating e
