-- The events that are reported.
use Rattle.std.specs.Prelude.{ℕ, ◌+◌}
use Rattle.rules.specs.declared.event.Event.{Event}
use Rattle.rules.specs.declared.event.Event.TheVariants.{OnlineLeft, LocalEntered, RemoteEntered, SpoolActivated, SpoolDeactivated, TransmitFailed, AlarmSet, AlarmCleared, ZoneMoved}

-- the number of each event
abbrev pub event_number : Event → ℕ
event_number OnlineLeft = 1
event_number LocalEntered = 2
event_number RemoteEntered = 3
event_number SpoolActivated = 4
event_number SpoolDeactivated = 5
event_number TransmitFailed = 6
event_number (AlarmSet k) = 100 + k
event_number (AlarmCleared k) = 200 + k
event_number (ZoneMoved v) = 300 + v
