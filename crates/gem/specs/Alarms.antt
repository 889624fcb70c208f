-- Alarms that are set and cleared.
use Rattle.std.specs.Prelude.{ℕ, ◌+◌, ◌%◌, Bool, true, false, cond, Some, None, Option}
use Rattle.actions.specs.Samples.{refused}
use Rattle.host.specs.Grants.{with_alarm}
use Rattle.host.specs.Takes.{Turn, done}
use Rattle.rules.specs.Reporting.{alarm_reported, evented}
use Rattle.rules.specs.Views.{View, next_of}
use Rattle.rules.specs.declared.event.Event.{Event}
use Rattle.rules.specs.declared.event.Event.TheVariants.{AlarmCleared, AlarmSet}
use Rattle.rules.specs.declared.state.Next.{Next}
use Rattle.setup.specs.declared.refusal.Refusal.TheVariants.{Unknown}
use Rattle.setup.specs.Tables.{entry_at}
use Rattle.setup.specs.declared.plan.Alarm.{Alarm}

-- ALCD: the seven bits of the category, plus 128 where the alarm is set
abbrev pub alcd_of : ℕ → Bool → ℕ
alcd_of category set = category % 128 + cond set 128 0

-- the event of an alarm that is set or cleared
abbrev pub alarm_event : ℕ → Bool → Event
alarm_event k set = cond set (AlarmSet k) (AlarmCleared k)

-- an enabled alarm is reported
abbrev pub alarm_told : Next → ℕ → Alarm → Bool → View → View
alarm_told n k a set v = cond a.enabled (alarm_reported n (alcd_of a.category set) k v) v

-- after that comes its event
abbrev pub alarm_evented : ℕ → Bool → View → View
alarm_evented k set v = evented (next_of v.state) (alarm_event k set) v

-- a call that changes an alarm changes its entry and no other
abbrev pub alarm_changed : ℕ → Bool → Alarm → View → View
alarm_changed k set a v =
    alarm_evented k set (alarm_told (next_of v.state) k a set (with_alarm k (record { category = a.category; enabled = a.enabled; set = set }) v))

abbrev pub is_same : Bool → Bool → Bool
is_same true b = b
is_same false true = false
is_same false false = true

-- an unknown alarm is refused
abbrev pub alarmed_at : ℕ → Bool → Option Alarm → View → Turn
alarmed_at k set None v = refused (Unknown k) v
alarmed_at k set (Some a) v = done (cond (is_same a.set set) v (alarm_changed k set a v))

unfoldable pub alarmed : ℕ → Bool → View → Turn
alarmed k set v = alarmed_at k set (entry_at v.state.setup.alarms.entries k) v
