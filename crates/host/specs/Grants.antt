-- What the host's requests do.
use Rattle.std.specs.Prelude.{ℕ, Bool, cond, Some, None, Option, ◌==◌}
use Rattle.bodies.specs.declared.body.Body.TheVariants as body
use Rattle.frames.specs.declared.header.Header.{Header}
use Rattle.host.specs.Acknowledges.{acknowledge_byte, acknowledging}
use Rattle.host.specs.declared.acknowledge.Acknowledge.{Acknowledge}
use Rattle.host.specs.declared.acknowledge.Acknowledge.TheVariants.{AlarmAccepted, AlarmUnknown, AlreadyOnline, NothingSpooled, OfflineAccepted, OnlineAccepted, OnlineNotAllowed, UnloadBusy, UnloadGranted}
use Rattle.requests.specs.declared.request.Request.{Request}
use Rattle.requests.specs.declared.request.Request.TheVariants.{AreYouThere, Establish, GoOffline, GoOnline, EnableAlarm, Transmit, Purge}
use Rattle.rules.specs.ControlRules.{went_online, went_offline}
use Rattle.rules.specs.Sends.{replied}
use Rattle.rules.specs.Views.{View, with_held, with_setup}
use Rattle.rules.specs.declared.state.Next.{Next}
use Rattle.setup.specs.Tables.{entry_at, with_entry}
use Rattle.setup.specs.declared.plan.Alarm.{Alarm}
use Rattle.spooling.specs.Holdings.{Holding}
use Rattle.spooling.specs.Leaving.{transmitting, unloading}
use Rattle.spooling.specs.declared.state.Spooling.{Spooling}
use Rattle.spooling.specs.declared.state.Unload.{Unload}
use Rattle.spooling.specs.declared.state.Unload.TheVariants as unload
use Rattle.states.specs.declared.control.Control.{Control}
use Rattle.states.specs.declared.control.Control.TheVariants.{EquipmentOffline, Attempt, HostOffline, Local, Remote}

-- S1,F17: control goes on-line from HOST OFF-LINE
abbrev pub online_granted : Next → Header → Control → View → View
online_granted n h EquipmentOffline v = replied h 18 (acknowledging OnlineNotAllowed) v
online_granted n h Attempt v = replied h 18 (acknowledging OnlineNotAllowed) v
online_granted n h HostOffline v = replied h 18 (acknowledging OnlineAccepted) (went_online n v)
online_granted n h Local v = replied h 18 (acknowledging AlreadyOnline) v
online_granted n h Remote v = replied h 18 (acknowledging AlreadyOnline) v

-- an alarm's entry in the setup
abbrev pub with_alarm : ℕ → Alarm → View → View
with_alarm k a v =
    with_setup (record { alarms = record { entries = with_entry k a v.state.setup.alarms.entries }; variables = v.state.setup.variables }) v

-- S5,F3: the reports of an alarm are enabled or disabled
abbrev pub alarm_granted : Header → Bool → ℕ → Option Alarm → View → View
alarm_granted h enable k None v = replied h 4 (acknowledging AlarmUnknown) v
alarm_granted h enable k (Some a) v =
    replied h 4 (acknowledging AlarmAccepted) (with_alarm k (record { category = a.category; enabled = enable; set = a.set }) v)

-- what S6,F23 is answered
abbrev pub unloading_answer : Unload → Acknowledge
unloading_answer unload.NoOutput = UnloadGranted
unloading_answer unload.Transmit = UnloadBusy
unloading_answer unload.Purge = UnloadBusy

abbrev pub unload_answer : Spooling → Acknowledge
unload_answer s = cond s.active (unloading_answer s.unload) NothingSpooled

-- where it is granted, the spool unloads from now on
abbrev pub unload_granted : Header → Acknowledge → Holding → View → View
unload_granted h a after v = replied h 24 (acknowledging a) (cond (acknowledge_byte a == 0) (with_held after v) v)

abbrev pub transmit_granted : Header → View → View
transmit_granted h v = unload_granted h (unload_answer v.held.spooling) (transmitting v.held) v

abbrev pub purge_granted : Header → View → View
purge_granted h v = unload_granted h (unload_answer v.held.spooling) (unloading unload.Purge v.held) v

-- each request
unfoldable pub granted : Next → Header → Request → View → View
granted n h AreYouThere v = replied h 2 body.Identity v
granted n h Establish v = replied h 14 body.Accepted v
granted n h GoOffline v = replied h 16 (acknowledging OfflineAccepted) (went_offline n HostOffline v)
granted n h GoOnline v = online_granted n h v.state.control v
granted n h (EnableAlarm enable k) v = alarm_granted h enable k (entry_at v.state.setup.alarms.entries k) v
granted n h Transmit v = transmit_granted h v
granted n h Purge v = purge_granted h v
