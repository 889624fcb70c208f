-- The control state, the operator's switches and the expiries.
use Rattle.std.specs.Prelude.{ℕ, true, cond, Some, None, Option, ◌==◌}
use Rattle.spooling.specs.Holdings.{with_pending}
use Rattle.spooling.specs.declared.state.OpenReport.{OpenReport}
use Rattle.states.specs.Controls.{online_at, fallback_state}
use Rattle.states.specs.declared.link.Link.{Link}
use Rattle.states.specs.declared.link.Link.TheVariants.{Disabled, WaitCra, WaitDelay, Communicating}
use Rattle.states.specs.declared.link.LinkEvent.TheVariants.{Enable, Disable, DelayOver, NoReply}
use Rattle.states.specs.declared.control.Control.{Control}
use Rattle.states.specs.declared.control.Control.TheVariants.{EquipmentOffline, Attempt, HostOffline, Local, Remote}
use Rattle.states.specs.declared.control.Mode.{Mode}
use Rattle.states.specs.declared.control.Mode.TheVariants as mode
use Rattle.rules.specs.declared.control.Switch.{Switch}
use Rattle.rules.specs.declared.control.Switch.TheVariants as switch
use Rattle.rules.specs.declared.control.Expiry.{Expiry}
use Rattle.rules.specs.declared.control.Expiry.TheVariants as expiry
use Rattle.rules.specs.declared.event.Event.{Event}
use Rattle.rules.specs.declared.event.Event.TheVariants.{LocalEntered, OnlineLeft, RemoteEntered}
use Rattle.rules.specs.declared.state.Next.{Next}
use Rattle.rules.specs.declared.state.SessionRequest.TheVariants.{AreYouThere}
use Rattle.rules.specs.Views.{View, with_held, with_control, with_mode}
use Rattle.rules.specs.Sends.{our_header, asked, faulted}
use Rattle.rules.specs.Reporting.{evented}
use Rattle.rules.specs.LinkRules.{linked}

-- the switch of a number
abbrev pub switch_of : ℕ → Option Switch
switch_of n =
    cond (n == 1) (Some switch.Enable) (cond (n == 2) (Some switch.Disable) (cond (n == 3) (Some switch.Online)
    (cond (n == 4) (Some switch.Offline) (cond (n == 5) (Some switch.Local) (cond (n == 6) (Some switch.Remote) None)))))

-- the expiry of a number
abbrev pub expiry_of : ℕ → Option Expiry
expiry_of n = cond (n == 1) (Some expiry.CommDelay) (cond (n == 2) (Some expiry.SessionReply) (cond (n == 3) (Some expiry.ReportReply) None))

-- an attempt to go on-line fails: control falls back
abbrev pub fell_back_at : Control → View → View
fell_back_at EquipmentOffline v = v
fell_back_at Attempt v = with_control (fallback_state v.state.settings.fallback) v
fell_back_at HostOffline v = v
fell_back_at Local v = v
fell_back_at Remote v = v

abbrev pub fell_back : View → View
fell_back v = fell_back_at v.state.control v

-- the event of entering LOCAL or REMOTE
abbrev pub mode_event : Mode → Event
mode_event mode.Local = LocalEntered
mode_event mode.Remote = RemoteEntered

-- control goes on-line, to where the switch stands, and its event is reported after the move
unfoldable pub went_online : Next → View → View
went_online n v = evented n (mode_event v.state.mode) (with_control (online_at v.state.mode) v)

-- control leaves ON-LINE: its event is reported before the move
unfoldable pub went_offline : Next → Control → View → View
went_offline n c v = with_control c (evented n OnlineLeft v)

-- an attempt to go on-line asks the host; without communication control falls back at once
abbrev pub attempted_at : Next → Link → View → View
attempted_at n Disabled v = with_control (fallback_state v.state.settings.fallback) v
attempted_at n WaitCra v = with_control (fallback_state v.state.settings.fallback) v
attempted_at n WaitDelay v = with_control (fallback_state v.state.settings.fallback) v
attempted_at n Communicating v = asked n AreYouThere (with_control Attempt v)

-- the switch ONLINE acts in EQUIPMENT OFF-LINE
abbrev pub online_switched : Next → Control → View → View
online_switched n EquipmentOffline v = attempted_at n v.state.link v
online_switched n Attempt v = v
online_switched n HostOffline v = v
online_switched n Local v = v
online_switched n Remote v = v

-- the switch OFFLINE acts on-line and in HOST OFF-LINE, where nothing is reported
abbrev pub offline_switched : Next → Control → View → View
offline_switched n EquipmentOffline v = v
offline_switched n Attempt v = v
offline_switched n HostOffline v = went_offline n EquipmentOffline v
offline_switched n Local v = went_offline n EquipmentOffline v
offline_switched n Remote v = went_offline n EquipmentOffline v

-- the switches LOCAL and REMOTE are remembered; on-line they move control from the other state
abbrev pub local_switched : Next → Control → View → View
local_switched n EquipmentOffline v = v
local_switched n Attempt v = v
local_switched n HostOffline v = v
local_switched n Local v = v
local_switched n Remote v = went_online n v

abbrev pub remote_switched : Next → Control → View → View
remote_switched n EquipmentOffline v = v
remote_switched n Attempt v = v
remote_switched n HostOffline v = v
remote_switched n Local v = went_online n v
remote_switched n Remote v = v

-- each switch
unfoldable pub switched : Next → Switch → View → View
switched n switch.Enable v = linked n Enable v
switched n switch.Disable v = linked n Disable (fell_back v)
switched n switch.Online v = online_switched n v.state.control v
switched n switch.Offline v = offline_switched n v.state.control v
switched n switch.Local v = local_switched n v.state.control (with_mode mode.Local v)
switched n switch.Remote v = remote_switched n v.state.control (with_mode mode.Remote v)

-- the reply to a report did not come in time: it closes, and S9,F9 tells the host
abbrev pub overdue_at : Next → Option OpenReport → View → View
overdue_at n None v = v
overdue_at n (Some o) v =
    faulted n 9 (our_header v.state.settings true o.stream o.function o.transaction) (with_held (with_pending None v.held) v)

-- each expiry
unfoldable pub expired : Next → Expiry → View → View
expired n expiry.CommDelay v = linked n DelayOver v
expired n expiry.SessionReply v = linked n NoReply (fell_back v)
expired n expiry.ReportReply v = overdue_at n v.held.pending v
