-- The control states.
use Rattle.std.specs.Prelude.{Bool, true, false}
use Rattle.states.specs.declared.control.Control.{Control}
use Rattle.states.specs.declared.control.Control.TheVariants.{EquipmentOffline, Attempt, HostOffline, Local, Remote}
use Rattle.states.specs.declared.control.Mode.{Mode}
use Rattle.states.specs.declared.control.Mode.TheVariants as mode
use Rattle.states.specs.declared.control.Fallback.{Fallback}
use Rattle.states.specs.declared.control.Fallback.TheVariants as fallback

-- LOCAL and REMOTE are ON-LINE
abbrev pub is_online : Control → Bool
is_online EquipmentOffline = false
is_online Attempt = false
is_online HostOffline = false
is_online Local = true
is_online Remote = true

-- the ON-LINE state at a place of the operator's switch
abbrev pub online_at : Mode → Control
online_at mode.Local = Local
online_at mode.Remote = Remote

-- the state to fall back to
abbrev pub fallback_state : Fallback → Control
fallback_state fallback.EquipmentOffline = EquipmentOffline
fallback_state fallback.HostOffline = HostOffline
