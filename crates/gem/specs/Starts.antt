-- The start of an equipment.
use Rattle.std.specs.Prelude.{ℕ, Bool, false, cond, ◌&&◌, length, None, ◌==◌, nat_le}
use Rattle.rules.specs.declared.state.State.{State}
use Rattle.setup.specs.Refusals.{refusal_code}
use Rattle.setup.specs.declared.refusal.Refusal.TheVariants.{Unfit}
use Rattle.setup.specs.declared.plan.Setup.{Setup}
use Rattle.setup.specs.declared.settings.Settings.{Settings}
use Rattle.spooling.specs.Holdings.{Shelf}
use Rattle.spooling.specs.declared.state.Reports.{Reports}
use Rattle.spooling.specs.declared.state.Spooling.{Spooling}
use Rattle.spooling.specs.declared.state.Unload.TheVariants.{NoOutput}
use Rattle.states.specs.declared.control.Control.TheVariants.{EquipmentOffline}
use Rattle.states.specs.declared.control.Mode.TheVariants as mode
use Rattle.states.specs.declared.link.Link.TheVariants.{Disabled}

-- both stores are empty, the queue holds 1 to 8 reports and the spool 1 to 60,000
abbrev pub fit_of : Shelf → Shelf → Bool
fit_of q s =
    (length q.records == 0) && (length s.records == 0 && (nat_le 1 q.limit && (nat_le q.limit 8 && (nat_le 1 s.limit && nat_le s.limit 60000))))

-- the check before the start
abbrev pub check_of : Shelf → Shelf → ℕ × ℕ
check_of q s = cond (fit_of q s) (0, 0) (refusal_code Unfit, 0)

-- DISABLED, EQUIPMENT OFF-LINE, the switch at REMOTE, all counts 0
abbrev pub fresh_state : Setup → Settings → State
fresh_state setup settings =
    record { link = Disabled; control = EquipmentOffline; mode = mode.Remote; session = None; counts = record { transactions = 0; reports = 0 }; setup = setup; settings = settings }

-- the spool is INACTIVE
abbrev pub fresh_spooling : Spooling
fresh_spooling = record { active = false; full = false; unload = NoOutput; total = 0; acknowledged = 0 }

abbrev pub fresh_reports : {Q S : Type 0} → Q → S → Reports Q S
fresh_reports queue spool = record { queue = queue; spool = spool; spooling = fresh_spooling; pending = None }
