-- Samples of the variables.
use Rattle.std.specs.Prelude.{ℕ, Bool, cond, Some, None, Ok, Err, Option, Result}
use Rattle.host.specs.Takes.{Turn, done}
use Rattle.rules.specs.Reporting.{evented}
use Rattle.rules.specs.Views.{View, with_setup}
use Rattle.rules.specs.declared.event.Event.TheVariants.{ZoneMoved}
use Rattle.rules.specs.declared.state.Next.{Next}
use Rattle.setup.specs.Refusals.{refusal_code, refusal_detail}
use Rattle.setup.specs.declared.refusal.Refusal.{Refusal}
use Rattle.setup.specs.declared.refusal.Refusal.TheVariants as refusal
use Rattle.setup.specs.Tables.{entry_at, with_entry}
use Rattle.zone.specs.Variables.{sample_after, sample_answer}
use Rattle.zone.specs.declared.variable.Sample.{Sample}
use Rattle.zone.specs.declared.variable.SampleFault.{SampleFault}
use Rattle.zone.specs.declared.variable.Variable.{Variable}

-- refused: nothing changes
abbrev pub refused : Refusal → View → Turn
refused r v = record { code = refusal_code r; detail = refusal_detail r; after = v }

-- a variable's entry in the setup
abbrev pub with_variable : ℕ → Variable → View → View
with_variable k x v =
    with_setup (record { alarms = v.state.setup.alarms; variables = record { entries = with_entry k x v.state.setup.variables.entries } }) v

-- a sample that is taken moves bands; where any moved, one event is reported
abbrev pub sample_taken : Next → ℕ → Variable → Result Bool SampleFault → View → Turn
sample_taken n k x (Ok moved) v = done (cond moved (evented n (ZoneMoved k) (with_variable k x v)) (with_variable k x v))
sample_taken n k x (Err fault) v = refused (refusal.Sample k fault) v

-- a sample of an unknown variable is refused
abbrev pub sampled_at : Next → ℕ → Sample → Option Variable → View → Turn
sampled_at n k s None v = refused (refusal.Unknown k) v
sampled_at n k s (Some x) v = sample_taken n k (sample_after x s) (sample_answer x s) v

unfoldable pub sampled : Next → ℕ → Sample → View → Turn
sampled n k s v = sampled_at n k s (entry_at v.state.setup.variables.entries k) v
