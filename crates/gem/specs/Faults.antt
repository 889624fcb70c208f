-- The faults of a call.
use Rattle.std.specs.Prelude.{ℕ, Ok, Err, Result}
use Rattle.requests.specs.Faults.{fault_code, fault_place}
use Rattle.setup.specs.Refusals.{refusal_code, refusal_detail}
use Rattle.gem.specs.declared.fault.Fault.{Fault}
use Rattle.gem.specs.declared.fault.Fault.TheVariants.{Refused, Told}

-- what a call answers first: 0 and 0, or code and detail of its fault
abbrev pub answer_of : Result (Unit {0}) Fault → ℕ × ℕ
answer_of (Ok done) = (0, 0)
answer_of (Err (Refused refusal)) = (refusal_code refusal, refusal_detail refusal)
answer_of (Err (Told fault)) = (fault_code fault, fault_place fault)
