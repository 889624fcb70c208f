use Rattle.std.proofs.Common.{◌≡◌, ap, ◌∙◌, rules}
use Rattle.octets.specs.Big.{num4}
use Rattle.kinds.specs.Reals.{real_of_bits}
use Rattle.kinds.proofs.kind.RealValueKind.to_bytes.Goals as goal

pub returns-clause-back : goal.returns-clause-back
returns-clause-back c =
    let e : num4 c.to_be_bytes.result 0 ≡ c.to_bits.result = search rules in
    ap real_of_bits e ∙ c.to_bits.ensures.back
