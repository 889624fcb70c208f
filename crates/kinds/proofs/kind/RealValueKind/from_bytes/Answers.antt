use Rattle.std.proofs.Common.{◌≡◌, ap, ◌∙◌, rules}
use Rattle.octets.specs.Big.{num4}
use Rattle.kinds.specs.Reals.{real_of_bits}
use Rattle.kinds.proofs.kind.RealValueKind.from_bytes.Goals as goal

pub returns : goal.returns
returns c =
    let e : c.from_be_bytes.result ≡ num4 c.args.bytes 0 = search rules in
    c.from_bits.ensures ∙ ap real_of_bits e
