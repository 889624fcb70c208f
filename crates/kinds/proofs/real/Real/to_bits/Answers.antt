use Rattle.std.proofs.Common.{T, refl, ap, ◌∙◌, rules}
use lib.Ieee.{binary32, fits}
use lib.Ieee.Bits.{of_bits-to_bits}
use Rattle.kinds.specs.Reals.{real_of}
use Rattle.kinds.proofs.Reals.{real_of_lem}
use Rattle.kinds.proofs.real.Real.to_bits.Goals as goal

pub returns : goal.returns
returns c =
    let f : T (fits binary32 c.args.self.value) = search rules in
    record {
      value = refl;
      back = ap real_of (of_bits-to_bits binary32 c.args.self.value f) ∙ real_of_lem c.args.self.value c.args.self.number;
    }
