use Rattle.std.proofs.Common.{sym, ◌∙◌}
use lib.Ieee.{binary32}
use lib.Ieee.Bits.{nan_bits_is, nan_bits_above}
use Rattle.std.specs.Bool.{fails}
use Rattle.kinds.proofs.Reals.{none_of}
use Rattle.kinds.proofs.real.Real.from_bits.Goals as goal

pub float_from_bits-bits : goal.float_from_bits-bits
float_from_bits-bits c = fails _ (nan_bits_above binary32 c.args.bits ∙ sym c.if-is_nan.ensures)

pub returns-then-is_nan : goal.returns-then-is_nan
returns-then-is_nan c = sym (none_of _ (sym (nan_bits_is binary32 c.args.bits) ∙ (nan_bits_above binary32 c.args.bits ∙ sym c.if-is_nan.ensures)))
