use Rattle.std.proofs.Common.{sym}
use Rattle.kinds.proofs.Reals.{real_of_lem}
use Rattle.kinds.proofs.real.Real.new.Goals as goal

pub returns : goal.returns
returns c = sym (real_of_lem c.args.value _)
