use Rattle.std.proofs.Common.{arith}
use Rattle.octets.proofs.Placing.{placed_part}
use Rattle.octets.proofs.copy_at.Goals as goal

pub returns-clause-after : goal.returns-clause-after
returns-clause-after c = placed_part c.args.out.now c.args.at _ _ c.args.bytes.now c.copy_from_slice.ensures.after (omega arith)
