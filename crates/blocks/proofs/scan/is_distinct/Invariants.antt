use Rattle.std.proofs.Common.{◌≡◌, length}
use Rattle.blocks.specs.Blocks.{distinct}
use Rattle.blocks.proofs.scan.is_distinct.Given as goal

abbrev pub invariant-loop-block : goal.invariant-loop-block
invariant-loop-block l = distinct l.rest ≡ distinct l.blocks

abbrev pub decreases-loop-block : goal.decreases-loop-block
decreases-loop-block l = length l.rest
