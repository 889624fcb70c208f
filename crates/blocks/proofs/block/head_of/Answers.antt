use Rattle.std.proofs.Common.{rules}
use Rattle.blocks.specs.Layout.{head_of}
use Rattle.blocks.proofs.block.head_of.Goals as goal

pub returns : goal.returns
unfolding head_of
returns c = search rules
