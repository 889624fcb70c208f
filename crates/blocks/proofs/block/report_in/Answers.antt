use Rattle.std.proofs.Common.{arith}
use Rattle.std.proofs.lemmas.List.{length-take}
use Rattle.blocks.proofs.Layouts.{parts_of}
use Rattle.blocks.proofs.block.report_in.Goals as goal

pub slice_bounds-result-end : goal.slice_bounds-result-end
slice_bounds-result-end c = let h = (parts_of c.args.block.now c.requires).1 in omega arith

pub returns-clause-short : goal.returns-clause-short
returns-clause-short c = let h = (parts_of c.args.block.now c.requires).1 in simp length-take (omega arith)
