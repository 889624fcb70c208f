use Rattle.std.proofs.Common.{arith, refl}
use Rattle.std.proofs.lemmas.List.{length-take}
use Rattle.store.specs.Lent.{report_of}
use Rattle.blocks.proofs.Layouts.{sealed}
use Rattle.blocks.proofs.block.block_of.Goals as goal

pub slice_bounds-check_of-end : goal.slice_bounds-check_of-end
slice_bounds-check_of-end c = omega (arith, length-take 510 c.copy_at-2.new.out)

pub returns : goal.returns
returns c =
    sealed (report_of c.args.report) _ _ _ _ _ _ _ _ _ _ c.requires
    refl c.head_of.ensures c.copy_at.ensures.fits c.copy_at.ensures.after
    c.copy_at-2.ensures.fits c.copy_at-2.ensures.after
    c.check_of-check.ensures c.to_be_bytes.ensures c.copy_at-3.ensures.fits c.copy_at-3.ensures.after
