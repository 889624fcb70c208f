use Rattle.std.proofs.Common.{ℕ, vec_items, sym, ap, ◌∙◌, subst, arith}
use Rattle.blocks.specs.Blocks.{capacity_of}
use Rattle.blocks.proofs.Changes.{Sound, sound_capacity}
use Rattle.blocks.proofs.block_store.BlockStore.new.Goals as goal

pub invariant_of-result : goal.invariant_of-result
invariant_of-result c =
    let xs = vec_items c.args.bytes in
    let e = c.sound_blocks-blocks.ensures ∙ ap capacity_of c.deref.ensures.value in
    let s : Sound c.sound_blocks-blocks.result xs = subst (λ (n : ℕ). Sound n xs) (sym e) (sound_capacity xs) in
    let r = s.room in
    let l = c.args.bytes.ok.0 in
    record { room = omega arith; whole = s.whole; apart = s.apart; anew = sym e }
