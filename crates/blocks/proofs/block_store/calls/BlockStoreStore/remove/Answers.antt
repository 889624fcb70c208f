use Rattle.std.proofs.Common.{ℕ, vec_items, sym, refl, ap, ◌∙◌, subst, arith}
use Rattle.std.proofs.lemmas.List.{with_items_is, length-replicate}
use Rattle.blocks.specs.Layout.{free_block}
use Rattle.blocks.specs.Blocks.{held_in, freed}
use Rattle.blocks.proofs.Changes.{Sound, found_by, missing_by, none_by, sound_store, copied_in, stored, store_room}
use Rattle.blocks.proofs.block_store.calls.BlockStoreStore.remove.Goals as goal

pub returns-in_default-clause-bytes : goal.returns-in_default-clause-bytes
unfolding freed
returns-in_default-clause-bytes c =
    let st = c.args.self.now in
    let cut = c.blocks-2.ensures.cut in
    sym (ap (freed st.blocks (vec_items st.bytes)) (none_by st _ _ cut cut c.in_default.ensures))

pub returns-in_default-place_of : goal.returns-in_default-place_of
returns-in_default-place_of c =
    absurd (missing_by c.args.self.now _ _ c.blocks-2.ensures.cut c.blocks-3.ensures.cut c.in-Some.number c.in-Some.ensures c.in_default-place_of.ensures)

pub invariant_of-self : goal.invariant_of-self
invariant_of-self c =
    let st = c.args.self.now in
    let f =
    found_by st _ _ c.blocks-2.ensures.cut c.blocks-3.ensures.cut c.in-Some.number c.in-Some-place_of.place c.in-Some.ensures c.in-Some-place_of.ensures in
    let after =
    copied_in st.blocks (vec_items st.bytes) c.in-Some-place_of.place (sound_store st) f.within c.deref_mut.result.now c.copy_at.new.out free_block free_block c.copy_at.result
    c.deref_mut.ensures.value (length-replicate {A = ℕ} 512 0) refl c.copy_at.ensures.fits c.copy_at.ensures.after in
    let s = stored st c.copy_at.new.out (omega arith) (subst (λ ys. Sound st.blocks ys) (sym after) f.sound) in
    record { room = store_room st c.copy_at.new.out s; whole = s.whole; apart = s.apart; anew = s.anew }

pub returns : goal.returns
returns c =
    let st = c.args.self.now in
    let f =
    found_by st _ _ c.blocks-2.ensures.cut c.blocks-3.ensures.cut c.in-Some.number c.in-Some-place_of.place c.in-Some.ensures c.in-Some-place_of.ensures in
    let after =
    copied_in st.blocks (vec_items st.bytes) c.in-Some-place_of.place (sound_store st) f.within c.deref_mut.result.now c.copy_at.new.out free_block free_block c.copy_at.result
    c.deref_mut.ensures.value (length-replicate {A = ℕ} 512 0) refl c.copy_at.ensures.fits c.copy_at.ensures.after in
    let bytes = with_items_is st.bytes c.copy_at.new.out (omega arith) ∙ after in
    record { list = ap (held_in st.blocks) bytes ∙ f.list; same = refl; bytes = bytes ∙ f.bytes }
