use Rattle.std.proofs.Common.{◌/◌, length, take, vec_items, ap, ◌∙◌, arith}
use Rattle.blocks.specs.Blocks.{blocks_of, by_number, intact, held_in}
use Rattle.blocks.proofs.Changes.{sound_store}
use Rattle.blocks.proofs.Cutting.{chunks_are, take_blocks}
use Rattle.blocks.proofs.block_store.BlockStore.blocks.Goals as goal

cut : goal.returns-clause-cut
cut c =
    let st = c.args.self.now in
    let xs = vec_items st.bytes in
    let room = (sound_store st).room in
    let seen = c.deref.ensures.value in
    ap (take st.blocks) (c.as_chunks.ensures.front ∙ (chunks_are _ _ ∙ ap (λ bytes. blocks_of (length bytes / 512) bytes) seen))
    ∙ take_blocks st.blocks (length xs / 512) xs (omega arith)

pub returns-clause-cut : goal.returns-clause-cut
returns-clause-cut = cut

pub returns-clause-whole : goal.returns-clause-whole
returns-clause-whole c = ap intact (cut c) ∙ c.args.self.now.whole

pub returns-clause-list : goal.returns-clause-list
unfolding held_in
returns-clause-list c = ap by_number (cut c)
