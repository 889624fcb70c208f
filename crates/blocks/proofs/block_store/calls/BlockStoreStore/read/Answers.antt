use Rattle.std.proofs.Common.{[], ◌∷◌, get_or, sym, ap, ◌∙◌, subst}
use Rattle.store.specs.Reports.{Report}
use Rattle.store.specs.Answers.{Reads}
use Rattle.blocks.specs.Layout.{written, report_in}
use Rattle.blocks.proofs.Changes.{found_by, missing_by}
use Rattle.blocks.proofs.block_store.calls.BlockStoreStore.read.Goals as goal

pub returns-in_err-place : goal.returns-in_err-place
returns-in_err-place c =
    let cut = c.blocks-blocks.ensures.cut in
    absurd (missing_by c.args.self.now _ _ cut cut c.in_ok-number.number (sym c.in_ok-number.was ∙ c.lowest_number.ensures) (sym c.in_err-place.was ∙ c.place_of.ensures))

pub report_in-requires : goal.report_in-requires
report_in-requires c =
    let cut = c.blocks-blocks.ensures.cut in
    let k = c.in_ok-place.place in
    let f = found_by c.args.self.now _ _ cut cut c.in_ok-number.number k (sym c.in_ok-number.was ∙ c.lowest_number.ensures) (sym c.in_ok-place.was ∙ c.place_of.ensures) in
    ap (λ bs. written (get_or bs k [])) cut ∙ f.used

pub returns : goal.returns
returns c =
    let cut = c.blocks-blocks.ensures.cut in
    let k = c.in_ok-place.place in
    let f = found_by c.args.self.now _ _ cut cut c.in_ok-number.number k (sym c.in_ok-number.was ∙ c.lowest_number.ensures) (sym c.in_ok-place.was ∙ c.place_of.ensures) in
    let told = c.report_in.ensures.value ∙ ap (λ bs. report_in (get_or bs k [])) cut in
    f.read _ _ _ (subst (λ (r : Report). Reads (r ∷ []) c.copy_out.result c.args.buffer.now c.copy_out.new.buffer) told (c.copy_out.ensures.short c.report_in.ensures.short))
