use Rattle.std.proofs.Common.{Some, vec_items, sym, ap, ◌∙◌, arith}
use Rattle.store.specs.Reports.{oldest_number}
use Rattle.store.specs.Rings.{report_in}
use Rattle.store.proofs.Turning.{ring_head}
use Rattle.store.proofs.ring.calls.RingStore.oldest.Goals as goal

pub returns : goal.returns
returns c =
    let s = c.args.self.now in
    let d = c.index.result.now in
    ap Some (c.number.ensures ∙ ap (λ x. (report_in x).number) c.index.ensures)
    ∙ sym (ap oldest_number (ring_head (vec_items s.slots) s.first s.count d (omega arith) (omega arith)))
