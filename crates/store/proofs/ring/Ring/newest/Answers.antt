use Rattle.std.proofs.Common.{◌≡◌, ◌-◌, length, get_or, vec_items, sym, ap, ◌∙◌, arith}
use Rattle.store.specs.Rings.{report_in, slot_place}
use Rattle.store.proofs.Turning.{ring_newest}
use Rattle.store.proofs.ring.Ring.newest.Goals as goal

pub returns : goal.returns
returns c =
    let s = c.args.self.now in
    let d = c.index.result.now in
    let place : c.slot-last.result ≡ slot_place s.first (length (vec_items s.slots)) (s.count - 1) =
    c.slot-last.ensures ∙ ap (λ n. slot_place s.first n (s.count - 1)) s.slots.ok.0 in
    ap (λ x. (report_in x).number) (c.index.ensures ∙ ap (λ p. get_or (vec_items s.slots) p d) place)
    ∙ sym (ring_newest (vec_items s.slots) s.first s.count d (omega arith) (omega arith) (omega arith))
