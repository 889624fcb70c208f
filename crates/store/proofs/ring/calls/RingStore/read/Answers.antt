use Rattle.std.proofs.Common.{◌≡◌, ◌-◌, List, ◌∷◌, map, take, vec_items, sym, ap, ◌∙◌, subst, arith}
use Rattle.store.specs.Reports.{Report}
use Rattle.store.specs.Answers.{Reads}
use Rattle.store.specs.Rings.{report_in, ring_reports}
use Rattle.store.proofs.Reading.{read_longer}
use Rattle.store.proofs.Turning.{ring_head, after}
use Rattle.store.proofs.ring.calls.RingStore.read.Goals as goal

pub returns : goal.returns
returns c =
    let s = c.args.self.now in
    let d = c.index.result.now in
    let rest = map report_in (take (s.count - 1) (after s.first (vec_items s.slots))) in
    let held : report_in d ∷ rest ≡ ring_reports (vec_items s.slots) s.first s.count =
    ap (λ x. report_in x ∷ rest) c.index.ensures
    ∙ sym (ring_head (vec_items s.slots) s.first s.count d (omega arith) (omega arith)) in
    subst (λ (l : List Report). Reads l c.copy_out.result c.args.buffer.now c.copy_out.new.buffer) held (read_longer (report_in d) rest _ _ _ c.copy_out.ensures)
