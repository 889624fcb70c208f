use Rattle.std.proofs.Common.{◌≡◌, ◌+◌, ◌<◌, false, [], ◌∷◌, ◌++◌, length, set, vec_items, vec_len, sym, ap, ◌∙◌, arith, rules}
use Rattle.store.specs.Lent.{report_of}
use Rattle.store.specs.Reports.{Report, newest_number, unfit}
use Rattle.store.specs.Rings.{report_in, ring_reports, slot_place}
use Rattle.store.proofs.Puts.{after_taken, put_taken}
use Rattle.store.proofs.Turning.{length_ring, ring_push}
use Rattle.store.proofs.ring.calls.RingStore.put.Goals as goal

pub returns-clause-list : goal.returns-clause-list
returns-clause-list c =
    let s = c.args.self.now in
    let held = ring_reports (vec_items s.slots) s.first s.count in
    let r : Report = report_of c.args.report in
    let filled : report_in c.in-Some.filled ≡ r = search rules in
    let newer : newest_number held < r.number = search rules in
    let l : length held ≡ s.count = length_ring (vec_items s.slots) s.first s.count (omega arith) (omega arith) in
    let room : length held < vec_len s.slots = omega arith in
    let fit : unfit r ≡ false = search rules in
    let place : c.slot-at.result ≡ slot_place s.first (length (vec_items s.slots)) s.count =
    c.slot-at.ensures ∙ ap (λ n. slot_place s.first n s.count) s.slots.ok.0 in
    ap (λ p. ring_reports (set (vec_items s.slots) p c.in-Some.filled) s.first (s.count + 1)) place
    ∙ (ring_push (vec_items s.slots) s.first s.count c.in-Some.filled (omega arith) (omega arith)
    ∙ (ap (λ (x : Report). held ++ (x ∷ [])) filled
    ∙ sym (after_taken held (vec_len s.slots) r fit newer room)))

pub returns-clause-answer : goal.returns-clause-answer
returns-clause-answer c =
    let s = c.args.self.now in
    let held = ring_reports (vec_items s.slots) s.first s.count in
    let r : Report = report_of c.args.report in
    let newer : newest_number held < r.number = search rules in
    let l : length held ≡ s.count = length_ring (vec_items s.slots) s.first s.count (omega arith) (omega arith) in
    let room : length held < vec_len s.slots = omega arith in
    let fit : unfit r ≡ false = search rules in
    sym (put_taken held (vec_len s.slots) r fit newer room)
