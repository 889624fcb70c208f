use Rattle.std.proofs.Common.{ℕ, ◌-◌, vec_items, ap, ◌∙◌, arith}
use Rattle.store.specs.Rings.{ring_reports}
use Rattle.store.proofs.Turning.{ring_next, ring_wrap}
use Rattle.store.proofs.ring.calls.RingStore.remove.Goals as goal
use Rattle.store.proofs.ring.calls.RingStore.remove.Goals.{then-next-len, else-next-len}

-- the list is the ring from the next slot on, wherever that is
pub returns-clause-list : goal.returns-clause-list
returns-clause-list c =
    let s = c.args.self.now in
    let shorter : ℕ = s.count - 1 in
    elim c.if-next-len.branch [
      | then-next-len w ↦
          ap (λ p. ring_reports (vec_items s.slots) p shorter) w.self-is
          ∙ ring_next (vec_items s.slots) s.first s.count (omega arith) (omega arith) (omega arith)
      | else-next-len w ↦
          ap (λ p. ring_reports (vec_items s.slots) p shorter) w.self-is
          ∙ ring_wrap (vec_items s.slots) s.first s.count (omega arith) (omega arith) (omega arith)
    ]
