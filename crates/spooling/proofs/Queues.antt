-- The loops over the queue: each turn leaves the same to be done.
use Rattle.std.proofs.Common.{◌≡◌, ℕ, ◌-◌, ◌<◌, Bool, true, false, cond, not, ◌&&◌, List, [], ◌∷◌, length, is_some, Some, None, Option, sym, refl, ap, ◌∙◌, ap₂, arith}
use Rattle.store.specs.Reports.{Report, oldest_number, after_remove}
use Rattle.spooling.specs.Holdings.{Shelf, Holding, with_queue, at_capacity}
use Rattle.spooling.specs.Entering.{overwritten_at, overwritten, directing, stored, settled, directed}
use Rattle.spooling.specs.Leaving.{dropped_at, dropped_all, dropped, moved_at, moved_all, moved}

-- what holds of both ways holds of a choice
pub either : {A : Type 0} (P : A → Type 0) (b : Bool) (x y : A) → P x → P y → P (cond b x y)
either P true x y p q = p
either P false x y p q = q

-- one report less
pub shorter : (l : List Report) → is_some (oldest_number l) ≡ true → length (after_remove l) < length l
shorter [] e = absurd (cc)
shorter (r ∷ rs) e = omega arith

-- no report at all
none_left : (l : List Report) → is_some (oldest_number l) ≡ false → l ≡ []
none_left [] e = refl
none_left (r ∷ rs) e = absurd (cc)

-- the queue's oldest report is dropped
module _ (h k : Holding) (turn : k ≡ dropped_at (oldest_number h.queue.records) h) where
  pub drop_step : dropped k ≡ dropped h
  unfolding dropped
  drop_step = ap dropped turn ∙ go h.queue.records refl
    where
      go : (l : List Report) → l ≡ h.queue.records → dropped (dropped_at (oldest_number l) h) ≡ dropped h
      go [] e = refl
      go (r ∷ rs) e = rw (← e) refl

  pub drop_less : is_some (oldest_number h.queue.records) ≡ true → length k.queue.records < length h.queue.records
  drop_less some = omega (arith, ap (λ (x : Holding). length x.queue.records) turn, go h.queue.records refl some)
    where
      go : (l : List Report) → l ≡ h.queue.records → is_some (oldest_number l) ≡ true → length (dropped_at (oldest_number l) h).queue.records < length h.queue.records
      go [] e t = absurd (cc)
      go (r ∷ rs) e t = shorter h.queue.records (ap (λ (l : List Report). is_some (oldest_number l)) (sym e))

  pub drop_end : is_some (oldest_number h.queue.records) ≡ false → k ≡ dropped h
  unfolding dropped
  drop_end none =
      let e = none_left h.queue.records none in
      turn ∙ (ap (λ (l : List Report). dropped_at (oldest_number l) h) e ∙ sym (ap (λ (l : List Report). dropped_all l h) e))

-- directing leaves the queue as it was
queue_overwritten : (o : Option ℕ) (h : Holding) → (overwritten_at o h).queue ≡ h.queue
queue_overwritten None h = refl
queue_overwritten (Some n) h = refl

queue_settled : (overwrite : Bool) (r : Report) (h : Holding) → (settled overwrite r h).queue ≡ h.queue
queue_settled overwrite r h =
    either (λ (k : Holding). k.queue ≡ h.queue) (h.spooling.full && not overwrite) _ _ refl
    (either (λ (k : Holding). (stored r k).queue ≡ h.queue) (at_capacity h.spool) (overwritten h) h (queue_overwritten (oldest_number h.spool.records) h) refl)

pub queue_directed : (overwrite : Bool) (r : Report) (h : Holding) → (directed overwrite r h).queue ≡ h.queue
unfolding directed
queue_directed overwrite r h = queue_settled overwrite r (directing h)

queue_moved_one : (overwrite : Bool) (l : List Report) (h : Holding) → l ≡ h.queue.records → (moved_at overwrite l h).queue.records ≡ after_remove l
queue_moved_one overwrite [] h e = sym e
queue_moved_one overwrite (r ∷ rs) h e = ap (λ (s : Shelf). s.records) (queue_directed overwrite r (with_queue rs h))

-- the queue's oldest report is directed
module _ (overwrite : Bool) (h k : Holding) (turn : k ≡ moved_at overwrite h.queue.records h) where
  pub move_step : moved overwrite k ≡ moved overwrite h
  unfolding moved
  move_step =
      ap (moved overwrite) turn
      ∙ (ap (λ (l : List Report). moved_all overwrite l (moved_at overwrite h.queue.records h)) (queue_moved_one overwrite h.queue.records h refl)
      ∙ go h.queue.records)
    where
      go : (l : List Report) → moved_all overwrite (after_remove l) (moved_at overwrite l h) ≡ moved_all overwrite l h
      go [] = refl
      go (r ∷ rs) = refl

  pub move_less : is_some (oldest_number h.queue.records) ≡ true → length k.queue.records < length h.queue.records
  move_less some =
      omega (arith, ap (λ (x : Holding). length x.queue.records) turn, ap length (queue_moved_one overwrite h.queue.records h refl), shorter h.queue.records some)

  pub move_end : is_some (oldest_number h.queue.records) ≡ false → k ≡ moved overwrite h
  unfolding moved
  move_end none =
      let e = none_left h.queue.records none in
      turn ∙ (ap (λ (l : List Report). moved_at overwrite l h) e ∙ sym (ap (λ (l : List Report). moved_all overwrite l h) e))
