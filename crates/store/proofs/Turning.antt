-- Slots in turn.
use Rattle.std.proofs.Common.{◌≡◌, ℕ, suc, ◌+◌, ◌-◌, ◌<◌, ◌≤◌, List, [], ◌∷◌, ◌++◌, map, length, get_or, take, drop, set, sym, refl, ap, ◌∙◌, ap₂, inl, inr, arith}
use lib.Seq.{take-set-lt}
use Rattle.std.proofs.lemmas.List.{append-nil, append_assoc, length-append, length-take, length-drop, length-map, take_more, take_all, take-append-le, take_more_set, drop_more, drop_all, drop-set-lt, drop-set-add, take-set-le, set-append_left, set-append_right, get_or_append_left, get_or-append_right, get_or-drop, get_or-take, map_push}
use Rattle.std.proofs.lemmas.Bool.{cond-true, cond-false, lt-ltb, le-ltb, cases_lt}
use Rattle.store.specs.Reports.{Report, newest_number, after_remove}
use Rattle.store.specs.Rings.{report_in, turned, slot_place, ring_reports}
use Rattle.store.specs.declared.record.Record.{Record}

none : (i : ℕ) → i < 0 → ⊥
none i h = omega arith

-- some element of a list that is not empty
item : {A : Type 0} (xs : List A) (i : ℕ) → i < length xs → A
item [] i h = absurd (none i h)
item (x ∷ xs) i h = x

pub length_turned : {A : Type 0} (first : ℕ) (slots : List A) → first ≤ length slots → length (turned first slots) ≡ length slots
length_turned first slots h = simp (length-append, length-drop, length-take) (omega arith)

pub length_ring : (slots : List Record) (first count : ℕ) → first ≤ length slots → count ≤ length slots → length (ring_reports slots first count) ≡ count
length_ring slots first count a b =
    length-map (take count (turned first slots)) report_in
    ∙ (length-take count (turned first slots) ∙ omega (arith, length_turned first slots a))

-- the slots after `first` and then those before it
abbrev pub after : {A : Type 0} → ℕ → List A → List A
after first slots = drop (first + 1) slots ++ take first slots

turned_head : {A : Type 0} (first : ℕ) (slots : List A) (d : A) → first < length slots → turned first slots ≡ get_or slots first d ∷ after first slots
turned_head first slots d h = ap (λ x. x ++ take first slots) (drop_more slots first d h)

-- the ring begins with what stands at `first`
pub ring_head : (slots : List Record) (first count : ℕ) (d : Record) → first < length slots → 0 < count
    → ring_reports slots first count ≡ report_in (get_or slots first d) ∷ map report_in (take (count - 1) (after first slots))
ring_head slots first count d h k =
    let e : count ≡ suc (count - 1) = omega arith in
    ap (λ x. map report_in (take count x)) (turned_head first slots d h)
    ∙ ap (λ n. map report_in (take n (get_or slots first d ∷ after first slots))) e

turned_next : {A : Type 0} (first : ℕ) (slots : List A) (d : A) → first + 1 < length slots → turned (first + 1) slots ≡ after first slots ++ (get_or slots first d ∷ [])
turned_next first slots d h =
    ap (λ x. drop (first + 1) slots ++ x) (take_more slots first d (omega arith))
    ∙ sym (append_assoc (drop (first + 1) slots) (take first slots) (get_or slots first d ∷ []))

turned_wrap : {A : Type 0} (first : ℕ) (slots : List A) (d : A) → first + 1 ≡ length slots → turned 0 slots ≡ after first slots ++ (get_or slots first d ∷ [])
turned_wrap first slots d h =
    append-nil slots
    ∙ (sym (take_all (first + 1) slots (omega arith))
    ∙ (take_more slots first d (omega arith)
    ∙ sym (ap (λ x. (x ++ take first slots) ++ (get_or slots first d ∷ [])) (drop_all (first + 1) slots (omega arith)))))

-- without its first report the ring is that from the next slot on
pub ring_rest : (slots : List Record) (first next count : ℕ) (d : Record) → first < length slots → 0 < count → count ≤ length slots
    → turned next slots ≡ after first slots ++ (get_or slots first d ∷ []) → ring_reports slots next (count - 1) ≡ after_remove (ring_reports slots first count)
ring_rest slots first next count d h k n e =
    ap (λ x. map report_in (take (count - 1) x)) e
    ∙ (ap (map report_in) (take-append-le (count - 1) (after first slots) (get_or slots first d ∷ []) (simp (length-append, length-drop, length-take) (omega arith)))
    ∙ sym (ap after_remove (ring_head slots first count d h k)))

pub ring_next : (slots : List Record) (first count : ℕ) → first + 1 < length slots → 0 < count → count ≤ length slots → ring_reports slots (first + 1) (count - 1) ≡ after_remove (ring_reports slots first count)
ring_next slots first count h k n =
    let d = item slots first (omega arith) in ring_rest slots first (first + 1) count d (omega arith) k n (turned_next first slots d h)

pub ring_wrap : (slots : List Record) (first count : ℕ) → first + 1 ≡ length slots → 0 < count → count ≤ length slots → ring_reports slots 0 (count - 1) ≡ after_remove (ring_reports slots first count)
ring_wrap slots first count h k n =
    let d = item slots first (omega arith) in ring_rest slots first 0 count d (omega arith) k n (turned_wrap first slots d h)

-- what stands k after the first
pub turned_at : {A : Type 0} (first : ℕ) (slots : List A) (k : ℕ) (d : A) → first ≤ length slots → k < length slots → get_or (turned first slots) k d ≡ get_or slots (slot_place first (length slots) k) d
turned_at first slots k d a b =
    elim (cases_lt k (length slots - first)) [
      | inl h ↦
          get_or_append_left (drop first slots) (take first slots) d k (simp length-drop (omega arith))
          ∙ (get_or-drop first slots k d
          ∙ ap (λ p. get_or slots p d) (sym (cond-true _ (first + k) (k - (length slots - first)) (lt-ltb k (length slots - first) h))))
      | inr h ↦
          get_or-append_right (drop first slots) (take first slots) (length slots - first) k d (length-drop first slots) h
          ∙ (get_or-take first slots (k - (length slots - first)) d (omega arith)
          ∙ ap (λ p. get_or slots p d) (sym (cond-false _ (first + k) (k - (length slots - first)) (le-ltb k (length slots - first) h))))
    ]

pub turned_set : {A : Type 0} (first : ℕ) (slots : List A) (k : ℕ) (x : A) → first ≤ length slots → k < length slots → turned first (set slots (slot_place first (length slots) k) x) ≡ set (turned first slots) k x
turned_set first slots k x a b =
    elim (cases_lt k (length slots - first)) [
      | inl h ↦
          ap (λ p. turned first (set slots p x)) (cond-true _ (first + k) (k - (length slots - first)) (lt-ltb k (length slots - first) h))
          ∙ (ap₂ (λ u v. u ++ v) (drop-set-add first slots k x) (take-set-le first slots (first + k) x (omega arith))
          ∙ sym (set-append_left (drop first slots) (take first slots) k x (simp length-drop (omega arith))))
      | inr h ↦
          ap (λ p. turned first (set slots p x)) (cond-false _ (first + k) (k - (length slots - first)) (le-ltb k (length slots - first) h))
          ∙ (ap₂ (λ u v. u ++ v) (drop-set-lt first slots (k - (length slots - first)) x (omega arith)) (take-set-lt first slots (k - (length slots - first)) x (omega arith))
          ∙ sym (set-append_right (drop first slots) (take first slots) (length slots - first) k x (length-drop first slots) h))
    ]

-- one more report at the end
pub ring_push : (slots : List Record) (first count : ℕ) (x : Record) → first ≤ length slots → count < length slots
    → ring_reports (set slots (slot_place first (length slots) count) x) first (count + 1) ≡ ring_reports slots first count ++ (report_in x ∷ [])
ring_push slots first count x a b =
    ap (λ t. map report_in (take (count + 1) t)) (turned_set first slots count x a b)
    ∙ (ap (map report_in) (take_more_set (turned first slots) count x (omega (arith, length_turned first slots a)))
    ∙ map_push report_in (take count (turned first slots)) x)

newest_push : (rs : List Report) (r : Report) → newest_number (rs ++ (r ∷ [])) ≡ r.number
newest_push [] r = refl
newest_push (x ∷ []) r = refl
newest_push (x ∷ (y ∷ ys)) r = newest_push (y ∷ ys) r

-- the newest report stands in the last slot that is used
pub ring_newest : (slots : List Record) (first count : ℕ) (d : Record) → first ≤ length slots → 0 < count → count ≤ length slots
    → newest_number (ring_reports slots first count) ≡ (report_in (get_or slots (slot_place first (length slots) (count - 1)) d)).number
ring_newest slots first count d a k n =
    let t = turned first slots in
    let c : count ≡ count - 1 + 1 = omega arith in
    let e : take count t ≡ take (count - 1) t ++ (get_or t (count - 1) d ∷ []) =
    ap (λ m. take m t) c ∙ take_more t (count - 1) d (omega (arith, length_turned first slots a)) in
    ap (λ l. newest_number (map report_in l)) e
    ∙ (ap newest_number (map_push report_in (take (count - 1) t) (get_or t (count - 1) d))
    ∙ (newest_push (map report_in (take (count - 1) t)) (report_in (get_or t (count - 1) d))
    ∙ ap (λ s. (report_in s).number) (turned_at first slots (count - 1) d a (omega arith))))
