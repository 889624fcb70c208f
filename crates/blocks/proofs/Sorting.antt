-- A report inserted among reports by rising number.
use Rattle.std.proofs.Common.{◌≡◌, ℕ, suc, ◌<◌, ◌≤◌, max, ltb, List, [], ◌∷◌, ◌++◌, length, sym, refl, ap, ◌∙◌, inl, inr, arith}
use Rattle.std.proofs.lemmas.Bool.{cond-true, cond-false, cond_both, lt-ltb, le-ltb, ltb-true, ltb-false, cases_lt}
use Rattle.store.specs.Reports.{Report, newest_number}
use Rattle.blocks.specs.Blocks.{insert_report}

-- every number is at least m
abbrev pub AtLeast : ℕ → List Report → Type 0
AtLeast m [] = Unit {0}
AtLeast m (r ∷ rs) = (m ≤ r.number) × AtLeast m rs

-- every number is below m
abbrev pub Below : ℕ → List Report → Type 0
Below m [] = Unit {0}
Below m (r ∷ rs) = (r.number < m) × Below m rs

-- no number is below one before it
abbrev pub Ordered : List Report → Type 0
Ordered [] = Unit {0}
Ordered (r ∷ rs) = AtLeast r.number rs × Ordered rs

-- it goes first, or after the first
front : (r s : Report) (rs : List Report) → r.number < s.number → insert_report r (s ∷ rs) ≡ r ∷ s ∷ rs
unfolding insert_report
front r s rs h = cond-true (ltb r.number s.number) _ _ (lt-ltb r.number s.number h)

pub later : (r s : Report) (rs : List Report) → s.number ≤ r.number → insert_report r (s ∷ rs) ≡ s ∷ insert_report r rs
unfolding insert_report
later r s rs h = cond-false (ltb r.number s.number) _ _ (le-ltb r.number s.number h)

pub insert_none : (r : Report) → insert_report r [] ≡ r ∷ []
unfolding insert_report
insert_none r = refl

pub insert_front : (r s : Report) (rs : List Report) → r.number < s.number → insert_report r (s ∷ rs) ≡ r ∷ s ∷ rs
insert_front = front

at_least_lower : (m n : ℕ) (rs : List Report) → n ≤ m → AtLeast m rs → AtLeast n rs
at_least_lower m n [] h a = tt
at_least_lower m n (r ∷ rs) h a = let p = a.0 in (omega arith, at_least_lower m n rs h a.1)

pub at_least_insert : (m : ℕ) (r : Report) (rs : List Report) → m ≤ r.number → AtLeast m rs → AtLeast m (insert_report r rs)
unfolding insert_report
at_least_insert m r [] h a = (h, tt)
at_least_insert m r (s ∷ rs) h a =
    cond_both (ltb r.number s.number) (r ∷ s ∷ rs) (s ∷ insert_report r rs) (AtLeast m)
    (λ _. (h, a)) (λ _. (a.0, at_least_insert m r rs h a.1))

pub below_insert : (m : ℕ) (r : Report) (rs : List Report) → r.number < m → Below m rs → Below m (insert_report r rs)
unfolding insert_report
below_insert m r [] h a = (h, tt)
below_insert m r (s ∷ rs) h a =
    cond_both (ltb r.number s.number) (r ∷ s ∷ rs) (s ∷ insert_report r rs) (Below m)
    (λ _. (h, a)) (λ _. (a.0, below_insert m r rs h a.1))

pub ordered_insert : (r : Report) (rs : List Report) → Ordered rs → Ordered (insert_report r rs)
unfolding insert_report
ordered_insert r [] o = (tt, tt)
ordered_insert r (s ∷ rs) o =
    cond_both (ltb r.number s.number) (r ∷ s ∷ rs) (s ∷ insert_report r rs) Ordered
    (λ e. let h = ltb-true r.number s.number e in let l : r.number ≤ s.number = omega arith in ((l, at_least_lower s.number r.number rs l o.0), o))
    (λ e. (at_least_insert s.number r rs (ltb-false r.number s.number e) o.0, ordered_insert r rs o.1))

pub length_insert : (r : Report) (rs : List Report) → length (insert_report r rs) ≡ suc (length rs)
unfolding insert_report
length_insert r [] = refl
length_insert r (s ∷ rs) =
    cond_both (ltb r.number s.number) (r ∷ s ∷ rs) (s ∷ insert_report r rs) (λ x. length x ≡ suc (suc (length rs)))
    (λ _. refl) (λ _. ap suc (length_insert r rs))

-- one above all others goes last
pub insert_last : (r : Report) (rs : List Report) → Below r.number rs → insert_report r rs ≡ rs ++ r ∷ []
unfolding insert_report
insert_last r [] b = refl
insert_last r (s ∷ rs) b = let h = b.0 in later r s rs (omega arith) ∙ ap (λ x. s ∷ x) (insert_last r rs b.1)

-- one below the last goes before it
pub insert_before_last : (r q : Report) (rs : List Report) → r.number < q.number → insert_report r (rs ++ q ∷ []) ≡ insert_report r rs ++ q ∷ []
unfolding insert_report
insert_before_last r q [] h = front r q [] h
insert_before_last r q (s ∷ rs) h =
    elim (cases_lt r.number s.number) [
      | inl l ↦ front r s (rs ++ q ∷ []) l ∙ ap (λ x. x ++ q ∷ []) (sym (front r s rs l))
      | inr l ↦ later r s (rs ++ q ∷ []) l ∙ (ap (λ x. s ∷ x) (insert_before_last r q rs h) ∙ ap (λ x. x ++ q ∷ []) (sym (later r s rs l)))
    ]

first_le_newest : (s : Report) (rs : List Report) → Ordered (s ∷ rs) → s.number ≤ newest_number (s ∷ rs)
first_le_newest s [] o = omega arith
first_le_newest s (t ∷ rs) o = let h = o.0.0 in let k = first_le_newest t rs o.1 in omega arith

-- the newest number after an insertion
newest_later : (s r : Report) (rs : List Report) → newest_number (s ∷ insert_report r rs) ≡ newest_number (insert_report r rs)
unfolding insert_report
newest_later s r [] = refl
newest_later s r (t ∷ rs) =
    cond_both (ltb r.number t.number) (r ∷ t ∷ rs) (t ∷ insert_report r rs) (λ x. newest_number (s ∷ x) ≡ newest_number x) (λ _. refl) (λ _. refl)

newest_step : (s r : Report) (rs : List Report) → s.number ≤ r.number → newest_number (insert_report r rs) ≡ max r.number (newest_number rs)
    → newest_number (insert_report r rs) ≡ max r.number (newest_number (s ∷ rs))
newest_step s r [] h e = omega arith
newest_step s r (t ∷ rs) h e = e

pub newest_insert : (r : Report) (rs : List Report) → Ordered rs → newest_number (insert_report r rs) ≡ max r.number (newest_number rs)
newest_insert r [] o = ap newest_number (insert_none r) ∙ omega arith
newest_insert r (s ∷ rs) o =
    elim (cases_lt r.number s.number) [
      | inl l ↦ ap newest_number (front r s rs l) ∙ (let k = first_le_newest s rs o in omega arith)
      | inr l ↦ ap newest_number (later r s rs l) ∙ (newest_later s r rs ∙ newest_step s r rs l (newest_insert r rs o.1))
    ]
