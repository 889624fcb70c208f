-- The reports of blocks with distinct numbers rise in their numbers.
use Rattle.std.proofs.Common.{◌≡◌, ℕ, ◌<◌, ◌≤◌, false, ltb, List, [], ◌∷◌, sym, subst, inl, inr, arith}
use Rattle.std.proofs.lemmas.Bool.{cond_both, cases_Bool, cases_lt}
use Rattle.store.specs.Reports.{Report}
use Rattle.blocks.specs.Layout.{all_zero, number_in, report_in}
use Rattle.blocks.specs.Blocks.{insert_report, by_number, has_number}
use Rattle.blocks.specs.Laws.{Rising, ByNumber}
use Rattle.blocks.proofs.Sorting.{later, insert_front, insert_none}
use Rattle.blocks.proofs.Held.{none_held, skip, keep, kind_first, intact_rest, alone, distinct_parts, not_first}

-- no report has the number
abbrev Without : ℕ → List Report → Type 0
Without n [] = Unit {0}
Without n (r ∷ rs) = (r.number ≡ n → ⊥) × Without n rs

without_insert : (n : ℕ) (r : Report) (rs : List Report) → (r.number ≡ n → ⊥) → Without n rs → Without n (insert_report r rs)
unfolding insert_report
without_insert n r [] h a = (h, tt)
without_insert n r (s ∷ rs) h a =
    cond_both (ltb r.number s.number) (r ∷ s ∷ rs) (s ∷ insert_report r rs) (Without n)
    (λ _. (h, a)) (λ _. (a.0, without_insert n r rs h a.1))

without : (n : ℕ) (bs : List (List ℕ)) → has_number n bs ≡ false → Without n (by_number bs)
without n [] h = subst (Without n) (sym none_held) tt
without n (b ∷ bs) h =
    let p = not_first n b bs h in
    elim (cases_Bool (all_zero b)) [
      | inl z ↦ subst (Without n) (sym (skip b bs z)) (without n bs p.1)
      | inr z ↦ subst (Without n) (sym (keep b bs z)) (without_insert n (report_in b) (by_number bs) p.0 (without n bs p.1))
    ]

-- s goes before all of what is inserted into what rises after it
after : (s r : Report) (rs : List Report) → s.number < r.number → Rising (s ∷ rs) → Rising (insert_report r rs) → Rising (s ∷ insert_report r rs)
unfolding insert_report
after s r [] h a b = (h, tt)
after s r (t ∷ rs) h a b =
    cond_both (ltb r.number t.number) (r ∷ t ∷ rs) (t ∷ insert_report r rs) (λ x. Rising x → Rising (s ∷ x))
    (λ _ c. (h, c)) (λ _ c. (a.0, c)) b

rest_rises : (s : Report) (rs : List Report) → Rising (s ∷ rs) → Rising rs
rest_rises s [] a = tt
rest_rises s (t ∷ rs) a = a.1

strictly : (m n : ℕ) → m ≤ n → (m ≡ n → ⊥) → m < n
strictly m n l e = elim (cases_lt m n) [ inl k ↦ k | inr k ↦ absurd (e (omega arith)) ]

insert_rises : (r : Report) (rs : List Report) → Without r.number rs → Rising rs → Rising (insert_report r rs)
insert_rises r [] w a = subst Rising (sym (insert_none r)) tt
insert_rises r (s ∷ rs) w a =
    elim (cases_lt r.number s.number) [
      | inl l ↦ subst Rising (sym (insert_front r s rs l)) (l, a)
      | inr l ↦
          (let apart = w.0 in
          let less : s.number < r.number = strictly s.number r.number l apart in
          subst Rising (sym (later r s rs l)) (after s r rs less a (insert_rises r rs w.1 (rest_rises s rs a))))
    ]

pub by_number_lem : ByNumber
by_number_lem [] i d = subst Rising (sym none_held) tt
by_number_lem (b ∷ bs) i d =
    let p = distinct_parts b bs d in
    let rest = by_number_lem bs (intact_rest b bs i) p.1 in
    elim (kind_first b bs i) [
      | inl k ↦ subst Rising (sym (skip b bs k.0)) rest
      | inr k ↦ subst Rising (sym (keep b bs k.0)) (insert_rises (report_in b) (by_number bs) (without (number_in b) bs (alone b bs k.0 p.0)) rest)
    ]
