-- What a scan over blocks finds.
use Rattle.std.proofs.Common.{◌≡◌, ℕ, ◌+◌, ◌%◌, ◌<◌, ◌≤◌, min, max, true, not, ◌⊎◌, eqb, ltb, List, [], ◌∷◌, fold, sum, length, Some, None, Option, unwrap_or, sym, refl, ap, ◌∙◌, inl, inr, arith}
use Rattle.std.specs.List.{position, reduce}
use Rattle.std.proofs.lemmas.Bool.{cond-true, cond-false, cases_lt, eq-eqb, ne_eqb, not_from_true, not_from_false, lt-ltb, le-ltb}
use Rattle.store.specs.Reports.{Report, oldest_number, newest_number}
use Rattle.blocks.specs.Layout.{number_in, report_in}
use Rattle.blocks.specs.Blocks.{numbers, insert_report, by_number, intact, place_of}
use Rattle.blocks.proofs.Sorting.{insert_none, insert_front, later}
use Rattle.blocks.proofs.Held.{none_held, skip, keep, kind_first, intact_rest, newest_cons, length_free, length_used}

-- ---- the place of a number

module _ (n : ℕ) (bs : List (List ℕ)) where
  place_cases : (o : Option ℕ) → o ≡ position (λ b. eqb (number_in b) n) bs
      → ((o ≡ Some (place_of n bs)) × (place_of n bs < length bs)) ⊎ ((o ≡ None) × (length bs ≤ place_of n bs))
  unfolding place_of
  place_cases o e =
      let k = place_of n bs in
      elim (cases_lt k (length bs)) [
        | inl h ↦ inl (e ∙ cond-true (ltb k (length bs)) (Some k) None (lt-ltb k (length bs) h), h)
        | inr h ↦ inr (e ∙ cond-false (ltb k (length bs)) (Some k) None (le-ltb k (length bs) h), h)
      ]

  pub place_found : (k : ℕ) → Some k ≡ position (λ b. eqb (number_in b) n) bs → (k ≡ place_of n bs) × (k < length bs)
  place_found k e = elim (place_cases (Some k) e) [ inl p ↦ (let same : k ≡ place_of n bs = cc in (same, omega (arith, p.1))) | inr p ↦ (let no = p.0 in cc) ]

  pub place_missing : None ≡ position (λ b. eqb (number_in b) n) bs → length bs ≤ place_of n bs
  place_missing e = elim (place_cases None e) [ inl p ↦ (let no = p.0 in cc) | inr p ↦ p.1 ]

-- ---- the numbers of the used blocks

number_free : (b : List ℕ) (bs : List (List ℕ)) → number_in b ≡ 0 → numbers (b ∷ bs) ≡ numbers bs
number_free b bs e = cond-false (not (eqb (number_in b) 0)) _ _ (not_from_true _ (eq-eqb (number_in b) 0 e))

number_used : (b : List ℕ) (bs : List (List ℕ)) → (number_in b ≡ 0 → ⊥) → numbers (b ∷ bs) ≡ number_in b ∷ numbers bs
number_used b bs e = cond-true (not (eqb (number_in b) 0)) _ _ (not_from_false _ (ne_eqb (number_in b) 0 e))

-- the least of a number and some other, where there is one
least_with : ℕ → Option ℕ → ℕ
least_with n None = n
least_with n (Some m) = min n m

least_twice : (n m : ℕ) (o : Option ℕ) → least_with (min n m) o ≡ min n (least_with m o)
unfolding least_with
least_twice n m None = refl
least_twice n m (Some k) = omega arith

fold_least : (n : ℕ) (ns : List ℕ) → fold min n ns ≡ least_with n (reduce min ns)
unfolding least_with
fold_least n [] = refl
fold_least n (m ∷ ms) = fold_least (min n m) ms ∙ (least_twice n m (reduce min ms) ∙ ap (min n) (sym (fold_least m ms)))

insert_least : (r : Report) (rs : List Report) → oldest_number (insert_report r rs) ≡ Some (least_with r.number (oldest_number rs))
unfolding least_with
insert_least r [] = ap oldest_number (insert_none r)
insert_least r (s ∷ rs) =
    elim (cases_lt r.number s.number) [
      | inl l ↦ ap oldest_number (insert_front r s rs l) ∙ ap Some (omega arith)
      | inr l ↦ ap oldest_number (later r s rs l) ∙ ap Some (omega arith)
    ]

-- the lowest of the numbers is the oldest report's
pub oldest_is : (bs : List (List ℕ)) → intact bs ≡ true → reduce min (numbers bs) ≡ oldest_number (by_number bs)
oldest_is [] h = sym (ap oldest_number none_held)
oldest_is (b ∷ bs) h =
    let rest = oldest_is bs (intact_rest b bs h) in
    elim (kind_first b bs h) [
      | inl k ↦ ap (reduce min) (number_free b bs k.1) ∙ (rest ∙ sym (ap oldest_number (skip b bs k.0)))
      | inr k ↦
          ap (reduce min) (number_used b bs k.2)
          ∙ (ap Some (fold_least (number_in b) (numbers bs) ∙ ap (least_with (number_in b)) rest)
          ∙ sym (ap oldest_number (keep b bs k.0) ∙ insert_least (report_in b) (by_number bs)))
    ]

fold_most : (n : ℕ) (ns : List ℕ) → fold max n ns ≡ max n (unwrap_or (reduce max ns) 0)
fold_most n [] = omega arith
fold_most n (m ∷ ms) = let a = fold_most (max n m) ms in let b = fold_most m ms in omega arith

-- the highest of them is the newest report's
pub newest_is : (bs : List (List ℕ)) → intact bs ≡ true → unwrap_or (reduce max (numbers bs)) 0 ≡ newest_number (by_number bs)
newest_is [] h = sym (ap newest_number none_held)
newest_is (b ∷ bs) h =
    let rest = newest_is bs (intact_rest b bs h) in
    let first = newest_cons b bs h in
    elim (kind_first b bs h) [
      | inl k ↦ ap (λ ns. unwrap_or (reduce max ns) 0) (number_free b bs k.1) ∙ (rest ∙ (let z = k.1 in omega arith))
      | inr k ↦ ap (λ ns. unwrap_or (reduce max ns) 0) (number_used b bs k.2) ∙ (fold_most (number_in b) (numbers bs) ∙ (ap (max (number_in b)) rest ∙ sym first))
    ]

-- there are as many as reports are held
pub used_are : (bs : List (List ℕ)) → intact bs ≡ true → length (numbers bs) ≡ length (by_number bs)
used_are [] h = sym (ap length none_held)
used_are (b ∷ bs) h =
    let rest = used_are bs (intact_rest b bs h) in
    elim (kind_first b bs h) [
      | inl k ↦ ap length (number_free b bs k.1) ∙ (rest ∙ sym (length_free b bs h k.1))
      | inr k ↦ ap length (number_used b bs k.2) ∙ omega (arith, rest, length_used b bs h k.2)
    ]

-- ---- the check

check_more : (a b : ℕ) (xs : List ℕ) → a % 65536 ≡ b % 65536 → fold (λ c x. (c + x) % 65536) (a % 65536) xs ≡ fold (λ c x. c + x) b xs % 65536
check_more a b [] e = e
check_more a b (x ∷ xs) e =
    ap (λ c. fold (λ c x. (c + x) % 65536) c xs) (let q : (a % 65536 + x) % 65536 ≡ (a + x) % 65536 = omega arith in q)
    ∙ check_more (a + x) (b + x) xs (omega arith)

pub check_is : (xs : List ℕ) → fold (λ c x. (c + x) % 65536) 0 xs ≡ sum xs % 65536
check_is xs = check_more 0 0 xs refl
