-- The reports of intact blocks: their numbers, one more, one less.
use Rattle.std.proofs.Common.{◌≡◌, ℕ, zero, suc, ◌<◌, ◌≤◌, max, true, false, not, ◌||◌, eqb, ltb, ◌⊎◌, List, [], ◌∷◌, ◌++◌, length, get_or, set, sym, refl, ap, ◌∙◌, subst, inl, inr, arith}
use Rattle.std.proofs.lemmas.Bool.{cond-true, cond-false, and_from, and_parts, or_cases, or_parts, or_from, or_left, or_right, both_ways, cases_Bool, cases_eq, cases_lt, eq-eqb, ne_eqb, eqb-true, eqb-false, lt-ltb, not-true, not_from_true, not_from_false}
use Rattle.std.proofs.lemmas.Bool.Decides.{nat_tests}
use Rattle.store.specs.Reports.{Report, newest_number}
use Rattle.blocks.specs.Layout.{all_zero, written, number_in, report_in, free_block}
use Rattle.blocks.specs.Blocks.{insert_report, by_number, intact, has_number, distinct, place_of, first_free}
use Rattle.blocks.proofs.Layouts.{zeros}
use Rattle.blocks.proofs.Sorting.{AtLeast, Below, Ordered, later, insert_none, insert_front, at_least_insert, below_insert, ordered_insert, length_insert, insert_last, insert_before_last, newest_insert}

-- ---- one block

zero_at : (xs : List ℕ) → all_zero xs ≡ true → (i : ℕ) → get_or xs i 0 ≡ 0
zero_at [] h i = refl
zero_at (x ∷ xs) h zero = eqb-true x 0 (and_parts (eqb x 0) (all_zero xs) h).0
zero_at (x ∷ xs) h (suc i) = zero_at xs (and_parts (eqb x 0) (all_zero xs) h).1 i

pub free_number : (b : List ℕ) → all_zero b ≡ true → number_in b ≡ 0
free_number b z = omega (arith, zero_at b z 0, zero_at b z 1, zero_at b z 2, zero_at b z 3)

pub written_number : (b : List ℕ) → written b ≡ true → number_in b ≡ 0 → ⊥
written_number b w =
    eqb-false (number_in b) 0 (not-true (eqb (number_in b) 0) (and_parts (not (eqb (number_in b) 0)) _ w).0)

-- a block is free and has number 0, or is used and has another
abbrev pub Kind : List ℕ → Type 0
Kind b = ((all_zero b ≡ true) × (number_in b ≡ 0)) ⊎ ((all_zero b ≡ false) × (written b ≡ true) × (number_in b ≡ 0 → ⊥))

kind : (b : List ℕ) → (all_zero b || written b) ≡ true → Kind b
kind b h =
    elim (cases_Bool (all_zero b)) [
      | inl z ↦ inl (z, free_number b z)
      | inr z ↦ elim (or_cases (all_zero b) (written b) h) [ inl y ↦ absurd (both_ways (all_zero b) z y) | inr w ↦ inr (z, w, written_number b w) ]
    ]

pub used_is : (b : List ℕ) → written b ≡ true → all_zero b ≡ false
used_is b w = elim (cases_Bool (all_zero b)) [ inl z ↦ absurd (written_number b w (free_number b z)) | inr z ↦ z ]

-- ---- the first block and the others

pub kind_first : (b : List ℕ) (bs : List (List ℕ)) → intact (b ∷ bs) ≡ true → Kind b
unfolding intact
kind_first b bs h = kind b (and_parts (all_zero b || written b) (intact bs) h).0

pub intact_rest : (b : List ℕ) (bs : List (List ℕ)) → intact (b ∷ bs) ≡ true → intact bs ≡ true
unfolding intact
intact_rest b bs h = (and_parts (all_zero b || written b) (intact bs) h).1

pub skip : (b : List ℕ) (bs : List (List ℕ)) → all_zero b ≡ true → by_number (b ∷ bs) ≡ by_number bs
unfolding by_number
skip b bs z = cond-true (all_zero b) _ _ z

pub keep : (b : List ℕ) (bs : List (List ℕ)) → all_zero b ≡ false → by_number (b ∷ bs) ≡ insert_report (report_in b) (by_number bs)
unfolding by_number
keep b bs z = cond-false (all_zero b) _ _ z

pub none_held : by_number [] ≡ []
unfolding by_number
none_held = refl

ordered : (bs : List (List ℕ)) → Ordered (by_number bs)
ordered [] = subst Ordered (sym none_held) tt
ordered (b ∷ bs) =
    elim (cases_Bool (all_zero b)) [
      | inl z ↦ subst Ordered (sym (skip b bs z)) (ordered bs)
      | inr z ↦ subst Ordered (sym (keep b bs z)) (ordered_insert (report_in b) (by_number bs) (ordered bs))
    ]

pub positive : (n : ℕ) → (n ≡ 0 → ⊥) → 1 ≤ n
positive n h = elim (cases_lt 0 n) [ inl l ↦ omega arith | inr l ↦ absurd (h (omega arith)) ]

pub some : (bs : List (List ℕ)) → intact bs ≡ true → AtLeast 1 (by_number bs)
some [] h = subst (AtLeast 1) (sym none_held) tt
some (b ∷ bs) h =
    let rest = some bs (intact_rest b bs h) in
    elim (kind_first b bs h) [
      | inl k ↦ subst (AtLeast 1) (sym (skip b bs k.0)) rest
      | inr k ↦ subst (AtLeast 1) (sym (keep b bs k.0)) (at_least_insert 1 (report_in b) (by_number bs) (positive (number_in b) k.2) rest)
    ]

pub newest_cons : (b : List ℕ) (bs : List (List ℕ)) → intact (b ∷ bs) ≡ true → newest_number (by_number (b ∷ bs)) ≡ max (number_in b) (newest_number (by_number bs))
newest_cons b bs h =
    elim (kind_first b bs h) [
      | inl k ↦ ap newest_number (skip b bs k.0) ∙ (let e = k.1 in omega arith)
      | inr k ↦ ap newest_number (keep b bs k.0) ∙ newest_insert (report_in b) (by_number bs) (ordered bs)
    ]

pub length_free : (b : List ℕ) (bs : List (List ℕ)) → intact (b ∷ bs) ≡ true → number_in b ≡ 0 → length (by_number (b ∷ bs)) ≡ length (by_number bs)
length_free b bs h e = elim (kind_first b bs h) [ inl k ↦ ap length (skip b bs k.0) | inr k ↦ absurd (k.2 e) ]

pub length_used : (b : List ℕ) (bs : List (List ℕ)) → intact (b ∷ bs) ≡ true → (number_in b ≡ 0 → ⊥) → length (by_number (b ∷ bs)) ≡ suc (length (by_number bs))
length_used b bs h e =
    elim (kind_first b bs h) [
      | inl k ↦ absurd (e k.1)
      | inr k ↦ ap length (keep b bs k.0) ∙ length_insert (report_in b) (by_number bs)
    ]

-- ---- places

pub place_none : (n : ℕ) → place_of n [] ≡ 0
unfolding place_of
place_none n = refl

pub place_here : (n : ℕ) (b : List ℕ) (bs : List (List ℕ)) → number_in b ≡ n → place_of n (b ∷ bs) ≡ 0
unfolding place_of
place_here n b bs e = cond-false (not (eqb (number_in b) n)) _ 0 (not_from_true _ (eq-eqb (number_in b) n e))

pub place_later : (n : ℕ) (b : List ℕ) (bs : List (List ℕ)) → (number_in b ≡ n → ⊥) → place_of n (b ∷ bs) ≡ suc (place_of n bs)
unfolding place_of
place_later n b bs e = cond-true (not (eqb (number_in b) n)) _ 0 (not_from_false _ (ne_eqb (number_in b) n e)) ∙ omega arith

free_here : (b : List ℕ) (bs : List (List ℕ)) → all_zero b ≡ true → first_free (b ∷ bs) ≡ 0
unfolding first_free
free_here b bs z = cond-false (not (all_zero b)) _ 0 (not_from_true _ z)

free_later : (b : List ℕ) (bs : List (List ℕ)) → all_zero b ≡ false → first_free (b ∷ bs) ≡ suc (first_free bs)
unfolding first_free
free_later b bs z = cond-true (not (all_zero b)) _ 0 (not_from_false _ z) ∙ omega arith

shifted : (i j n : ℕ) → j ≡ suc i → ltb i n ≡ ltb j (suc n)
shifted i j n e = grind (arith, nat_tests)

pub has_is : (n : ℕ) (bs : List (List ℕ)) → has_number n bs ≡ ltb (place_of n bs) (length bs)
unfolding has_number
has_is n [] = ap (λ k. ltb k 0) (sym (place_none n))
has_is n (b ∷ bs) =
    elim (cases_eq (number_in b) n) [
      | inl e ↦
          (let p = place_here n b bs e in
          or_left (eqb (number_in b) n) (has_number n bs) (eq-eqb (number_in b) n e)
          ∙ sym (lt-ltb (place_of n (b ∷ bs)) (suc (length bs)) (omega arith)))
      | inr e ↦
          (let p = place_later n b bs e in
          let q = has_is n bs in
          ap (λ t. t || has_number n bs) (ne_eqb (number_in b) n e) ∙ (q ∙ shifted (place_of n bs) (place_of n (b ∷ bs)) (length bs) p))
    ]

pub first_free_is : (bs : List (List ℕ)) → intact bs ≡ true → first_free bs ≡ place_of 0 bs
unfolding first_free
first_free_is [] h = sym (place_none 0)
first_free_is (b ∷ bs) h =
    elim (kind_first b bs h) [
      | inl k ↦ free_here b bs k.0 ∙ sym (place_here 0 b bs k.1)
      | inr k ↦ free_later b bs k.0 ∙ (ap suc (first_free_is bs (intact_rest b bs h)) ∙ sym (place_later 0 b bs k.2))
    ]

-- where a block is free, fewer reports are held than there are blocks; where none is, as many
pub held_le : (bs : List (List ℕ)) → intact bs ≡ true → length (by_number bs) ≤ length bs
held_le [] h = omega (arith, ap length none_held)
held_le (b ∷ bs) h =
    let l = held_le bs (intact_rest b bs h) in
    elim (cases_eq (number_in b) 0) [ inl e ↦ omega (arith, length_free b bs h e) | inr e ↦ omega (arith, length_used b bs h e) ]

pub held_room : (bs : List (List ℕ)) → intact bs ≡ true → place_of 0 bs < length bs → length (by_number bs) < length bs
held_room [] h l = absurd (omega arith)
held_room (b ∷ bs) h l =
    let rest = intact_rest b bs h in
    elim (cases_eq (number_in b) 0) [
      | inl e ↦ omega (arith, length_free b bs h e, held_le bs rest)
      | inr e ↦ (let p = place_later 0 b bs e in let q : length (by_number bs) < length bs = held_room bs rest (omega arith) in omega (arith, length_used b bs h e))
    ]

pub held_full : (bs : List (List ℕ)) → intact bs ≡ true → length bs ≤ place_of 0 bs → length bs ≤ length (by_number bs)
held_full [] h l = omega arith
held_full (b ∷ bs) h l =
    let rest = intact_rest b bs h in
    elim (cases_eq (number_in b) 0) [
      | inl e ↦ (let p = place_here 0 b bs e in absurd (omega arith))
      | inr e ↦ (let p = place_later 0 b bs e in let q : length bs ≤ length (by_number bs) = held_full bs rest (omega arith) in omega (arith, length_used b bs h e))
    ]

-- ---- a block written over another

pub intact_set : (bs : List (List ℕ)) (k : ℕ) (blk : List ℕ) → intact bs ≡ true → (all_zero blk || written blk) ≡ true → intact (set bs k blk) ≡ true
unfolding intact
intact_set [] k blk h w = refl
intact_set (b ∷ bs) zero blk h w = and_from _ _ w (and_parts (all_zero b || written b) (intact bs) h).1
intact_set (b ∷ bs) (suc k) blk h w =
    let p = and_parts (all_zero b || written b) (intact bs) h in
    and_from _ _ p.0 (intact_set bs k blk p.1 w)

has_set : (n : ℕ) (bs : List (List ℕ)) (k : ℕ) (blk : List ℕ) → has_number n bs ≡ false → (number_in blk ≡ n → ⊥) → has_number n (set bs k blk) ≡ false
unfolding has_number
has_set n [] k blk h e = refl
has_set n (b ∷ bs) zero blk h e = or_from _ _ (ne_eqb (number_in blk) n e) (or_parts (eqb (number_in b) n) (has_number n bs) h).1
has_set n (b ∷ bs) (suc k) blk h e =
    let p = or_parts (eqb (number_in b) n) (has_number n bs) h in
    or_from _ _ p.0 (has_set n bs k blk p.1 e)

pub not_first : (n : ℕ) (b : List ℕ) (bs : List (List ℕ)) → has_number n (b ∷ bs) ≡ false → (number_in b ≡ n → ⊥) × (has_number n bs ≡ false)
unfolding has_number
not_first n b bs h = let p = or_parts (eqb (number_in b) n) (has_number n bs) h in (eqb-false (number_in b) n p.0, p.1)

pub alone : (b : List ℕ) (bs : List (List ℕ)) → all_zero b ≡ false → (all_zero b || not (has_number (number_in b) bs)) ≡ true → has_number (number_in b) bs ≡ false
alone b bs z h =
    elim (or_cases (all_zero b) (not (has_number (number_in b) bs)) h) [ inl y ↦ absurd (both_ways (all_zero b) z y) | inr n ↦ not-true (has_number (number_in b) bs) n ]

pub distinct_parts : (b : List ℕ) (bs : List (List ℕ)) → distinct (b ∷ bs) ≡ true → ((all_zero b || not (has_number (number_in b) bs)) ≡ true) × (distinct bs ≡ true)
unfolding distinct
distinct_parts b bs d = and_parts (all_zero b || not (has_number (number_in b) bs)) (distinct bs) d

-- numbers stay distinct where the new block is free, or its number is new
pub distinct_set : (bs : List (List ℕ)) (k : ℕ) (blk : List ℕ) → intact bs ≡ true → distinct bs ≡ true
    → (all_zero blk ≡ true) ⊎ (has_number (number_in blk) bs ≡ false) → distinct (set bs k blk) ≡ true
unfolding distinct
distinct_set [] k blk i d new = refl
distinct_set (b ∷ bs) zero blk i d new =
    let p = and_parts (all_zero b || not (has_number (number_in b) bs)) (distinct bs) d in
    and_from _ _
    (elim new [
      | inl z ↦ or_left (all_zero blk) (not (has_number (number_in blk) bs)) z
      | inr h ↦ or_right (all_zero blk) (not (has_number (number_in blk) bs)) (not_from_false (has_number (number_in blk) bs) (not_first (number_in blk) b bs h).1)
    ])
    p.1
distinct_set (b ∷ bs) (suc k) blk i d new =
    let p = and_parts (all_zero b || not (has_number (number_in b) bs)) (distinct bs) d in
    let rest : (all_zero blk ≡ true) ⊎ (has_number (number_in blk) bs ≡ false) = elim new [ inl z ↦ inl z | inr h ↦ inr (not_first (number_in blk) b bs h).1 ] in
    let apart : (number_in b ≡ 0 → ⊥) → number_in blk ≡ number_in b → ⊥ =
    λ used e. elim new [ inl z ↦ used (sym e ∙ free_number blk z) | inr h ↦ (not_first (number_in blk) b bs h).0 (sym e) ] in
    and_from _ _
    (elim (kind_first b bs i) [
      | inl q ↦ or_left (all_zero b) (not (has_number (number_in b) (set bs k blk))) q.0
      | inr q ↦
          or_right (all_zero b) (not (has_number (number_in b) (set bs k blk)))
          (not_from_false (has_number (number_in b) (set bs k blk)) (has_set (number_in b) bs k blk (alone b bs q.0 p.0) (apart q.2)))
    ])
    (distinct_set bs k blk (intact_rest b bs i) p.1 rest)

-- ---- one more report

above : (n : ℕ) (b : List ℕ) (bs : List (List ℕ)) → intact (b ∷ bs) ≡ true → newest_number (by_number (b ∷ bs)) < n → (number_in b < n) × (newest_number (by_number bs) < n)
above n b bs i h = let e = newest_cons b bs i in (omega arith, omega arith)

pub new_number : (n : ℕ) (bs : List (List ℕ)) → intact bs ≡ true → newest_number (by_number bs) < n → has_number n bs ≡ false
unfolding has_number
new_number n [] i h = refl
new_number n (b ∷ bs) i h =
    let p = above n b bs i h in
    let l = p.0 in
    let ne : number_in b ≡ n → ⊥ = λ e. omega arith in
    or_from _ _ (ne_eqb (number_in b) n ne) (new_number n bs (intact_rest b bs i) p.1)

below_all : (n : ℕ) (bs : List (List ℕ)) → intact bs ≡ true → newest_number (by_number bs) < n → Below n (by_number bs)
below_all n [] i h = subst (Below n) (sym none_held) tt
below_all n (b ∷ bs) i h =
    let p = above n b bs i h in
    let rest = below_all n bs (intact_rest b bs i) p.1 in
    elim (kind_first b bs i) [
      | inl k ↦ subst (Below n) (sym (skip b bs k.0)) rest
      | inr k ↦ subst (Below n) (sym (keep b bs k.0)) (below_insert n (report_in b) (by_number bs) p.0 rest)
    ]

-- a report above all others, written over a free block, comes last
pub put_last : (bs : List (List ℕ)) (blk : List ℕ) (r : Report) → intact bs ≡ true → all_zero blk ≡ false → report_in blk ≡ r → newest_number (by_number bs) < r.number
    → first_free bs < length bs → by_number (set bs (first_free bs) blk) ≡ by_number bs ++ r ∷ []
unfolding first_free
put_last [] blk r i z e h l = absurd (omega arith)
put_last (b ∷ bs) blk r i z e h l =
    let p = above r.number b bs i h in
    let rest = intact_rest b bs i in
    elim (kind_first b bs i) [
      | inl k ↦
          (ap (λ j. by_number (set (b ∷ bs) j blk)) (free_here b bs k.0)
          ∙ (keep blk bs z
          ∙ (ap (λ x. insert_report x (by_number bs)) e
          ∙ (insert_last r (by_number bs) (below_all r.number bs rest p.1) ∙ ap (λ x. x ++ r ∷ []) (sym (skip b bs k.0))))))
      | inr k ↦
          (let at = free_later b bs k.0 in
          let ih = put_last bs blk r rest z e p.1 (omega arith) in
          ap (λ j. by_number (set (b ∷ bs) j blk)) at
          ∙ (keep b (set bs (first_free bs) blk) k.0
          ∙ (ap (insert_report (report_in b)) ih
          ∙ (insert_before_last (report_in b) r (by_number bs) p.0 ∙ ap (λ x. x ++ r ∷ []) (sym (keep b bs k.0))))))
    ]

-- ---- one report less

-- block k holds the first of the reports, and without it they are the others
pub record Oldest (bs : List (List ℕ)) (k : ℕ) (r : Report) (rs : List Report) : Type 0 where
  pub within : k < length bs
  pub used : written (get_or bs k []) ≡ true
  pub report : report_in (get_or bs k []) ≡ r
  pub rest : by_number (set bs k free_block) ≡ rs

moved : (bs : List (List ℕ)) (j k : ℕ) (q r : Report) (qs rs : List Report) → j ≡ k → q ≡ r → qs ≡ rs → Oldest bs j q qs → Oldest bs k r rs
moved bs j k q r qs rs ek er es o =
    subst (λ x. Oldest bs x r rs) ek (subst (λ x. Oldest bs j x rs) er (subst (λ x. Oldest bs j q x) es o))

-- the first block is the oldest
oldest_here : (b : List ℕ) (bs : List (List ℕ)) → written b ≡ true → Oldest (b ∷ bs) (place_of (number_in b) (b ∷ bs)) (report_in b) (by_number bs)
oldest_here b bs w =
    moved (b ∷ bs) 0 _ (report_in b) _ (by_number bs) _ (sym (place_here (number_in b) b bs refl)) refl refl
    (record { within = omega arith; used = w; report = refl; rest = skip free_block bs (zeros 512) })

-- the oldest is among the others
oldest_later : (b : List ℕ) (bs : List (List ℕ)) (r : Report) (qs rs : List Report) → (number_in b ≡ r.number → ⊥)
    → Oldest bs (place_of r.number bs) r qs → by_number (b ∷ set bs (place_of r.number bs) free_block) ≡ rs → Oldest (b ∷ bs) (place_of r.number (b ∷ bs)) r rs
oldest_later b bs r qs rs ne o e =
    let l = o.within in
    moved (b ∷ bs) (suc (place_of r.number bs)) _ r _ rs _ (sym (place_later r.number b bs ne)) refl refl
    (record { within = omega arith; used = o.used; report = o.report; rest = e })

-- the first block is used: it is the oldest, or goes in later
oldest_used : (b : List ℕ) (bs : List (List ℕ)) (r : Report) (rs : List Report) → all_zero b ≡ false → written b ≡ true → has_number (number_in b) bs ≡ false
    → ((s : Report) (ss : List Report) → by_number bs ≡ s ∷ ss → Oldest bs (place_of s.number bs) s ss)
    → (qs : List Report) → by_number bs ≡ qs → insert_report (report_in b) qs ≡ r ∷ rs → Oldest (b ∷ bs) (place_of r.number (b ∷ bs)) r rs
oldest_used b bs r rs z w new others [] q e =
    let i = sym (insert_none (report_in b)) ∙ e in
    let er : report_in b ≡ r = cc in
    let es : by_number bs ≡ rs = cc in
    moved (b ∷ bs) _ _ (report_in b) r (by_number bs) rs (ap (λ x. place_of x.number (b ∷ bs)) er) er es (oldest_here b bs w)
oldest_used b bs r rs z w new others (s ∷ ss) q e =
    elim (cases_lt (number_in b) s.number) [
      | inl l ↦
          (let i = sym (insert_front (report_in b) s ss l) ∙ e in
          let er : report_in b ≡ r = cc in
          let es : by_number bs ≡ rs = cc in
          moved (b ∷ bs) _ _ (report_in b) r (by_number bs) rs (ap (λ x. place_of x.number (b ∷ bs)) er) er es (oldest_here b bs w))
      | inr l ↦
          (let i = sym (later (report_in b) s ss l) ∙ e in
          let er : s ≡ r = cc in
          let es : insert_report (report_in b) ss ≡ rs = cc in
          let o = others s ss q in
          let there = has_is s.number bs ∙ lt-ltb (place_of s.number bs) (length bs) o.within in
          let ne : number_in b ≡ s.number → ⊥ = λ x. both_ways (has_number s.number bs) (ap (λ n. has_number n bs) (sym x) ∙ new) there in
          moved (b ∷ bs) _ _ s r rs rs (ap (λ x. place_of x.number (b ∷ bs)) er) er refl
          (oldest_later b bs s ss rs ne o (keep b (set bs (place_of s.number bs) free_block) z ∙ (ap (insert_report (report_in b)) o.rest ∙ es))))
    ]

pub oldest_block : (bs : List (List ℕ)) (r : Report) (rs : List Report) → intact bs ≡ true → distinct bs ≡ true → by_number bs ≡ r ∷ rs → Oldest bs (place_of r.number bs) r rs
oldest_block [] r rs i d e = absurd (let x = ap length (sym none_held ∙ e) in let y : ⊥ = omega arith in y)
oldest_block (b ∷ bs) r rs i d e =
    let rest = intact_rest b bs i in
    let p = distinct_parts b bs d in
    let first : AtLeast 1 (r ∷ rs) = subst (AtLeast 1) e (some (b ∷ bs) i) in
    let one = first.0 in
    elim (kind_first b bs i) [
      | inl k ↦
          (let o = oldest_block bs r rs rest p.1 (sym (skip b bs k.0) ∙ e) in
          let n = k.1 in
          let ne : number_in b ≡ r.number → ⊥ = λ x. omega arith in
          oldest_later b bs r rs rs ne o (skip b (set bs (place_of r.number bs) free_block) k.0 ∙ o.rest))
      | inr k ↦
          oldest_used b bs r rs k.0 k.1 (alone b bs k.0 p.0) (λ s ss q. oldest_block bs s ss rest p.1 q)
          (by_number bs) refl (sym (keep b bs k.0) ∙ e)
    ]
