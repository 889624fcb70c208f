-- Numbers that rise.
use Rattle.std.proofs.Common.{◌≡◌, ℕ, zero, suc, ◌+◌, ◌<◌, ◌≤◌, Bool, true, false, cond, eqb, ◌⊎◌, List, [], ◌∷◌, ◌++◌, length, refl, ap, inl, inr, add-one, arith}
use Rattle.std.proofs.lemmas.Bool.{cases_eq, cond-false, cond-true, eq-eqb, ne_eqb}
use Rattle.store.specs.Reports.{Report}
use Rattle.lines.specs.declared.line.Letter.{Letter}
use Rattle.lines.specs.declared.line.Line.{Line}
use Rattle.moves.specs.Numbers.{In, Rising, named, numbers, numbers_of, times, up_to}

-- numbers rise from above `lo` up to at most `hi`
abbrev pub Asc : ℕ → List ℕ → ℕ → Type 0
Asc lo [] hi = lo ≤ hi
Asc lo (n ∷ ns) hi = (lo < n) × Asc n ns hi

pub asc_length : (lo : ℕ) (ns : List ℕ) (hi : ℕ) → Asc lo ns hi → lo + length ns ≤ hi
asc_length lo [] hi h = omega arith
asc_length lo (n ∷ ns) hi h = let k = asc_length n ns hi h.1 in omega (arith, h.0)

pub asc_push : (lo : ℕ) (ns : List ℕ) (hi : ℕ) → Asc lo ns hi → Asc lo (ns ++ ((hi + 1) ∷ [])) (hi + 1)
asc_push lo [] hi h = (omega arith, omega arith)
asc_push lo (n ∷ ns) hi h = (h.0, asc_push n ns hi h.1)

pub asc_lower : (lo lo' : ℕ) (ns : List ℕ) (hi : ℕ) → lo' ≤ lo → Asc lo ns hi → Asc lo' ns hi
asc_lower lo lo' [] hi l h = omega arith
asc_lower lo lo' (n ∷ ns) hi l h = (omega (arith, h.0), h.1)

-- one of them left out
pub asc_less : (lo : ℕ) (xs : List ℕ) (n : ℕ) (ys : List ℕ) (hi : ℕ) → Asc lo (xs ++ (n ∷ ys)) hi → Asc lo (xs ++ ys) hi
asc_less lo [] n ys hi h = asc_lower n lo ys hi (omega (arith, h.0)) h.1
asc_less lo (x ∷ xs) n ys hi h = (h.0, asc_less x xs n ys hi h.1)

-- one of them
pub asc_within : (lo : ℕ) (xs : List ℕ) (n : ℕ) (ys : List ℕ) (hi : ℕ) → Asc lo (xs ++ (n ∷ ys)) hi → (lo < n) × (n ≤ hi)
asc_within lo [] n ys hi h = (h.0, omega (arith, asc_length n ys hi h.1))
asc_within lo (x ∷ xs) n ys hi h = let k = asc_within x xs n ys hi h.1 in (omega (arith, h.0, k.0), k.1)

-- the first of them rise
pub asc_front : (lo : ℕ) (xs ys : List ℕ) (hi : ℕ) → Asc lo (xs ++ ys) hi → Rising lo xs
asc_front lo [] ys hi h = tt
asc_front lo (x ∷ xs) ys hi h = (h.0, asc_front x xs ys hi h.1)

-- the last of them rise
pub asc_back : (lo : ℕ) (xs ys : List ℕ) (hi : ℕ) → Asc lo (xs ++ ys) hi → Asc lo ys hi
asc_back lo [] ys hi h = h
asc_back lo (x ∷ xs) ys hi h = asc_lower x lo ys hi (omega (arith, h.0)) (asc_back x xs ys hi h.1)

pub times_append : (n : ℕ) (xs ys : List ℕ) → times n (xs ++ ys) ≡ times n xs + times n ys
times_append n [] ys = omega arith
times_append n (x ∷ xs) ys = let k = times_append n xs ys in omega arith

pub hit_same : (n m : ℕ) → n ≡ m → ◌≡◌ {A = ℕ} (cond (eqb n m) 1 0) 1
hit_same n m e = cond-true (eqb n m) 1 0 (eq-eqb n m e)

pub hit_other : (n m : ℕ) → (n ≡ m → ⊥) → ◌≡◌ {A = ℕ} (cond (eqb n m) 1 0) 0
hit_other n m h = cond-false (eqb n m) 1 0 (ne_eqb n m h)

pub in_times : (n : ℕ) (ns : List ℕ) → In n ns → 1 ≤ times n ns
in_times n [] i = absurd i
in_times n (m ∷ ms) (inl e) = omega (arith, hit_same n m e)
in_times n (m ∷ ms) (inr i) = let k = in_times n ms i in omega arith

pub times_in : (n : ℕ) (ns : List ℕ) → 1 ≤ times n ns → In n ns
times_in n [] h = none h
  where
    none : 1 ≤ 0 → ⊥
    none h = omega arith
times_in n (m ∷ ms) h = go (times_in n ms) (cases_eq n m)
  where
    go : (1 ≤ times n ms → In n ms) → (n ≡ m) ⊎ (n ≡ m → ⊥) → In n (m ∷ ms)
    go f (inl e) = inl e
    go f (inr d) = inr (f (omega (arith, hit_other n m d)))

-- numbers up to the last one stand once, the others not at all
pub times_above : (n m : ℕ) → m < n → times n (up_to m) ≡ 0
times_above n zero h = refl
times_above n (suc m) h =
    let k = times_above n m (omega arith) in
    omega (arith, times_append n (up_to m) (suc m ∷ []), hit_other n (suc m) (λ e. omega arith))

pub times_up_to : (n m : ℕ) → times n (up_to m) ≤ 1
times_up_to n zero = omega arith
times_up_to n (suc m) = go (times_up_to n m) (cases_eq n (suc m))
  where
    go : times n (up_to m) ≤ 1 → (n ≡ suc m) ⊎ (n ≡ suc m → ⊥) → times n (up_to m ++ (suc m ∷ [])) ≤ 1
    go k (inl e) = omega (arith, times_append n (up_to m) (suc m ∷ []), hit_same n (suc m) e, times_above n m (omega arith))
    go k (inr d) = omega (arith, times_append n (up_to m) (suc m ∷ []), hit_other n (suc m) d)

pub times_within : (n m : ℕ) → 1 ≤ n → n ≤ m → 1 ≤ times n (up_to m)
times_within n zero l h = omega arith
times_within n (suc m) l h = go (times_within n m l) (cases_eq n (suc m))
  where
    go : (n ≤ m → 1 ≤ times n (up_to m)) → (n ≡ suc m) ⊎ (n ≡ suc m → ⊥) → 1 ≤ times n (up_to m ++ (suc m ∷ []))
    go f (inl e) = omega (arith, times_append n (up_to m) (suc m ∷ []), hit_same n (suc m) e)
    go f (inr d) = omega (arith, times_append n (up_to m) (suc m ∷ []), f (omega arith))

pub up_to_more : (n : ℕ) → up_to (n + 1) ≡ up_to n ++ ((n + 1) ∷ [])
up_to_more n = rw add-one

-- a line more
pub numbers_push : (is : Letter → Bool) (ls : List Line) (l : Line) → numbers_of is (ls ++ (l ∷ [])) ≡ numbers_of is ls ++ cond (is l.letter) (l.number ∷ []) []
numbers_push is [] l = both (is l.letter)
  where
    both : (b : Bool) → cond b (l.number ∷ []) [] ≡ cond b (l.number ∷ []) []
    both b = refl
numbers_push is (x ∷ xs) l = go (is x.letter) (numbers_push is xs l)
  where
    go : (b : Bool) → numbers_of is (xs ++ (l ∷ [])) ≡ numbers_of is xs ++ cond (is l.letter) (l.number ∷ []) []
        → cond b (x.number ∷ numbers_of is (xs ++ (l ∷ []))) (numbers_of is (xs ++ (l ∷ []))) ≡ cond b (x.number ∷ numbers_of is xs) (numbers_of is xs) ++ cond (is l.letter) (l.number ∷ []) []
    go true e = ap (λ (ns : List ℕ). x.number ∷ ns) e
    go false e = e

pub named_push : (ls : List Line) (l : Line) → named (ls ++ (l ∷ [])) ≡ named ls ++ (l.number ∷ [])
named_push [] l = refl
named_push (x ∷ xs) l = ap (λ (ns : List ℕ). x.number ∷ ns) (named_push xs l)

pub numbers_append : (xs ys : List Report) → numbers (xs ++ ys) ≡ numbers xs ++ numbers ys
numbers_append [] ys = refl
numbers_append (x ∷ xs) ys = ap (λ (ns : List ℕ). x.number ∷ ns) (numbers_append xs ys)
