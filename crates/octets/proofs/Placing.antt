-- Facts about writing into a list at a place.
use Rattle.std.proofs.Common.{◌≡◌, ℕ, ◌+◌, ◌-◌, ◌<◌, ◌≤◌, min, List, [], ◌∷◌, ◌++◌, length, take, drop, sym, refl, ap, ◌∙◌, arith}
use Rattle.std.proofs.lemmas.List.{append_assoc, length-append, length-take, length-drop, take_at, drop_at, drop-drop, take_all, take-append-drop}
use Rattle.std.proofs.lemmas.Slice.{put_mid-paste}
use borrow.Rule.Slice.PartMut.{put_mid}
use Rattle.octets.specs.Places.{placed}

-- the length stays
pub length_placed : {A : Type 0} (xs : List A) (at : ℕ) (bs : List A) → at + length bs ≤ length xs → length (placed xs at bs) ≡ length xs
length_placed xs at bs h = simp (length-append, length-take, length-drop) (omega arith)

-- what stands before the place stays
pub take_placed : {A : Type 0} (xs : List A) (at : ℕ) (bs : List A) → at ≤ length xs → take at (placed xs at bs) ≡ take at xs
take_placed xs at bs h = take_at (take at xs) (bs ++ drop (at + length bs) xs) at (simp length-take (omega arith))

-- what was written, and what stands after it
pub drop_placed : {A : Type 0} (xs : List A) (at : ℕ) (bs : List A) → at ≤ length xs → drop at (placed xs at bs) ≡ bs ++ drop (at + length bs) xs
drop_placed xs at bs h = drop_at (take at xs) (bs ++ drop (at + length bs) xs) at (simp length-take (omega arith))

-- a write right after a write is one write
pub placed_placed : {A : Type 0} (xs : List A) (at : ℕ) (a b : List A) → at + length a + length b ≤ length xs → placed (placed xs at a) (at + length a) b ≡ placed xs at (a ++ b)
placed_placed xs at a b h =
    let rest = drop (at + length a) xs in
    let p = take at xs ++ a in
    let e : placed xs at a ≡ p ++ rest = sym (append_assoc (take at xs) a rest) in
    let lp : length p ≡ at + length a = simp (length-append, length-take) (omega arith) in
    let t : take (at + length a) (placed xs at a) ≡ p = ap (take (at + length a)) e ∙ take_at p rest _ lp in
    let d : drop (at + length a + length b) (placed xs at a) ≡ drop (at + length a + length b) xs =
    ap (drop (at + length a + length b)) e
    ∙ (sym (drop-drop (length b) (at + length a) (p ++ rest))
    ∙ (ap (drop (length b)) (drop_at p rest _ lp) ∙ drop-drop (length b) (at + length a) xs)) in
    let n : at + length a + length b ≡ at + length (a ++ b) = simp length-append (omega arith) in
    ap (λ x. x ++ (b ++ drop (at + length a + length b) (placed xs at a))) t
    ∙ (ap (λ x. p ++ (b ++ x)) d
    ∙ (append_assoc (take at xs) a (b ++ drop (at + length a + length b) xs)
    ∙ (ap (λ x. take at xs ++ x) (sym (append_assoc a b (drop (at + length a + length b) xs)))
    ∙ ap (λ n. take at xs ++ ((a ++ b) ++ drop n xs)) n)))

-- what a copy into `out[at..at + k]` leaves
pub placed_part : (xs : List ℕ) (at k : ℕ) (ys bs : List ℕ) → ys ≡ bs → length bs ≡ k → put_mid at k xs ys ≡ placed xs at bs
placed_part xs at k ys bs e l =
    put_mid-paste at k xs ys bs (length bs) e l refl
    ∙ (append_assoc (take at xs) (take (length bs) bs) (drop (at + length bs) xs)
    ∙ ap (λ x. take at xs ++ (x ++ drop (at + length bs) xs)) (take_all (length bs) bs (omega arith)))
