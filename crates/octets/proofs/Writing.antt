-- What copies into a buffer leave, where there is room for them.
use Rattle.std.proofs.Common.{◌≡◌, ℕ, ◌+◌, ◌≤◌, Bool, true, cond, leb, List, [], ◌∷◌, ◌++◌, length, take, drop, Some, None, Option, sym, refl, ap, ◌∙◌, subst, add-zero, arith}
use Rattle.std.proofs.lemmas.List.{take-append-drop, length-append}
use Rattle.std.proofs.lemmas.Bool.{cond-true, le-leb}
use Rattle.octets.specs.Places.{placed}
use Rattle.octets.proofs.Placing.{length_placed, placed_placed}

-- one copy, of bytes bs that are a
pub wrote : (xs : List ℕ) (at : ℕ) (a bs : List ℕ) (r : Bool) (ys : List ℕ) → at + length a ≤ length xs → bs ≡ a → r ≡ leb (at + length bs) (length xs) → ys ≡ cond r (placed xs at bs) xs → ys ≡ placed xs at a
wrote xs at a bs r ys h same e f =
    f
    ∙ (cond-true r _ _ (e ∙ (ap (λ b. leb (at + length b) (length xs)) same ∙ le-leb _ _ h)) ∙ ap (placed xs at) same)

-- a copy right after what was written
pub wrote_more : (xs : List ℕ) (at : ℕ) (a b bs : List ℕ) (r : Bool) (m : ℕ) (ys zs : List ℕ)
    → at + length a + length b ≤ length xs → ys ≡ placed xs at a → m ≡ at + length a → bs ≡ b
    → r ≡ leb (m + length bs) (length ys) → zs ≡ cond r (placed ys m bs) ys → zs ≡ placed xs at (a ++ b)
wrote_more xs at a b bs r m ys zs h was here same e f =
    let l : length ys ≡ length xs = ap length was ∙ length_placed xs at a (omega arith) in
    let k : m + length b ≤ length ys = omega arith in
    wrote ys m b bs r zs k same e f ∙ (ap (λ x. placed x m b) was ∙ (ap (λ n. placed (placed xs at a) n b) here ∙ placed_placed xs at a b h))

-- ys is xs with a written at a place, and m is the place after it
pub record Written (xs : List ℕ) (at : ℕ) (a ys : List ℕ) (m : ℕ) : Type 0 where
  pub bytes : ys ≡ placed xs at a
  pub place : m ≡ at + length a

-- nothing is written yet
pub none_written : (xs : List ℕ) (at : ℕ) → Written xs at [] xs at
none_written xs at = record {
  bytes = sym (ap (λ n. take at xs ++ drop n xs) (add-zero at) ∙ take-append-drop at xs);
  place = sym (add-zero at);
}

-- a write that answers the place after it, where there is room
pub then_written : (xs : List ℕ) (at : ℕ) (a b ys zs : List ℕ) (m n : ℕ) → Written xs at a ys m → at + length a + length b ≤ length xs
    → Some n ≡ cond (leb (m + length b) (length ys)) (Some (m + length b)) None → zs ≡ cond (leb (m + length b) (length ys)) (placed ys m b) ys
    → Written xs at (a ++ b) zs n
then_written xs at a b ys zs m n w h p z =
    let l : length ys ≡ length xs = ap length w.bytes ∙ length_placed xs at a (omega arith) in
    let here = w.place in
    let k = le-leb (m + length b) (length ys) (omega arith) in
    let q : ◌≡◌ {A = Option ℕ} (Some n) (Some (m + length b)) = p ∙ cond-true _ _ _ k in
    let e : n ≡ m + length b = cc in
    record {
      bytes = wrote_more xs at a b b (leb (m + length b) (length ys)) m ys zs h w.bytes w.place refl refl z;
      place = simp length-append (omega arith);
    }

-- the last of several writes: its answer, and what it leaves
pub last_written : (xs : List ℕ) (at : ℕ) (a b ys zs : List ℕ) (m : ℕ) (r : Option ℕ) → Written xs at a ys m → at + length a + length b ≤ length xs
    → r ≡ cond (leb (m + length b) (length ys)) (Some (m + length b)) None → zs ≡ cond (leb (m + length b) (length ys)) (placed ys m b) ys
    → (r ≡ Some (at + length (a ++ b))) × (zs ≡ placed xs at (a ++ b))
last_written xs at a b ys zs m r w h p z =
    let l : length ys ≡ length xs = ap length w.bytes ∙ length_placed xs at a (omega arith) in
    let here = w.place in
    let k = le-leb (m + length b) (length ys) (omega arith) in
    let q = p ∙ cond-true (leb (m + length b) (length ys)) (Some (m + length b)) None k in
    let s = then_written xs at a b ys zs m (m + length b) w h (sym (cond-true _ _ _ k)) z in
    (q ∙ ap Some s.place, s.bytes)
