-- Lengths of written items.
use Rattle.std.proofs.Common.{◌≡◌, ℕ, suc, ◌+◌, ◌/◌, ◌%◌, ◌<◌, ◌≤◌, List, [], ◌∷◌, length, sym, ap, ◌∙◌, inl, inr}
use Rattle.std.proofs.lemmas.List.{length-append}
use Rattle.std.proofs.lemmas.Bool.{cond-true, cond-false, lt-ltb, le-ltb, cases_lt}
use Rattle.secs.specs.declared.format.Format.{Format}
use Rattle.items.specs.Encode.{length_size, length_bytes, head_bytes, item_bytes}

-- the three sizes of a length
pub data Sized (n : ℕ) : Type 0 where
  one : n < 256 → length_size n ≡ 1 → length_bytes n ≡ n ∷ [] → Sized n
  two : 256 ≤ n → n < 65536 → length_size n ≡ 2 → length_bytes n ≡ (n / 256) ∷ (n % 256) ∷ [] → Sized n
  three : 65536 ≤ n → length_size n ≡ 3 → length_bytes n ≡ (n / 65536) ∷ (n / 256 % 256) ∷ (n % 256) ∷ [] → Sized n

pub sized : (n : ℕ) → Sized n
sized n =
    elim (cases_lt n 256) [
      | inl a ↦ one a (cond-true _ _ _ (lt-ltb n 256 a)) (cond-true _ _ _ (lt-ltb n 256 a))
      | inr a ↦ elim (cases_lt n 65536) [
        | inl b ↦ two a b (cond-false _ _ _ (le-ltb n 256 a) ∙ cond-true _ _ _ (lt-ltb n 65536 b)) (cond-false _ _ _ (le-ltb n 256 a) ∙ cond-true _ _ _ (lt-ltb n 65536 b))
        | inr b ↦ three b (cond-false _ _ _ (le-ltb n 256 a) ∙ cond-false _ _ _ (le-ltb n 65536 b)) (cond-false _ _ _ (le-ltb n 256 a) ∙ cond-false _ _ _ (le-ltb n 65536 b))
      ]
    ]

length_head_of : (f : Format) (n : ℕ) → Sized n → length (head_bytes f n) ≡ 1 + length_size n
length_head_of f n (one a s b) = ap (λ x. suc (length x)) b ∙ sym (ap (λ x. 1 + x) s)
length_head_of f n (two a a' s b) = ap (λ x. suc (length x)) b ∙ sym (ap (λ x. 1 + x) s)
length_head_of f n (three a s b) = ap (λ x. suc (length x)) b ∙ sym (ap (λ x. 1 + x) s)

pub length_head : (f : Format) (n : ℕ) → length (head_bytes f n) ≡ 1 + length_size n
length_head f n = length_head_of f n (sized n)

pub length_item : (f : Format) (n : ℕ) (content : List ℕ) → length (item_bytes f n content) ≡ 1 + length_size n + length content
length_item f n content = length-append (head_bytes f n) content ∙ ap (λ x. x + length content) (length_head f n)
