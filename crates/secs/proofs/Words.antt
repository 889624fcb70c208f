-- The chunks of four bytes of a content are its numbers.
use Rattle.std.proofs.Common.{◌≡◌, ℕ, suc, ◌+◌, ◌*◌, ◌/◌, List, [], ◌∷◌, map, length, get_or, sym, refl, ap, ◌∙◌, arith}
use Rattle.std.specs.Simd.{first_chunks}
use Rattle.secs.specs.Elements.{words}

-- the number that the first four bytes are
abbrev pub word_of : List ℕ → ℕ
word_of w = get_or w 0 0 * 16777216 + get_or w 1 0 * 65536 + get_or w 2 0 * 256 + get_or w 3 0

pub chunks_are_words : (xs : List ℕ) → map word_of (first_chunks 4 (length xs / 4) xs) ≡ words xs
chunks_are_words [] = refl
chunks_are_words (a ∷ []) = refl
chunks_are_words (a ∷ (b ∷ [])) = refl
chunks_are_words (a ∷ (b ∷ (c ∷ []))) = refl
chunks_are_words (a ∷ (b ∷ (c ∷ (d ∷ xs)))) =
    let n : length (a ∷ (b ∷ (c ∷ (d ∷ xs)))) / 4 ≡ suc (length xs / 4) = omega arith in
    ap (λ k. map word_of (first_chunks 4 k (a ∷ (b ∷ (c ∷ (d ∷ xs)))))) n ∙ ap (λ ws. word_of (a ∷ (b ∷ (c ∷ (d ∷ [])))) ∷ ws) (chunks_are_words xs)
