-- A text that grows piece by piece.
use Rattle.std.proofs.Common.{◌≡◌, ℕ, List, [], ◌++◌, sym, ap, ◌∙◌}
use Rattle.std.proofs.lemmas.List.{append-nil, append_assoc}

-- a piece was added that the rest began with
pub piece_more : (t u p rest rest' whole : List ℕ) → u ≡ t ++ p → rest ≡ p ++ rest' → t ++ rest ≡ whole → u ++ rest' ≡ whole
piece_more t u p rest rest' whole e f inv = ap (λ x. x ++ rest') e ∙ (append_assoc t p rest' ∙ (ap (λ x. t ++ x) (sym f) ∙ inv))

-- nothing is left to add
pub piece_none : (t rest whole : List ℕ) → rest ≡ [] → t ++ rest ≡ whole → t ≡ whole
piece_none t rest whole e inv = sym (append-nil t) ∙ (ap (λ x. t ++ x) (sym e) ∙ inv)

-- three pieces, one after the other
pub three_pieces : (t x y z a b c : List ℕ) → x ≡ t ++ a → y ≡ x ++ b → z ≡ y ++ c → z ≡ t ++ (a ++ (b ++ c))
three_pieces t x y z a b c p q r = r ∙ (ap (λ w. w ++ c) (q ∙ ap (λ w. w ++ b) p) ∙ simp append_assoc)
