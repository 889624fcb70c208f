-- Lists that are paired from their ends on.
use Rattle.std.proofs.Common.{ℕ, ◌+◌, ◌<◌, ◌≤◌, List, [], ◌∷◌, length, get_or, drop, sym, subst}
use Rattle.std.proofs.lemmas.List.{drop_more, drop_all}
use Rattle.std.specs.List.{AllZip}

module _ {A B : Type 0} (R : A → B → Type 0) (xs : List A) where
  -- one more element before those that are paired
  pub zip_more : (ys : List B) (i : ℕ) (x : A) (y : B) → i < length xs → R (get_or xs i x) y → AllZip R (drop (i + 1) xs) ys → AllZip R (drop i xs) (y ∷ ys)
  zip_more ys i x y lt r rest = subst (λ l. AllZip R l (y ∷ ys)) (sym (drop_more xs i x lt)) (r, rest)

  -- past the end there is none
  pub zip_all : (i : ℕ) → length xs ≤ i → AllZip R (drop i xs) []
  zip_all i le = subst (λ l. AllZip R l []) (sym (drop_all i xs le)) tt
