-- A pass over a list that writes each element anew and asks a question of it.
use Rattle.std.proofs.Common.{◌≡◌, ℕ, ◌+◌, ◌<◌, Bool, ◌||◌, List, ◌++◌, map, length, get_or, take, drop, set, sym, ap, ◌∙◌, arith}
use Rattle.std.proofs.lemmas.List.{length-map, length-take, drop_more, get_or_at}
use Rattle.std.proofs.lemmas.List.Edits.{map_over_more}
use Rattle.std.proofs.lemmas.List.Folds.{list_any_more}
use Rattle.std.specs.List.{list_any}

-- an element that the pass has not come to yet is as it was
pub not_reached : {X : Type 0} (f : X → X) (xs ys : List X) (i : ℕ) (x : X) → i < length xs → ys ≡ map f (take i xs) ++ drop i xs → x ≡ get_or ys i x → x ≡ get_or xs i x
not_reached f xs ys i x lt h is =
    let front = map f (take i xs) in
    let long : length front ≡ i = length-map (take i xs) f ∙ omega (arith, length-take i xs) in
    is ∙ ap (λ l. get_or l i x) (h ∙ ap (λ l. front ++ l) (drop_more xs i x lt)) ∙ get_or_at front _ _ x i long

module _ {X : Type 0} (f : X → X) (p : X → Bool) (xs ys : List X) (i : ℕ) (x : X) (lt : i < length xs) (so_far : ys ≡ map f (take i xs) ++ drop i xs) (is : x ≡ get_or ys i x) where
  pub pass_more : (x' : X) (m r : Bool) → x' ≡ f (get_or ys i x) → r ≡ p (get_or ys i x) → m ≡ list_any p (take i xs) → (set ys i x' ≡ map f (take (i + 1) xs) ++ drop (i + 1) xs) × ((m || r) ≡ list_any p (take (i + 1) xs))
  pass_more x' m r after moved k = (
    ap (set ys i) (after ∙ ap f (sym is)) ∙ map_over_more f xs ys i x lt so_far is,
    (λ j. k j || (moved ∙ ap p (sym is ∙ not_reached f xs ys i x lt so_far is)) j) ∙ sym (list_any_more p xs i x lt),
  )
