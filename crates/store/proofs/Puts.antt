-- What a put answers in each of its cases, and the list after it.
use Rattle.std.proofs.Common.{◌≡◌, ℕ, ◌<◌, ◌≤◌, Bool, false, cond, ◌||◌, eqb, leb, List, [], ◌∷◌, ◌++◌, length, ap, ◌∙◌, arith}
use Rattle.std.proofs.lemmas.Bool.{ne_eqb, le-ltb, le-leb, lt-leb, cond-true, cond-false}
use Rattle.store.specs.Reports.{Report, newest_number, unfit, put_number, after_put}

or_false : (a b : Bool) → a ≡ false → b ≡ false → (a || b) ≡ false
or_false a b e f = ap (λ x. x || b) e ∙ f

-- a report with a number above 0 and a body within the limit is fit
pub fit_report : (r : Report) → 0 < r.number → length r.body ≤ 480 → unfit r ≡ false
fit_report r a b = or_false _ _ (ne_eqb r.number 0 (λ z. omega arith)) (le-ltb 480 (length r.body) b)

module _ (held : List Report) (capacity : ℕ) (r : Report) (fit : unfit r ≡ false) (newer : newest_number held < r.number) where
  above : put_number held capacity r ≡ cond (leb capacity (length held)) 1 0
  above = cond-false _ _ _ fit ∙ cond-false _ _ _ (lt-leb r.number (newest_number held) newer)

  pub put_full : capacity ≤ length held → put_number held capacity r ≡ 1
  put_full h = above ∙ cond-true _ 1 0 (le-leb capacity (length held) h)

  pub put_taken : length held < capacity → put_number held capacity r ≡ 0
  put_taken h = above ∙ cond-false _ 1 0 (lt-leb capacity (length held) h)

  pub after_taken : length held < capacity → after_put held capacity r ≡ held ++ (r ∷ [])
  after_taken h = ap (λ (x : ℕ). cond (eqb x 0) (held ++ (r ∷ [])) held) (put_taken h)
