-- What a store means: a list of reports, oldest first, and a capacity that never changes.
use Rattle.std.specs.Prelude.{ℕ, Bool, cond, ◌||◌, List, [], ◌∷◌, ◌++◌, length, Some, None, Option, ◌==◌, nat_le, nat_lt}

-- a report as a store keeps it
pub record Report : Type 0 where
  pub number : ℕ
  pub stream : ℕ
  pub function : ℕ
  pub body : List ℕ

-- the most bytes that a report's body may have
abbrev pub body_limit : ℕ
body_limit = 480

-- the number of the oldest report, where there is one
abbrev pub oldest_number : List Report → Option ℕ
oldest_number [] = None
oldest_number (r ∷ rs) = Some r.number

-- the number of the newest report; 0 where there is none
abbrev pub newest_number : List Report → ℕ
newest_number [] = 0
newest_number (r ∷ []) = r.number
newest_number (r ∷ (s ∷ rs)) = newest_number (s ∷ rs)

-- no report has number 0 or a longer body than the limit
abbrev pub unfit : Report → Bool
unfit r = r.number == 0 || nat_lt body_limit (length r.body)

-- the number that a put answers: 3 unfit, 2 not above the newest held, 1 at capacity, 0 taken
abbrev pub put_number : List Report → ℕ → Report → ℕ
put_number held capacity r =
    cond (unfit r) 3 (cond (nat_le r.number (newest_number held)) 2 (cond (nat_le capacity (length held)) 1 0))

-- only a put that answers 0 adds the report, at the end
abbrev pub after_put : List Report → ℕ → Report → List Report
after_put held capacity r = cond (put_number held capacity r == 0) (held ++ (r ∷ [])) held

-- the list without its oldest report; an empty one stays as it is
abbrev pub after_remove : List Report → List Report
after_remove [] = []
after_remove (r ∷ rs) = rs
