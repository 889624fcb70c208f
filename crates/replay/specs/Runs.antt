-- Steps on a store, one after another.
use Rattle.std.specs.Prelude.{◌≡◌, ℕ, ◌<◌, List, [], ◌∷◌, length, take, drop, Some, Option}
use Rattle.store.specs.Reports.{Report, after_put, after_remove}
use Rattle.store.specs.Lent.{report_of}
use Rattle.store.specs.declared.answers.Copied.{Copied}
use Rattle.replay.specs.declared.steps.Step.{Step}
use Rattle.replay.specs.declared.steps.Step.TheVariants.{Put, Remove}

-- the list after a step on a store of a capacity
abbrev pub after_step : ℕ → Step → List Report → List Report
after_step capacity (Put report) held = after_put held capacity (report_of report)
after_step capacity Remove held = after_remove held

-- and after many
abbrev pub after_steps : ℕ → List Step → List Report → List Report
after_steps capacity [] held = held
after_steps capacity (x ∷ xs) held = after_steps capacity xs (after_step capacity x held)

-- every number is above the one before it, the first above a given one
abbrev pub Rising : ℕ → List Report → Type 0
Rising low [] = Unit {0}
Rising low (r ∷ rs) = (low < r.number) × Rising r.number rs

-- a report was read back as it was put: its number, stream, function and length are told, its body stands at the front of
-- the buffer, whose later bytes stay, and it is all that the store holds
pub record ReadBack (r : Report) (told : Option Copied) (before after : List ℕ) (held : List Report) : Type 0 where
  pub answer : told ≡ Some (record { number = r.number; stream = r.stream; function = r.function; length = length r.body })
  pub front : take (length r.body) after ≡ r.body
  pub later : drop (length r.body) after ≡ drop (length r.body) before
  pub only : held ≡ r ∷ []
