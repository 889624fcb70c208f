-- Writing into a list at a place.
use Rattle.std.specs.Prelude.{ℕ, ◌+◌, List, ◌++◌, length, take, drop}

-- xs with bs in place of as many elements from `at` on
abbrev pub placed : {A : Type 0} → List A → ℕ → List A → List A
placed xs at bs = take at xs ++ (bs ++ drop (at + length bs) xs)
