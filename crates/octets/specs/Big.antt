-- Numbers as bytes, the highest byte first.
use Rattle.std.specs.Prelude.{ℕ, ◌+◌, ◌*◌, ◌/◌, ◌%◌, List, [], ◌∷◌, slice_index}

-- a number below 65,536 as two bytes
abbrev pub be2 : ℕ → List ℕ
be2 n = (n / 256 % 256) ∷ (n % 256) ∷ []

-- a number below 4,294,967,296 as four bytes
abbrev pub be4 : ℕ → List ℕ
be4 n = (n / 16777216 % 256) ∷ (n / 65536 % 256) ∷ (n / 256 % 256) ∷ (n % 256) ∷ []

-- the number that two bytes from a place on are
abbrev pub num2 : List ℕ → ℕ → ℕ
num2 b at = slice_index b at * 256 + slice_index b (at + 1)

-- the number that four bytes from a place on are
abbrev pub num4 : List ℕ → ℕ → ℕ
num4 b at = slice_index b at * 16777216 + slice_index b (at + 1) * 65536 + slice_index b (at + 2) * 256 + slice_index b (at + 3)
