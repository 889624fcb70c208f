-- Whole values of 32 bits.
use Rattle.std.specs.Prelude.{◌≡◌, ℕ, true, false, ℤ, pos, Some, Option, int_le, refl}
use Rattle.std.proofs.Common.{to_z, of_z, negsuc}
use Rattle.std.proofs.Math.Nat.{le_of_lt, le_trans}
use Rattle.std.proofs.lemmas.Bool.{both_ways, le-leb, leb-true, leb-false}
use Rattle.std.specs.Int.{w32}

-- the whole value that 32 bits are: every pattern is one
abbrev pub whole_of_bits : ℕ → Option ℤ
whole_of_bits bits = Some (to_z w32 bits)

-- the 32 bits of a whole value
abbrev pub whole_bits : ℤ → ℕ
whole_bits x = of_z w32 x

-- where one whole value is not at most another, the other is at most it
pub whole_total : (x y : ℤ) → int_le x y ≡ false → int_le y x ≡ true
whole_total (pos a) (pos b) h = le-leb b a (le_of_lt (leb-false a b h))
whole_total (pos a) (negsuc b) h = refl
whole_total (negsuc a) (pos b) h = absurd (both_ways true h refl)
whole_total (negsuc a) (negsuc b) h = le-leb a b (le_of_lt (leb-false b a h))

-- what is at most a value is at most what that value is at most
pub whole_transitive : (x y z : ℤ) → int_le x y ≡ true → int_le y z ≡ true → int_le x z ≡ true
whole_transitive (pos a) (pos b) (pos c) h k = le-leb a c (le_trans (leb-true a b h) (leb-true b c k))
whole_transitive (pos a) (pos b) (negsuc c) h k = absurd (both_ways false refl k)
whole_transitive (pos a) (negsuc b) z h k = absurd (both_ways false refl h)
whole_transitive (negsuc a) y (pos c) h k = refl
whole_transitive (negsuc a) (pos b) (negsuc c) h k = absurd (both_ways false refl k)
whole_transitive (negsuc a) (negsuc b) (negsuc c) h k = le-leb c a (le_trans (leb-true c b k) (leb-true b a h))
