-- Real values and the floats of 32 bits that they are made from.
use Rattle.std.specs.Prelude.{◌≡◌, ℕ, Bool, true, false, Some, None, Option, from_bits, is_nan, to_bits, refl, Float}
use Rattle.std.specs.Float.Ieee.{le}
use Rattle.std.specs.Float.{binary32}
use Rattle.kinds.specs.declared.real.Real.{Real}

-- the real value of a float of which it is known whether it is a NaN
abbrev pub real_where : (x : Float) (b : Bool) → is_nan x ≡ b → Option Real
real_where x true e = None
real_where x false e = Some (record { value = x; number = e })

-- the real value of a float, or none where that is a NaN
abbrev pub real_of : Float → Option Real
real_of x = real_where x (is_nan x) refl

-- the real value that 32 bits are, or none where they are a NaN
abbrev pub real_of_bits : ℕ → Option Real
real_of_bits bits = real_of (from_bits binary32 bits)

-- the order of numbers: -0 and 0 are equal in it, and an infinity is above or below all others
abbrev pub real_at_most : Real → Real → Bool
real_at_most x y = le x.value y.value

-- the 32 bits of a real value
abbrev pub real_bits : Real → ℕ
real_bits x = to_bits binary32 x.value
