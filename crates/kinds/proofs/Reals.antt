-- Facts about real values.
use Rattle.std.proofs.Common.{◌≡◌, Bool, true, false, Some, None, refl}
use mathlib.Core.Bool.{Bool-set}
use lib.Ieee.{Float, is_nan}
use Rattle.std.proofs.lemmas.Bool.{both_ways}
use Rattle.kinds.specs.Reals.{real_where, real_of}

-- a float that is no NaN makes one real value, whatever shows that it is none
pub real_where_lem : (x : Float) (b : Bool) (e : is_nan x ≡ b) (h : is_nan x ≡ false) → real_where x b e ≡ Some (record { value = x; number = h })
real_where_lem x true e h = absurd (both_ways (is_nan x) h e)
real_where_lem x false e h = λ i. Some (record { value = x; number = Bool-set (is_nan x) false e h i })

pub real_of_lem : (x : Float) (h : is_nan x ≡ false) → real_of x ≡ Some (record { value = x; number = h })
real_of_lem x h = real_where_lem x (is_nan x) refl h

-- a NaN makes none
pub none_where : (x : Float) (b : Bool) (e : is_nan x ≡ b) → is_nan x ≡ true → real_where x b e ≡ None
none_where x true e h = refl
none_where x false e h = absurd (both_ways (is_nan x) e h)

pub none_of : (x : Float) → is_nan x ≡ true → real_of x ≡ None
none_of x h = none_where x (is_nan x) refl h
