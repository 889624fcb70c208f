-- The bands of a variable by their numbers: number n stands at place n - 1.
use Rattle.std.specs.Prelude.{ℕ, ◌-◌, Bool, cond, not, ◌&&◌, List, length, is_some, Some, None, Ok, Err, Option, Result, nat_le, slice_index_or, slice_set}
use Rattle.zone.specs.declared.band.Band.{Band}
use Rattle.zone.specs.declared.rule.Zone.{Zone}
use Rattle.zone.specs.declared.places.BandRefusal.{BandRefusal}
use Rattle.zone.specs.declared.places.BandRefusal.TheVariants.{Number, Bounds}

-- the code of each refusal of a band
abbrev pub band_refusal_code : BandRefusal → ℕ
band_refusal_code Number = 10
band_refusal_code Bounds = 11

-- whether a number is one of a place
abbrev pub is_number : {K : Type 0} → List (Option (Band K)) → ℕ → Bool
is_number places number = nat_le 1 number && nat_le number (length places)

-- what stands at a number
abbrev pub band_at : {K : Type 0} → List (Option (Band K)) → ℕ → Option (Band K)
band_at places number = cond (is_number places number) (slice_index_or places (number - 1) None) None

-- whether a band of this number can be added: the number is in range, and no band has it
abbrev pub is_free : {K : Type 0} → List (Option (Band K)) → ℕ → Bool
is_free places number = is_number places number && not (is_some (band_at places number))

-- the answer at a free number, to the band that the bounds made, or to their refusal
abbrev pub made_answer : {K : Type 0} → Result (Band K) BandRefusal → Result (Unit {0}) BandRefusal
made_answer (Ok band) = Ok tt
made_answer (Err refusal) = Err refusal

-- the answer to the adding of a band: the number is judged before the bounds
abbrev pub add_answer : {K : Type 0} → List (Option (Band K)) → ℕ → Result (Band K) BandRefusal → Result (Unit {0}) BandRefusal
add_answer places number made = cond (is_free places number) (made_answer made) (Err Number)

-- the bands with the band that the bounds made at a number, or as they were where they made none
abbrev pub placed : {K : Type 0} → List (Option (Band K)) → ℕ → Result (Band K) BandRefusal → List (Option (Band K))
placed places number (Ok band) = slice_set places (number - 1) (Some band)
placed places number (Err refusal) = places

-- the bands after the adding: a refusal leaves them
abbrev pub add_after : {K : Type 0} → List (Option (Band K)) → ℕ → Result (Band K) BandRefusal → List (Option (Band K))
add_after places number made = cond (is_free places number) (placed places number made) places

-- the zone of a band that may be none
abbrev pub zone_in : {K : Type 0} → Option (Band K) → Option Zone
zone_in None = None
zone_in (Some band) = Some band.zone

-- the zone of the band of a number
abbrev pub zone_at : {K : Type 0} → List (Option (Band K)) → ℕ → Option Zone
zone_at places number = zone_in (band_at places number)
