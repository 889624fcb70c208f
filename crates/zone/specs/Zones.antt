-- The zone rule, over any order of values.
use Rattle.std.specs.Prelude.{ℕ, Bool, false, cond, not, ◌&&◌, List, map, Some, None, Option, ◌==◌}
use Rattle.std.specs.List.{list_any}
use Rattle.zone.specs.declared.band.Band.{Band}
use Rattle.zone.specs.declared.rule.Zone.{Zone}
use Rattle.zone.specs.declared.rule.Zone.TheVariants.{NoZone, Above, Below}

-- a number for each zone
abbrev pub zone_number : Zone → ℕ
zone_number NoZone = 0
zone_number Above = 1
zone_number Below = 2

-- whether two zones are the same
abbrev pub same_zone : Zone → Zone → Bool
same_zone a b = zone_number a == zone_number b

-- the zone after `was`: ABOVE from another zone where the value is at least the upper bound,
-- else BELOW from another zone where it is at most the lower bound, else as it was
abbrev pub next_zone : Zone → Bool → Bool → Zone
next_zone was atUpper atLower =
    cond (not (same_zone was Above) && atUpper) Above (cond (not (same_zone was Below) && atLower) Below was)

-- the zone of a band after a value
abbrev pub zone_after : {K : Type 0} → (K → K → Bool) → K → Band K → Zone
zone_after at_most value band = next_zone band.zone (at_most band.upper value) (at_most value band.lower)

-- whether a value moves a band
abbrev pub band_moves : {K : Type 0} → (K → K → Bool) → K → Band K → Bool
band_moves at_most value band = not (same_zone (zone_after at_most value band) band.zone)

-- the band after a value: its bounds stay
abbrev pub band_after : {K : Type 0} → (K → K → Bool) → K → Band K → Band K
band_after at_most value band =
    record { lower = band.lower; upper = band.upper; zone = zone_after at_most value band }

-- a place in a variable's bands after a value
abbrev pub place_after : {K : Type 0} → (K → K → Bool) → K → Option (Band K) → Option (Band K)
place_after at_most value None = None
place_after at_most value (Some band) = Some (band_after at_most value band)

-- whether a value moves the band at a place
abbrev pub place_moves : {K : Type 0} → (K → K → Bool) → K → Option (Band K) → Bool
place_moves at_most value None = false
place_moves at_most value (Some band) = band_moves at_most value band

-- all bands of a variable after a value
abbrev pub bands_after : {K : Type 0} → (K → K → Bool) → K → List (Option (Band K)) → List (Option (Band K))
bands_after at_most value places = map (place_after at_most value) places

-- whether a value moves any band of a variable
abbrev pub any_moves : {K : Type 0} → (K → K → Bool) → K → List (Option (Band K)) → Bool
any_moves at_most value places = list_any (place_moves at_most value) places

-- the band of two bounds, in NO ZONE, or none where the lower is not at most the upper
abbrev pub band_made : {K : Type 0} → (K → K → Bool) → K → K → Option (Band K)
band_made at_most lower upper = cond (at_most lower upper) (Some (record { lower = lower; upper = upper; zone = NoZone })) None
