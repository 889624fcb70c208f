-- Runs of samples to one band.
use Rattle.std.specs.Prelude.{◌≡◌, Bool, List, [], ◌∷◌, ◌++◌, fold, ℤ, pos, int_le}
use Rattle.std.specs.List.{AllByRecursion}
use Rattle.zone.specs.declared.band.Band.{Band}
use Rattle.zone.specs.declared.rule.Zone.{Zone}
use Rattle.zone.specs.declared.rule.Zone.TheVariants.{NoZone, Above, Below}
use Rattle.zone.specs.Zones.{zone_after, band_after}
use Rattle.zone.specs.Laws.{AtMost, Under}

-- the band after a run of values
abbrev pub band_along : {K : Type 0} → (K → K → Bool) → List K → Band K → Band K
band_along at_most values band = fold (λ b value. band_after at_most value b) band values

-- the zones that a run of values brings, one after each
abbrev pub zones_along : {K : Type 0} → (K → K → Bool) → List K → Band K → List Zone
zones_along at_most [] band = []
zones_along at_most (value ∷ values) band =
    zone_after at_most value band ∷ zones_along at_most values (band_after at_most value band)

-- every value is strictly between the bounds of a band
abbrev pub AllBetween : {K : Type 0} → (K → K → Bool) → Band K → List K → Type 0
AllBetween at_most band values = AllByRecursion (λ value. Under at_most band.lower value × Under at_most value band.upper) values

-- A run that stays strictly between the bounds leaves the band as it was. Where the lower bound is strictly below the upper one,
-- the last value that is not strictly between them decides: ABOVE if it is at or above the upper bound, BELOW if it is at or
-- below the lower one.
pub record LastDecides {K : Type 0} (at_most : K → K → Bool) : Type 0 where
  pub stays : (band : Band K) (values : List K) → AllBetween at_most band values → band_along at_most values band ≡ band
  pub above : (band : Band K) (before : List K) (value : K) (after : List K) → Under at_most band.lower band.upper → AllBetween at_most band after → AtMost at_most band.upper value → (band_along at_most (before ++ value ∷ after) band).zone ≡ Above
  pub below : (band : Band K) (before : List K) (value : K) (after : List K) → Under at_most band.lower band.upper → AllBetween at_most band after → AtMost at_most value band.lower → (band_along at_most (before ++ value ∷ after) band).zone ≡ Below

-- a band of whole values in NO ZONE
abbrev pub fresh_band : ℤ → ℤ → Band ℤ
fresh_band lower upper = record { lower = lower; upper = upper; zone = NoZone }

-- Band 10 to 20, samples 15, 20, 11, 10: NO ZONE, ABOVE, ABOVE, BELOW. Band 5 to 5, samples 5, 5: ABOVE, BELOW.
abbrev pub EdgeZones : Type 0
EdgeZones =
    (zones_along int_le (pos 15 ∷ pos 20 ∷ pos 11 ∷ pos 10 ∷ []) (fresh_band (pos 10) (pos 20)) ≡ NoZone ∷ Above ∷ Above ∷ Below ∷ [])
    × (zones_along int_le (pos 5 ∷ pos 5 ∷ []) (fresh_band (pos 5) (pos 5)) ≡ Above ∷ Below ∷ [])
