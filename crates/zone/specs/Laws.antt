-- What a sample does to a band, in the words of the subject. `before` and `after` are the band before and after the value,
-- `moved` is the answer.
use Rattle.std.specs.Prelude.{◌≡◌, Bool, true, false, ◌⊎◌, List, Some, None, Option}
use Rattle.std.specs.List.{AllByRecursion}
use Rattle.zone.specs.declared.band.Band.{Band}
use Rattle.zone.specs.declared.rule.Zone.TheVariants.{NoZone, Above, Below}
use Rattle.zone.specs.Zones.{band_moves, band_after, any_moves, bands_after}

-- x is at most y
abbrev pub AtMost : {K : Type 0} → (K → K → Bool) → K → K → Type 0
AtMost at_most x y = at_most x y ≡ true

-- x is strictly below y
abbrev pub Under : {K : Type 0} → (K → K → Bool) → K → K → Type 0
Under at_most x y = at_most y x ≡ false

-- at or above the upper bound, from NO ZONE or BELOW, the band is ABOVE
abbrev pub Rises : {K : Type 0} → (K → K → Bool) → K → Band K → Band K → Type 0
Rises at_most value before after =
    (before.zone ≡ NoZone) ⊎ (before.zone ≡ Below) → AtMost at_most before.upper value → after.zone ≡ Above

-- at or below the lower bound and strictly below the upper one, from NO ZONE or ABOVE, the band is BELOW
abbrev pub Falls : {K : Type 0} → (K → K → Bool) → K → Band K → Band K → Type 0
Falls at_most value before after =
    (before.zone ≡ NoZone) ⊎ (before.zone ≡ Above)
    → AtMost at_most value before.lower
    → Under at_most value before.upper
    → after.zone ≡ Below

-- strictly between the bounds nothing moves
abbrev pub Rests : {K : Type 0} → (K → K → Bool) → K → Band K → Bool → Band K → Type 0
Rests at_most value before moved after =
    Under at_most before.lower value → Under at_most value before.upper → (moved ≡ false) × (after ≡ before)

-- where the lower bound is strictly below the upper one, the same value once more moves nothing
abbrev pub Settles : {K : Type 0} → (K → K → Bool) → K → Band K → Type 0
Settles at_most value after =
    Under at_most after.lower after.upper
    → (band_moves at_most value after ≡ false) × (band_after at_most value after ≡ after)

-- a value at or above the upper bound that is also at or below the lower one moves the band, whatever its zone was
abbrev pub Alternates : {K : Type 0} → (K → K → Bool) → K → Band K → Bool → Type 0
Alternates at_most value before moved =
    AtMost at_most before.upper value → AtMost at_most value before.lower → moved ≡ true

-- the band at a place, if any, has its lower bound strictly below its upper one
abbrev pub Wide : {K : Type 0} → (K → K → Bool) → Option (Band K) → Type 0
Wide at_most None = Unit {0}
Wide at_most (Some band) = Under at_most band.lower band.upper

-- the band at a place, if any, has its lower bound at most at its upper one
abbrev pub Ordered : {K : Type 0} → (K → K → Bool) → Option (Band K) → Type 0
Ordered at_most None = Unit {0}
Ordered at_most (Some band) = AtMost at_most band.lower band.upper

-- where that holds of every band, the same value once more moves none
abbrev pub AllSettle : {K : Type 0} → (K → K → Bool) → K → List (Option (Band K)) → Type 0
AllSettle at_most value after =
    AllByRecursion (Wide at_most) after → (any_moves at_most value after ≡ false) × (bands_after at_most value after ≡ after)
