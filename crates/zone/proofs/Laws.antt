-- The zone rule where a value comes once more, and where a band has width.
use Rattle.std.proofs.Common.{◌≡◌, Bool, true, false, not, ◌||◌, List, [], ◌∷◌, Some, None, Option, sym, refl, ap, ◌∙◌}
use Rattle.std.proofs.lemmas.Bool.{both_ways}
use Rattle.zone.specs.declared.band.Band.{Band}
use Rattle.zone.specs.declared.rule.Zone.{Zone}
use Rattle.zone.specs.declared.rule.Zone.TheVariants.{NoZone, Above, Below}
use Rattle.zone.specs.Zones.{same_zone, next_zone, zone_after, band_moves, band_after, place_after, place_moves, bands_after}
use Rattle.zone.specs.Laws.{Under, AtMost, Settles, Wide, AllSettle}

-- a zone is the same as itself
same : (z : Zone) → same_zone z z ≡ true
same NoZone = refl
same Above = refl
same Below = refl

-- strictly between the bounds
pub rest : (z : Zone) → next_zone z false false ≡ z
rest NoZone = refl
rest Above = refl
rest Below = refl

-- at or above the upper bound, and not at the lower one
pub rise : (z : Zone) → next_zone z true false ≡ Above
rise NoZone = refl
rise Above = refl
rise Below = refl

-- at or below the lower bound, and not at the upper one
pub fall : (z : Zone) → next_zone z false true ≡ Below
fall NoZone = refl
fall Above = refl
fall Below = refl

-- the same once more leaves the zone, unless the value is at both bounds
again : (z : Zone) (high low : Bool) → (high ≡ true → low ≡ true → ⊥) → next_zone (next_zone z high low) high low ≡ next_zone z high low
again z true true h = absurd (h refl refl)
again z true false h = ap (λ y. next_zone y true false) (rise z) ∙ (rise Above ∙ sym (rise z))
again z false true h = ap (λ y. next_zone y false true) (fall z) ∙ (fall Below ∙ sym (fall z))
again z false false h = ap (λ y. next_zone y false false) (rest z)

-- the law that an order is transitive
abbrev pub Transitive : {K : Type 0} → (K → K → Bool) → Type 0
Transitive {K} at_most = (x y z : K) → at_most x y ≡ true → at_most y z ≡ true → at_most x z ≡ true

module _ {K : Type 0} (at_most : K → K → Bool) (transitive : Transitive at_most) where
  -- a value at both bounds of a band with width: there is none
  pub not_both : (band : Band K) (value : K) → Under at_most band.lower band.upper → AtMost at_most band.upper value → AtMost at_most value band.lower → ⊥
  not_both band value wide h l = both_ways _ wide (transitive band.upper value band.lower h l)

  -- a band whose zone the value leaves is left whole
  pub kept : (value : K) (band : Band K) → zone_after at_most value band ≡ band.zone → (band_moves at_most value band ≡ false) × (band_after at_most value band ≡ band)
  kept value band e = (
    ap (λ z. not (same_zone z band.zone)) e ∙ ap not (same band.zone),
    λ i. record { lower = band.lower; upper = band.upper; zone = e i },
  )

  settles : (value : K) (band : Band K) → Settles at_most value (band_after at_most value band)
  settles value band wide = kept value (band_after at_most value band) (again band.zone _ _ (not_both band value wide))

  place_settles : (value : K) (place : Option (Band K)) → Wide at_most (place_after at_most value place) → (place_moves at_most value (place_after at_most value place) ≡ false) × (place_after at_most value (place_after at_most value place) ≡ place_after at_most value place)
  place_settles value None wide = (refl, refl)
  place_settles value (Some band) wide = let s = settles value band wide in (s.0, ap Some s.1)

  pub all_settle : (value : K) (places : List (Option (Band K))) → AllSettle at_most value (bands_after at_most value places)
  all_settle value [] wide = (refl, refl)
  all_settle value (place ∷ places) wide =
      let s = place_settles value place wide.0 in
      let r = all_settle value places wide.1 in
      ((λ i. s.0 i || r.0 i), λ i. s.1 i ∷ r.1 i)
