-- Runs of samples to one band.
use Rattle.std.proofs.Common.{◌≡◌, Bool, true, false, List, [], ◌∷◌, ◌++◌, refl, ap, ◌∙◌}
use Rattle.std.proofs.lemmas.List.Sums.{fold-append}
use Rattle.zone.specs.declared.band.Band.{Band}
use Rattle.zone.specs.declared.rule.Zone.{Zone}
use Rattle.zone.specs.declared.rule.Zone.TheVariants.{Above, Below}
use Rattle.zone.specs.Zones.{next_zone, band_after}
use Rattle.zone.specs.Runs.{band_along, AllBetween, LastDecides}
use Rattle.zone.proofs.Laws.{Transitive, kept, not_both, rest, rise, fall}

-- a band in another zone
abbrev in_zone : {K : Type 0} → Band K → Zone → Band K
in_zone band zone = record { lower = band.lower; upper = band.upper; zone = zone }

-- what is not true is false
not_so : (b : Bool) → (b ≡ true → ⊥) → b ≡ false
not_so true h = absurd (h refl)
not_so false h = refl

module _ {K : Type 0} (at_most : K → K → Bool) (transitive : Transitive at_most) where
  stays : (band : Band K) (values : List K) → AllBetween at_most band values → band_along at_most values band ≡ band
  stays band [] h = refl
  stays band (value ∷ values) h =
      let e = (kept at_most transitive value band ((λ i. next_zone band.zone (h.0.1 i) (h.0.0 i)) ∙ rest band.zone)).1 in
      ap (band_along at_most values) e ∙ stays band values h.1

  -- a run leaves the bounds
  bounds_stay : (band : Band K) (values : List K) → band_along at_most values band ≡ in_zone band (band_along at_most values band).zone
  bounds_stay band [] = refl
  bounds_stay band (value ∷ values) = bounds_stay (band_after at_most value band) values

  -- a value that brings one zone from every other decides
  decides : (band : Band K) (before : List K) (value : K) (after : List K) (zone : Zone) → ((z : Zone) → next_zone z (at_most band.upper value) (at_most value band.lower) ≡ zone) → AllBetween at_most band after → (band_along at_most (before ++ value ∷ after) band).zone ≡ zone
  decides band before value after zone h between =
      let z = (band_along at_most before band).zone in
      let one : band_after at_most value (band_along at_most before band) ≡ in_zone band zone =
      ap (band_after at_most value) (bounds_stay band before) ∙ ap (in_zone band) (h z) in
      ap (λ b. b.zone)
      (fold-append (λ b x. band_after at_most x b) band before (value ∷ after) ∙ (ap (band_along at_most after) one ∙ stays (in_zone band zone) after between))

  pub last_decides : LastDecides at_most
  last_decides =
      record {
        stays = stays;
        above = λ band before value after wide between h.
            let l : at_most value band.lower ≡ false = not_so _ (not_both at_most transitive band value wide h) in
            decides band before value after Above (λ z. (λ i. next_zone z (h i) (l i)) ∙ rise z) between;
        below = λ band before value after wide between l.
            let h : at_most band.upper value ≡ false = not_so _ (λ h. not_both at_most transitive band value wide h l) in
            decides band before value after Below (λ z. (λ i. next_zone z (h i) (l i)) ∙ fall z) between;
      }
