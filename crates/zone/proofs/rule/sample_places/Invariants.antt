use Rattle.std.proofs.Common.{◌≡◌, ◌++◌, map, take, drop}
use Rattle.std.specs.List.{list_any}
use Rattle.zone.specs.Zones.{place_after, place_moves}
use Rattle.zone.proofs.rule.sample_places.Given as goal

abbrev pub invariant-loop-place : goal.invariant-loop-place
invariant-loop-place g l =
    (l.places ≡ map (place_after g.K.ValueKind.at_most l.value) (take l.place-index l.initial.places) ++ drop l.place-index l.initial.places)
    × (l.moved ≡ list_any (place_moves g.K.ValueKind.at_most l.value) (take l.place-index l.initial.places))
