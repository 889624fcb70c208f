use Rattle.std.proofs.Common.{arith}
use Rattle.zone.proofs.Passes.{pass_more}
use Rattle.zone.specs.Zones.{place_after, place_moves}
use Rattle.zone.proofs.rule.sample_places.Goals as goal

pub loop-place-preserved : goal.loop-place-preserved
loop-place-preserved g c =
    pass_more (place_after g.K.ValueKind.at_most c.args.value.now) (place_moves g.K.ValueKind.at_most c.args.value.now) c.args.places.now c.loop-place.places
    c.loop-place.place-index c.place-item.result (omega arith) c.loop-place.invariant.0 c.place-item.is
    _ c.loop-place.moved c.sample_place-moved.result c.sample_place-moved.ensures.after c.sample_place-moved.ensures.moved c.loop-place.invariant.1
