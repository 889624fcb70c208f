-- The bounds of every band stay in order.
use Rattle.std.proofs.Common.{Bool, List, Some, None, Ok, Err, Option, Result}
use lib.Signed.{le_z}
use Rattle.std.specs.List.{AllByRecursion}
use Rattle.std.proofs.ByRecursion.{All-map, All-weaker}
use Rattle.kinds.specs.Reals.{real_at_most}
use Rattle.zone.specs.declared.band.Band.{Band}
use Rattle.zone.specs.declared.variable.Sample.{Sample}
use Rattle.zone.specs.declared.variable.SampleFault.{SampleFault}
use Rattle.zone.specs.declared.variable.Variable.{Variable}
use Rattle.zone.specs.declared.variable.Variable.TheVariants as variable
use Rattle.zone.specs.Zones.{place_after}
use Rattle.zone.specs.Laws.{Ordered}
use Rattle.zone.specs.Variables.{whole_value, real_value, moved_by, sample_after, AllOrdered}

module _ {K : Type 0} (at_most : K → K → Bool) where
  -- a value leaves the bounds
  after_ordered : (value : K) (place : Option (Band K)) → Ordered at_most place → Ordered at_most (place_after at_most value place)
  after_ordered value None h = h
  after_ordered value (Some band) h = h

  moved_ordered : (value : Result K SampleFault) (places : List (Option (Band K))) → AllByRecursion (Ordered at_most) places → AllByRecursion (Ordered at_most) (moved_by at_most value places)
  moved_ordered (Err fault) places h = h
  moved_ordered (Ok value) places h =
      All-map (Ordered at_most) (place_after at_most value) places (All-weaker (Ordered at_most) _ (after_ordered value) places h)

pub sample_ordered : (v : Variable) (given : Sample) → AllOrdered v → AllOrdered (sample_after v given)
sample_ordered (variable.Whole bands) given h = moved_ordered le_z (whole_value given) bands.places h
sample_ordered (variable.Real bands) given h = moved_ordered real_at_most (real_value given) bands.places h
