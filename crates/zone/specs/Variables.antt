-- Variables, the samples and the bounds that they are given.
use Rattle.std.specs.Prelude.{ℕ, Bool, List, replicate, ℤ, Some, None, Ok, Err, Option, Result, int_le}
use Rattle.std.specs.Option.{ok_or}
use Rattle.std.specs.List.{AllByRecursion}
use Rattle.kinds.specs.declared.real.Real as real
use Rattle.zone.specs.declared.band.Band.{Band}
use Rattle.zone.specs.declared.rule.Zone.{Zone}
use Rattle.zone.specs.declared.places.BandRefusal.{BandRefusal}
use Rattle.zone.specs.declared.places.BandRefusal.TheVariants as refusal
use Rattle.zone.specs.declared.variable.Kind.{Kind}
use Rattle.zone.specs.declared.variable.Kind.TheVariants as kind
use Rattle.zone.specs.declared.variable.Sample.{Sample}
use Rattle.zone.specs.declared.variable.Sample.TheVariants as sample
use Rattle.zone.specs.declared.variable.Bounds.{Bounds}
use Rattle.zone.specs.declared.variable.Bounds.TheVariants as bounds
use Rattle.zone.specs.declared.variable.Variable.{Variable}
use Rattle.zone.specs.declared.variable.Variable.TheVariants as variable
use Rattle.zone.specs.declared.variable.SampleFault.{SampleFault}
use Rattle.zone.specs.declared.variable.SampleFault.TheVariants.{OtherKind, NotANumber}
use Rattle.kinds.specs.Reals.{real_of, real_at_most}
use Rattle.zone.specs.Zones.{band_made, bands_after, any_moves}
use Rattle.zone.specs.Laws.{Ordered}
use Rattle.zone.specs.Places.{add_answer, add_after, zone_at}

-- the code of each refusal of a sample
abbrev pub sample_fault_code : SampleFault → ℕ
sample_fault_code OtherKind = 6
sample_fault_code NotANumber = 7

-- a variable of a kind, without bands
abbrev pub empty_of : Kind → Variable
empty_of kind.Whole = variable.Whole (record { places = replicate 7 None })
empty_of kind.Real = variable.Real (record { places = replicate 7 None })

-- the kind of a variable
abbrev pub kind_of : Variable → Kind
kind_of (variable.Whole bands) = kind.Whole
kind_of (variable.Real bands) = kind.Real

-- the band that bounds make of a whole variable
abbrev pub whole_band : Bounds → Result (Band ℤ) BandRefusal
whole_band (bounds.Whole lower upper) = ok_or (band_made int_le lower upper) refusal.Bounds
whole_band (bounds.Real lower upper) = Err refusal.Bounds

-- the band between two real values, where both are there
abbrev pub band_between : Option real.Real → Option real.Real → Option (Band real.Real)
band_between None upper = None
band_between (Some lower) None = None
band_between (Some lower) (Some upper) = band_made real_at_most lower upper

-- the band that bounds make of a real variable
abbrev pub real_band : Bounds → Result (Band real.Real) BandRefusal
real_band (bounds.Whole lower upper) = Err refusal.Bounds
real_band (bounds.Real lower upper) = ok_or (band_between (real_of lower) (real_of upper)) refusal.Bounds

-- the answer to the adding of a band
abbrev pub band_answer : Variable → ℕ → Bounds → Result (Unit {0}) BandRefusal
band_answer (variable.Whole bands) number given = add_answer bands.places number (whole_band given)
band_answer (variable.Real bands) number given = add_answer bands.places number (real_band given)

-- the variable after it
abbrev pub with_band : Variable → ℕ → Bounds → Variable
with_band (variable.Whole bands) number given = variable.Whole (record { places = add_after bands.places number (whole_band given) })
with_band (variable.Real bands) number given = variable.Real (record { places = add_after bands.places number (real_band given) })

-- the value that a sample is to a whole variable
abbrev pub whole_value : Sample → Result ℤ SampleFault
whole_value (sample.Whole value) = Ok value
whole_value (sample.Real value) = Err OtherKind

-- the value that a sample is to a real variable
abbrev pub real_value : Sample → Result real.Real SampleFault
real_value (sample.Whole value) = Err OtherKind
real_value (sample.Real value) = ok_or (real_of value) NotANumber

-- whether a value moves a band of some, or the fault that there is no value
abbrev pub moves_any : {K : Type 0} → (K → K → Bool) → Result K SampleFault → List (Option (Band K)) → Result Bool SampleFault
moves_any at_most (Err fault) places = Err fault
moves_any at_most (Ok value) places = Ok (any_moves at_most value places)

-- bands after a value, or as they were where there is none
abbrev pub moved_by : {K : Type 0} → (K → K → Bool) → Result K SampleFault → List (Option (Band K)) → List (Option (Band K))
moved_by at_most (Err fault) places = places
moved_by at_most (Ok value) places = bands_after at_most value places

-- the answer to a sample
abbrev pub sample_answer : Variable → Sample → Result Bool SampleFault
sample_answer (variable.Whole bands) given = moves_any int_le (whole_value given) bands.places
sample_answer (variable.Real bands) given = moves_any real_at_most (real_value given) bands.places

-- the variable after it
abbrev pub sample_after : Variable → Sample → Variable
sample_after (variable.Whole bands) given = variable.Whole (record { places = moved_by int_le (whole_value given) bands.places })
sample_after (variable.Real bands) given = variable.Real (record { places = moved_by real_at_most (real_value given) bands.places })

-- the zone of a variable's band of a number
abbrev pub zone_of : Variable → ℕ → Option Zone
zone_of (variable.Whole bands) number = zone_at bands.places number
zone_of (variable.Real bands) number = zone_at bands.places number

-- every band of a variable has its lower bound at most at its upper one
abbrev pub AllOrdered : Variable → Type 0
AllOrdered (variable.Whole bands) = AllByRecursion (Ordered int_le) bands.places
AllOrdered (variable.Real bands) = AllByRecursion (Ordered real_at_most) bands.places
