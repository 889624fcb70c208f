use Rattle.std.proofs.Common.{◌≡◌, take}
use Rattle.zone.specs.Runs.{band_along}
use Rattle.zone.proofs.run.sample_run.Given as goal

abbrev pub invariant-loop-value : goal.invariant-loop-value
invariant-loop-value g l = l.band ≡ band_along g.K.ValueKind.at_most (take l.value-index l.values) l.initial.band
