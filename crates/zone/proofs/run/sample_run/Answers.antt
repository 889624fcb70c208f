use Rattle.zone.proofs.Runs.{last_decides}
use Rattle.zone.proofs.run.sample_run.Goals as goal

pub returns-clause-decides : goal.returns-clause-decides
returns-clause-decides g c = last_decides g.K.ValueKind.at_most g.met.K.ValueKind.transitive
