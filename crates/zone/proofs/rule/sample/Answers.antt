use Rattle.std.proofs.Common.{sym, subst}
use Rattle.zone.specs.Laws.{AllSettle}
use Rattle.zone.proofs.Laws.{all_settle}
use Rattle.zone.proofs.rule.sample.Goals as goal

pub returns-clause-settles : goal.returns-clause-settles
returns-clause-settles g c =
    subst (AllSettle g.K.ValueKind.at_most c.args.value.now) (sym c.sample_places.ensures.after)
    (all_settle g.K.ValueKind.at_most g.met.K.ValueKind.transitive c.args.value.now c.args.places.now)
