use Rattle.ledger.proofs.Making.{Making, beginning_of}
use Rattle.ledger.proofs.sitting.run.Given as goal

abbrev pub invariant-loop-made : goal.invariant-loop-made
invariant-loop-made g l =
    Making g.Q.Store g.S.Store (beginning_of g.Q.Store g.S.Store l.initial.equipment.core) l.calls l.made l.initial.ledger l.made l.used l.equipment.fit l.equipment.core l.ledger
