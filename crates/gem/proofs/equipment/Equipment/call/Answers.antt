use Rattle.std.proofs.Common.{length, ◌∙◌}
use Rattle.rules.specs.declared.state.Effects.{Effects}
use Rattle.gem.specs.Calls.{found}
use Rattle.gem.proofs.Calling.{call_answered}
use Rattle.gem.proofs.Ending.{call_ends, call_refused}
use Rattle.gem.proofs.equipment.Equipment.call.Goals as goal

pub returns-clause-called : goal.returns-clause-called
returns-clause-called g c =
    let a = c.args in
    let e : Effects = record { journal = c.new.result; outbox = c.new-2.result } in
    record {
      answered =
          call_answered g.Q.Store g.S.Store a.self.now.fit a.call a.out.now c.write_to.new.out a.ledger.now c.copy_to.new.ledger a.self.now.core c.act.new.self.core e c.act.new.effects
          c.new.ensures c.new-2.ensures
          c.answer-code.result (c.answer-code.ensures ∙ c.act.ensures.answer) c.act.ensures.after
          c.write_to.result c.write_to.ensures.answer c.write_to.ensures.after c.unwrap_or-bytes.result c.unwrap_or-bytes.ensures
          c.copy_to.result c.copy_to.ensures.answer c.copy_to.ensures.after c.unwrap_or-lines.result c.unwrap_or-lines.ensures;
      fit = c.act.ensures.fit;
    }

pub returns-clause-ended : goal.returns-clause-ended
returns-clause-ended g c =
    call_ends c.args.self.now.fit (length c.args.out.now) (length c.args.ledger.now) c.args.call (found g.Q.Store g.S.Store c.args.self.now.core)

pub returns-clause-refused : goal.returns-clause-refused
returns-clause-refused g c =
    call_refused g.Q.Store g.S.Store c.args.self.now.core c.act.new.self.core c.args.out.now c.write_to.new.out c.args.ledger.now c.copy_to.new.ledger
    c.args.self.now.fit c.args.call (c.answer-code.result.0, c.answer-code.result.1, c.unwrap_or-bytes.result, c.unwrap_or-lines.result)
    (returns-clause-called g c).answered
