use Rattle.gem.specs.declared.equipment.LentCall.{LentCall}
use Rattle.std.proofs.Common.{length}
use Rattle.ledger.proofs.Runs.{bytes_fit, carried_on, lines_fit}
use Rattle.ledger.proofs.sitting.carry_on.Goals as goal

pub returns : goal.returns
returns g c =
    let e = c.call.ensures in
    let x = c.args in
    let l : LentCall = record { call = x.call; out = length x.out.now; ledger = length x.ledger.now } in
    record {
      called = e.called;
      fits = (
        bytes_fit g.Q.Store g.S.Store x.equipment.now.fit l x.equipment.now.core c.call.new.self.core x.out.now c.call.new.out x.ledger.now c.call.new.ledger c.call.result e.called.answered c.call.auto.out,
        lines_fit g.Q.Store g.S.Store x.equipment.now.fit l x.equipment.now.core c.call.new.self.core x.out.now c.call.new.out x.ledger.now c.call.new.ledger c.call.result e.called.answered c.call.auto.ledger,
      );
      carried = λ b calls o. carried_on g.Q.Store g.S.Store x.equipment.now.fit l x.equipment.now.core c.call.new.self.core x.out.now c.call.new.out x.ledger.now c.call.new.ledger c.call.result e.called.answered c.call.new.self.fit e.called.fit b calls o;
    }
