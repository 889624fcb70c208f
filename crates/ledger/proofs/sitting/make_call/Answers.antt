use Rattle.std.proofs.Common.{◌≡◌, ◌-◌, min, arith}
use Rattle.std.proofs.lemmas.List.{length-take}
use Rattle.ledger.proofs.Lending.{lent_left}
use Rattle.ledger.proofs.sitting.make_call.Goals as goal

pub returns : goal.returns
returns g c =
    let x = c.args in
    let k : c.min-lines.result - 0 ≡ min x.lent.ledger 32 = omega (arith, c.min-lines.ensures) in
    record {
      left = lent_left g.Q.Store g.S.Store x.lent x.equipment.now.fit c.carry_on-written.new.equipment.fit x.equipment.now.core c.carry_on-written.new.equipment.core x.page.now (c.min-lines.result - 0) c.carry_on-written.new.ledger c.carry_on-written.result
          c.carry_on-written.ensures.called.answered c.carry_on-written.ensures.called.fit (simp length-take (omega (arith, c.min-room.ensures))) k c.requires c.carry_on-written.auto.ledger;
    }
