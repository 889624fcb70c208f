use Rattle.std.proofs.Common.{arith}
use Rattle.octets.specs.Big.{be4}
use Rattle.octets.proofs.Writing.{none_written, then_written, last_written}
use Rattle.items.specs.Encode.{list_bytes, value_bytes}
use Rattle.secs.specs.declared.format.Format.TheVariants.{U4}
use Rattle.bodies.proofs.write.write_event.Goals as goal

pub returns-clause-after : goal.returns-clause-after
returns-clause-after c =
    let b1 = value_bytes U4 (be4 c.args.report) in
    let b2 = value_bytes U4 (be4 c.args.event) in
    let w0 = then_written _ _ _ (list_bytes 3) _ _ _ _ (none_written c.args.out.now 0) (omega arith) c.in_ok-at.ensures.place c.in_ok-at.ensures.after in
    let w1 = then_written _ _ _ b1 _ _ _ _ w0 (omega arith) c.in_ok-at-2.ensures.place c.in_ok-at-2.ensures.after in
    let w2 = then_written _ _ _ b2 _ _ _ _ w1 (omega arith) c.in_ok-at-3.ensures.place c.in_ok-at-3.ensures.after in
    (last_written _ _ _ (list_bytes 0) _ _ _ _ w2 (omega arith) c.write_list-2.ensures.place c.write_list-2.ensures.after).1
