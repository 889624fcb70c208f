use Rattle.std.proofs.Common.{codes, arith}
use Rattle.octets.proofs.Writing.{none_written, then_written, last_written}
use Rattle.items.specs.Encode.{list_bytes, value_bytes}
use Rattle.secs.specs.declared.format.Format.TheVariants.{Ascii}
use Rattle.bodies.proofs.write.write_identity.Goals as goal

pub returns-clause-after : goal.returns-clause-after
returns-clause-after c =
    let b1 = value_bytes Ascii (codes "BENCH1") in
    let b2 = value_bytes Ascii (codes "000001") in
    let w0 = then_written _ _ _ (list_bytes 2) _ _ _ _ (none_written c.args.out.now c.args.at) (omega arith) c.in_ok-at.ensures.place c.in_ok-at.ensures.after in
    let w1 = then_written _ _ _ b1 _ _ _ _ w0 (omega arith) c.in_ok-at-2.ensures.place c.in_ok-at-2.ensures.after in
    (last_written _ _ _ b2 _ _ _ _ w1 (omega arith) c.write_ascii-2.ensures.place c.write_ascii-2.ensures.after).1
