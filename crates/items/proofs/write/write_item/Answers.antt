use Rattle.std.proofs.Common.{arith}
use Rattle.std.proofs.lemmas.Grind.{common_steps}
use Rattle.items.proofs.Decoding.{value_back}
use Rattle.items.proofs.write.write_item.Goals as goal

pub returns-clause-back : goal.returns-clause-back
returns-clause-back c = value_back c.args.out.now c.args.at c.args.format c.args.content.now c.write_parts.result c.write_parts.new.out (grind (arith, common_steps)) (grind (arith, common_steps))
