use Rattle.std.proofs.Common.{arith}
use Rattle.std.proofs.lemmas.Grind.{common_steps}
use Rattle.items.proofs.Rewriting.{shortest_back}
use Rattle.items.proofs.read.read_item.Goals as goal

pub returns-clause-shortest : goal.returns-clause-shortest
returns-clause-shortest c = shortest_back c.args.frame.now c.args.at c.read_content.result (λ i. (c.type_inv.frame i).fits) (grind (arith, common_steps))
