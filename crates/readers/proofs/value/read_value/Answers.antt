use Rattle.std.proofs.Common.{arith}
use Rattle.std.proofs.lemmas.Grind.{common_steps}
use Rattle.readers.proofs.value.read_value.Goals as goal

pub returns-in_err-value : goal.returns-in_err-value
returns-in_err-value g c =
    let no_list = g.S.Scalar.no_list in
    grind (arith, common_steps)

pub returns : goal.returns
returns g c =
    let no_list = g.S.Scalar.no_list in
    grind (arith, common_steps)
