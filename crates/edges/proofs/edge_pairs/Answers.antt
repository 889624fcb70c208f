use Rattle.std.proofs.Common.{refl}
use Rattle.edges.proofs.Pairs.{pairs}
use Rattle.edges.proofs.edge_pairs.Goals as goal

pub returns : goal.returns
returns c = record { value = refl; pairs = pairs }
