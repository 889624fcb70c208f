use Rattle.std.proofs.Common.{refl}
use Rattle.blocks.proofs.Backward.{reads_back, written_only}
use Rattle.blocks.proofs.Rise.{by_number_lem}
use Rattle.blocks.proofs.laws.blocks_stand.Goals as goal

pub returns : goal.returns
returns c = record { value = refl; reads = reads_back; only = written_only; rises = by_number_lem }
