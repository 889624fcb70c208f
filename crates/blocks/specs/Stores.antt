-- What a block store holds.
use Rattle.std.specs.Prelude.{ℕ, List, vec_items}
use Rattle.store.specs.Reports.{Report}
use Rattle.blocks.specs.Blocks.{held_in}
use Rattle.blocks.specs.declared.block_store.BlockStore.{BlockStore}

-- its bytes
abbrev pub bytes_of : BlockStore → List ℕ
bytes_of s = vec_items s.bytes

-- its reports, oldest first
abbrev pub reports_of : BlockStore → List Report
reports_of s = held_in s.blocks (vec_items s.bytes)
