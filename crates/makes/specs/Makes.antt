-- A store of either make.
use Rattle.std.specs.Prelude.{ℕ, List, vec_len}
use Rattle.blocks.specs.Stores as blocks
use Rattle.store.specs.Reports.{Report}
use Rattle.store.specs.Rings as rings
use Rattle.makes.specs.declared.choice.AnyStore.{AnyStore}
use Rattle.makes.specs.declared.choice.AnyStore.TheVariants as make

-- the reports that it holds, oldest first
abbrev pub held_by : AnyStore → List Report
held_by (make.Slots s) = rings.reports_of s
held_by (make.Blocks s) = blocks.reports_of s

-- its capacity
abbrev pub limit_of : AnyStore → ℕ
limit_of (make.Slots s) = vec_len s.slots
limit_of (make.Blocks s) = s.blocks
