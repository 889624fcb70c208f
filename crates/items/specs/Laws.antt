-- What is written is read back, and what is read is written back.
use Rattle.std.specs.Prelude.{◌≡◌, ℕ, ◌+◌, ◌-◌, ◌%◌, List, [], length, IfSome, IfOk, Ok, Option, Result, slice_index}
use Rattle.std.specs.List.{between}
use Rattle.secs.specs.declared.format.Format.{Format}
use Rattle.secs.specs.declared.format.Format.TheVariants as format
use Rattle.secs.specs.declared.item.Item.{Item}
use Rattle.secs.specs.declared.item.Fault.{Fault}
use Rattle.items.specs.Encode.{length_size, item_bytes}
use Rattle.items.specs.Decode.{reading, item_at}

-- a frame has some bytes at a place
abbrev pub Holds : List ℕ → ℕ → List ℕ → Type 0
Holds frame at bs = between at (at + length bs) frame ≡ bs

-- a list that was written into a buffer at a place is read there: its items begin at the place that the writer answered
abbrev pub ListBack : List ℕ → ℕ → ℕ → Option ℕ → Type 0
ListBack out at n answer = IfSome answer (λ next. item_at out at ≡ Ok (reading format.List next n [] next))

-- so is an item with a content, which ends at the place that the writer answered
abbrev pub ItemBack : List ℕ → ℕ → Format → List ℕ → Option ℕ → Type 0
ItemBack out at f content answer = IfSome answer (λ next. item_at out at ≡ Ok (reading f (next - length content) (length content) content next))

-- an item that was read with the fewest length bytes is in the frame as it would be written
abbrev pub ShortestBack : List ℕ → ℕ → Result Item Fault → Type 0
ShortestBack frame at answer = IfOk answer (λ i. slice_index frame at % 4 ≡ length_size i.length → Holds frame at (item_bytes i.format i.length i.content.now))
