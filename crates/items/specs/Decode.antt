-- The item that stands at a place of a frame.
use Rattle.std.specs.Prelude.{◌≡◌, ℕ, ◌+◌, ◌-◌, ◌*◌, ◌/◌, ◌%◌, ◌≤◌, false, cond, List, [], length, Some, None, Ok, Err, Option, Result, ◌==◌, nat_le, nat_lt, slice_index}
use Rattle.std.specs.List.{between}
use Rattle.secs.specs.Formats.{format_of}
use Rattle.secs.specs.Elements.{is_list, content_fault}
use Rattle.secs.specs.declared.format.Format.{Format}
use Rattle.secs.specs.declared.item.Item.{Item}
use Rattle.secs.specs.declared.item.Fault.{Fault}
use Rattle.secs.specs.declared.item.Fault.TheVariants.{NoLength, UnknownFormat, PastEnd}

-- an item as it is read: its format, where its content begins, its length, its content and the place after it
pub record Reading : Type 0 where
  pub format : Format
  pub begin : ℕ
  pub size : ℕ
  pub content : List ℕ
  pub next : ℕ

abbrev pub reading : Format → ℕ → ℕ → List ℕ → ℕ → Reading
reading f begin n content next = record { format = f; begin = begin; size = n; content = content; next = next }

-- the length that k bytes from a place on hold, the highest byte first
abbrev pub length_at : ℕ → List ℕ → ℕ → ℕ
length_at k frame at =
    cond (k == 1) (slice_index frame at)
    (cond (k == 2) (slice_index frame at * 256 + slice_index frame (at + 1))
    (slice_index frame at * 65536 + slice_index frame (at + 1) * 256 + slice_index frame (at + 2)))

-- an item with a content: the content's fault, or the item
abbrev pub judged : Format → ℕ → ℕ → List ℕ → Option Fault → Result Reading Fault
judged f begin n content None = Ok (reading f begin n content (begin + n))
judged f begin n content (Some fault) = Err fault

-- an item of a known format and length whose content begins at a place: a list ends there, before its first item
abbrev pub content_at : List ℕ → Format → ℕ → ℕ → Result Reading Fault
content_at frame f begin n =
    cond (is_list f) (Ok (reading f begin n [] begin))
    (cond (nat_lt (length frame - begin) n) (Err PastEnd)
    (judged f begin n (between begin (begin + n) frame) (content_fault f (between begin (begin + n) frame))))

-- an item at a place, with k length bytes, of a format that is known or not
abbrev pub format_at : List ℕ → ℕ → ℕ → Option Format → Result Reading Fault
format_at frame at k None = Err UnknownFormat
format_at frame at k (Some f) = cond (nat_le (length frame - at) k) (Err PastEnd) (content_at frame f (at + 1 + k) (length_at k frame (at + 1)))

-- the item at a place: the first of its faults, or the item
abbrev pub item_at : List ℕ → ℕ → Result Reading Fault
item_at frame at =
    cond (nat_le (length frame) at) (Err PastEnd)
    (cond (slice_index frame at % 4 == 0) (Err NoLength)
    (format_at frame at (slice_index frame at % 4) (format_of (slice_index frame at / 4))))

-- what the reader gave
abbrev pub seen : Result Item Fault → Result Reading Fault
seen (Ok i) = Ok (reading i.format i.begin i.length i.content.now i.next)
seen (Err fault) = Err fault

-- an item's content lies in the frame, and is as long as the item says unless it is a list
pub record Within (i : Item) (frame : List ℕ) : Type 0 where
  pub inside : i.begin + length i.content.now ≤ length frame
  pub long : is_list i.format ≡ false → length i.content.now ≡ i.length
