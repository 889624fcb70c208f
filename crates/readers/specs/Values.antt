-- Items of which the format and the length are known beforehand, and the values that they hold.
use Rattle.std.specs.Prelude.{ℕ, cond, List, ℤ, Ok, Err, Result, ◌==◌, slice_index}
use Rattle.std.proofs.Common.{to_z}
use Rattle.std.specs.Int.{w32}
use Rattle.std.specs.Borrow.{Bor}
use Rattle.octets.specs.Big.{num4}
use Rattle.secs.specs.declared.format.Format.{Format}
use Rattle.secs.specs.declared.format.Format.TheVariants as format
use Rattle.secs.specs.declared.item.Item.{Item}
use Rattle.secs.specs.declared.item.Fault.{Fault}
use Rattle.secs.specs.Formats.{code_of}
use Rattle.items.specs.Decode.{Reading, reading, item_at}
use Rattle.readers.specs.declared.mismatch.Mismatch.{Mismatch}
use Rattle.readers.specs.declared.mismatch.Mismatch.TheVariants.{Faulty, Unexpected}

-- what was read, if it has a format
abbrev pub of_format : Format → Result Reading Fault → Result Reading Mismatch
of_format f (Ok r) = cond (code_of r.format == code_of f) (Ok r) (Err Unexpected)
of_format f (Err fault) = Err (Faulty fault)

-- what was read, if it has a length
abbrev pub of_length : ℕ → Result Reading Mismatch → Result Reading Mismatch
of_length n (Ok r) = cond (r.size == n) (Ok r) (Err Unexpected)
of_length n (Err e) = Err e

-- a value made from what was read, with the place after it
abbrev pub valued : {A : Type 0} → (List ℕ → A) → Result Reading Mismatch → Result (A × ℕ) Mismatch
valued make (Ok r) = Ok (make r.content, r.next)
valued make (Err e) = Err e

-- the item at a place, of a format
abbrev pub format_at : List ℕ → ℕ → Format → Result Reading Mismatch
format_at frame at f = of_format f (item_at frame at)

-- the item at a place, of a format and a length
abbrev pub expected_at : List ℕ → ℕ → Format → ℕ → Result Reading Mismatch
expected_at frame at f n = of_length n (format_at frame at f)

-- the place after what was read
abbrev pub next_of : Result Reading Mismatch → Result ℕ Mismatch
next_of (Ok r) = Ok r.next
next_of (Err e) = Err e

-- the place of the first item of a list of n items at a place
abbrev pub list_at : List ℕ → ℕ → ℕ → Result ℕ Mismatch
list_at frame at n = next_of (expected_at frame at format.List n)

-- the one number of an item of a format, whose elements have n bytes
abbrev pub value_at : {A : Type 0} → Format → ℕ → (List ℕ → A) → List ℕ → ℕ → Result (A × ℕ) Mismatch
value_at f n make frame at = valued make (expected_at frame at f n)

-- the one byte of a B, the one number of a U1
abbrev pub byte_at : Format → List ℕ → ℕ → Result (ℕ × ℕ) Mismatch
byte_at f = value_at f 1 (λ bs. slice_index bs 0)

-- the one number of a U4, or the bits of the one number of an F4
abbrev pub word_at : Format → List ℕ → ℕ → Result (ℕ × ℕ) Mismatch
word_at f = value_at f 4 (λ bs. num4 bs 0)

-- the one number of an I4
abbrev pub signed_at : List ℕ → ℕ → Result (ℤ × ℕ) Mismatch
signed_at = value_at format.I4 4 (λ bs. to_z w32 (num4 bs 0))

-- the text of an A
abbrev pub text_at : List ℕ → ℕ → Result (List ℕ × ℕ) Mismatch
text_at frame at = valued (λ bs. bs) (format_at frame at format.Ascii)

-- what the readers of items gave
abbrev pub seen_item : Result Item Mismatch → Result Reading Mismatch
seen_item (Ok i) = Ok (reading i.format i.begin i.length i.content.now i.next)
seen_item (Err e) = Err e

-- what the reader of a text gave
abbrev pub seen_text : Result (Bor (List ℕ) × ℕ) Mismatch → Result (List ℕ × ℕ) Mismatch
seen_text (Ok t) = Ok (t.0.now, t.1)
seen_text (Err e) = Err e
