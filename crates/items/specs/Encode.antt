-- The bytes of an item: format byte, length, content.
use Rattle.std.specs.Prelude.{ℕ, ◌+◌, ◌*◌, ◌/◌, ◌%◌, Bool, cond, not, ◌&&◌, List, [], ◌∷◌, ◌++◌, length, is_some, Some, None, Option, nat_le, nat_lt}
use Rattle.octets.specs.Places.{placed}
use Rattle.secs.specs.Formats.{code_of}
use Rattle.secs.specs.Elements.{is_list, content_fault}
use Rattle.secs.specs.declared.format.Format.{Format}
use Rattle.secs.specs.declared.format.Format.TheVariants as format

-- the greatest length of an item: three length bytes
abbrev pub longest : ℕ
longest = 16777215

-- how many bytes a length takes at least
abbrev pub length_size : ℕ → ℕ
length_size n = cond (nat_lt n 256) 1 (cond (nat_lt n 65536) 2 3)

-- a length in the fewest bytes
abbrev pub length_bytes : ℕ → List ℕ
length_bytes n = cond (nat_lt n 256) (n ∷ []) (cond (nat_lt n 65536) ((n / 256) ∷ (n % 256) ∷ []) ((n / 65536) ∷ (n / 256 % 256) ∷ (n % 256) ∷ []))

-- the format byte, which is the code times 4 plus the number of length bytes, and the length
abbrev pub head_bytes : Format → ℕ → List ℕ
head_bytes f n = (code_of f * 4 + length_size n) ∷ length_bytes n

-- an item of a format with a length and a content; a list has no content of its own
abbrev pub item_bytes : Format → ℕ → List ℕ → List ℕ
item_bytes f n content = head_bytes f n ++ content

-- the place after bytes that are written at a place, where they fit
abbrev pub place_after : Bool → ℕ → List ℕ → Option ℕ
place_after fits at bs = cond fits (Some (at + length bs)) None

-- whether an item of a length, which bs are the bytes of, can be written into a buffer at a place
abbrev pub fits_at : List ℕ → ℕ → ℕ → List ℕ → Bool
fits_at out at n bs = nat_le n longest && nat_le (at + length bs) (length out)

-- the bytes of a list of n items, up to its first item
abbrev pub list_bytes : ℕ → List ℕ
list_bytes n = item_bytes format.List n []

-- an item of a format with a content
abbrev pub value_bytes : Format → List ℕ → List ℕ
value_bytes f content = item_bytes f (length content) content

-- whether a content can be that of an item of a format other than a list
abbrev pub writable : Format → List ℕ → Bool
writable f content = not (is_list f) && not (is_some (content_fault f content))

-- whether an item of a format with a content can be written into a buffer at a place
abbrev pub item_fits : List ℕ → ℕ → Format → List ℕ → Bool
item_fits out at f content = writable f content && fits_at out at (length content) (value_bytes f content)

-- the place after an item that is written into a buffer at a place; none where it is refused
abbrev pub item_end : List ℕ → ℕ → Format → List ℕ → Option ℕ
item_end out at f content = place_after (item_fits out at f content) at (value_bytes f content)

-- the buffer after that
abbrev pub item_written : List ℕ → ℕ → Format → List ℕ → List ℕ
item_written out at f content = cond (item_fits out at f content) (placed out at (value_bytes f content)) out

-- the place of the first item of a list that is written into a buffer at a place; none where it is refused
abbrev pub list_end : List ℕ → ℕ → ℕ → Option ℕ
list_end out at n = place_after (fits_at out at n (list_bytes n)) at (list_bytes n)

-- the buffer after that
abbrev pub list_written : List ℕ → ℕ → ℕ → List ℕ
list_written out at n = cond (fits_at out at n (list_bytes n)) (placed out at (list_bytes n)) out
