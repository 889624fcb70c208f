-- What a content has to be: whole elements, and numbers where they are F4.
use Rattle.std.specs.Prelude.{ℕ, ◌+◌, ◌*◌, ◌%◌, Bool, true, false, cond, not, ◌&&◌, List, [], ◌∷◌, length, Some, None, Ok, Err, Option, Result, ◌==◌, nat_lt}
use Rattle.std.specs.List.{list_all}
use Rattle.secs.specs.Formats.{width_of}
use Rattle.secs.specs.declared.format.Format.{Format}
use Rattle.secs.specs.declared.format.Format.TheVariants as format
use Rattle.secs.specs.declared.item.Fault.{Fault}
use Rattle.secs.specs.declared.item.Fault.TheVariants.{Uneven, NotNumber}

-- whether 32 bits are those of an F4 that is no number: the sign aside, above the infinity
abbrev pub is_nan : ℕ → Bool
is_nan bits = nat_lt 0x7f80_0000 (bits % 0x8000_0000)

-- the numbers that each four bytes are, the highest byte first
abbrev pub words : List ℕ → List ℕ
words [] = []
words (a ∷ []) = []
words (a ∷ (b ∷ [])) = []
words (a ∷ (b ∷ (c ∷ []))) = []
words (a ∷ (b ∷ (c ∷ (d ∷ xs)))) = (a * 16777216 + b * 65536 + c * 256 + d) ∷ words xs

-- whether each four bytes are a number
abbrev pub all_numbers : List ℕ → Bool
all_numbers content = list_all (λ bits. not (is_nan bits)) (words content)

-- whether a format's elements are numbers that may fail to be one
abbrev pub is_f4 : Format → Bool
is_f4 format.List = false
is_f4 format.Binary = false
is_f4 format.Ascii = false
is_f4 format.U1 = false
is_f4 format.I4 = false
is_f4 format.F4 = true
is_f4 format.U4 = false

-- whether a format is that of lists
abbrev pub is_list : Format → Bool
is_list format.List = true
is_list format.Binary = false
is_list format.Ascii = false
is_list format.U1 = false
is_list format.I4 = false
is_list format.F4 = false
is_list format.U4 = false

-- the fault of a content of a format, if it has one
abbrev pub content_fault : Format → List ℕ → Option Fault
content_fault f content =
    cond (length content % width_of f == 0)
    (cond (is_f4 f && not (all_numbers content)) (Some NotNumber) None)
    (Some Uneven)

-- what the check of a content answers
abbrev pub passes : Option Fault → Result (Unit {0}) Fault
passes None = Ok tt
passes (Some fault) = Err fault

abbrev pub checked : Format → List ℕ → Result (Unit {0}) Fault
checked f content = passes (content_fault f content)
