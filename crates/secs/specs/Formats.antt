-- The formats of items.
use Rattle.std.specs.Prelude.{◌≡◌, ℕ, cond, List, [], ◌∷◌, map, Some, codes, Option, Result, ◌==◌}
use Rattle.std.specs.List.{find}
use Rattle.std.specs.Option.{ok_or}
use Rattle.secs.specs.declared.format.Format.{Format}
use Rattle.secs.specs.declared.format.Format.TheVariants as format
use Rattle.secs.specs.declared.item.Fault.{Fault}
use Rattle.secs.specs.declared.item.Fault.TheVariants.{UnknownFormat}

-- the code of each format
abbrev pub code_of : Format → ℕ
code_of format.List = 0
code_of format.Binary = 8
code_of format.Ascii = 16
code_of format.U1 = 41
code_of format.I4 = 28
code_of format.F4 = 36
code_of format.U4 = 44

-- the bytes of one element of each format; a list counts items, so its width is 1
abbrev pub width_of : Format → ℕ
width_of format.List = 1
width_of format.Binary = 1
width_of format.Ascii = 1
width_of format.U1 = 1
width_of format.I4 = 4
width_of format.F4 = 4
width_of format.U4 = 4

-- the name of each format in SML
abbrev pub name_of : Format → List ℕ
name_of format.List = codes "L"
name_of format.Binary = codes "B"
name_of format.Ascii = codes "A"
name_of format.U1 = codes "U1"
name_of format.I4 = codes "I4"
name_of format.F4 = codes "F4"
name_of format.U4 = codes "U4"

-- every format, in the order of the table
abbrev pub every_format : List Format
every_format = format.List ∷ format.Binary ∷ format.Ascii ∷ format.U1 ∷ format.I4 ∷ format.F4 ∷ format.U4 ∷ []

-- the line of a format in the table: its code and its width
abbrev pub line : Format → ℕ × ℕ
line f = (code_of f, width_of f)

-- the table: the lines of every format
abbrev pub table : List (ℕ × ℕ)
table = map line every_format

-- the format of a code
abbrev pub format_of : ℕ → Option Format
format_of code = find (λ f. code_of f == code) every_format

-- what decoding a code answers: its format, or the fault that it has none
abbrev pub decoded : ℕ → Result Format Fault
decoded code = ok_or (format_of code) UnknownFormat

-- the format found by a code has that code
abbrev pub FoundByCode : Type 0
FoundByCode = (code : ℕ) (f : Format) → format_of code ≡ Some f → code_of f ≡ code

-- the code of a format finds that format
abbrev pub CodeFound : Type 0
CodeFound = (f : Format) → format_of (code_of f) ≡ Some f
