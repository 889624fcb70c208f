-- The text of a frame.
use Rattle.std.specs.Prelude.{ℕ, Bool, true, false, cond, ◌&&◌, List, [], ◌∷◌, ◌++◌, map, codes, decimal, nat_le, nat_lt}
use Rattle.std.proofs.Common.{to_z}
use Rattle.std.specs.Int.{w32}
use Rattle.std.specs.List.{flat_map}
use Rattle.secs.specs.Formats.{name_of}
use Rattle.secs.specs.Elements.{words}
use Rattle.secs.specs.declared.format.Format.{Format}
use Rattle.secs.specs.declared.format.Format.TheVariants as format
use Rattle.std.specs.Fmt.{signed_decimal}

-- stream and function, and W where a reply is wanted
abbrev pub headline : ℕ → ℕ → Bool → List ℕ
headline stream function true = codes "S" ++ (decimal stream ++ (codes "F" ++ (decimal function ++ codes " W")))
headline stream function false = codes "S" ++ (decimal stream ++ (codes "F" ++ decimal function))

-- each byte as a number after a space
abbrev pub bytes_text : List ℕ → List ℕ
bytes_text bs = flat_map (λ b. 32 ∷ decimal b) bs

-- four bytes as a number after a space; of an F4 its bits are shown
abbrev pub word_text : Format → ℕ → List ℕ
word_text format.List n = 32 ∷ decimal n
word_text format.Binary n = 32 ∷ decimal n
word_text format.Ascii n = 32 ∷ decimal n
word_text format.U1 n = 32 ∷ decimal n
word_text format.I4 n = 32 ∷ signed_decimal (to_z w32 n)
word_text format.F4 n = codes " bits " ++ decimal n
word_text format.U4 n = 32 ∷ decimal n

-- each four bytes so
abbrev pub words_text : Format → List ℕ → List ℕ
words_text f bs = flat_map (word_text f) (words bs)

-- a byte as a letter: one that no screen shows is a point
abbrev pub letter_of : ℕ → ℕ
letter_of b = cond (nat_le 32 b && nat_lt b 127) b 46

-- each byte as a letter
abbrev pub letters : List ℕ → List ℕ
letters bs = map letter_of bs

-- a text in quotes after a space
abbrev pub quoted : List ℕ → List ℕ
quoted bs = codes " \"" ++ (letters bs ++ codes "\"")

-- the elements of an item that is no list
abbrev pub elements_text : Format → List ℕ → List ℕ
elements_text format.List bs = []
elements_text format.Binary bs = bytes_text bs
elements_text format.Ascii bs = quoted bs
elements_text format.U1 bs = bytes_text bs
elements_text format.I4 bs = words_text format.I4 bs
elements_text format.F4 bs = words_text format.F4 bs
elements_text format.U4 bs = words_text format.U4 bs

-- an item that is no list
unfoldable pub value_text : Format → List ℕ → List ℕ
value_text f bs = codes " <" ++ (name_of f ++ (elements_text f bs ++ codes ">"))

-- how a list begins
abbrev pub open_text : ℕ → List ℕ
open_text n = codes " <L [" ++ (decimal n ++ codes "]")

-- an item that cannot be read
abbrev pub fault_text : ℕ → List ℕ
fault_text at = codes " <fault " ++ (decimal at ++ codes ">")
