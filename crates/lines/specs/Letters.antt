-- The letters of the ledger.
use Rattle.std.specs.Prelude.{ℕ, Bool, true, false, List, ◌∷◌, decimal}
use Rattle.lines.specs.declared.line.Letter.{Letter}
use Rattle.lines.specs.declared.line.Line.{Line}
use Rattle.lines.specs.declared.line.Letter.TheVariants.{Made, Acknowledged, SpoolAcknowledged, Dropped, Overwritten, Purged, TurnedAway}

-- the character of each letter: M, A, B, D, O, P, T
abbrev pub character_of : Letter → ℕ
character_of Made = 77
character_of Acknowledged = 65
character_of SpoolAcknowledged = 66
character_of Dropped = 68
character_of Overwritten = 79
character_of Purged = 80
character_of TurnedAway = 84

-- whether a line of this letter ends its report
abbrev pub is_end : Letter → Bool
is_end Made = false
is_end Acknowledged = true
is_end SpoolAcknowledged = true
is_end Dropped = true
is_end Overwritten = true
is_end Purged = true
is_end TurnedAway = true

-- a line as a ledger shows it: the letter, a space, the report number
abbrev pub line_text : Line → List ℕ
line_text line = character_of line.letter ∷ 32 ∷ decimal line.number
