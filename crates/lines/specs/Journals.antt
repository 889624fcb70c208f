-- The lines of one call.
use Rattle.std.specs.Prelude.{ℕ, cond, List, [], ◌∷◌, ◌++◌, length, take, drop, nat_lt}
use Rattle.lines.specs.declared.line.Letter.{Letter}
use Rattle.lines.specs.declared.line.Line.{Line}
use Rattle.lines.specs.declared.journal.Journal.{Journal}

-- the lines that a journal holds, in the order in which they came
abbrev pub lines_of : Journal → List Line
lines_of j = take j.used j.lines

-- one line more; a journal has room for 32, and what comes after that is not kept
abbrev pub noted : Letter → ℕ → List Line → List Line
noted letter number lines = cond (nat_lt (length lines) 32) (lines ++ (record { letter = letter; number = number } ∷ [])) lines

-- a ledger whose first lines are these
abbrev pub on_ledger : List Line → List Line → List Line
on_ledger lines ledger = lines ++ drop (length lines) ledger
