-- Numbers of reports: on the lines of a ledger, and in the stores.
use Rattle.std.specs.Prelude.{◌≡◌, ℕ, zero, suc, ◌+◌, ◌<◌, Bool, true, false, cond, ◌⊎◌, List, [], ◌∷◌, ◌++◌, ◌==◌}
use Rattle.store.specs.Reports.{Report}
use Rattle.lines.specs.declared.line.Letter.{Letter}
use Rattle.lines.specs.declared.line.Letter.TheVariants.{Made, Acknowledged, SpoolAcknowledged, Dropped, Overwritten, Purged, TurnedAway}
use Rattle.lines.specs.declared.line.Line.{Line}

-- M: a line that makes its report
abbrev pub is_made : Letter → Bool
is_made Made = true
is_made Acknowledged = false
is_made SpoolAcknowledged = false
is_made Dropped = false
is_made Overwritten = false
is_made Purged = false
is_made TurnedAway = false

-- A or B: a line that acknowledges its report
abbrev pub is_acknowledged : Letter → Bool
is_acknowledged Made = false
is_acknowledged Acknowledged = true
is_acknowledged SpoolAcknowledged = true
is_acknowledged Dropped = false
is_acknowledged Overwritten = false
is_acknowledged Purged = false
is_acknowledged TurnedAway = false

-- B, O, P or T: a report that was directed to the spool left it, or was not taken
abbrev pub is_spool_end : Letter → Bool
is_spool_end Made = false
is_spool_end Acknowledged = false
is_spool_end SpoolAcknowledged = true
is_spool_end Dropped = false
is_spool_end Overwritten = true
is_spool_end Purged = true
is_spool_end TurnedAway = true

-- the numbers on the lines of some letters, in the order of the ledger
abbrev pub numbers_of : (Letter → Bool) → List Line → List ℕ
numbers_of is [] = []
numbers_of is (l ∷ ls) = cond (is l.letter) (l.number ∷ numbers_of is ls) (numbers_of is ls)

-- the numbers on all lines
abbrev pub named : List Line → List ℕ
named [] = []
named (l ∷ ls) = l.number ∷ named ls

-- the numbers of reports
abbrev pub numbers : List Report → List ℕ
numbers [] = []
numbers (r ∷ rs) = r.number ∷ numbers rs

-- 1, 2, 3 and so on, up to a number
abbrev pub up_to : ℕ → List ℕ
up_to zero = []
up_to (suc n) = up_to n ++ (suc n ∷ [])

-- a number is one of a list
abbrev pub In : ℕ → List ℕ → Type 0
In n [] = ⊥
In n (m ∷ ms) = (n ≡ m) ⊎ In n ms

-- how often a number stands in a list
abbrev pub times : ℕ → List ℕ → ℕ
times n [] = 0
times n (m ∷ ms) = cond (n == m) 1 0 + times n ms

-- each number is above the one before it, the first above a given one
abbrev pub Rising : ℕ → List ℕ → Type 0
Rising low [] = Unit {0}
Rising low (n ∷ ns) = (low < n) × Rising n ns
