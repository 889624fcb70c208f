-- A report that leaves a store for good.
use Rattle.std.specs.Prelude.{ℕ, List, Some, None, Option}
use Rattle.lines.specs.Journals.{noted}
use Rattle.lines.specs.declared.line.Letter.{Letter}
use Rattle.lines.specs.declared.line.Line.{Line}

-- the line of the report that left, where one did
abbrev pub ended : Letter → Option ℕ → List Line → List Line
ended letter None lines = lines
ended letter (Some n) lines = noted letter n lines
