-- A report whose body is lent.
use Rattle.std.specs.Prelude.{List, [], ◌∷◌, Some, None, Option}
use Rattle.store.specs.Reports.{Report}
use Rattle.store.specs.declared.report.Report.{Report as Lent}

-- the report itself
abbrev pub report_of : Lent → Report
report_of r = record { number = r.number; stream = r.stream; function = r.function; body = r.body.now }

-- the report, where one is lent
abbrev pub lent : Option Lent → Option Report
lent None = None
lent (Some r) = Some (report_of r)

-- the oldest report of a list, where there is one
abbrev pub oldest_of : List Report → Option Report
oldest_of [] = None
oldest_of (r ∷ rs) = Some r
