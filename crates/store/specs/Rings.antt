-- How a ring holds its list: in slots that are used in turn, past the last one from the first one on.
use Rattle.std.specs.Prelude.{ℕ, ◌+◌, ◌-◌, cond, List, ◌++◌, map, take, drop, nat_lt, vec_items}
use Rattle.store.specs.Reports.{Report}
use Rattle.store.specs.declared.record.Record.{Record}
use Rattle.store.specs.declared.ring.Ring.{Ring}

-- the report that a slot holds
abbrev pub report_in : Record → Report
report_in s = record { number = s.number; stream = s.stream; function = s.function; body = take s.length s.body }

-- the slots from place `first` on, and then those before it
abbrev pub turned : {A : Type 0} → ℕ → List A → List A
turned first slots = drop first slots ++ take first slots

-- the place of the slot that is `k` after `first`, of `n` slots
abbrev pub slot_place : ℕ → ℕ → ℕ → ℕ
slot_place first n k = cond (nat_lt k (n - first)) (first + k) (k - (n - first))

-- the reports in `count` slots from `first` on
abbrev pub ring_reports : List Record → ℕ → ℕ → List Report
ring_reports slots first count = map report_in (take count (turned first slots))

-- the reports that a ring holds, oldest first
abbrev pub reports_of : Ring → List Report
reports_of s = ring_reports (vec_items s.slots) s.first s.count
