-- Tables of 32 entries by their numbers, 1 to 32.
use Rattle.std.specs.Prelude.{ℕ, ◌-◌, Bool, cond, not, ◌&&◌, List, is_some, Some, None, Ok, Err, Option, Result, nat_le, slice_index_or, slice_set}
use Rattle.zone.specs.declared.places.BandRefusal.TheVariants.{Number}
use Rattle.setup.specs.declared.refusal.Refusal.{Refusal}
use Rattle.setup.specs.declared.refusal.Refusal.TheVariants.{Entry}

-- whether a number is one of a table of 32
abbrev pub in_table : ℕ → Bool
in_table n = nat_le 1 n && nat_le n 32

-- the entry of a number; none where the number is outside or has no entry
abbrev pub entry_at : {A : Type 0} → List (Option A) → ℕ → Option A
entry_at entries n = cond (in_table n) (slice_index_or entries (n - 1) None) None

-- the table with another entry at a number, and every other as it was
abbrev pub with_entry : {A : Type 0} → ℕ → A → List (Option A) → List (Option A)
with_entry n x entries = cond (in_table n) (slice_set entries (n - 1) (Some x)) entries

-- whether a number is one of a table and not taken
abbrev pub is_free : {A : Type 0} → List (Option A) → ℕ → Bool
is_free entries n = in_table n && not (is_some (entry_at entries n))

-- done, or a refusal of the number
abbrev pub added_if : Bool → ℕ → Result (Unit {0}) Refusal
added_if b n = cond b (Ok tt) (Err (Entry n Number))

-- the first entry of a number is added; a number that is not free is refused
abbrev pub added_to : {A : Type 0} → List (Option A) → ℕ → Result (Unit {0}) Refusal
added_to entries n = added_if (is_free entries n) n

-- the table after it: a refusal leaves it
abbrev pub with_added : {A : Type 0} → ℕ → A → List (Option A) → List (Option A)
with_added n x entries = cond (is_free entries n) (with_entry n x entries) entries
