-- Adding to a setup. An answer is a code and a detail: 0 and 0, or a refusal with the number at fault, which changes nothing.
use Rattle.std.specs.Prelude.{ℕ, Bool, true, false, cond, ◌&&◌, replicate, is_ok, Some, None, Ok, Err, Option, Result, nat_le}
use Rattle.zone.specs.Variables.{empty_of, band_answer, with_band}
use Rattle.zone.specs.declared.places.BandRefusal.{BandRefusal}
use Rattle.zone.specs.declared.places.BandRefusal.TheVariants.{Number}
use Rattle.zone.specs.declared.variable.Bounds.{Bounds}
use Rattle.zone.specs.declared.variable.Kind.{Kind}
use Rattle.zone.specs.declared.variable.Variable.{Variable}
use Rattle.setup.specs.declared.plan.Setup.{Setup}
use Rattle.setup.specs.declared.refusal.Refusal.{Refusal}
use Rattle.setup.specs.declared.refusal.Refusal.TheVariants.{Entry}
use Rattle.setup.specs.Refusals.{answer_of}
use Rattle.setup.specs.Tables.{added_if, added_to, entry_at, is_free, with_added, with_entry}

abbrev pub blank_plan : Setup
blank_plan = record { alarms = record { entries = replicate 32 None }; variables = record { entries = replicate 32 None } }

-- whether an alarm can be added: its number is free and its category is 0 to 127
abbrev pub alarm_fits : ℕ → ℕ → Setup → Bool
alarm_fits n category s = is_free s.alarms.entries n && nat_le category 127

abbrev pub alarm_answer : ℕ → ℕ → Setup → ℕ × ℕ
alarm_answer n category s = answer_of (added_if (alarm_fits n category s) n)

-- an alarm is clear and enabled when it is added
abbrev pub with_alarm : ℕ → ℕ → Setup → Setup
with_alarm n category s =
    cond (alarm_fits n category s)
    (record { alarms = record { entries = with_entry n (record { category = category; enabled = true; set = false }) s.alarms.entries }; variables = s.variables })
    s

abbrev pub variable_answer : ℕ → Setup → ℕ × ℕ
variable_answer n s = answer_of (added_to s.variables.entries n)

-- a variable has no bands when it is added
abbrev pub with_variable : ℕ → Kind → Setup → Setup
with_variable n kind s =
    record { alarms = s.alarms; variables = record { entries = with_added n (empty_of kind) s.variables.entries } }

-- a band of a variable that may be unknown
abbrev pub band_added : ℕ → Bounds → Option Variable → Result (Unit {0}) BandRefusal
band_added n bounds None = Err Number
band_added n bounds (Some v) = band_answer v n bounds

-- the refusal of an entry has its number
abbrev pub entry_refused : ℕ → Result (Unit {0}) BandRefusal → Result (Unit {0}) Refusal
entry_refused n (Ok done) = Ok done
entry_refused n (Err fault) = Err (Entry n fault)

-- a refusal of a band has the band's number as its detail
abbrev pub band_answer_of : ℕ → ℕ → Bounds → Setup → ℕ × ℕ
band_answer_of v n bounds s = answer_of (entry_refused n (band_added n bounds (entry_at s.variables.entries v)))

abbrev pub with_band_at : ℕ → ℕ → Bounds → Option Variable → Setup → Setup
with_band_at v n bounds None s = s
with_band_at v n bounds (Some x) s =
    cond (is_ok (band_answer x n bounds))
    (record { alarms = s.alarms; variables = record { entries = with_entry v (with_band x n bounds) s.variables.entries } })
    s

abbrev pub with_band_of : ℕ → ℕ → Bounds → Setup → Setup
with_band_of v n bounds s = with_band_at v n bounds (entry_at s.variables.entries v) s
