-- The refusals of the calls and of a setup: a code and a detail each.
use Rattle.std.specs.Prelude.{ℕ, Ok, Err, Result}
use Rattle.zone.specs.Places.{band_refusal_code}
use Rattle.zone.specs.Variables.{sample_fault_code}
use Rattle.setup.specs.declared.refusal.Refusal.{Refusal}
use Rattle.setup.specs.declared.refusal.Refusal.TheVariants.{Unfit, ShortBuffer, ShortLedger, CountsSpent, Unknown, Sample, FrameLength, HeaderByte, Entry}

-- the code of each refusal; that of a sample is 6 or 7, that of an entry of any table is a band's, 10 or 11
abbrev pub refusal_code : Refusal → ℕ
refusal_code Unfit = 1
refusal_code (ShortBuffer length) = 2
refusal_code (ShortLedger length) = 3
refusal_code CountsSpent = 4
refusal_code (Unknown number) = 5
refusal_code (Sample variable fault) = sample_fault_code fault
refusal_code (FrameLength length) = 8
refusal_code (HeaderByte place) = 9
refusal_code (Entry number fault) = band_refusal_code fault

-- what is at fault: a length, a number or a place, or 0
abbrev pub refusal_detail : Refusal → ℕ
refusal_detail Unfit = 0
refusal_detail (ShortBuffer length) = length
refusal_detail (ShortLedger length) = length
refusal_detail CountsSpent = 0
refusal_detail (Unknown number) = number
refusal_detail (Sample variable fault) = variable
refusal_detail (FrameLength length) = length
refusal_detail (HeaderByte place) = place
refusal_detail (Entry number fault) = number

-- the answer: 0 and 0, or the refusal's code and detail
abbrev pub answer_of : Result (Unit {0}) Refusal → ℕ × ℕ
answer_of (Ok done) = (0, 0)
answer_of (Err refusal) = (refusal_code refusal, refusal_detail refusal)
