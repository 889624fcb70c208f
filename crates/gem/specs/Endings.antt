-- How a call ends: done, told or refused.
use Rattle.std.specs.Prelude.{◌≡◌, ℕ, ◌≤◌, List, Some, None, Option}
use Rattle.frames.specs.Frames.{Parted, frame_at}
use Rattle.host.specs.Takes.{Turn}
use Rattle.requests.specs.Faults.{fault_code, fault_place, fault_function}
use Rattle.requests.specs.declared.request.FrameFault.{FrameFault}
use Rattle.rules.specs.Sends.{faulted}
use Rattle.rules.specs.Views.{View, next_of}
use Rattle.gem.specs.declared.equipment.Call.{Call}
use Rattle.gem.specs.declared.equipment.Call.TheVariants as call

-- exactly one of three
pub data OneOf (A B C : Type 0) : Type 0 where
  first : A → (B → ⊥) → (C → ⊥) → OneOf A B C
  second : (A → ⊥) → B → (C → ⊥) → OneOf A B C
  third : (A → ⊥) → (B → ⊥) → C → OneOf A B C

-- done: code 0 and detail 0
pub record Done (t : Turn) : Type 0 where
  pub code : t.code ≡ 0
  pub detail : t.detail ≡ 0

-- the frame that a call brings
abbrev pub frame_in : Call → Option (List ℕ)
frame_in (call.Host frame) = Some frame.now
frame_in (call.Switch n) = None
frame_in (call.Expiry n) = None
frame_in call.Failure = None
frame_in (call.Sample k s) = None
frame_in (call.Alarm k set) = None
frame_in call.Pump = None
frame_in call.Power = None

-- told: a frame of the host is at fault. One stream-9 message about its header is sent, and nothing else changes but the
-- transaction count; code and detail are those of the fault
pub record Told (c : Call) (t : Turn) (v : View) : Type 0 where
  pub frame : List ℕ
  pub from : frame_in c ≡ Some frame
  pub parts : Parted
  pub split : frame_at frame ≡ Some parts
  pub fault : FrameFault
  pub code : t.code ≡ fault_code fault
  pub detail : t.detail ≡ fault_place fault
  pub after : t.after ≡ faulted (next_of v.state) (fault_function fault) parts.header v

-- refused: a code from 1 to 9, and all is as it was
pub record Refused (t : Turn) (v : View) : Type 0 where
  pub low : 1 ≤ t.code
  pub high : t.code ≤ 9
  pub after : t.after ≡ v

-- a call ends in exactly one of the three ways
abbrev pub Ended : Call → Turn → View → Type 0
Ended c t v = OneOf (Done t) (Told c t v) (Refused t v)
