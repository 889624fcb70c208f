-- The bodies of the messages that the equipment sends.
use Rattle.std.specs.Prelude.{ℕ, ◌≤◌, cond, List, [], ◌∷◌, ◌++◌, length, drop, Some, None, codes, Option, nat_le}
use Rattle.octets.specs.Big.{be4}
use Rattle.secs.specs.declared.format.Format.TheVariants.{Binary, Ascii, U4}
use Rattle.frames.specs.Frames.{header_bytes}
use Rattle.bodies.specs.Items.{Item, list, value, end, ◌then◌, bytes_of}
use Rattle.bodies.specs.declared.body.Body.{Body}
use Rattle.bodies.specs.declared.body.Body.TheVariants as body

-- model name and software revision: L,2 of two texts
abbrev pub identity : Item
identity = list (value Ascii (codes "BENCH1") then value Ascii (codes "000001") then end)

-- COMMACK that accepts communications
abbrev pub commack_accepted : ℕ
commack_accepted = 0

-- S1,F14: COMMACK that accepts, and the identity
abbrev pub accepted : Item
accepted = list (value Binary (commack_accepted ∷ []) then identity then end)

-- S5,F1: alarm code, alarm number, an empty text
abbrev pub alarm_report : ℕ → ℕ → Item
alarm_report alcd alarm = list (value Binary (alcd ∷ []) then value U4 (be4 alarm) then value Ascii [] then end)

-- S6,F11: report number, event, no variables
abbrev pub event_report : ℕ → ℕ → Item
event_report report event = list (value U4 (be4 report) then value U4 (be4 event) then list end then end)

-- the bytes of each body
unfoldable pub body_of : Body → List ℕ
body_of body.Empty = []
body_of body.Identity = bytes_of identity
body_of body.Accepted = bytes_of accepted
body_of (body.Alarm alcd alarm) = bytes_of (alarm_report alcd alarm)
body_of (body.Event report event) = bytes_of (event_report report event)
body_of (body.Header header) = bytes_of (value Binary (header_bytes header))
body_of (body.Acknowledge code) = bytes_of (value Binary (code ∷ []))

-- every body fits the 480 bytes that a store keeps of one
abbrev pub EveryBodyFits : Type 0
EveryBodyFits = (b : Body) → length (body_of b) ≤ 480

-- what writing a body at the front of a buffer answers: its length; none where the buffer is too short
abbrev pub body_end : List ℕ → List ℕ → Option ℕ
body_end out bs = cond (nat_le (length bs) (length out)) (Some (length bs)) None

-- the buffer after that: the body, and the later bytes as they were
abbrev pub body_written : List ℕ → List ℕ → List ℕ
body_written out bs = cond (nat_le (length bs) (length out)) (bs ++ drop (length bs) out) out
