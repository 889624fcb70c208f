-- What each call does.
use Rattle.std.specs.Prelude.{ℕ, ◌+◌, Bool, cond, not, ◌||◌, List, length, Some, None, Ok, Err, Option, Result, ◌==◌, nat_le, nat_lt}
use Rattle.actions.specs.Powers.{powered}
use Rattle.actions.specs.Pumps.{pumped}
use Rattle.actions.specs.Samples.{refused, sampled}
use Rattle.frames.specs.Frames.{Parted, frame_at}
use Rattle.host.specs.Takes.{Turn, done, frame_taken}
use Rattle.rules.specs.ControlRules.{expired, expiry_of, fell_back, switch_of, switched}
use Rattle.rules.specs.LinkRules.{linked}
use Rattle.rules.specs.Views.{View, next_of}
use Rattle.rules.specs.declared.control.Expiry.{Expiry}
use Rattle.rules.specs.declared.control.Switch.{Switch}
use Rattle.rules.specs.declared.state.Counts.{Counts}
use Rattle.rules.specs.declared.state.Next.{Next}
use Rattle.setup.specs.declared.refusal.Refusal.{Refusal}
use Rattle.setup.specs.declared.refusal.Refusal.TheVariants.{CountsSpent, FrameLength, HeaderByte, ShortBuffer, ShortLedger, Unfit, Unknown}
use Rattle.states.specs.declared.link.LinkEvent.TheVariants.{Failure}
use Rattle.gem.specs.declared.equipment.Call.{Call}
use Rattle.gem.specs.declared.equipment.Call.TheVariants as call
use Rattle.gem.specs.Alarms.{alarmed}

-- the refusals that all calls share, in their order
abbrev pub refusal_of : Bool → ℕ → ℕ → Counts → Option Refusal
refusal_of fit out ledger c =
    cond fit
    (cond (nat_lt out 512) (Some (ShortBuffer out))
    (cond (nat_lt ledger 32) (Some (ShortLedger ledger))
    (cond (nat_lt 4294967000 c.transactions || nat_lt 4294967000 c.reports) (Some CountsSpent) None)))
    (Some Unfit)

-- the numbers that our next primary and our next report take
abbrev pub next_after : Counts → Next
next_after c = record { transaction = c.transactions + 1; report = c.reports + 1 }

-- a refusal, or those numbers
abbrev pub admitted_by : Option Refusal → Counts → Result Next Refusal
admitted_by None c = Ok (next_after c)
admitted_by (Some r) c = Err r

abbrev pub admission : Bool → ℕ → ℕ → Counts → Result Next Refusal
admission fit out ledger c = admitted_by (refusal_of fit out ledger c) c

-- a switch, refused where it is unknown
abbrev pub switch_turn : ℕ → Option Switch → View → Turn
switch_turn n None v = refused (Unknown n) v
switch_turn n (Some s) v = done (switched (next_of v.state) s v)

-- an expiry, refused where it is unknown
abbrev pub expiry_turn : ℕ → Option Expiry → View → Turn
expiry_turn n None v = refused (Unknown n) v
expiry_turn n (Some e) v = done (expired (next_of v.state) e v)

-- a frame of the host: header byte 4 or 5 that is not zero is refused with the earlier place
abbrev pub frame_turn : Next → List ℕ → Option Parted → View → Turn
frame_turn n frame None v = refused (FrameLength (length frame)) v
frame_turn n frame (Some p) v =
    cond (not (p.header.ptype == 0)) (refused (HeaderByte 4) v)
    (cond (not (p.header.stype == 0)) (refused (HeaderByte 5) v)
    (frame_taken n p.header frame v))

-- it is refused with its length below 10 or above 490 bytes
abbrev pub host_turn : Next → List ℕ → View → Turn
host_turn n frame v = cond (nat_le (length frame) 490) (frame_turn n frame (frame_at frame) v) (refused (FrameLength (length frame)) v)

-- the connection fails: an attempt to go on-line falls back
abbrev pub failed : View → View
failed v = linked (next_of v.state) Failure (fell_back v)

-- each call
abbrev pub turn_of : Call → View → Turn
turn_of (call.Host frame) v = host_turn (next_of v.state) frame.now v
turn_of (call.Switch n) v = switch_turn n (switch_of n) v
turn_of (call.Expiry n) v = expiry_turn n (expiry_of n) v
turn_of call.Failure v = done (failed v)
turn_of (call.Sample k s) v = sampled (next_of v.state) k s v
turn_of (call.Alarm k set) v = alarmed k set v
turn_of call.Pump v = done (pumped (next_of v.state) v)
turn_of call.Power v = done (powered v)
