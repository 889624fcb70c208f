-- A frame of the host, in the order of the rules.
use Rattle.std.specs.Prelude.{◌≡◌, ℕ, ◌%◌, Bool, cond, ◌&&◌, ◌||◌, List, Ok, Err, Result, ◌==◌}
use Rattle.bodies.specs.declared.body.Body.TheVariants as body
use Rattle.frames.specs.declared.header.Header.{Header}
use Rattle.requests.specs.Faults.{fault_code, fault_place, fault_function}
use Rattle.requests.specs.Requests.{request_of}
use Rattle.requests.specs.declared.request.FrameFault.{FrameFault}
use Rattle.requests.specs.declared.request.FrameFault.TheVariants.{Session}
use Rattle.requests.specs.declared.request.Request.{Request}
use Rattle.rules.specs.Sends.{faulted, replied}
use Rattle.rules.specs.Views.{View}
use Rattle.rules.specs.declared.state.Next.{Next}
use Rattle.states.specs.Controls.{is_online}
use Rattle.states.specs.declared.link.Link.{Link}
use Rattle.states.specs.declared.link.Link.TheVariants.{Disabled, WaitCra, WaitDelay, Communicating}
use Rattle.host.specs.Grants.{granted}
use Rattle.host.specs.Replies.{reply_taken, wait_taken}

-- what a call answers, and all that it changed
pub record Turn : Type 0 where
  pub code : ℕ
  pub detail : ℕ
  pub after : View

-- done: code 0, detail 0
abbrev pub done : View → Turn
done v = record { code = 0; detail = 0; after = v }

-- told: the host's frame is at fault, and a stream-9 message says so
abbrev pub told : Next → Header → FrameFault → View → Turn
told n h f v = record { code = fault_code f; detail = fault_place f; after = faulted n (fault_function f) h v }

-- a primary that was read
abbrev pub request_taken : Next → Header → Result Request FrameFault → View → Turn
request_taken n h (Ok r) v = done (granted n h r v)
request_taken n h (Err f) v = told n h f v

-- off-line only S1,F13 and S1,F17 are taken
abbrev pub taken_offline : Header → Bool
taken_offline h = h.stream == 1 && (h.function == 13 || h.function == 17)

-- a primary: off-line the others get function 0 of their stream
unfoldable pub primary_taken : Next → Header → List ℕ → View → Turn
primary_taken n h frame v =
    cond (is_online v.state.control || taken_offline h)
    (request_taken n h (request_of frame h.stream h.function) v)
    (done (replied h 0 body.Empty v))

-- a frame with our session number
abbrev pub session_taken : Next → Header → List ℕ → Link → View → Turn
session_taken n h frame Disabled v = done v
session_taken n h frame WaitCra v = done (wait_taken n h frame v)
session_taken n h frame WaitDelay v = done (wait_taken n h frame v)
session_taken n h frame Communicating v =
    cond (h.function % 2 == 0) (done (reply_taken n h v)) (primary_taken n h frame v)

-- DISABLED ignores every frame; a wrong session number is told before all else
abbrev pub link_taken : Next → Header → List ℕ → Link → View → Turn
link_taken n h frame Disabled v = done v
link_taken n h frame WaitCra v = cond (h.session == v.state.settings.session) (session_taken n h frame WaitCra v) (told n h Session v)
link_taken n h frame WaitDelay v = cond (h.session == v.state.settings.session) (session_taken n h frame WaitDelay v) (told n h Session v)
link_taken n h frame Communicating v = cond (h.session == v.state.settings.session) (session_taken n h frame Communicating v) (told n h Session v)

unfoldable pub frame_taken : Next → Header → List ℕ → View → Turn
frame_taken n h frame v = link_taken n h frame v.state.link v

-- what is answered to a frame that was taken, or to a fault of it: code and detail
abbrev pub taken_answer : Result (Unit {0}) FrameFault → ℕ × ℕ
taken_answer (Ok done) = (0, 0)
taken_answer (Err f) = (fault_code f, fault_place f)

-- a frame ended as a turn says: it was taken, or it is at fault, which nothing tells yet
abbrev pub TakenAs : Turn → Next → Header → View → Result (Unit {0}) FrameFault → View → Type 0
TakenAs t n h v (Ok taken) w = t ≡ done w
TakenAs t n h v (Err f) w = (t ≡ told n h f v) × (w ≡ v)
