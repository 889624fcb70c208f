-- Frames of the host that answer ours, and frames in the two waits.
use Rattle.std.specs.Prelude.{ℕ, ◌+◌, Bool, true, false, cond, ◌&&◌, ◌||◌, List, Some, None, Option, ◌==◌}
use Rattle.bodies.specs.Bodies.{commack_accepted}
use Rattle.bodies.specs.declared.body.Body.TheVariants as body
use Rattle.frames.specs.declared.header.Header.{Header}
use Rattle.requests.specs.Requests.{commack_of}
use Rattle.rules.specs.ControlRules.{fell_back, went_online}
use Rattle.rules.specs.LinkRules.{linked}
use Rattle.rules.specs.Sends.{replied, request_function}
use Rattle.rules.specs.Views.{View, with_held, with_session}
use Rattle.rules.specs.declared.state.Next.{Next}
use Rattle.rules.specs.declared.state.OpenSession.{OpenSession}
use Rattle.rules.specs.declared.state.SessionRequest.{SessionRequest}
use Rattle.rules.specs.declared.state.SessionRequest.TheVariants.{AreYouThere, Establish}
use Rattle.spooling.specs.Holdings.{with_pending}
use Rattle.spooling.specs.Leaving.{acknowledged}
use Rattle.spooling.specs.declared.state.OpenReport.{OpenReport}
use Rattle.states.specs.declared.control.Control.{Control}
use Rattle.states.specs.declared.control.Control.TheVariants.{EquipmentOffline, Attempt, HostOffline, Local, Remote}
use Rattle.states.specs.declared.link.Link.{Link}
use Rattle.states.specs.declared.link.Link.TheVariants.{Disabled, WaitCra, WaitDelay, Communicating}
use Rattle.states.specs.declared.link.LinkEvent.TheVariants.{HostEstablishes, Accepted, Denied, OtherFrame}

-- a frame answers a primary of ours by its stream, its transaction, and a function one higher, or 0
abbrev pub answers_primary : Header → ℕ → ℕ → ℕ → Bool
answers_primary h stream function transaction =
    (h.stream == stream) && h.transaction == transaction && (h.function == function + 1 || h.function == 0)

-- it answers our open stream-1 transaction
abbrev pub answers_session : Header → Option OpenSession → Bool
answers_session h None = false
answers_session h (Some o) = answers_primary h 1 (request_function o.request) o.transaction

-- it answers the open report
abbrev pub answers_report : Header → Option OpenReport → Bool
answers_report h None = false
answers_report h (Some o) = answers_primary h o.stream o.function o.transaction

-- our S1,F1 is answered: an attempt goes on-line, or falls back where the function is 0
abbrev pub attempt_answered : Next → ℕ → Control → View → View
attempt_answered n function EquipmentOffline v = v
attempt_answered n function Attempt v = cond (function == 0) (fell_back v) (went_online n v)
attempt_answered n function HostOffline v = v
attempt_answered n function Local v = v
attempt_answered n function Remote v = v

-- our stream-1 transaction is answered, and closes
abbrev pub request_answered : Next → ℕ → SessionRequest → View → View
request_answered n function AreYouThere v = attempt_answered n function v.state.control v
request_answered n function Establish v = v

abbrev pub session_answered : Next → ℕ → Option OpenSession → View → View
session_answered n function None v = v
session_answered n function (Some o) v = request_answered n function o.request (with_session None v)

-- the open report is answered: function 0 only closes it
abbrev pub report_answered : ℕ → View → View
report_answered function v = with_held (cond (function == 0) (with_pending None v.held) (acknowledged v.held)) v

-- an even function answers a transaction of ours, or is ignored
unfoldable pub reply_taken : Next → Header → View → View
reply_taken n h v =
    cond (answers_session h v.state.session) (session_answered n h.function v.state.session v)
    (cond (answers_report h v.held.pending) (report_answered h.function v) v)

-- S1,F13
abbrev pub is_establish : Header → Bool
is_establish h = h.stream == 1 && h.function == 13

-- the host answers our S1,F13 with a COMMACK, or with a malformed S1,F14, which is discarded
abbrev pub commack_taken : Next → Option ℕ → View → View
commack_taken n None v = v
commack_taken n (Some c) v = cond (c == commack_accepted) (linked n Accepted (with_session None v)) (linked n Denied v)

abbrev pub is_wait_cra : Link → Bool
is_wait_cra Disabled = false
is_wait_cra WaitCra = true
is_wait_cra WaitDelay = false
is_wait_cra Communicating = false

-- the S1,F14 that WAIT CRA awaits
abbrev pub is_awaited_commack : Header → View → Bool
is_awaited_commack h v = is_wait_cra v.state.link && (h.function == 14 && answers_session h v.state.session)

-- a frame in WAIT CRA or WAIT DELAY
unfoldable pub wait_taken : Next → Header → List ℕ → View → View
wait_taken n h frame v =
    cond (is_establish h) (replied h 14 body.Accepted (linked n HostEstablishes v))
    (cond (is_awaited_commack h v) (commack_taken n (commack_of frame) v) (linked n OtherFrame v))
