-- Frames that the equipment sends.
use Rattle.std.specs.Prelude.{ℕ, Bool, true, false, cond, Some}
use Rattle.bodies.specs.Bodies.{body_of}
use Rattle.bodies.specs.declared.body.Body.{Body}
use Rattle.bodies.specs.declared.body.Body.TheVariants as body
use Rattle.frames.specs.declared.header.Header.{Header}
use Rattle.setup.specs.declared.settings.Settings.{Settings}
use Rattle.rules.specs.declared.state.Next.{Next}
use Rattle.rules.specs.declared.state.SessionRequest.{SessionRequest}
use Rattle.rules.specs.declared.state.SessionRequest.TheVariants.{AreYouThere, Establish}
use Rattle.rules.specs.Views.{View, with_sent, with_session, with_counts}

-- the header of a frame of ours: the session number of the settings, header bytes 4 and 5 zero
abbrev pub our_header : Settings → Bool → ℕ → ℕ → ℕ → Header
our_header s wait stream function transaction =
    record { session = s.session; wait = wait; stream = stream; function = function; ptype = 0; stype = 0; transaction = transaction }

-- a primary of ours carries the next transaction number, which is the count then
abbrev pub primary_sent : Next → Bool → ℕ → ℕ → Body → View → View
primary_sent n wait stream function b v =
    with_sent (Some (record { header = our_header v.state.settings wait stream function n.transaction; body = body_of b }))
    (with_counts (record { transactions = n.transaction; reports = v.state.counts.reports }) v)

-- the function of each request of ours on stream 1
abbrev pub request_function : SessionRequest → ℕ
request_function AreYouThere = 1
request_function Establish = 13

-- and its body
abbrev pub request_body : SessionRequest → Body
request_body AreYouThere = body.Empty
request_body Establish = body.Identity

-- a request of ours opens the stream-1 transaction and closes an older one
unfoldable pub asked : Next → SessionRequest → View → View
asked n r v =
    with_session (Some (record { transaction = n.transaction; request = r })) (primary_sent n true 1 (request_function r) (request_body r) v)

-- a stream-9 message about the frame with a header
unfoldable pub faulted : Next → ℕ → Header → View → View
faulted n function h v = primary_sent n false 9 function (body.Header h) v

-- a reply to the primary with a header goes only to a W bit, and carries its transaction
unfoldable pub replied : Header → ℕ → Body → View → View
replied h function b v =
    cond h.wait (with_sent (Some (record { header = our_header v.state.settings false h.stream function h.transaction; body = body_of b })) v) v
