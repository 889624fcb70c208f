-- All that the rules read and change.
use Rattle.std.specs.Prelude.{◌+◌, None, Option}
use Rattle.store.specs.declared.Store.{Ghosts}
use Rattle.spooling.specs.Holdings.{Holding, holding, with_pending}
use Rattle.sending.specs.Sending.{Sent, sent_by}
use Rattle.setup.specs.declared.plan.Setup.{Setup}
use Rattle.states.specs.declared.link.Link.{Link}
use Rattle.states.specs.declared.control.Control.{Control}
use Rattle.states.specs.declared.control.Mode.{Mode}
use Rattle.rules.specs.declared.state.Counts.{Counts}
use Rattle.rules.specs.declared.state.Next.{Next}
use Rattle.rules.specs.declared.state.OpenSession.{OpenSession}
use Rattle.rules.specs.declared.state.State.{State}
use Rattle.rules.specs.declared.state.Core.{Core}
use Rattle.rules.specs.declared.state.Effects.{Effects}

-- the state, the reports with the lines of this call, and the frame that it sends
pub record View : Type 0 where
  pub state : State
  pub held : Holding
  pub sent : Option Sent

abbrev pub view : {Q S : Type 0} → Ghosts Q → Ghosts S → Core Q S → Effects → View
view q s c e = record { state = c.state; held = holding q s c.reports e.journal; sent = sent_by e.outbox }

abbrev pub with_state : State → View → View
with_state s v = record { state = s; held = v.held; sent = v.sent }

abbrev pub with_held : Holding → View → View
with_held h v = record { state = v.state; held = h; sent = v.sent }

abbrev pub with_sent : Option Sent → View → View
with_sent s v = record { state = v.state; held = v.held; sent = s }

abbrev pub with_link : Link → View → View
with_link l v =
    with_state (record { link = l; control = v.state.control; mode = v.state.mode; session = v.state.session; counts = v.state.counts; setup = v.state.setup; settings = v.state.settings }) v

abbrev pub with_control : Control → View → View
with_control c v =
    with_state (record { link = v.state.link; control = c; mode = v.state.mode; session = v.state.session; counts = v.state.counts; setup = v.state.setup; settings = v.state.settings }) v

abbrev pub with_mode : Mode → View → View
with_mode m v =
    with_state (record { link = v.state.link; control = v.state.control; mode = m; session = v.state.session; counts = v.state.counts; setup = v.state.setup; settings = v.state.settings }) v

abbrev pub with_session : Option OpenSession → View → View
with_session o v =
    with_state (record { link = v.state.link; control = v.state.control; mode = v.state.mode; session = o; counts = v.state.counts; setup = v.state.setup; settings = v.state.settings }) v

abbrev pub with_counts : Counts → View → View
with_counts c v =
    with_state (record { link = v.state.link; control = v.state.control; mode = v.state.mode; session = v.state.session; counts = c; setup = v.state.setup; settings = v.state.settings }) v

abbrev pub with_setup : Setup → View → View
with_setup p v =
    with_state (record { link = v.state.link; control = v.state.control; mode = v.state.mode; session = v.state.session; counts = v.state.counts; setup = p; settings = v.state.settings }) v

-- the numbers that our next primary and our next report take
abbrev pub next_of : State → Next
next_of s = record { transaction = s.counts.transactions + 1; report = s.counts.reports + 1 }

-- both transactions close: ours of stream 1 and the report's
abbrev pub closed_all : View → View
closed_all v = with_held (with_pending None v.held) (with_session None v)
