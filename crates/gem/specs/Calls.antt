-- A call: its answer, and the equipment, the output buffer and the ledger after it.
use Rattle.std.specs.Prelude.{◌≡◌, ℕ, Bool, List, [], length, Some, None, Option}
use Rattle.actions.specs.Samples.{refused}
use Rattle.host.specs.Takes.{Turn}
use Rattle.lines.specs.Journals.{on_ledger}
use Rattle.lines.specs.declared.line.Line.{Line}
use Rattle.rules.specs.Views.{View}
use Rattle.rules.specs.declared.state.Core.{Core}
use Rattle.sending.specs.Sending.{frame_bytes, on_buffer}
use Rattle.setup.specs.declared.refusal.Refusal.{Refusal}
use Rattle.spooling.specs.Holdings.{shelf}
use Rattle.store.specs.declared.Store.{Ghosts}
use Rattle.gem.specs.declared.equipment.Call.{Call}
use Rattle.gem.specs.declared.equipment.Equipment.{Equipment}
use Rattle.gem.specs.Turns.{refusal_of, turn_of}

-- an equipment as a call finds it: no line is written and no frame sent yet
abbrev pub found : {Q S : Type 0} → Ghosts Q → Ghosts S → Core Q S → View
found q s c =
    record { state = c.state; held = record { queue = shelf q c.reports.queue; spool = shelf s c.reports.spool; spooling = c.reports.spooling; pending = c.reports.pending; lines = [] }; sent = None }

-- a refusal that all calls share, or what the call does
abbrev pub unless : Option Refusal → Call → View → Turn
unless None c v = turn_of c v
unless (Some r) c v = refused r v

-- a call on an equipment, with an output buffer and a ledger of these lengths
abbrev pub call_turn : Bool → ℕ → ℕ → Call → View → Turn
call_turn fit out ledger c v = unless (refusal_of fit out ledger v.state.counts) c v

-- a call left its answer, the equipment and the two buffers as a turn says; later bytes and lines stay
pub record Answered {Q S : Type 0} (q : Ghosts Q) (s : Ghosts S) (t : Turn) (out : List ℕ) (ledger : List Line) (r : ℕ × ℕ × ℕ × ℕ) (c : Core Q S) (out' : List ℕ) (ledger' : List Line) : Type 0 where
  pub answer : r ≡ (t.code, t.detail, length (frame_bytes t.after.sent), length t.after.held.lines)
  pub state : c.state ≡ t.after.state
  pub queue : shelf q c.reports.queue ≡ t.after.held.queue
  pub spool : shelf s c.reports.spool ≡ t.after.held.spool
  pub spooling : c.reports.spooling ≡ t.after.held.spooling
  pub pending : c.reports.pending ≡ t.after.held.pending
  pub bytes : out' ≡ on_buffer (frame_bytes t.after.sent) out
  pub lines : ledger' ≡ on_ledger t.after.held.lines ledger

-- a call was made on an equipment with these buffers: its answer, and what it left; whether the stores are fit never changes
pub record Called {Q S : Type 0} (q : Ghosts Q) (s : Ghosts S) (call : Call) (e e' : Equipment Q S) (out out' : List ℕ) (ledger ledger' : List Line) (r : ℕ × ℕ × ℕ × ℕ) : Type 0 where
  pub answered : Answered q s (call_turn e.fit (length out) (length ledger) call (found q s e.core)) out ledger r e'.core out' ledger'
  pub fit : e'.fit ≡ e.fit

-- the equipment, both stores and both buffers are as they were
pub record Untouched {Q S : Type 0} (q : Ghosts Q) (s : Ghosts S) (c c' : Core Q S) (out out' : List ℕ) (ledger ledger' : List Line) : Type 0 where
  pub equipment : found q s c' ≡ found q s c
  pub bytes : out' ≡ out
  pub lines : ledger' ≡ ledger
