-- Runs: calls on one equipment, one after another, each starting from what the one before it left, and each with buffers of its own.
use Rattle.std.specs.Prelude.{◌≡◌, Bool, cond, not, ◌&&◌, List, [], ◌∷◌, ◌++◌, None}
use Rattle.lines.specs.declared.line.Line.{Line}
use Rattle.rules.specs.Views.{View}
use Rattle.rules.specs.declared.state.Core.{Core}
use Rattle.setup.specs.declared.plan.Setup.{Setup}
use Rattle.setup.specs.declared.settings.Settings.{Settings}
use Rattle.spooling.specs.Holdings.{Shelf}
use Rattle.store.specs.declared.Store.{Ghosts}
use Rattle.gem.specs.declared.equipment.LentCall.{LentCall}
use Rattle.gem.specs.Calls.{call_turn, found}
use Rattle.gem.specs.Starts.{fit_of, fresh_spooling, fresh_state}

-- what an equipment is started with
pub record Beginning : Type 0 where
  pub setup : Setup
  pub settings : Settings
  pub queue : Shelf
  pub spool : Shelf

-- a run so far: all its lines in order, those from the call that last turned an INACTIVE spool ACTIVE on (all of them where none did),
-- and the equipment as the next call finds it
pub record Run : Type 0 where
  pub lines : List Line
  pub since : List Line
  pub view : View

-- whether it is fit for use
abbrev pub begins_fit : Beginning → Bool
begins_fit b = fit_of b.queue b.spool

-- the run without a call
abbrev pub begun : Beginning → Run
begun b =
    record {
      lines = [];
      since = [];
      view = record {
        state = fresh_state b.setup b.settings;
        held = record { queue = b.queue; spool = b.spool; spooling = fresh_spooling; pending = None; lines = [] };
        sent = None;
      };
    }

-- the next call finds no line and no frame
abbrev pub cleared : View → View
cleared v =
    record { state = v.state; held = record { queue = v.held.queue; spool = v.held.spool; spooling = v.held.spooling; pending = v.held.pending; lines = [] }; sent = None }

-- whether a call that found the first and left the second turned an INACTIVE spool ACTIVE
abbrev pub activates : View → View → Bool
activates before after = not before.held.spooling.active && after.held.spooling.active

-- a run with one call more, which left this
abbrev pub followed : Run → View → Run
followed r v =
    record {
      lines = r.lines ++ v.held.lines;
      since = cond (activates r.view v) v.held.lines (r.since ++ v.held.lines);
      view = cleared v;
    }

-- all that a call, with the buffers lent to it, leaves after a run
abbrev pub left_by : Bool → LentCall → Run → View
left_by fit l r = (call_turn fit l.out l.ledger l.call r.view).after

abbrev pub carried : Bool → LentCall → Run → Run
carried fit l r = followed r (left_by fit l r)

-- a run with many calls more
abbrev pub continued : Bool → List LentCall → Run → Run
continued fit [] r = r
continued fit (l ∷ ls) r = continued fit ls (carried fit l r)

-- the run of these calls
abbrev pub run_of : Beginning → List LentCall → Run
run_of b calls = continued (begins_fit b) calls (begun b)

-- an equipment, by whether it is fit and its core, is what a run left
pub record Outcome {Q S : Type 0} (q : Ghosts Q) (s : Ghosts S) (b : Beginning) (calls : List LentCall) (fit : Bool) (c : Core Q S) : Type 0 where
  pub fitness : fit ≡ begins_fit b
  pub equipment : found q s c ≡ (run_of b calls).view
