-- What a run, and a run carried on by one call, promise.
use Rattle.std.specs.Prelude.{◌≡◌, ℕ, ◌+◌, ◌≤◌, Bool, cond, List, [], ◌∷◌, ◌++◌, length, take, nat_le}
use Rattle.gem.specs.Calls.{call_turn, found}
use Rattle.gem.specs.Runs.{Beginning, Outcome, Run, begins_fit, begun, carried, cleared, run_of}
use Rattle.gem.specs.declared.equipment.LentCall.{LentCall}
use Rattle.lines.specs.Journals.{on_ledger}
use Rattle.lines.specs.declared.line.Line.{Line}
use Rattle.rules.specs.declared.state.Core.{Core}
use Rattle.store.specs.declared.Store.{Ghosts}
use Rattle.ledger.specs.Laws.{CallLaw, LedgerLaw}

-- both stores are empty
pub record Empty (b : Beginning) : Type 0 where
  pub queue : b.queue.records ≡ []
  pub spool : b.spool.records ≡ []

-- the ledger of a run is true of the equipment that it left
abbrev pub TrueOf : {Q S : Type 0} → Ghosts Q → Ghosts S → Beginning → List LentCall → Core Q S → Type 0
TrueOf q s b calls c = LedgerLaw (run_of b calls).lines (run_of b calls).since (found q s c)

-- a run that led to the first equipment leads, with one call more, to the second; from two empty stores its ledger is true, and the call did as calls do
pub record Carried {Q S : Type 0} (q : Ghosts Q) (s : Ghosts S) (b : Beginning) (calls : List LentCall) (l : LentCall) (fit : Bool) (c : Core Q S) (fit' : Bool) (c' : Core Q S) : Type 0 where
  pub outcome : Outcome q s b (calls ++ (l ∷ [])) fit' c'
  pub ledger : Empty b → TrueOf q s b (calls ++ (l ∷ [])) c'
  pub call : Empty b → CallLaw l.call (found q s c) (call_turn fit l.out l.ledger l.call (found q s c)).after

-- a call left an equipment, and its lines on a page, the later ones as they were
pub record Left {Q S : Type 0} (q : Ghosts Q) (s : Ghosts S) (l : LentCall) (fit : Bool) (c : Core Q S) (page : List Line) (n : ℕ) (fit' : Bool) (c' : Core Q S) (page' : List Line) : Type 0 where
  pub fitness : fit' ≡ fit
  pub equipment : found q s c' ≡ cleared (call_turn fit l.out l.ledger l.call (found q s c)).after
  pub count : n ≡ length (call_turn fit l.out l.ledger l.call (found q s c)).after.held.lines
  pub within : n ≤ 32
  pub lines : page' ≡ on_ledger (call_turn fit l.out l.ledger l.call (found q s c)).after.held.lines page

-- how many calls are made: all, or those up to where fewer than 32 lines of the ledger are left
abbrev pub calls_within : ℕ → Bool → List LentCall → Run → ℕ
calls_within room fit [] r = 0
calls_within room fit (l ∷ ls) r = cond (nat_le (length r.lines + 32) room) (1 + calls_within room fit ls (carried fit l r)) 0

-- the calls that are made
abbrev pub calls_made : Beginning → List LentCall → List Line → List LentCall
calls_made b calls ledger = take (calls_within (length ledger) (begins_fit b) calls (begun b)) calls

-- a run made so many calls, left so many lines on the ledger and this equipment; from two empty stores the ledger is true
pub record Ran {Q S : Type 0} (q : Ghosts Q) (s : Ghosts S) (b : Beginning) (calls : List LentCall) (before : List Line) (n m : ℕ) (fit : Bool) (c : Core Q S) (after : List Line) : Type 0 where
  pub made : n ≡ calls_within (length before) (begins_fit b) calls (begun b)
  pub outcome : Outcome q s b (calls_made b calls before) fit c
  pub lines : m ≡ length (run_of b (calls_made b calls before)).lines
  pub ledger : after ≡ on_ledger (run_of b (calls_made b calls before)).lines before
  pub law : Empty b → LedgerLaw (take m after) (run_of b (calls_made b calls before)).since (found q s c)
