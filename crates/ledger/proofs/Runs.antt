-- The law of all runs.
use Rattle.std.proofs.Common.{◌≡◌, ℕ, ◌≤◌, Bool, true, false, List, [], ◌∷◌, ◌++◌, length, drop, None, sym, refl, ap, ◌∙◌, subst, ap₂, subst₂, arith}
use Rattle.std.proofs.lemmas.List.{append-nil, length-append, length-drop}
use Rattle.std.proofs.lemmas.Bool.{false≢true}
use Rattle.gem.specs.Calls.{Answered, call_turn, found}
use Rattle.gem.specs.Runs.{Beginning, Outcome, Run, begins_fit, begun, carried, cleared, continued, run_of}
use Rattle.gem.specs.declared.equipment.Call.{Call}
use Rattle.gem.specs.declared.equipment.LentCall.{LentCall}
use Rattle.lines.specs.declared.line.Line.{Line}
use Rattle.moves.specs.Books.{AllWhole}
use Rattle.moves.specs.Moves.{stays}
use Rattle.rules.specs.Views.{View}
use Rattle.rules.specs.declared.state.Core.{Core}
use Rattle.sending.specs.Sending.{frame_bytes}
use Rattle.store.specs.declared.Store.{Ghosts}
use Rattle.ledger.specs.Laws.{CallLaw, LawOf, LedgerLaw}
use Rattle.ledger.specs.Sittings.{Carried, Empty}
use Rattle.ledger.proofs.Rests.{Rest, rest_begun, rest_call, rest_law, rest_more}

-- the empty run
begun_law : (b : Beginning) → Empty b → LawOf (begun b)
begun_law b e =
    let n : length b.spool.records ≡ 0 = ap length e.spool in
    record {
      placed = λ k i. absurd i;
      once = λ k. omega arith;
      rising = tt;
      counted = omega arith;
      numbered = refl;
      known = λ k i. absurd i;
      active = λ t. absurd (false≢true t);
      inactive = λ _. e.spool;
      oldest = tt;
      queued = subst AllWhole (sym e.queue) tt;
      spooled = subst AllWhole (sym e.spool) tt;
    }

-- an equipment that is not fit refuses every call
unfit_run : (b : Beginning) (calls : List LentCall) → continued false calls (begun b) ≡ begun b
unfit_run b [] = refl
unfit_run b (l ∷ ls) = unfit_run b ls

unfit_call : (b : Beginning) (out ledger : ℕ) (c : Call) → CallLaw c (begun b).view (call_turn false out ledger c (begun b).view).after
unfit_call b out ledger c =
    record {
      moves = stays;
      lines = omega arith;
      established = λ o e. absurd (o e);
      queue = λ _ _. record { new = []; is = sym (append-nil b.queue.records) };
      spool = λ _ _. refl;
    }

rest_run : (fit : Bool) (calls : List LentCall) (r : Run) → Rest r → Rest (continued fit calls r)
rest_run fit [] r t = t
rest_run fit (l ∷ ls) r t = rest_run fit ls (carried fit l r) (rest_more fit l r t)

-- the ledger of every run is true
pub run_law : (b : Beginning) → Empty b → (calls : List LentCall) → LawOf (run_of b calls)
run_law b e calls = go (begins_fit b) refl
  where
    go : (f : Bool) → begins_fit b ≡ f → LawOf (continued f calls (begun b))
    go true f = rest_law (continued true calls (begun b)) (rest_run true calls (begun b) (rest_begun b e f))
    go false f = subst LawOf (sym (unfit_run b calls)) (begun_law b e)

-- and each of its calls does as calls do
pub run_call : (b : Beginning) → Empty b → (calls : List LentCall) (out ledger : ℕ) (c : Call) → CallLaw c (run_of b calls).view (call_turn (begins_fit b) out ledger c (run_of b calls).view).after
run_call b e calls out ledger c = go (begins_fit b) refl
  where
    go : (f : Bool) → begins_fit b ≡ f → CallLaw c (continued f calls (begun b)).view (call_turn f out ledger c (continued f calls (begun b)).view).after
    go true f = rest_call true out ledger c (continued true calls (begun b)) (rest_run true calls (begun b) (rest_begun b e f))
    go false f = subst (λ (r : Run). CallLaw c r.view (call_turn false out ledger c r.view).after) (sym (unfit_run b calls)) (unfit_call b out ledger c)

-- one call more at the end
pub run_push : (fit : Bool) (calls : List LentCall) (l : LentCall) (r : Run) → continued fit (calls ++ (l ∷ [])) r ≡ carried fit l (continued fit calls r)
run_push fit [] l r = refl
run_push fit (x ∷ xs) l r = run_push fit xs l (carried fit x r)

module _ {Q S : Type 0} (q : Ghosts Q) (s : Ghosts S) (fit : Bool) (l : LentCall) (c c' : Core Q S) (out out' : List ℕ) (ledger ledger' : List Line) (r : ℕ × ℕ × ℕ × ℕ)
    (a : Answered q s (call_turn fit l.out l.ledger l.call (found q s c)) out ledger r c' out' ledger') where
  -- the next call finds what this one left
  pub found_next : found q s c' ≡ cleared (call_turn fit l.out l.ledger l.call (found q s c)).after
  found_next = λ i. record { state = a.state i; held = record { queue = a.queue i; spool = a.spool i; spooling = a.spooling i; pending = a.pending i; lines = [] }; sent = None }

  pub carried_on : (fit' : Bool) → fit' ≡ fit → (b : Beginning) (calls : List LentCall) → Outcome q s b calls fit c → Carried q s b calls l fit c fit' c'
  carried_on fit' same b calls o =
      record {
        outcome = outcome;
        ledger = λ e. subst (λ (v : View). LedgerLaw (run_of b (calls ++ (l ∷ []))).lines (run_of b (calls ++ (l ∷ []))).since v) (sym outcome.equipment) (run_law b e (calls ++ (l ∷ [])));
        call = λ e. subst₂ (λ (f : Bool) (v : View). CallLaw l.call v (call_turn f l.out l.ledger l.call v).after) (sym o.fitness) (sym o.equipment) (run_call b e calls l.out l.ledger l.call);
      }
    where
      outcome : Outcome q s b (calls ++ (l ∷ [])) fit' c'
      outcome = record {
        fitness = same ∙ o.fitness;
        equipment = found_next
            ∙ (ap₂ (λ (f : Bool) (v : View). cleared (call_turn f l.out l.ledger l.call v).after) o.fitness o.equipment
            ∙ ap (λ (x : Run). x.view) (sym (run_push (begins_fit b) calls l (begun b))));
      }

  -- what is written fits
  pub bytes_fit : length out' ≡ length out → r.2 ≤ length out
  bytes_fit e =
      let b : List ℕ = frame_bytes (call_turn fit l.out l.ledger l.call (found q s c)).after.sent in
      omega (arith, ap (λ (z : ℕ × ℕ × ℕ × ℕ). z.2) a.answer, ap length a.bytes, length-append b (drop (length b) out), length-drop (length b) out)

  pub lines_fit : length ledger' ≡ length ledger → r.3 ≤ length ledger
  lines_fit e =
      let b : List Line = (call_turn fit l.out l.ledger l.call (found q s c)).after.held.lines in
      omega (arith, ap (λ (z : ℕ × ℕ × ℕ × ℕ). z.3) a.answer, ap length a.lines, length-append b (drop (length b) ledger), length-drop (length b) ledger)
