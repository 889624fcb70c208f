-- A call with buffers of the sizes that are lent to it: of an output buffer 512 bytes, of a ledger 32 lines are as good as more.
use Rattle.std.proofs.Common.{◌≡◌, ℕ, ◌<◌, ◌≤◌, min, Bool, cond, ◌||◌, ltb, ◌⊎◌, List, ◌++◌, length, take, drop, Some, None, Option, sym, ap, ◌∙◌, subst, ap₂, inl, inr, arith}
use Rattle.std.proofs.lemmas.List.{append_assoc, drop-append-le, length-take-le, take-append-drop}
use Rattle.std.proofs.lemmas.Bool.{cases_lt, cond-false, le-ltb}
use Rattle.gem.specs.Calls.{Answered, call_turn, found, unless}
use Rattle.gem.specs.Turns.{refusal_of}
use Rattle.gem.specs.declared.equipment.Call.{Call}
use Rattle.gem.specs.declared.equipment.LentCall.{LentCall}
use Rattle.host.specs.Takes.{Turn}
use Rattle.lines.specs.Journals.{on_ledger}
use Rattle.lines.specs.declared.line.Line.{Line}
use Rattle.rules.specs.Views.{View}
use Rattle.rules.specs.declared.state.Core.{Core}
use Rattle.rules.specs.declared.state.Counts.{Counts}
use Rattle.setup.specs.declared.refusal.Refusal.{Refusal}
use Rattle.setup.specs.declared.refusal.Refusal.TheVariants.{CountsSpent, ShortBuffer, ShortLedger, Unfit}
use Rattle.store.specs.declared.Store.{Ghosts}
use Rattle.ledger.specs.Sittings.{Left}
use Rattle.ledger.proofs.Runs.{found_next, lines_fit}

clipped : (r : ℕ → Refusal) (n most : ℕ) (rest : Option Refusal) → cond (ltb (min n most) most) (Some (r (min n most))) rest ≡ cond (ltb n most) (Some (r n)) rest
clipped r n most rest = go (cases_lt n most)
  where
    go : (n < most) ⊎ (most ≤ n) → cond (ltb (min n most) most) (Some (r (min n most))) rest ≡ cond (ltb n most) (Some (r n)) rest
    go (inl l) = let e : min n most ≡ n = omega arith in ap (λ (m : ℕ). cond (ltb m most) (Some (r m)) rest) e
    go (inr l) = cond-false (ltb (min n most) most) (Some (r (min n most))) rest (le-ltb (min n most) most (omega arith)) ∙ sym (cond-false (ltb n most) (Some (r n)) rest (le-ltb n most l))

refusal_clipped : (fit : Bool) (out ledger : ℕ) (k : Counts) → refusal_of fit (min out 512) (min ledger 32) k ≡ refusal_of fit out ledger k
refusal_clipped fit out ledger k =
    ap (λ (x : Option Refusal). cond fit x (Some Unfit))
    (clipped ShortBuffer out 512 (cond (ltb (min ledger 32) 32) (Some (ShortLedger (min ledger 32))) (spent k))
    ∙ ap (λ (x : Option Refusal). cond (ltb out 512) (Some (ShortBuffer out)) x) (clipped ShortLedger ledger 32 (spent k)))
  where
    spent : Counts → Option Refusal
    spent c = cond (ltb 4294967000 c.transactions || ltb 4294967000 c.reports) (Some CountsSpent) None

pub call_clipped : (fit : Bool) (out ledger : ℕ) (c : Call) (v : View) → call_turn fit (min out 512) (min ledger 32) c v ≡ call_turn fit out ledger c v
call_clipped fit out ledger c v = ap (λ (o : Option Refusal). unless o c v) (refusal_clipped fit out ledger v.state.counts)

-- lines at the front of a page's front are at the page's front
on_front : (lines page : List Line) (k : ℕ) → length lines ≤ k → k ≤ length page → on_ledger lines (take k page) ++ drop k page ≡ on_ledger lines page
on_front lines page k l h =
    append_assoc lines (drop (length lines) (take k page)) (drop k page)
    ∙ ap (λ (x : List Line). lines ++ x)
    (sym (drop-append-le (length lines) (take k page) (drop k page) (omega (arith, length-take-le k page h))) ∙ ap (drop (length lines)) (take-append-drop k page))

module _ {Q S : Type 0} (q : Ghosts Q) (s : Ghosts S) (l : LentCall) (fit fit' : Bool) (c c' : Core Q S) (page : List Line) (k : ℕ) (part' : List Line) (r : ℕ × ℕ × ℕ × ℕ) where
  pub lent_left : {out out' : List ℕ} → Answered q s (call_turn fit (length out) (length (take k page)) l.call (found q s c)) out (take k page) r c' out' part'
      → fit' ≡ fit → length out ≡ min l.out 512 → k ≡ min l.ledger 32 → 32 ≤ length page → length part' ≡ length (take k page)
      → Left q s l fit c page r.3 fit' c' (part' ++ drop k page)
  lent_left {out} {out'} a f o e h w =
      let m : length (take k page) ≡ min l.ledger 32 = length-take-le k page (omega arith) ∙ e in
      let t : call_turn fit (length out) (length (take k page)) l.call (found q s c) ≡ call_turn fit l.out l.ledger l.call (found q s c) =
      ap₂ (λ (x y : ℕ). call_turn fit x y l.call (found q s c)) o m ∙ call_clipped fit l.out l.ledger l.call (found q s c) in
      let b : Answered q s (call_turn fit l.out l.ledger l.call (found q s c)) out (take k page) r c' out' part' = subst (λ (x : Turn). Answered q s x out (take k page) r c' out' part') t a in
      let n : r.3 ≡ length (call_turn fit l.out l.ledger l.call (found q s c)).after.held.lines = ap (λ (z : ℕ × ℕ × ℕ × ℕ). z.3) b.answer in
      let i : r.3 ≤ length (take k page) = lines_fit q s fit l c c' out out' (take k page) part' r b w in
      record {
        fitness = f;
        equipment = found_next q s fit l c c' out out' (take k page) part' r b;
        count = n;
        within = omega arith;
        lines = ap (λ (x : List Line). x ++ drop k page) b.lines ∙ on_front (call_turn fit l.out l.ledger l.call (found q s c)).after.held.lines page k (omega arith) (omega arith);
      }
