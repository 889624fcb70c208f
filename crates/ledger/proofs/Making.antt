-- A run, call by call.
use Rattle.std.proofs.Common.{◌≡◌, ℕ, ◌+◌, ◌-◌, ◌<◌, ◌≤◌, Bool, true, leb, List, [], ◌++◌, length, get_or, take, drop, sym, refl, ap, ◌∙◌, subst, ap₂, arith}
use borrow.Rule.Slice.PartMut.{post_of, put_mid}
use Rattle.std.proofs.lemmas.List.{append_assoc, append-nil, drop_all, drop_at, drop-drop, drop_more, length-append, length-drop, length-take-le, take_at, take_more, take_rest}
use Rattle.std.proofs.lemmas.Bool.{cond-false, cond-true, le-leb, lt-leb}
use Rattle.gem.specs.Calls.{call_turn, found}
use Rattle.gem.specs.Runs.{Beginning, Run, begins_fit, begun, carried, cleared, continued, left_by, run_of}
use Rattle.gem.specs.declared.equipment.LentCall.{LentCall}
use Rattle.lines.specs.Journals.{on_ledger}
use Rattle.lines.specs.declared.line.Line.{Line}
use Rattle.rules.specs.Views.{View}
use Rattle.rules.specs.declared.state.Core.{Core}
use Rattle.spooling.specs.Holdings.{shelf}
use Rattle.store.specs.declared.Store.{Ghosts}
use Rattle.ledger.specs.Laws.{LedgerLaw}
use Rattle.ledger.specs.Sittings.{Left, Ran, calls_made, calls_within}
use Rattle.ledger.proofs.Runs.{run_law, run_push}

-- what an equipment began with, while no call was made
abbrev pub beginning_of : {Q S : Type 0} → Ghosts Q → Ghosts S → Core Q S → Beginning
beginning_of q s c = record { setup = c.state.setup; settings = c.state.settings; queue = shelf q c.reports.queue; spool = shelf s c.reports.spool }

-- so many calls of a run are made
pub record Making {Q S : Type 0} (q : Ghosts Q) (s : Ghosts S) (b : Beginning) (calls : List LentCall) (i : ℕ) (before : List Line) (n m : ℕ) (fit : Bool) (c : Core Q S) (after : List Line) : Type 0 where
  pub made : n ≡ i
  pub same : length after ≡ length before
  pub within : m ≤ length after
  pub fitness : fit ≡ begins_fit b
  pub equipment : found q s c ≡ (run_of b (take i calls)).view
  pub lines : m ≡ length (run_of b (take i calls)).lines
  pub ledger : after ≡ on_ledger (run_of b (take i calls)).lines before
  pub left : calls_within (length before) (begins_fit b) calls (begun b) ≡ i + calls_within (length before) (begins_fit b) (drop i calls) (run_of b (take i calls))

-- lines after lines
on_more : (xs ys before : List Line) → take (length xs) (on_ledger xs before) ++ (on_ledger ys (drop (length xs) before) ++ []) ≡ on_ledger (xs ++ ys) before
on_more xs ys before =
    ap₂ (λ (x y : List Line). x ++ y) (take_at xs (drop (length xs) before) (length xs) refl)
    (append-nil (on_ledger ys (drop (length xs) before)) ∙ ap (λ (x : List Line). ys ++ x) (drop-drop (length ys) (length xs) before ∙ ap (λ (k : ℕ). drop k before) (sym (length-append xs ys))))
    ∙ sym (append_assoc xs ys (drop (length (xs ++ ys)) before))

module _ {Q S : Type 0} (q : Ghosts Q) (s : Ghosts S) (b : Beginning) (calls : List LentCall) (i : ℕ) (before : List Line) (n m : ℕ) (fit : Bool) (c : Core Q S) (after : List Line)
    (w : Making q s b calls i before n m fit c after) where
  -- one call more
  module _ (d : LentCall) (k : ℕ) (fit' : Bool) (c' : Core Q S) (page' : List Line) (h : i < length calls) (room : 32 ≤ length after - m)
      (x : Left q s (get_or calls i d) fit c (take (length after - m) (drop m after)) k fit' c' page') (p : length page' ≡ length (take (length after - m) (drop m after))) where
    abbrev l : LentCall
    l = get_or calls i d

    abbrev R : Run
    R = run_of b (take i calls)

    -- what the call leaves
    abbrev W : View
    W = left_by (begins_fit b) (get_or calls i d) (run_of b (take i calls))

    next : run_of b (take (i + 1) calls) ≡ carried (begins_fit b) l R
    next = ap (λ (cs : List LentCall). continued (begins_fit b) cs (begun b)) (take_more calls i d h) ∙ run_push (begins_fit b) (take i calls) (get_or calls i d) (begun b)

    is : (call_turn fit l.out l.ledger l.call (found q s c)).after ≡ W
    is = ap₂ (λ (f : Bool) (v : View). (call_turn f l.out l.ledger l.call v).after) w.fitness w.equipment

    count : k ≡ length W.held.lines
    count = x.count ∙ ap (λ (v : View). length v.held.lines) is

    -- the page is what is left of the ledger
    page : take (length after - m) (drop m after) ≡ drop (length R.lines) before
    page =
        take_rest after m ∙ (ap₂ (λ (j : ℕ) (z : List Line). drop j z) w.lines w.ledger ∙ drop_at R.lines (drop (length R.lines) before) (length R.lines) refl)

    page_after : page' ≡ on_ledger W.held.lines (drop (length R.lines) before)
    page_after = x.lines ∙ ap₂ (λ (v : View) (z : List Line). on_ledger v.held.lines z) is page

    post : post_of m (length after - m) after ≡ []
    post = drop_all (length after - m) (drop m after) (omega (arith, length-drop m after))

    ledger_after : put_mid m (length after - m) after page' ≡ on_ledger (R.lines ++ W.held.lines) before
    ledger_after =
        ap₂ (λ (z y : List Line). take m after ++ (z ++ y)) page_after post
        ∙ (ap₂ (λ (j : ℕ) (z : List Line). take j z ++ (on_ledger W.held.lines (drop (length R.lines) before) ++ [])) w.lines w.ledger ∙ on_more R.lines W.held.lines before)

    length_after : length (put_mid m (length after - m) after page') ≡ length after
    length_after =
        let z : length (post_of m (length after - m) after) ≡ 0 = ap length post in
        omega (arith, w.within, length-append (take m after) (page' ++ post_of m (length after - m) after), length-append page' (post_of m (length after - m) after), length-take-le m after w.within, p, ap length (take_rest after m), length-drop m after)

    room_left : leb (length R.lines + 32) (length before) ≡ true
    room_left = le-leb (length R.lines + 32) (length before) (omega (arith, w.lines, w.same))

    left_after : calls_within (length before) (begins_fit b) calls (begun b) ≡ (i + 1) + calls_within (length before) (begins_fit b) (drop (i + 1) calls) (run_of b (take (i + 1) calls))
    left_after =
        let e : calls_within (length before) (begins_fit b) (drop i calls) R ≡ 1 + calls_within (length before) (begins_fit b) (drop (i + 1) calls) (run_of b (take (i + 1) calls)) =
        ap (λ (cs : List LentCall). calls_within (length before) (begins_fit b) cs R) (drop_more calls i d h)
        ∙ (cond-true (leb (length R.lines + 32) (length before)) (1 + calls_within (length before) (begins_fit b) (drop (i + 1) calls) (carried (begins_fit b) l R)) 0 room_left
        ∙ ap (λ (z : Run). 1 + calls_within (length before) (begins_fit b) (drop (i + 1) calls) z) (sym next)) in
        omega (arith, w.left, e)

    pub making_more : Making q s b calls (i + 1) before (n + 1) (m + k) fit' c' (put_mid m (length after - m) after page')
    making_more =
        record {
          made = omega (arith, w.made);
          same = length_after ∙ w.same;
          within = omega (arith, length_after, x.within, w.within);
          fitness = x.fitness ∙ w.fitness;
          equipment = x.equipment ∙ (ap cleared is ∙ ap (λ (z : Run). z.view) (sym next));
          lines = omega (arith, w.lines, count, length-append R.lines W.held.lines, ap (λ (z : Run). length z.lines) next);
          ledger = ledger_after ∙ ap (λ (z : Run). on_ledger z.lines before) (sym next);
          left = left_after;
        }

  -- no call more
  making_ran : calls_within (length before) (begins_fit b) (drop i calls) (run_of b (take i calls)) ≡ 0 → Ran q s b calls before n m fit c after
  making_ran z =
      let e : calls_within (length before) (begins_fit b) calls (begun b) ≡ i = omega (arith, w.left) in
      let t : take i calls ≡ calls_made b calls before = ap (λ (j : ℕ). take j calls) (sym e) in
      let f : take m after ≡ (run_of b (take i calls)).lines = ap₂ (λ (j : ℕ) (y : List Line). take j y) w.lines w.ledger ∙ take_at (run_of b (take i calls)).lines (drop (length (run_of b (take i calls)).lines) before) (length (run_of b (take i calls)).lines) refl in
      record {
        made = omega (arith, w.made);
        outcome = record { fitness = w.fitness; equipment = w.equipment ∙ ap (λ (cs : List LentCall). (run_of b cs).view) t };
        lines = w.lines ∙ ap (λ (cs : List LentCall). length (run_of b cs).lines) t;
        ledger = w.ledger ∙ ap (λ (cs : List LentCall). on_ledger (run_of b cs).lines before) t;
        law = λ y.
            subst (λ (cs : List LentCall). LedgerLaw (take m after) (run_of b cs).since (found q s c)) t
            (subst (λ (ls : List Line). LedgerLaw ls (run_of b (take i calls)).since (found q s c)) (sym f)
            (subst (λ (v : View). LedgerLaw (run_of b (take i calls)).lines (run_of b (take i calls)).since v) (sym w.equipment) (run_law b y (take i calls))));
      }

  -- all calls are made
  pub ran_all : length calls ≤ i → Ran q s b calls before n m fit c after
  ran_all h = making_ran (ap (λ (cs : List LentCall). calls_within (length before) (begins_fit b) cs (run_of b (take i calls))) (drop_all i calls h))

  -- too few lines are left
  pub ran_short : (d : LentCall) → i < length calls → length after - m < 32 → Ran q s b calls before n m fit c after
  ran_short d h room =
      making_ran (ap (λ (cs : List LentCall). calls_within (length before) (begins_fit b) cs (run_of b (take i calls))) (drop_more calls i d h)
      ∙ cond-false (leb (length (run_of b (take i calls)).lines + 32) (length before)) (1 + calls_within (length before) (begins_fit b) (drop (i + 1) calls) (carried (begins_fit b) (get_or calls i d) (run_of b (take i calls)))) 0
      (lt-leb (length (run_of b (take i calls)).lines + 32) (length before) (omega (arith, w.lines, w.same, w.within))))
