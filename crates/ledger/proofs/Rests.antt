-- Between two calls of a run.
use Rattle.std.proofs.Common.{◌≡◌, ℕ, ◌+◌, ◌<◌, ◌≤◌, Bool, true, false, cond, eqb, leb, ◌⊎◌, List, [], ◌∷◌, ◌++◌, length, sym, refl, ap, ◌∙◌, subst, subst₂, inl, inr, arith}
use Rattle.std.proofs.lemmas.List.{append-nil}
use Rattle.std.proofs.lemmas.Bool.{and_parts, cases_lt, false≢true, leb-true}
use Rattle.gem.specs.Calls.{call_turn}
use Rattle.gem.specs.Endings.{OneOf, first, second, third}
use Rattle.gem.specs.Runs.{Beginning, Run, activates, begins_fit, begun, carried, left_by}
use Rattle.gem.specs.declared.equipment.Call.{Call}
use Rattle.gem.specs.declared.equipment.LentCall.{LentCall}
use Rattle.lines.specs.Letters.{is_end}
use Rattle.lines.specs.declared.line.Line.{Line}
use Rattle.moves.proofs.Accounts.{Accounts}
use Rattle.moves.proofs.Ascents.{asc_front, in_times, times_in, times_up_to, times_within}
use Rattle.moves.proofs.Sounds.{Sound}
use Rattle.moves.specs.Books.{AllWhole}
use Rattle.moves.specs.Numbers.{In, is_acknowledged, is_made, numbers, numbers_of, times}
use Rattle.rules.specs.Views.{View}
use Rattle.store.specs.Reports.{Report}
use Rattle.ledger.specs.Laws.{CallLaw, Grown, LawOf, book_of}
use Rattle.ledger.specs.Sittings.{Empty}
use Rattle.ledger.proofs.Calls.{call_final}
use Rattle.ledger.proofs.Links.{call_by}
use Rattle.ledger.proofs.Pumps.{pump_untaken}

-- the accounts are true, and the next call finds no line
pub record Rest (r : Run) : Type 0 where
  pub active : Bool
  pub sound : Sound r.lines r.since 12 active (book_of r.view)
  pub clean : r.view.held.lines ≡ []

joined : (t : Bool) (xs ys : List Line) → cond t [] xs ++ ys ≡ cond t ys (xs ++ ys)
joined true xs ys = refl
joined false xs ys = refl

-- one call more
pub rest_more : (fit : Bool) (l : LentCall) (r : Run) → Rest r → Rest (carried fit l r)
rest_more fit l r t =
    let w : View = left_by fit l r in
    let f = call_final fit l.out l.ledger l.call r.lines r.since t.active r.view t.clean t.sound in
    let d = f.sound.standing in
    record {
      active = f.active;
      sound = record {
        standing = record {
          accounts = subst₂ (λ (x y : List Line). Accounts w.held.queue.records w.held.spool.records x y w.state.counts.reports w.held.spooling.total w.held.spooling.acknowledged w.held.spool.limit f.active)
              (sym (append-nil (r.lines ++ w.held.lines)))
              (joined (activates r.view w) r.since w.held.lines ∙ sym (append-nil (cond (activates r.view w) w.held.lines (r.since ++ w.held.lines))))
              d.accounts;
          is = d.is;
          short = omega (arith, d.short);
          fits = d.fits;
          small = d.small;
          low = d.low;
        };
        busy = f.sound.busy;
        oldest = f.sound.oldest;
      };
      clean = refl;
    }

-- exactly one of three places
place : (n : ℕ) (q s e : List ℕ) → times n q + times n s + times n e ≡ 1 → OneOf (In n q) (In n s) (In n e)
place n q s e h = go (cases_lt 0 (times n q)) (cases_lt 0 (times n s))
  where
    over : {x y : ℕ} → 1 ≤ x → 1 ≤ y → x + y ≤ 1 → ⊥
    over a b c = omega arith

    go : (0 < times n q) ⊎ (times n q ≤ 0) → (0 < times n s) ⊎ (times n s ≤ 0) → OneOf (In n q) (In n s) (In n e)
    go (inl a) y = first (times_in n q a) (λ i. over a (in_times n s i) (omega arith)) (λ i. over a (in_times n e i) (omega arith))
    go (inr a) (inl b) = second (λ i. let k = in_times n q i in omega arith) (times_in n s b) (λ i. over b (in_times n e i) (omega arith))
    go (inr a) (inr b) = third (λ i. let k = in_times n q i in omega arith) (λ i. let k = in_times n s i in omega arith) (times_in n e (omega arith))

whole_front : (xs ys : List Report) → AllWhole (xs ++ ys) → AllWhole xs
whole_front [] ys h = tt
whole_front (x ∷ xs) ys h = (h.0, whole_front xs ys h.1)

whole_back : (xs ys : List Report) → AllWhole (xs ++ ys) → AllWhole ys
whole_back [] ys h = h
whole_back (x ∷ xs) ys h = whole_back xs ys h.1

-- the law, from the accounts
pub rest_law : (r : Run) → Rest r → LawOf r
rest_law r t =
    record {
      placed = λ n i. place n (numbers v.held.queue.records) (numbers v.held.spool.records) (numbers_of is_end r.lines)
          (let l = in_times n (numbers_of is_made r.lines) i in omega (arith, a.places n, ap (times n) a.made, times_up_to n v.state.counts.reports));
      once = λ n. omega (arith, a.places n, ap (times n) a.made, times_up_to n v.state.counts.reports);
      rising = asc_front 0 (numbers_of is_acknowledged r.lines) (numbers (v.held.spool.records ++ v.held.queue.records)) v.state.counts.reports a.asc;
      counted = a.count;
      numbered = a.made;
      known = λ n i. times_in n (numbers_of is_made r.lines) (omega (arith, ap (times n) a.made, times_within n v.state.counts.reports (a.known n i).0 (a.known n i).1));
      active = λ e. t.sound.busy (sym t.sound.standing.is ∙ e);
      inactive = λ e. a.idle (sym t.sound.standing.is ∙ e);
      oldest = t.sound.oldest;
      queued = whole_back v.held.spool.records v.held.queue.records a.whole;
      spooled = whole_front v.held.spool.records v.held.queue.records a.whole;
    }
  where
    v : View
    v = r.view

    a : Accounts r.view.held.queue.records r.view.held.spool.records r.lines r.since r.view.state.counts.reports r.view.held.spooling.total r.view.held.spooling.acknowledged r.view.held.spool.limit t.active
    a = subst₂ (λ (x y : List Line). Accounts r.view.held.queue.records r.view.held.spool.records x y r.view.state.counts.reports r.view.held.spooling.total r.view.held.spooling.acknowledged r.view.held.spool.limit t.active)
        (ap (λ (x : List Line). r.lines ++ x) t.clean ∙ append-nil r.lines)
        (ap (λ (x : List Line). r.since ++ x) t.clean ∙ append-nil r.since)
        t.sound.standing.accounts

-- what is true of the next call
pub rest_call : (fit : Bool) (out ledger : ℕ) (c : Call) (r : Run) → Rest r → CallLaw c r.view (call_turn fit out ledger c r.view).after
rest_call fit out ledger c r t =
    let f = call_final fit out ledger c r.lines r.since t.active r.view t.clean t.sound in
    record {
      moves = f.moves;
      lines = omega (arith, f.sound.standing.short);
      established = λ o e. call_by r.view o fit out ledger c e;
      queue = λ e u. subst (λ (x : Call). Grown r.view.held.queue.records (call_turn fit out ledger x r.view).after.held.queue.records) (sym e) (pump_untaken fit out ledger r.view u).queue;
      spool = λ e u. subst (λ (x : Call). (call_turn fit out ledger x r.view).after.held.spool.records ≡ r.view.held.spool.records) (sym e) (pump_untaken fit out ledger r.view u).spool;
    }

-- an equipment that is fit begins so
pub rest_begun : (b : Beginning) → Empty b → begins_fit b ≡ true → Rest (begun b)
rest_begun b e f =
    let n : length b.queue.records ≡ 0 = ap length e.queue in
    let p = and_parts (eqb (length b.queue.records) 0) _ f in
    let q = and_parts (eqb (length b.spool.records) 0) _ p.1 in
    let x = and_parts (leb 1 b.queue.limit) _ q.1 in
    let y = and_parts (leb b.queue.limit 8) _ x.1 in
    let z = and_parts (leb 1 b.spool.limit) _ y.1 in
    record {
      active = false;
      sound = record {
        standing = record {
          accounts = subst₂ (λ (xs ys : List Report). Accounts xs ys ([] ++ []) ([] ++ []) 0 0 0 b.spool.limit false) (sym e.queue) (sym e.spool)
              (record {
                asc = omega arith;
                whole = tt;
                places = λ k. refl;
                made = refl;
                known = λ k i. absurd i;
                size = omega arith;
                some = leb-true 1 b.spool.limit z.0;
                count = refl;
                load = omega arith;
                done = omega arith;
                idle = λ _. refl;
              });
          is = refl;
          short = omega arith;
          fits = omega arith;
          small = leb-true b.queue.limit 8 y.0;
          low = omega arith;
        };
        busy = λ u. absurd (false≢true u);
        oldest = tt;
      };
      clean = refl;
    }
