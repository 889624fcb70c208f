-- What a put answers to the next report, and what becomes of an open one.
use Rattle.std.proofs.Common.{◌≡◌, ℕ, ◌<◌, ◌≤◌, false, eqb, ltb, leb, List, [], ◌∷◌, ◌++◌, length, Some, None, Option, sym, refl, ◌∙◌, subst, inl, inr, arith}
use Rattle.std.proofs.lemmas.Bool.{cond-false, cond-true, eq-eqb, le-leb, le-ltb, lt-leb, ne_eqb, or_from}
use Rattle.bodies.proofs.Limits.{every_body_fits}
use Rattle.bodies.specs.declared.body.Body.TheVariants as body
use Rattle.spooling.specs.Entering.{closed_spool, unless_from}
use Rattle.spooling.specs.declared.state.OpenReport.{OpenReport}
use Rattle.spooling.specs.declared.state.Source.{Source}
use Rattle.spooling.specs.declared.state.Source.TheVariants.{Queue, Spool}
use Rattle.spooling.specs.declared.state.Unload.{Unload}
use Rattle.store.specs.Reports.{Report, after_put, body_limit, newest_number, put_number, unfit}
use Rattle.moves.specs.Books.{OldestOpen, OpensFirst, OpensFrom, Whole}
use Rattle.moves.specs.Numbers.{numbers}
use Rattle.moves.proofs.Ascents.{Asc, asc_back}

-- a whole body is within the limit
pub whole_fits : (r : Report) → Whole r → length r.body ≤ 480
whole_fits r (inl e) = subst (λ (bs : List ℕ). length bs ≤ 480) (sym e.body) (every_body_fits (body.Event r.number e.event))
whole_fits r (inr e) = subst (λ (bs : List ℕ). length bs ≤ 480) (sym e.body) (every_body_fits (body.Alarm e.alcd e.alarm))

fit : (r : Report) → 1 ≤ r.number → Whole r → unfit r ≡ false
fit r n w =
    or_from (eqb r.number 0) (ltb body_limit (length r.body)) (ne_eqb r.number 0 (λ e. omega arith)) (le-ltb body_limit (length r.body) (whole_fits r w))

newest_go : (lo : ℕ) (xs : List Report) (r : Report) (ys : List Report) (hi : ℕ) → Asc lo (numbers (xs ++ (r ∷ ys))) hi → newest_number xs < r.number
newest_go lo [] r ys hi h = omega (arith, h.0)
newest_go lo (x ∷ []) r ys hi h = h.1.0
newest_go lo (x ∷ (y ∷ xs)) r ys hi h = newest_go x.number (y ∷ xs) r ys hi h.1

-- the reports before one are all older
pub newest_below : (acked : List ℕ) (xs : List Report) (r : Report) (ys : List Report) (hi : ℕ) → Asc 0 (acked ++ numbers (xs ++ (r ∷ ys))) hi → newest_number xs < r.number
newest_below acked xs r ys hi h = newest_go 0 xs r ys hi (asc_back 0 acked (numbers (xs ++ (r ∷ ys))) hi h)

pub put_taken : (held : List Report) (limit : ℕ) (r : Report) → 1 ≤ r.number → Whole r → newest_number held < r.number → length held < limit → put_number held limit r ≡ 0
put_taken held limit r n w b l =
    cond-false (unfit r) 3 _ (fit r n w) ∙ (cond-false (leb r.number (newest_number held)) 2 _ (lt-leb r.number (newest_number held) b)
    ∙ cond-false (leb limit (length held)) 1 0 (lt-leb limit (length held) l))

pub put_full : (held : List Report) (limit : ℕ) (r : Report) → 1 ≤ r.number → Whole r → newest_number held < r.number → limit ≤ length held → put_number held limit r ≡ 1
put_full held limit r n w b l =
    cond-false (unfit r) 3 _ (fit r n w) ∙ (cond-false (leb r.number (newest_number held)) 2 _ (lt-leb r.number (newest_number held) b)
    ∙ cond-true (leb limit (length held)) 1 0 (le-leb limit (length held) l))

pub put_adds : (held : List Report) (limit : ℕ) (r : Report) → put_number held limit r ≡ 0 → after_put held limit r ≡ held ++ (r ∷ [])
put_adds held limit r e = cond-true (eqb (put_number held limit r) 0) (held ++ (r ∷ [])) held (eq-eqb (put_number held limit r) 0 e)

-- a report more at the end of a store leaves its oldest
first_push : (o : OpenReport) (xs : List Report) (r : Report) → OpensFirst o xs → OpensFirst o (xs ++ (r ∷ []))
first_push o [] r h = absurd h
first_push o (x ∷ xs) r h = h

pub open_queued : (p : Option OpenReport) (queue spool : List Report) (u : Unload) (r : Report) → OldestOpen p queue spool u → OldestOpen p (queue ++ (r ∷ [])) spool u
open_queued None queue spool u r h = tt
open_queued (Some o) queue spool u r h = go o.source h
  where
    go : (s : Source) → OpensFrom s o queue spool u → OpensFrom s o (queue ++ (r ∷ [])) spool u
    go Queue k = first_push o queue r k
    go Spool k = k

pub open_spooled : (p : Option OpenReport) (queue spool : List Report) (u : Unload) (r : Report) → OldestOpen p queue spool u → OldestOpen p queue (spool ++ (r ∷ [])) u
open_spooled None queue spool u r h = tt
open_spooled (Some o) queue spool u r h = go o.source h
  where
    go : (s : Source) → OpensFrom s o queue spool u → OpensFrom s o queue (spool ++ (r ∷ [])) u
    go Queue k = k
    go Spool k = (first_push o spool r k.0, k.1)

-- whatever becomes of the spool, an open report of its closed
pub open_closed : (p : Option OpenReport) (queue spool spool' : List Report) (u : Unload) → OldestOpen p queue spool u → OldestOpen (closed_spool p) queue spool' u
open_closed None queue spool spool' u h = tt
open_closed (Some o) queue spool spool' u h = go o.source refl h
  where
    go : (s : Source) → o.source ≡ s → OpensFrom s o queue spool u → OldestOpen (unless_from s o) queue spool' u
    go Queue e k = subst (λ (s : Source). OpensFrom s o queue spool' u) (sym e) k
    go Spool e k = tt
