-- The pairs, computed.
use Rattle.std.proofs.Common.{◌≡◌, ℕ, ◌≤◌, true, false, eqb, ltb, leb, [], ◌∷◌, length, refl, ◌∙◌, arith}
use Rattle.std.proofs.lemmas.Bool.{cond-false, cond-true, le-leb, le-ltb, lt-leb, ne_eqb, or_from}
use Rattle.blocks.specs.Layout.{block_of, checked_bytes, head_of}
use Rattle.bodies.specs.Bodies.{body_of}
use Rattle.lines.specs.declared.line.Letter.TheVariants.{Overwritten, TurnedAway}
use Rattle.spooling.specs.Entering.{directed}
use Rattle.spooling.specs.Holdings.{Shelf}
use Rattle.spooling.specs.declared.state.Unload.{Unload}
use Rattle.store.specs.Reports.{Report, body_limit, put_number, unfit}
use Rattle.edges.specs.Edges.{EdgePairs, Settled, spool_of_two, three_directed}

fit : (r : Report) → 1 ≤ r.number → length r.body ≤ body_limit → unfit r ≡ false
fit r n l = or_from (eqb r.number 0) (ltb body_limit (length r.body)) (ne_eqb r.number 0 (λ e. omega arith)) (le-ltb body_limit (length r.body) l)

seven : (held r : Report) → held.number ≡ 7 → r.number ≡ 7 → length r.body ≤ body_limit → put_number (held ∷ []) 1 r ≡ 2
seven held r h e l = cond-false (unfit r) 3 _ (fit r (omega arith) l) ∙ cond-true (leb r.number held.number) 2 1 (le-leb r.number held.number (omega arith))

eight : (held r : Report) → held.number ≡ 7 → r.number ≡ 8 → length r.body ≤ body_limit → put_number (held ∷ []) 1 r ≡ 1
eight held r h e l = cond-false (unfit r) 3 _ (fit r (omega arith) l) ∙ cond-false (leb r.number held.number) 2 1 (lt-leb r.number held.number (omega arith))

three_turned : (queue : Shelf) (u : Unload) (n a b c : ℕ) → Settled TurnedAway 3 (three_directed false a b c (spool_of_two queue u n))
unfolding directed body_of
three_turned queue u n a b c = record { lines = refl; total = refl; actual = refl }

three_overwritten : (queue : Shelf) (u : Unload) (n a b c : ℕ) → Settled Overwritten 1 (three_directed true a b c (spool_of_two queue u n))
unfolding directed body_of
three_overwritten queue u n a b c = record { lines = refl; total = refl; actual = refl }

pub pairs : EdgePairs
unfolding block_of checked_bytes head_of
pairs =
    record {
      stale = seven;
      full = eight;
      check = refl;
      binary = refl;
      faulty = refl;
      zones = (refl, refl);
      turned = three_turned;
      overwritten = three_overwritten;
    }
