-- What holds between two moves of a run.
use Rattle.std.proofs.Common.{◌≡◌, ℕ, ◌+◌, ◌≤◌, Bool, true, List, [], length, arith}
use Rattle.lines.specs.declared.line.Line.{Line}
use Rattle.moves.specs.Books.{Book, OldestOpen}
use Rattle.moves.specs.Moves.{Move, Moves, goes, stays}
use Rattle.moves.proofs.Directing.{AccountsOf}

-- `past`: the lines before this call; `base`: those of them that SpoolCountTotal counts; `k`: what the lines of this call and the queue have at most
pub record Standing (past base : List Line) (k : ℕ) (active : Bool) (b : Book) : Type 0 where
  pub accounts : AccountsOf past base b.reports active b.held.queue.records b.held
  pub is : b.held.spooling.active ≡ active
  pub short : length b.held.lines + length b.held.queue.records ≤ k
  pub fits : length b.held.queue.records ≤ b.held.queue.limit
  pub small : b.held.queue.limit ≤ 8
  pub low : b.reports ≤ 4294967000 + k

-- and outside the activation of the spool
pub record Sound (past base : List Line) (k : ℕ) (active : Bool) (b : Book) : Type 0 where
  pub standing : Standing past base k active b
  pub busy : active ≡ true → b.held.queue.records ≡ []
  pub oldest : OldestOpen b.held.pending b.held.queue.records b.held.spool.records b.held.spooling.unload

-- moves that lead to a sound book
pub record Kept (overwrite : Bool) (past base : List Line) (k : ℕ) (active : Bool) (b c : Book) : Type 0 where
  pub moves : Moves overwrite b c
  pub sound : Sound past base k active c

pub joined : {o : Bool} {b c d : Book} → Moves o b c → Moves o c d → Moves o b d
joined m stays = m
joined m (goes n x) = goes (joined m n) x

pub one : {o : Bool} {b c : Book} → Move o b c → Moves o b c
one x = goes stays x

pub wider : {past base : List Line} {k : ℕ} {active : Bool} {b : Book} (n : ℕ) → k ≤ n → Sound past base k active b → Sound past base n active b
wider n l s =
    let t = s.standing in
    record { standing = record { accounts = t.accounts; is = t.is; short = omega (arith, t.short); fits = t.fits; small = t.small; low = omega (arith, t.low) }; busy = s.busy; oldest = s.oldest }

-- nothing moved
pub kept_none : {o : Bool} {past base : List Line} {k : ℕ} {active : Bool} {b : Book} → Sound past base k active b → Kept o past base k active b b
kept_none s = record { moves = stays; sound = s }

pub kept_wider : {o : Bool} {past base : List Line} {k : ℕ} {active : Bool} {b c : Book} (n : ℕ) → k ≤ n → Kept o past base k active b c → Kept o past base n active b c
kept_wider n l m = record { moves = m.moves; sound = wider n l m.sound }

-- one after another
pub kept_then : {o : Bool} {past base past' base' : List Line} {k n : ℕ} {active active' : Bool} {b c d : Book} → Kept o past base k active b c → Kept o past' base' n active' c d → Kept o past' base' n active' b d
kept_then x y = record { moves = joined x.moves y.moves; sound = y.sound }
