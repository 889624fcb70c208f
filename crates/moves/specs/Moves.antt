-- The life of a report, move by move. No move is cut short: every line is written, every count rises by one, a put to the spool
-- answers 0 and a put to the queue 0 or 1.
use Rattle.std.specs.Prelude.{◌≡◌, ◌+◌, Bool, true, false, ◌||◌, List, [], ◌∷◌, ◌++◌, Some, None, ◌≢◌}
use Rattle.lines.specs.declared.line.Letter.TheVariants.{Made, Acknowledged, SpoolAcknowledged, Dropped, Overwritten, Purged, TurnedAway}
use Rattle.spooling.specs.Entering.{closed_spool}
use Rattle.spooling.specs.Holdings.{Holding, at_capacity, with_pending, with_queue, with_spool, with_spooling}
use Rattle.spooling.specs.Leaving.{deactivated}
use Rattle.spooling.specs.declared.state.OpenReport.{OpenReport}
use Rattle.spooling.specs.declared.state.Source.TheVariants.{Queue, Spool}
use Rattle.spooling.specs.declared.state.Unload.TheVariants.{NoOutput, Transmit, Purge}
use Rattle.states.specs.Controls.{is_online}
use Rattle.states.specs.declared.control.Control.{Control}
use Rattle.states.specs.declared.link.Link.{Link}
use Rattle.states.specs.declared.link.Link.TheVariants.{Disabled}
use Rattle.store.specs.Reports.{Report, put_number}
use Rattle.moves.specs.Books.{Book, Whole, counted, said, unloads, with_held}

-- the ways of a report that is directed to the spool
pub data ToSpool (overwrite : Bool) (r : Report) (h : Holding) : Holding → Type 0 where
  -- T: the spool is FULL and does not overwrite
  turns_away : (h.spooling.full || at_capacity h.spool) ≡ true → overwrite ≡ false → ToSpool overwrite r h (said TurnedAway r.number (counted h))
  -- there is room, and the put answers 0
  stores : at_capacity h.spool ≡ false → put_number h.spool.records h.spool.limit r ≡ 0 → ToSpool overwrite r h (with_spool (h.spool.records ++ (r ∷ [])) (counted h))
  -- O: the oldest gives way, and closes where it is open; then the put answers 0
  overwrites : (o : Report) (os : List Report) → overwrite ≡ true → at_capacity h.spool ≡ true → h.spool.records ≡ o ∷ os → put_number os h.spool.limit r ≡ 0
      → ToSpool overwrite r h (with_spool (os ++ (r ∷ [])) (said Overwritten o.number (with_pending (closed_spool h.pending) (counted h))))

-- the ways of a report that was just made
pub data Way (link : Link) (overwrite : Bool) (r : Report) (h : Holding) : Holding → Type 0 where
  -- D: communications are DISABLED
  disabled : link ≡ Disabled → Way link overwrite r h (said Dropped r.number h)
  -- the spool is INACTIVE, and the queue's put answers 0
  waits : (link ≢ Disabled) → h.spooling.active ≡ false → put_number h.queue.records h.queue.limit r ≡ 0 → Way link overwrite r h (with_queue (h.queue.records ++ (r ∷ [])) h)
  -- D: the queue is at capacity, its put answers 1
  full : (link ≢ Disabled) → h.spooling.active ≡ false → put_number h.queue.records h.queue.limit r ≡ 1 → Way link overwrite r h (said Dropped r.number h)
  -- the spool is ACTIVE
  spools : {h' : Holding} → (link ≢ Disabled) → h.spooling.active ≡ true → ToSpool overwrite r h h' → Way link overwrite r h h'

pub data Move (overwrite : Bool) : Book → Book → Type 0 where
  -- M: ON-LINE a report is made with the next number, its body whole, and goes its way
  makes : {b : Book} (r : Report) {h' : Holding} → is_online b.control ≡ true → r.number ≡ b.reports + 1 → Whole r → Way b.link overwrite r (said Made r.number b.held) h'
      → Move overwrite b (record { held = h'; reports = b.reports + 1; link = b.link; control = b.control })
  -- the queue's oldest report goes to a spool that is ACTIVE
  directs : {b : Book} (r : Report) (rs : List Report) {h' : Holding} → b.held.queue.records ≡ r ∷ rs → b.held.spooling.active ≡ true → b.held.pending ≡ None
      → ToSpool overwrite r (with_queue rs b.held) h' → Move overwrite b (with_held h' b)
  -- D: the queue's oldest report is dropped
  drops : {b : Book} (r : Report) (rs : List Report) → b.held.queue.records ≡ r ∷ rs → b.held.pending ≡ None → Move overwrite b (with_held (said Dropped r.number (with_queue rs b.held)) b)
  -- P: the spool's oldest report is purged
  purges : {b : Book} (r : Report) (rs : List Report) → b.held.spool.records ≡ r ∷ rs → b.held.pending ≡ None → b.held.spooling.unload ≡ Purge
      → Move overwrite b (with_held (said Purged r.number (with_spool rs b.held)) b)
  -- A: the open report, the queue's oldest, is acknowledged
  acknowledges : {b : Book} (o : OpenReport) (r : Report) (rs : List Report) → b.held.pending ≡ Some o → o.source ≡ Queue → b.held.queue.records ≡ r ∷ rs
      → Move overwrite b (with_held (said Acknowledged r.number (with_pending None (with_queue rs b.held))) b)
  -- B: the open report, the spool's oldest, is acknowledged, and counts for this transmit
  acknowledges_spooled : {b : Book} (o : OpenReport) (r : Report) (rs : List Report) → b.held.pending ≡ Some o → o.source ≡ Spool → b.held.spool.records ≡ r ∷ rs
      → Move overwrite b (with_held (said SpoolAcknowledged r.number (unloads b.held.spooling.unload (b.held.spooling.acknowledged + 1) (with_pending None (with_spool rs b.held)))) b)
  -- an INACTIVE spool becomes ACTIVE, SpoolCountTotal 0
  activates : {b : Book} → b.held.spooling.active ≡ false → b.held.pending ≡ None
      → Move overwrite b (with_held (with_spooling (record { active = true; full = b.held.spooling.full; unload = b.held.spooling.unload; total = 0; acknowledged = b.held.spooling.acknowledged }) b.held) b)
  -- an empty spool becomes INACTIVE
  deactivates : {b : Book} → b.held.spool.records ≡ [] → Move overwrite b (with_held (deactivated b.held) b)
  -- S6,F23: an ACTIVE spool that does not unload begins to transmit, with nothing acknowledged in it yet
  transmits : {b : Book} → b.held.spooling.active ≡ true → b.held.spooling.unload ≡ NoOutput → b.held.pending ≡ None → Move overwrite b (with_held (unloads Transmit 0 b.held) b)
  -- or it begins to be purged
  starts_purge : {b : Book} → b.held.spooling.active ≡ true → b.held.spooling.unload ≡ NoOutput → b.held.pending ≡ None
      → Move overwrite b (with_held (unloads Purge b.held.spooling.acknowledged b.held) b)
  -- a transmit goes to no output
  halts : {b : Book} → b.held.spooling.unload ≡ Transmit → b.held.pending ≡ None → Move overwrite b (with_held (unloads NoOutput b.held.spooling.acknowledged b.held) b)
  -- the oldest report of a store is sent and open; it stays in its store
  opens : {b : Book} (o : OpenReport) (r : Report) (rs : List Report) → b.held.pending ≡ None → o.source ≡ Queue → b.held.queue.records ≡ r ∷ rs → o.stream ≡ r.stream → o.function ≡ r.function
      → Move overwrite b (with_held (with_pending (Some o) b.held) b)
  opens_spooled : {b : Book} (o : OpenReport) (r : Report) (rs : List Report) → b.held.pending ≡ None → o.source ≡ Spool → b.held.spool.records ≡ r ∷ rs → o.stream ≡ r.stream → o.function ≡ r.function
      → Move overwrite b (with_held (with_pending (Some o) b.held) b)
  -- the open report closes, unremoved
  closes : {b : Book} → Move overwrite b (with_held (with_pending None b.held) b)
  -- communications and control move; no report does
  turns : {b : Book} (l : Link) (c : Control) → Move overwrite b (record { held = b.held; reports = b.reports; link = l; control = c })

-- moves one after another
pub data Moves (overwrite : Bool) : Book → Book → Type 0 where
  stays : {b : Book} → Moves overwrite b b
  goes : {b c d : Book} → Moves overwrite b c → Move overwrite c d → Moves overwrite b d
