-- How reports come into the queue and the spool.
use Rattle.std.specs.Prelude.{ℕ, ◌+◌, min, Bool, cond, not, ◌&&◌, ◌||◌, Some, None, Option, ◌==◌}
use Rattle.store.specs.Reports.{Report, oldest_number, put_number, after_put, after_remove}
use Rattle.lines.specs.declared.line.Letter.TheVariants.{Made, Dropped, Overwritten, TurnedAway}
use Rattle.spooling.specs.declared.state.Source.{Source}
use Rattle.spooling.specs.declared.state.Source.TheVariants.{Queue, Spool}
use Rattle.spooling.specs.declared.state.OpenReport.{OpenReport}
use Rattle.spooling.specs.Holdings.{Holding, with_queue, with_spool, with_spooling, with_pending, add_line, at_capacity}

-- a count that stops at the largest 32-bit number
abbrev pub one_more : ℕ → ℕ
one_more n = min (n + 1) 4294967295

-- an open report that came from the spool closes
abbrev pub unless_from : Source → OpenReport → Option OpenReport
unless_from Queue o = Some o
unless_from Spool o = None

abbrev pub closed_spool : Option OpenReport → Option OpenReport
closed_spool None = None
closed_spool (Some o) = unless_from o.source o

-- the oldest report of the spool is overwritten; where it is open, it closes
abbrev pub overwritten_at : Option ℕ → Holding → Holding
overwritten_at None h = h
overwritten_at (Some n) h = add_line Overwritten n (with_pending (closed_spool h.pending) (with_spool (after_remove h.spool.records) h))

abbrev pub overwritten : Holding → Holding
overwritten h = overwritten_at (oldest_number h.spool.records) h

-- one report more is directed to the spool, which is full once one met it at capacity
abbrev pub directing : Holding → Holding
directing h =
    with_spooling (record { active = h.spooling.active; full = h.spooling.full || at_capacity h.spool; unload = h.spooling.unload; total = one_more h.spooling.total; acknowledged = h.spooling.acknowledged }) h

-- the spool takes a report as its put says
abbrev pub stored : Report → Holding → Holding
stored r h = with_spool (after_put h.spool.records h.spool.limit r) h

-- a full spool turns a report away, unless it overwrites; otherwise the report is stored
abbrev pub settled : Bool → Report → Holding → Holding
settled overwrite r h =
    cond (h.spooling.full && not overwrite)
    (add_line TurnedAway r.number h)
    (stored r (cond (at_capacity h.spool) (overwritten h) h))

unfoldable pub directed : Bool → Report → Holding → Holding
directed overwrite r h = settled overwrite r (directing h)

-- into the queue, or dropped where the queue does not take it
abbrev pub enqueued : Report → Holding → Holding
enqueued r h =
    cond (put_number h.queue.records h.queue.limit r == 0)
    (with_queue (after_put h.queue.records h.queue.limit r) h)
    (add_line Dropped r.number h)

-- a report that was made is dropped while communications are disabled, else directed to an active spool, else queued
unfoldable pub routed : Bool → Bool → Report → Holding → Holding
routed disabled overwrite r h =
    cond disabled (add_line Dropped r.number h) (cond h.spooling.active (directed overwrite r h) (enqueued r h))

abbrev pub made : Bool → Bool → Report → Holding → Holding
made disabled overwrite r h = routed disabled overwrite r (add_line Made r.number h)
