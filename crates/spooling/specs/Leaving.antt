-- How reports leave the queue and the spool.
use Rattle.std.specs.Prelude.{ℕ, Bool, true, false, List, [], ◌∷◌, Some, None, Option}
use Rattle.store.specs.Reports.{Report, oldest_number, after_remove}
use Rattle.lines.specs.declared.line.Letter.TheVariants.{Acknowledged, SpoolAcknowledged, Dropped, Purged}
use Rattle.spooling.specs.declared.state.Unload.{Unload}
use Rattle.spooling.specs.declared.state.Unload.TheVariants.{NoOutput, Transmit}
use Rattle.spooling.specs.declared.state.Source.{Source}
use Rattle.spooling.specs.declared.state.Source.TheVariants.{Queue, Spool}
use Rattle.spooling.specs.declared.state.OpenReport.{OpenReport}
use Rattle.spooling.specs.Holdings.{Holding, with_queue, with_spool, with_spooling, with_pending, add_line}
use Rattle.spooling.specs.Entering.{one_more, directed}

-- the oldest report of the queue is dropped
abbrev pub dropped_at : Option ℕ → Holding → Holding
dropped_at None h = h
dropped_at (Some n) h = add_line Dropped n (with_queue (after_remove h.queue.records) h)

-- every report of the queue is dropped, oldest first
abbrev pub dropped_all : List Report → Holding → Holding
dropped_all [] h = h
dropped_all (r ∷ rs) h = dropped_all rs (dropped_at (Some r.number) h)

unfoldable pub dropped : Holding → Holding
dropped h = dropped_all h.queue.records h

-- the oldest report of the queue, whose list this is, is directed to the spool
abbrev pub moved_at : Bool → List Report → Holding → Holding
moved_at overwrite [] h = h
moved_at overwrite (r ∷ rs) h = directed overwrite r (with_queue rs h)

-- every report of the queue is directed to the spool, oldest first
abbrev pub moved_all : Bool → List Report → Holding → Holding
moved_all overwrite [] h = h
moved_all overwrite (r ∷ rs) h = moved_all overwrite rs (moved_at overwrite (r ∷ rs) h)

unfoldable pub moved : Bool → Holding → Holding
moved overwrite h = moved_all overwrite h.queue.records h

-- an inactive spool becomes active: its total begins at 0 and it takes the queue
unfoldable pub activated : Bool → Holding → Holding
activated overwrite h =
    moved overwrite (with_spooling (record { active = true; full = h.spooling.full; unload = h.spooling.unload; total = 0; acknowledged = h.spooling.acknowledged }) h)

-- the spool becomes inactive: not full, and nothing is unloaded
abbrev pub deactivated : Holding → Holding
deactivated h =
    with_spooling (record { active = false; full = false; unload = NoOutput; total = h.spooling.total; acknowledged = h.spooling.acknowledged }) h

-- the spool unloads in another way
abbrev pub unloading : Unload → Holding → Holding
unloading u h =
    with_spooling (record { active = h.spooling.active; full = h.spooling.full; unload = u; total = h.spooling.total; acknowledged = h.spooling.acknowledged }) h

-- a transmit begins: nothing is acknowledged in it yet
abbrev pub transmitting : Holding → Holding
transmitting h =
    with_spooling (record { active = h.spooling.active; full = h.spooling.full; unload = Transmit; total = h.spooling.total; acknowledged = 0 }) h

-- the oldest report of the spool is purged
abbrev pub purged_at : Option ℕ → Holding → Holding
purged_at None h = h
purged_at (Some n) h = add_line Purged n (with_spool (after_remove h.spool.records) h)

-- a report from the queue is acknowledged: the oldest one
abbrev pub queue_acked_at : Option ℕ → Holding → Holding
queue_acked_at None h = h
queue_acked_at (Some n) h = add_line Acknowledged n (with_queue (after_remove h.queue.records) h)

-- a report from the spool is acknowledged: the oldest one, and it counts for this transmit
abbrev pub spool_acked_at : Option ℕ → Holding → Holding
spool_acked_at None h = h
spool_acked_at (Some n) h =
    add_line SpoolAcknowledged n
    (with_spooling (record { active = h.spooling.active; full = h.spooling.full; unload = h.spooling.unload; total = h.spooling.total; acknowledged = one_more h.spooling.acknowledged })
    (with_spool (after_remove h.spool.records) h))

-- the open report is acknowledged: it leaves its store and closes
abbrev pub acknowledged_from : Source → Holding → Holding
acknowledged_from Queue h = queue_acked_at (oldest_number h.queue.records) h
acknowledged_from Spool h = spool_acked_at (oldest_number h.spool.records) h

abbrev pub acknowledged_at : Option OpenReport → Holding → Holding
acknowledged_at None h = h
acknowledged_at (Some o) h = acknowledged_from o.source (with_pending None h)

unfoldable pub acknowledged : Holding → Holding
acknowledged h = acknowledged_at h.pending h
