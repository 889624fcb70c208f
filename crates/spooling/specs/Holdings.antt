-- All that the rules on reports read and change.
use Rattle.std.specs.Prelude.{ℕ, Bool, List, length, Option, nat_le}
use Rattle.store.specs.Reports.{Report}
use Rattle.store.specs.declared.Store.{Ghosts}
use Rattle.lines.specs.Journals.{lines_of, noted}
use Rattle.lines.specs.declared.line.Letter.{Letter}
use Rattle.lines.specs.declared.line.Line.{Line}
use Rattle.lines.specs.declared.journal.Journal.{Journal}
use Rattle.spooling.specs.declared.state.Spooling.{Spooling}
use Rattle.spooling.specs.declared.state.OpenReport.{OpenReport}
use Rattle.spooling.specs.declared.state.Reports.{Reports}

-- what a store holds, oldest first, and its capacity
pub record Shelf : Type 0 where
  pub records : List Report
  pub limit : ℕ

-- the two stores, the spool's state, the report that is open, and the lines of this call so far
pub record Holding : Type 0 where
  pub queue : Shelf
  pub spool : Shelf
  pub spooling : Spooling
  pub pending : Option OpenReport
  pub lines : List Line

abbrev pub shelf : {S : Type 0} → Ghosts S → S → Shelf
shelf g s = record { records = g.records s; limit = g.limit s }

abbrev pub holding : {Q S : Type 0} → Ghosts Q → Ghosts S → Reports Q S → Journal → Holding
holding q s r j =
    record { queue = shelf q r.queue; spool = shelf s r.spool; spooling = r.spooling; pending = r.pending; lines = lines_of j }

abbrev pub with_queue : List Report → Holding → Holding
with_queue l h =
    record { queue = record { records = l; limit = h.queue.limit }; spool = h.spool; spooling = h.spooling; pending = h.pending; lines = h.lines }

abbrev pub with_spool : List Report → Holding → Holding
with_spool l h =
    record { queue = h.queue; spool = record { records = l; limit = h.spool.limit }; spooling = h.spooling; pending = h.pending; lines = h.lines }

abbrev pub with_spooling : Spooling → Holding → Holding
with_spooling s h = record { queue = h.queue; spool = h.spool; spooling = s; pending = h.pending; lines = h.lines }

abbrev pub with_pending : Option OpenReport → Holding → Holding
with_pending o h = record { queue = h.queue; spool = h.spool; spooling = h.spooling; pending = o; lines = h.lines }

abbrev pub add_line : Letter → ℕ → Holding → Holding
add_line letter number h =
    record { queue = h.queue; spool = h.spool; spooling = h.spooling; pending = h.pending; lines = noted letter number h.lines }

-- a store that holds as many reports as its capacity, or more
abbrev pub at_capacity : Shelf → Bool
at_capacity s = nat_le s.limit (length s.records)
