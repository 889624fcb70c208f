-- What is true of the ledger after every run.
use Rattle.std.specs.Prelude.{◌≡◌, ℕ, ◌+◌, ◌≤◌, true, false, ◌⊎◌, List, [], ◌++◌, length, Some, ◌≢◌}
use Rattle.bodies.specs.Bodies.{commack_accepted}
use Rattle.frames.specs.Frames.{Parted, frame_at}
use Rattle.gem.specs.Endings.{OneOf, frame_in}
use Rattle.gem.specs.Runs.{Run}
use Rattle.gem.specs.declared.equipment.Call.{Call}
use Rattle.gem.specs.declared.equipment.Call.TheVariants as call
use Rattle.host.specs.Replies.{answers_session}
use Rattle.lines.specs.Letters.{is_end}
use Rattle.lines.specs.declared.line.Line.{Line}
use Rattle.moves.specs.Books.{AllWhole, Book, OldestOpen}
use Rattle.moves.specs.Moves.{Moves}
use Rattle.moves.specs.Numbers.{In, Rising, is_acknowledged, is_made, is_spool_end, named, numbers, numbers_of, times, up_to}
use Rattle.requests.specs.Requests.{commack_of}
use Rattle.rules.specs.Views.{View}
use Rattle.spooling.specs.declared.state.Unload.TheVariants.{Purge}
use Rattle.states.specs.declared.link.Link.TheVariants.{Communicating, WaitCra}
use Rattle.store.specs.Reports.{Report}

-- a report number was made: a line M names it
abbrev pub WasMade : ℕ → List Line → Type 0
WasMade n ledger = In n (numbers_of is_made ledger)

-- it waits in the queue
abbrev pub Waits : ℕ → View → Type 0
Waits n v = In n (numbers v.held.queue.records)

-- it lies in the spool
abbrev pub Lies : ℕ → View → Type 0
Lies n v = In n (numbers v.held.spool.records)

-- it has an end line: A, B, D, O, P or T
abbrev pub HasEnd : ℕ → List Line → Type 0
HasEnd n ledger = In n (numbers_of is_end ledger)

-- the ledger of a run is true. `ledger`: all its lines; `since`: those from the call that last turned an INACTIVE spool ACTIVE on; `v`: the equipment
pub record LedgerLaw (ledger since : List Line) (v : View) : Type 0 where
  -- every report number made waits, lies or has an end line: exactly one of the three
  pub placed : (n : ℕ) → WasMade n ledger → OneOf (Waits n v) (Lies n v) (HasEnd n ledger)
  -- no number has two end lines
  pub once : (n : ℕ) → times n (numbers_of is_end ledger) ≤ 1
  -- the numbers of acknowledged reports rise strictly
  pub rising : Rising 0 (numbers_of is_acknowledged ledger)
  -- SpoolCountTotal is SpoolCountActual and the lines B, O, T and P
  pub counted : v.held.spooling.total ≡ length v.held.spool.records + length (numbers_of is_spool_end since)
  -- the numbers made are 1, 2, 3 and so on, up to the report count
  pub numbered : numbers_of is_made ledger ≡ up_to v.state.counts.reports
  -- no line names a number that was not made
  pub known : (n : ℕ) → In n (named ledger) → WasMade n ledger
  -- an ACTIVE spool means an empty queue, an INACTIVE one is empty
  pub active : v.held.spooling.active ≡ true → v.held.queue.records ≡ []
  pub inactive : v.held.spooling.active ≡ false → v.held.spool.records ≡ []
  -- a report that is open is the oldest of the store that it came from
  pub oldest : OldestOpen v.held.pending v.held.queue.records v.held.spool.records v.held.spooling.unload
  -- every report that is held is an S5,F1 or an S6,F11 with its body whole
  pub queued : AllWhole v.held.queue.records
  pub spooled : AllWhole v.held.spool.records

abbrev pub LawOf : Run → Type 0
LawOf r = LedgerLaw r.lines r.since r.view

-- what the moves of a report touch
abbrev pub book_of : View → Book
book_of v = record { held = v.held; reports = v.state.counts.reports; link = v.state.link; control = v.state.control }

-- the host establishes communications: its frame is S1,F13, or the awaited S1,F14 with COMMACK 0
pub record Established (frame : List ℕ) (parts : Parted) (v : View) : Type 0 where
  pub wait : v.state.link ≡ WaitCra
  pub function : parts.header.function ≡ 14
  pub answers : answers_session parts.header v.state.session ≡ true
  pub accepted : commack_of frame ≡ Some commack_accepted

pub record EstablishedBy (c : Call) (v : View) : Type 0 where
  pub frame : List ℕ
  pub from : frame_in c ≡ Some frame
  pub parts : Parted
  pub split : frame_at frame ≡ Some parts
  pub cause : ((parts.header.stream ≡ 1) × (parts.header.function ≡ 13)) ⊎ Established frame parts v

-- a store has lost none of its reports: new ones came at its end, if any
pub record Grown (before after : List Report) : Type 0 where
  pub new : List Report
  pub is : after ≡ before ++ new

-- what is true of each call of a run, that found `v` and left `w`
pub record CallLaw (c : Call) (v w : View) : Type 0 where
  -- every report goes its way by moves that are not cut short
  pub moves : Moves v.state.settings.overwrite (book_of v) (book_of w)
  -- no line is left out: a call has room for 32
  pub lines : length w.held.lines ≤ 12
  -- COMMUNICATING is entered only by a host's S1,F13 or the awaited S1,F14 with COMMACK 0
  pub established : (v.state.link ≢ Communicating) → w.state.link ≡ Communicating → EstablishedBy c v
  -- pump removes nothing, but in PURGE
  pub queue : c ≡ call.Pump → (v.held.spooling.unload ≢ Purge) → Grown v.held.queue.records w.held.queue.records
  pub spool : c ≡ call.Pump → (v.held.spooling.unload ≢ Purge) → w.held.spool.records ≡ v.held.spool.records
