-- What the life of a report touches.
use Rattle.std.specs.Prelude.{◌≡◌, ℕ, ◌+◌, ◌||◌, ◌⊎◌, List, [], ◌∷◌, ◌++◌, Some, None, Option}
use Rattle.bodies.specs.Bodies.{body_of}
use Rattle.bodies.specs.declared.body.Body.TheVariants as body
use Rattle.lines.specs.declared.line.Letter.{Letter}
use Rattle.spooling.specs.Holdings.{Holding, at_capacity, with_spooling}
use Rattle.spooling.specs.declared.state.OpenReport.{OpenReport}
use Rattle.spooling.specs.declared.state.Source.{Source}
use Rattle.spooling.specs.declared.state.Source.TheVariants.{Queue, Spool}
use Rattle.spooling.specs.declared.state.Unload.{Unload}
use Rattle.spooling.specs.declared.state.Unload.TheVariants.{Transmit}
use Rattle.states.specs.declared.control.Control.{Control}
use Rattle.states.specs.declared.link.Link.{Link}
use Rattle.store.specs.Reports.{Report}

-- the stores, the spool's state, the open report and the lines of this call; how many reports were made; communications and control
pub record Book : Type 0 where
  pub held : Holding
  pub reports : ℕ
  pub link : Link
  pub control : Control

abbrev pub with_held : Holding → Book → Book
with_held h b = record { held = h; reports = b.reports; link = b.link; control = b.control }

-- one line more
abbrev pub said : Letter → ℕ → Holding → Holding
said letter n h =
    record { queue = h.queue; spool = h.spool; spooling = h.spooling; pending = h.pending; lines = h.lines ++ (record { letter = letter; number = n } ∷ []) }

-- one report more is directed to the spool: SpoolCountTotal rises by one, and a report that meets the spool at capacity makes it FULL
abbrev pub counted : Holding → Holding
counted h =
    with_spooling (record { active = h.spooling.active; full = h.spooling.full || at_capacity h.spool; unload = h.spooling.unload; total = h.spooling.total + 1; acknowledged = h.spooling.acknowledged }) h

-- the spool unloads in another way, so many reports being acknowledged in it
abbrev pub unloads : Unload → ℕ → Holding → Holding
unloads u n h =
    with_spooling (record { active = h.spooling.active; full = h.spooling.full; unload = u; total = h.spooling.total; acknowledged = n }) h

-- S6,F11 of an event, which names its own number
pub record EventReport (r : Report) : Type 0 where
  pub event : ℕ
  pub stream : r.stream ≡ 6
  pub function : r.function ≡ 11
  pub body : r.body ≡ body_of (body.Event r.number event)

-- S5,F1 of an alarm
pub record AlarmReport (r : Report) : Type 0 where
  pub alcd : ℕ
  pub alarm : ℕ
  pub stream : r.stream ≡ 5
  pub function : r.function ≡ 1
  pub body : r.body ≡ body_of (body.Alarm alcd alarm)

-- a report with its body whole
abbrev pub Whole : Report → Type 0
Whole r = EventReport r ⊎ AlarmReport r

abbrev pub AllWhole : List Report → Type 0
AllWhole [] = Unit {0}
AllWhole (r ∷ rs) = Whole r × AllWhole rs

-- the open report is the first of a list
abbrev pub OpensFirst : OpenReport → List Report → Type 0
OpensFirst o [] = ⊥
OpensFirst o (r ∷ rs) = (o.stream ≡ r.stream) × (o.function ≡ r.function)

-- it is the oldest of the store that it came from, the queue or a spool that transmits
abbrev pub OpensFrom : Source → OpenReport → List Report → List Report → Unload → Type 0
OpensFrom Queue o queue spool unload = OpensFirst o queue
OpensFrom Spool o queue spool unload = OpensFirst o spool × (unload ≡ Transmit)

-- where a report is open, it is so
abbrev pub OldestOpen : Option OpenReport → List Report → List Report → Unload → Type 0
OldestOpen None queue spool unload = Unit {0}
OldestOpen (Some o) queue spool unload = OpensFrom o.source o queue spool unload
