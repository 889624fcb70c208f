-- Pairs of cases at the edges: one on each side of a rule.
use Rattle.std.specs.Prelude.{◌≡◌, ℕ, ◌≤◌, Bool, true, false, [], ◌∷◌, length, drop, None, Ok, Err}
use Rattle.blocks.specs.Layout.{block_of}
use Rattle.bodies.specs.Bodies.{body_of}
use Rattle.bodies.specs.declared.body.Body.TheVariants as body
use Rattle.items.specs.Decode.{item_at, reading}
use Rattle.lines.specs.declared.line.Letter.{Letter}
use Rattle.lines.specs.declared.line.Letter.TheVariants.{Overwritten, TurnedAway}
use Rattle.secs.specs.declared.format.Format.TheVariants.{Binary}
use Rattle.secs.specs.declared.item.Fault.TheVariants.{PastEnd}
use Rattle.spooling.specs.Entering.{directed}
use Rattle.spooling.specs.Holdings.{Holding, Shelf}
use Rattle.spooling.specs.declared.state.Unload.{Unload}
use Rattle.store.specs.Reports.{Report, body_limit, put_number}
use Rattle.zone.specs.Runs.{EdgeZones}

-- S6,F11 of an event
abbrev pub event_report : ℕ → ℕ → Report
event_report number event = record { number = number; stream = 6; function = 11; body = body_of (body.Event number event) }

-- an ACTIVE spool of 2 that is empty
abbrev pub spool_of_two : Shelf → Unload → ℕ → Holding
spool_of_two queue unload acknowledged =
    record {
      queue = queue;
      spool = record { records = []; limit = 2 };
      spooling = record { active = true; full = false; unload = unload; total = 0; acknowledged = acknowledged };
      pending = None;
      lines = [];
    }

-- reports 1, 2 and 3 are directed to it
abbrev pub three_directed : Bool → ℕ → ℕ → ℕ → Holding → Holding
three_directed overwrite a b c h = directed overwrite (event_report 3 c) (directed overwrite (event_report 2 b) (directed overwrite (event_report 1 a) h))

-- one line, SpoolCountTotal 3, SpoolCountActual 2
pub record Settled (letter : Letter) (number : ℕ) (h : Holding) : Type 0 where
  pub lines : h.lines ≡ record { letter = letter; number = number } ∷ []
  pub total : h.spooling.total ≡ 3
  pub actual : length h.spool.records ≡ 2

pub record EdgePairs : Type 0 where
  -- a store of capacity 1 that holds 7: a put of 7 answers 2, one of 8 answers 1
  pub stale : (held r : Report) → held.number ≡ 7 → r.number ≡ 7 → length r.body ≤ body_limit → put_number (held ∷ []) 1 r ≡ 2
  pub full : (held r : Report) → held.number ≡ 7 → r.number ≡ 8 → length r.body ≤ body_limit → put_number (held ∷ []) 1 r ≡ 1
  -- the block of number 1, S6,F11, empty body has check 0x0012
  pub check : drop 510 (block_of (record { number = 1; stream = 6; function = 11; body = [] })) ≡ 0x00 ∷ 0x12 ∷ []
  -- 0x21 0x01 0x05 is a B; 0x21 0x02 0x05 faults
  pub binary : item_at (0x21 ∷ 0x01 ∷ 0x05 ∷ []) 0 ≡ Ok (reading Binary 2 1 (0x05 ∷ []) 3)
  pub faulty : item_at (0x21 ∷ 0x02 ∷ 0x05 ∷ []) 0 ≡ Err PastEnd
  -- band 10 to 20 at 15, 20, 11, 10, and band 5 to 5 at 5, 5
  pub zones : EdgeZones
  -- a spool of 2 and three reports: T 3, or with overwriting O 1
  pub turned : (queue : Shelf) (u : Unload) (n a b c : ℕ) → Settled TurnedAway 3 (three_directed false a b c (spool_of_two queue u n))
  pub overwritten : (queue : Shelf) (u : Unload) (n a b c : ℕ) → Settled Overwritten 1 (three_directed true a b c (spool_of_two queue u n))
