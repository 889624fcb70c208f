-- A call that is not refused.
use Rattle.std.proofs.Common.{◌≡◌, ℕ, ◌≤◌, Bool, cond, leb, List, [], length, take, Some, None, Option, unwrap_or, refl, ap, ◌∙◌, arith}
use Rattle.std.proofs.lemmas.Bool.{cond-true, le-leb}
use Rattle.std.proofs.lemmas.List.{length-take}
use Rattle.host.specs.Takes.{Turn}
use Rattle.lines.specs.Journals.{lines_of, on_ledger}
use Rattle.lines.specs.declared.journal.Journal.{Journal}
use Rattle.lines.specs.declared.line.Line.{Line}
use Rattle.rules.specs.Views.{View, view}
use Rattle.rules.specs.declared.state.Core.{Core}
use Rattle.rules.specs.declared.state.Counts.{Counts}
use Rattle.rules.specs.declared.state.Effects.{Effects}
use Rattle.sending.specs.Sending.{frame_bytes, on_buffer, sent_by, sent_of}
use Rattle.sending.specs.declared.outbox.Message.{Message}
use Rattle.sending.specs.declared.outbox.Outbox.{Outbox}
use Rattle.sending.proofs.Fronts.{length_frame}
use Rattle.setup.specs.declared.refusal.Refusal.{Refusal}
use Rattle.store.specs.declared.Store.{Ghosts}
use Rattle.gem.specs.declared.equipment.Call.{Call}
use Rattle.gem.specs.Turns.{refusal_of}
use Rattle.gem.specs.Calls.{Answered, call_turn, found, unless}

-- what is sent has at most 14 + 480 bytes
sent_short : (m : Option Message) → length (frame_bytes (sent_of m)) ≤ 494
sent_short None = omega arith
sent_short (Some m) =
    omega (arith, length_frame m.header (take m.length m.body), length-take m.length m.body, m.fits)

pub posted_short : (o : Outbox) → length (frame_bytes (sent_by o)) ≤ 494
posted_short o = sent_short o.message

-- a call writes at most 32 lines
pub journal_short : (j : Journal) → length (lines_of j) ≤ 32
journal_short j = omega (arith, length-take j.used j.lines, j.within)

-- a call that no shared refusal stops has room
admitted : (fit : Bool) (out ledger : ℕ) (c : Counts) → refusal_of fit out ledger c ≡ None → (512 ≤ out) × (32 ≤ ledger)
admitted fit out ledger c e = (grind arith, grind arith)

-- the answer of a write that fits
written : (n room k : ℕ) (r : Option ℕ) → n ≤ room → r ≡ cond (leb n room) (Some n) None → k ≡ unwrap_or r 0 → k ≡ n
written n room k r h e v = v ∙ ap (λ (x : Option ℕ). unwrap_or x 0) (e ∙ cond-true _ (Some n) None (le-leb n room h))

module _ {Q S : Type 0} (q : Ghosts Q) (s : Ghosts S) (fit : Bool) (call : Call) (out out' : List ℕ) (ledger ledger' : List Line) (c c' : Core Q S) (e e' : Effects) where
  abbrev T : Turn
  T = call_turn fit (length out) (length ledger) call (found q s c)

  pub call_answered : lines_of e.journal ≡ [] → sent_by e.outbox ≡ None
      → (r : ℕ × ℕ) → r ≡ ((call_turn fit (length out) (length ledger) call (view q s c e)).code, (call_turn fit (length out) (length ledger) call (view q s c e)).detail)
      → view q s c' e' ≡ (call_turn fit (length out) (length ledger) call (view q s c e)).after
      → (w : Option ℕ) → w ≡ cond (leb (length (frame_bytes (sent_by e'.outbox))) (length out)) (Some (length (frame_bytes (sent_by e'.outbox)))) None
      → out' ≡ cond (leb (length (frame_bytes (sent_by e'.outbox))) (length out)) (on_buffer (frame_bytes (sent_by e'.outbox)) out) out
      → (n : ℕ) → n ≡ unwrap_or w 0
      → (x : Option ℕ) → x ≡ cond (leb (length (lines_of e'.journal)) (length ledger)) (Some (length (lines_of e'.journal))) None
      → ledger' ≡ cond (leb (length (lines_of e'.journal)) (length ledger)) (on_ledger (lines_of e'.journal) ledger) ledger
      → (m : ℕ) → m ≡ unwrap_or x 0
      → Answered q s T out ledger (r.0, r.1, n, m) c' out' ledger'
  call_answered js os r ra va w ew eo n en x ex el m em =
      record {
        answer = λ i. ((answered i).0, (answered i).1, bytes_n i, lines_m i);
        state = ap (λ (v : View). v.state) after;
        queue = ap (λ (v : View). v.held.queue) after;
        spool = ap (λ (v : View). v.held.spool) after;
        spooling = ap (λ (v : View). v.held.spooling) after;
        pending = ap (λ (v : View). v.held.pending) after;
        bytes = eo ∙ (cond-true _ (on_buffer (frame_bytes (sent_by e'.outbox)) out) out (le-leb (length (frame_bytes (sent_by e'.outbox))) (length out) fits) ∙ ap (λ (v : View). on_buffer (frame_bytes v.sent) out) after);
        lines = el ∙ (cond-true _ (on_ledger (lines_of e'.journal) ledger) ledger (le-leb (length (lines_of e'.journal)) (length ledger) pages) ∙ ap (λ (v : View). on_ledger v.held.lines ledger) after);
      }
    where
      start : view q s c e ≡ found q s c
      start = λ i. record { state = c.state; held = record { queue = (found q s c).held.queue; spool = (found q s c).held.spool; spooling = c.reports.spooling; pending = c.reports.pending; lines = js i }; sent = os i }

      turn : call_turn fit (length out) (length ledger) call (view q s c e) ≡ T
      turn = ap (call_turn fit (length out) (length ledger) call) start

      answered : r ≡ (T.code, T.detail)
      answered = ra ∙ ap (λ (t : Turn). (t.code, t.detail)) turn

      after : view q s c' e' ≡ T.after
      after = va ∙ ap (λ (t : Turn). t.after) turn

      -- a refused call sends no frame and writes no line; one that is admitted has room for all that a call can send and write
      fits_by : (o : Option Refusal) → refusal_of fit (length out) (length ledger) c.state.counts ≡ o → view q s c' e' ≡ (unless o call (found q s c)).after
          → (length (frame_bytes (sent_by e'.outbox)) ≤ length out) × (length (lines_of e'.journal) ≤ length ledger)
      fits_by None o a =
          let d = admitted fit (length out) (length ledger) c.state.counts o in
          (omega (arith, posted_short e'.outbox, d.0), omega (arith, journal_short e'.journal, d.1))
      fits_by (Some r) o a =
          let b : length (frame_bytes (sent_by e'.outbox)) ≡ 0 = ap (λ (v : View). length (frame_bytes v.sent)) a in
          let l : length (lines_of e'.journal) ≡ 0 = ap (λ (v : View). length v.held.lines) a in
          (omega arith, omega arith)

      both : (length (frame_bytes (sent_by e'.outbox)) ≤ length out) × (length (lines_of e'.journal) ≤ length ledger)
      both = fits_by (refusal_of fit (length out) (length ledger) c.state.counts) refl after

      fits : length (frame_bytes (sent_by e'.outbox)) ≤ length out
      fits = both.0

      pages : length (lines_of e'.journal) ≤ length ledger
      pages = both.1

      bytes_n : n ≡ length (frame_bytes T.after.sent)
      bytes_n = written (length (frame_bytes (sent_by e'.outbox))) (length out) n w fits ew en ∙ ap (λ (v : View). length (frame_bytes v.sent)) after

      lines_m : m ≡ length T.after.held.lines
      lines_m = written (length (lines_of e'.journal)) (length ledger) m x pages ex em ∙ ap (λ (v : View). length v.held.lines) after
