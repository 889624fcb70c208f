-- Pump, samples and power keep the accounts.
use Rattle.std.proofs.Common.{◌≡◌, ℕ, ◌+◌, ◌≤◌, Bool, true, false, not, ◌&&◌, List, [], ◌∷◌, is_some, Some, None, Ok, Err, Option, Result, refl, arith}
use Rattle.std.proofs.lemmas.Bool.{and_parts}
use Rattle.actions.specs.Powers.{cut_off, halted, halted_at, powered}
use Rattle.actions.specs.Pumps.{is_communicating, is_maximum, is_ready, purge_pumped, pumped, pumped_by, report_sent, spool_ended, transmit_pumped}
use Rattle.actions.specs.Samples.{sample_taken, sampled, sampled_at, with_variable}
use Rattle.lines.specs.declared.line.Line.{Line}
use Rattle.moves.proofs.Entering.{either}
use Rattle.moves.proofs.Leaving.{deactivated_kept, dropped_kept, halted_kept, opened_kept, purged_kept, turned_kept}
use Rattle.moves.proofs.Sounds.{Sound, kept_none, kept_then}
use Rattle.moves.specs.Books.{OpensFirst, OpensFrom}
use Rattle.rules.specs.Views.{View, closed_all, with_held}
use Rattle.rules.specs.declared.event.Event.TheVariants.{SpoolDeactivated, ZoneMoved}
use Rattle.rules.specs.declared.state.Next.{Next}
use Rattle.setup.specs.Tables.{entry_at}
use Rattle.spooling.specs.Holdings.{Holding}
use Rattle.spooling.specs.Leaving.{deactivated}
use Rattle.spooling.specs.declared.state.OpenReport.{OpenReport}
use Rattle.spooling.specs.declared.state.Source.{Source}
use Rattle.spooling.specs.declared.state.Source.TheVariants.{Queue, Spool}
use Rattle.spooling.specs.declared.state.Unload.{Unload}
use Rattle.spooling.specs.declared.state.Unload.TheVariants.{NoOutput, Transmit, Purge}
use Rattle.states.specs.Controls.{fallback_state, is_online}
use Rattle.states.specs.declared.link.Link.TheVariants.{Disabled}
use Rattle.store.specs.Reports.{Report, oldest_number}
use Rattle.zone.specs.Variables.{sample_after, sample_answer}
use Rattle.zone.specs.declared.variable.Sample.{Sample}
use Rattle.zone.specs.declared.variable.SampleFault.{SampleFault}
use Rattle.zone.specs.declared.variable.Variable.{Variable}
use Rattle.ledger.specs.Laws.{book_of}
use Rattle.ledger.proofs.Rules.{F, K, closed_all_lem, evented_kept, final_off, final_same, quiet}

none_is : (p : Option OpenReport) → not (is_some p) ≡ true → p ≡ None
none_is None e = refl
none_is (Some p) e = let z : ◌≡◌ {A = ℕ} 0 1 = cc in absurd (omega arith)

-- what is ready to send has no report open
pub ready_none : (v : View) → is_ready v ≡ true → v.held.pending ≡ None
ready_none v e =
    let x = and_parts (is_communicating v.state.link) _ e in
    none_is v.held.pending (and_parts (is_online v.state.control) _ x.1).1

module _ (past base : List Line) (n : Next) (k : ℕ) (room : k ≤ 26) (a : Bool) (v : View) (s : Sound past base k a (book_of v)) (e : n.report ≡ v.state.counts.reports + 1) where
  abbrev G : View → Type 0
  G w = F past base (k + 2) v w

  stays_so : G v
  stays_so = quiet s (kept_none s)

  -- the oldest report of a store is sent
  sent_from : (x : Source) (rs : List Report) → v.held.pending ≡ None
      → ((p : OpenReport) → p.source ≡ x → OpensFirst p rs → OpensFrom x p v.held.queue.records v.held.spool.records v.held.spooling.unload) → G (report_sent n x rs v)
  sent_from x [] p f = stays_so
  sent_from x (r ∷ rs) p f =
      let o : OpenReport = record { transaction = n.transaction; source = x; stream = r.stream; function = r.function } in
      quiet s (opened_kept v.state.settings.overwrite past base k a (book_of v) s o p (f o refl (refl, refl)))

  ended : v.held.spool.records ≡ [] → G (spool_ended n v)
  ended i =
      let x = deactivated_kept v.state.settings.overwrite past base k a (book_of v) s i in
      final_off (kept_then x (evented_kept past base k false n SpoolDeactivated (with_held (deactivated v.held) v) x.sound (omega arith) e))

  purge_final : v.held.spooling.unload ≡ Purge → (xs : List Report) → v.held.spool.records ≡ xs → G (purge_pumped n (oldest_number xs) v)
  purge_final u [] i = ended i
  purge_final u (r ∷ rs) i = final_same s (purged_kept v.state.settings.overwrite past base k a (book_of v) s (omega arith) r rs i u)

  transmit_final : v.held.spooling.unload ≡ Transmit → v.held.pending ≡ None → (xs : List Report) → v.held.spool.records ≡ xs → G (transmit_pumped n (oldest_number xs) v)
  transmit_final u p [] i = ended i
  transmit_final u p (r ∷ rs) i =
      either G (is_maximum v.state.settings.max_transmit v.held.spooling.acknowledged) _ _
      (λ _. quiet s (halted_kept v.state.settings.overwrite past base k a (book_of v) s u p))
      (λ _. sent_from Spool v.held.spool.records p (λ o _ w. (w, u)))

  pumped_by_lem : (u : Unload) → v.held.spooling.unload ≡ u → G (pumped_by n u v)
  pumped_by_lem NoOutput u =
      either G (is_ready v && not v.held.spooling.active) _ _
      (λ t. sent_from Queue v.held.queue.records (ready_none v (and_parts (is_ready v) _ t).0) (λ o _ w. w))
      (λ _. stays_so)
  pumped_by_lem Transmit u = either G (is_ready v) _ _ (λ t. transmit_final u (ready_none v t) v.held.spool.records refl) (λ _. stays_so)
  pumped_by_lem Purge u = purge_final u v.held.spool.records refl

  pub pumped_final : F past base (k + 2) v (pumped n v)
  unfolding pumped
  pumped_final = pumped_by_lem v.held.spooling.unload refl

  sample_final : (number : ℕ) (x : Variable) (r : Result Bool SampleFault) → G (sample_taken n number x r v).after
  sample_final number x (Ok moved) =
      either G moved _ _
      (λ _. final_same s (evented_kept past base k a n (ZoneMoved number) (with_variable number x v) s (omega arith) e))
      (λ _. stays_so)
  sample_final number x (Err fault) = stays_so

  sampled_at_lem : (number : ℕ) (x : Sample) (o : Option Variable) → G (sampled_at n number x o v).after
  sampled_at_lem number x None = stays_so
  sampled_at_lem number x (Some y) = sample_final number (sample_after y x) (sample_answer y x)

  pub sampled_final : (number : ℕ) (x : Sample) → F past base (k + 2) v (sampled n number x v).after
  unfolding sampled
  sampled_final number x = sampled_at_lem number x (entry_at v.state.setup.variables.entries number)

module _ (past base : List Line) (k : ℕ) (room : k ≤ 26) (a : Bool) (v : View) (s : Sound past base k a (book_of v)) where
  power_halted : v.held.pending ≡ None → (u : Unload) → v.held.spooling.unload ≡ u → K past base k a v (with_held (halted_at u v.held) v)
  power_halted p NoOutput e = kept_none s
  power_halted p Transmit e = halted_kept v.state.settings.overwrite past base k a (book_of v) s e p
  power_halted p Purge e = kept_none s

halted_none : (u : Unload) (h : Holding) → (halted_at u h).pending ≡ h.pending
halted_none NoOutput h = refl
halted_none Transmit h = refl
halted_none Purge h = refl

pub powered_final : (past base : List Line) (k : ℕ) → k ≤ 26 → (a : Bool) (v : View) → Sound past base k a (book_of v) → F past base (k + 2) v (powered v)
unfolding powered
powered_final past base k room a v s =
    let o = v.state.settings.overwrite in
    let x = closed_all_lem past base k a v s in
    let y = power_halted past base k room a (closed_all v) x.sound refl v.held.spooling.unload refl in
    let z = dropped_kept v.state.settings.overwrite past base k a (omega arith) (book_of (halted (closed_all v))) (halted_none v.held.spooling.unload (closed_all v).held) y.sound in
    let t = turned_kept v.state.settings.overwrite past base k a (book_of (cut_off v)) z.sound Disabled (fallback_state v.state.settings.fallback) in
    quiet s (kept_then x (kept_then y (kept_then z t)))
