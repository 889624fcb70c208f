-- Pump removes nothing, but in PURGE.
use Rattle.std.proofs.Common.{◌≡◌, ℕ, Bool, false, not, ◌&&◌, eqb, List, [], ◌∷◌, Some, None, Option, sym, refl, ◌∙◌}
use Rattle.std.proofs.lemmas.List.{append-nil}
use Rattle.std.proofs.lemmas.Bool.{false≢true}
use Rattle.actions.specs.Pumps.{is_maximum, is_ready, pumped, pumped_by, report_sent, transmit_pumped}
use Rattle.gem.specs.Calls.{call_turn, unless}
use Rattle.gem.specs.Turns.{refusal_of}
use Rattle.gem.specs.declared.equipment.Call.TheVariants as call
use Rattle.lines.specs.declared.line.Letter.TheVariants.{Made}
use Rattle.moves.proofs.Entering.{either}
use Rattle.rules.specs.Reporting.{evented}
use Rattle.rules.specs.Views.{View, next_of, with_held}
use Rattle.rules.specs.declared.event.Event.{Event}
use Rattle.rules.specs.declared.event.Event.TheVariants.{SpoolDeactivated}
use Rattle.rules.specs.declared.state.Next.{Next}
use Rattle.setup.specs.declared.refusal.Refusal.{Refusal}
use Rattle.spooling.specs.Entering.{enqueued, made, routed}
use Rattle.spooling.specs.Holdings.{Holding, add_line}
use Rattle.spooling.specs.Leaving.{deactivated}
use Rattle.spooling.specs.declared.state.Source.{Source}
use Rattle.spooling.specs.declared.state.Source.TheVariants.{Queue, Spool}
use Rattle.spooling.specs.declared.state.Unload.{Unload}
use Rattle.spooling.specs.declared.state.Unload.TheVariants.{NoOutput, Transmit, Purge}
use Rattle.states.specs.Controls.{is_online}
use Rattle.store.specs.Reports.{Report, after_put, oldest_number, put_number}
use Rattle.ledger.specs.Laws.{Grown}

-- nothing is removed from the stores
pub record Untaken (h h' : Holding) : Type 0 where
  pub queue : Grown h.queue.records h'.queue.records
  pub spool : h'.spool.records ≡ h.spool.records

grown_none : (xs : List Report) → Grown xs xs
grown_none xs = record { new = []; is = sym (append-nil xs) }

untaken : (h : Holding) → Untaken h h
untaken h = record { queue = grown_none h.queue.records; spool = refl }

grown_put : (xs : List Report) (limit : ℕ) (r : Report) → Grown xs (after_put xs limit r)
grown_put xs limit r = either (Grown xs) (eqb (put_number xs limit r) 0) _ _ (λ _. record { new = r ∷ []; is = refl }) (λ _. grown_none xs)

enqueued_untaken : (r : Report) (h : Holding) → Untaken h (enqueued r h)
enqueued_untaken r h =
    either (Untaken h) (eqb (put_number h.queue.records h.queue.limit r) 0) _ _
    (λ _. record { queue = grown_put h.queue.records h.queue.limit r; spool = refl })
    (λ _. record { queue = grown_none h.queue.records; spool = refl })

-- a report that is made while the spool is INACTIVE
made_untaken : (d o : Bool) (r : Report) (h : Holding) → h.spooling.active ≡ false → Untaken h (made d o r h)
unfolding routed
made_untaken d o r h f =
    either (Untaken h) d _ _ (λ _. record { queue = grown_none h.queue.records; spool = refl })
    (λ _. either (Untaken h) h.spooling.active _ _ (λ t. absurd (false≢true (sym f ∙ t)))
    (λ _. let x = enqueued_untaken r (add_line Made r.number h) in record { queue = x.queue; spool = x.spool }))

evented_untaken : (n : Next) (x : Event) (v : View) → v.held.spooling.active ≡ false → Untaken v.held (evented n x v).held
unfolding evented
evented_untaken n x v f = either (λ (w : View). Untaken v.held w.held) (is_online v.state.control) _ _ (λ _. made_untaken _ _ _ v.held f) (λ _. untaken v.held)

module _ (n : Next) (v : View) where
  abbrev P : View → Type 0
  P w = Untaken v.held w.held

  sent_untaken : (x : Source) (rs : List Report) → P (report_sent n x rs v)
  sent_untaken x [] = untaken v.held
  sent_untaken x (r ∷ rs) = record { queue = grown_none v.held.queue.records; spool = refl }

  transmit_untaken : (o : Option ℕ) → P (transmit_pumped n o v)
  transmit_untaken None = let x = evented_untaken n SpoolDeactivated (with_held (deactivated v.held) v) refl in record { queue = x.queue; spool = x.spool }
  transmit_untaken (Some k) =
      either P (is_maximum v.state.settings.max_transmit v.held.spooling.acknowledged) _ _
      (λ _. record { queue = grown_none v.held.queue.records; spool = refl })
      (λ _. sent_untaken Spool v.held.spool.records)

  pumped_by_lem : (u : Unload) → v.held.spooling.unload ≡ u → (v.held.spooling.unload ≡ Purge → ⊥) → P (pumped_by n u v)
  pumped_by_lem NoOutput e f = either P (is_ready v && not v.held.spooling.active) _ _ (λ _. sent_untaken Queue v.held.queue.records) (λ _. untaken v.held)
  pumped_by_lem Transmit e f = either P (is_ready v) _ _ (λ _. transmit_untaken (oldest_number v.held.spool.records)) (λ _. untaken v.held)
  pumped_by_lem Purge e f = absurd (f e)

  pumped_untaken : (v.held.spooling.unload ≡ Purge → ⊥) → P (pumped n v)
  unfolding pumped
  pumped_untaken f = pumped_by_lem v.held.spooling.unload refl f

pub pump_untaken : (fit : Bool) (out ledger : ℕ) (v : View) → (v.held.spooling.unload ≡ Purge → ⊥) → Untaken v.held (call_turn fit out ledger call.Pump v).after.held
pump_untaken fit out ledger v f = go (refusal_of fit out ledger v.state.counts)
  where
    go : (o : Option Refusal) → Untaken v.held (unless o call.Pump v).after.held
    go None = pumped_untaken (next_of v.state) v f
    go (Some r) = untaken v.held
