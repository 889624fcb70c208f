-- Each call keeps the accounts.
use Rattle.std.proofs.Common.{◌≡◌, ℕ, ◌≤◌, Bool, true, false, cond, not, eqb, leb, List, [], length, Some, None, Option, sym, refl, ap, subst, arith}
use Rattle.frames.specs.Frames.{Parted, frame_at}
use Rattle.gem.specs.Alarms.{alarm_changed, alarm_event, alarm_evented, alarm_told, alarmed, alarmed_at, alcd_of, is_same}
use Rattle.gem.specs.Calls.{call_turn, unless}
use Rattle.gem.specs.Turns.{expiry_turn, frame_turn, refusal_of, switch_turn, turn_of}
use Rattle.gem.specs.declared.equipment.Call.{Call}
use Rattle.gem.specs.declared.equipment.Call.TheVariants as call
use Rattle.host.specs.Grants.{with_alarm}
use Rattle.host.specs.Takes.{Turn}
use Rattle.lines.specs.declared.line.Line.{Line}
use Rattle.moves.proofs.Entering.{either}
use Rattle.moves.proofs.Sounds.{Kept, Sound, kept_none, kept_then, kept_wider, wider}
use Rattle.moves.specs.Books.{Book}
use Rattle.moves.specs.Numbers.{is_spool_end, numbers_of}
use Rattle.rules.specs.ControlRules.{expiry_of, switch_of}
use Rattle.rules.specs.Reporting.{alarm_reported}
use Rattle.rules.specs.Views.{View, next_of}
use Rattle.rules.specs.declared.control.Expiry.{Expiry}
use Rattle.rules.specs.declared.control.Switch.{Switch}
use Rattle.setup.specs.declared.refusal.Refusal.{Refusal}
use Rattle.setup.specs.Tables.{entry_at}
use Rattle.setup.specs.declared.plan.Alarm.{Alarm}
use Rattle.setup.specs.declared.settings.Settings.{Settings}
use Rattle.states.specs.Controls.{is_online}
use Rattle.states.specs.declared.link.LinkEvent.TheVariants.{Failure}
use Rattle.ledger.specs.Laws.{book_of}
use Rattle.ledger.proofs.Actions.{powered_final, pumped_final, sampled_final}
use Rattle.ledger.proofs.Hosts.{frame_final}
use Rattle.ledger.proofs.Rules.{F, Final, K, alarmed_kept, evented_kept, expired_final, fell_linked, final_same, quiet, switched_final}

final_wider : {o : Bool} {past base : List Line} {k : ℕ} {b c : Book} (n : ℕ) → k ≤ n → Final o past base k b c → Final o past base n b c
final_wider n l f = record { moves = f.moves; active = f.active; sound = wider n l f.sound }

-- the settings are never changed
reported_settings : (v : View) (alcd number : ℕ) → (alarm_reported (next_of v.state) alcd number v).state.settings ≡ v.state.settings
unfolding alarm_reported
reported_settings v alcd number = either (λ (w : View). w.state.settings ≡ v.state.settings) (is_online v.state.control) _ _ (λ _. refl) (λ _. refl)

told_settings : (v : View) (number : ℕ) (x : Alarm) (set : Bool) → (alarm_told (next_of v.state) number x set v).state.settings ≡ v.state.settings
told_settings v number x set = either (λ (w : View). w.state.settings ≡ v.state.settings) x.enabled _ _ (λ _. reported_settings v (alcd_of x.category set) number) (λ _. refl)

module _ (past base : List Line) (a : Bool) (v : View) (s : Sound past base 8 a (book_of v)) (z : length (numbers_of is_spool_end v.held.lines) ≡ 0) where
  abbrev G : View → Type 0
  G w = F past base 12 v w

  stays_so : G v
  stays_so = final_wider 12 (omega arith) (quiet s (kept_none s))

  ten : {c : Book} → Final v.state.settings.overwrite past base 10 (book_of v) c → Final v.state.settings.overwrite past base 12 (book_of v) c
  ten f = final_wider 12 (omega arith) f

  alarm_told_lem : (number : ℕ) (x : Alarm) (set : Bool) (w : View) → book_of w ≡ book_of v → w.state.settings ≡ v.state.settings
      → Kept v.state.settings.overwrite past base 10 a (book_of v) (book_of (alarm_told (next_of w.state) number x set w))
  alarm_told_lem number x set w e g =
      let t : Sound past base 8 a (book_of w) = subst (λ (b : Book). Sound past base 8 a b) (sym e) s in
      subst (λ (b : Book). Kept v.state.settings.overwrite past base 10 a b (book_of (alarm_told (next_of w.state) number x set w))) e
      (subst (λ (y : Settings). Kept y.overwrite past base 10 a (book_of w) (book_of (alarm_told (next_of w.state) number x set w))) g
      (either (K past base 10 a w) x.enabled _ _
      (λ _. alarmed_kept past base 8 a (next_of w.state) (alcd_of x.category set) number w t (omega arith) refl)
      (λ _. kept_wider 10 (omega arith) (kept_none t))))

  alarm_changed_lem : (number : ℕ) (set : Bool) (x : Alarm) → G (alarm_changed number set x v)
  alarm_changed_lem number set x =
      let w : View = with_alarm number (record { category = x.category; enabled = x.enabled; set = set }) v in
      let t : View = alarm_told (next_of w.state) number x set w in
      let k = alarm_told_lem number x set w refl refl in
      let e = evented_kept past base 10 a (next_of t.state) (alarm_event number set) t k.sound (omega arith) refl in
      final_same s (kept_then k (subst (λ (y : Settings). Kept y.overwrite past base 12 a (book_of t) (book_of (alarm_evented number set t))) (told_settings w number x set) e))

  alarm_final : (number : ℕ) (set : Bool) → G (alarmed number set v).after
  unfolding alarmed
  alarm_final number set = go (entry_at v.state.setup.alarms.entries number)
    where
      go : (o : Option Alarm) → G (alarmed_at number set o v).after
      go None = stays_so
      go (Some x) = either G (is_same x.set set) _ _ (λ _. stays_so) (λ _. alarm_changed_lem number set x)

  either_turn : (b : Bool) (x y : Turn) → G x.after → G y.after → G (cond b x y).after
  either_turn true x y p q = p
  either_turn false x y p q = q

  frame_turn_lem : (frame : List ℕ) (p : Option Parted) → G (frame_turn (next_of v.state) frame p v).after
  frame_turn_lem frame None = stays_so
  frame_turn_lem frame (Some p) =
      either_turn (not (eqb p.header.ptype 0)) _ _ stays_so
      (either_turn (not (eqb p.header.stype 0)) _ _ stays_so (ten (frame_final past base (next_of v.state) 8 (omega arith) a v s refl z p.header frame)))

  switch_turn_lem : (number : ℕ) (x : Option Switch) → G (switch_turn number x v).after
  switch_turn_lem number None = stays_so
  switch_turn_lem number (Some x) = ten (switched_final past base (next_of v.state) 8 (omega arith) a v s z refl x)

  expiry_turn_lem : (number : ℕ) (x : Option Expiry) → G (expiry_turn number x v).after
  expiry_turn_lem number None = stays_so
  expiry_turn_lem number (Some x) = ten (expired_final past base (next_of v.state) 8 (omega arith) a v s z refl x)

  turn_final : (c : Call) → G (turn_of c v).after
  turn_final (call.Host frame) = either_turn (leb (length frame.now) 490) _ _ (frame_turn_lem frame.now (frame_at frame.now)) stays_so
  turn_final (call.Switch number) = switch_turn_lem number (switch_of number)
  turn_final (call.Expiry number) = expiry_turn_lem number (expiry_of number)
  turn_final call.Failure = ten (fell_linked past base (next_of v.state) 8 (omega arith) a v s z refl Failure)
  turn_final (call.Sample number x) = ten (sampled_final past base (next_of v.state) 8 (omega arith) a v s refl number x)
  turn_final (call.Alarm number set) = alarm_final number set
  turn_final call.Pump = ten (pumped_final past base (next_of v.state) 8 (omega arith) a v s refl)
  turn_final call.Power = ten (powered_final past base 8 (omega arith) a v s)

-- a call begins with no line, and with counts that are not spent
rested : {past base : List Line} {k : ℕ} {a : Bool} {b : Book} → b.held.lines ≡ [] → b.reports ≤ 4294967000 → Sound past base k a b → Sound past base 8 a b
rested {past} {base} {k} {a} {b} e l s =
    let t = s.standing in
    let n : length b.held.lines ≡ 0 = ap length e in
    record { standing = record { accounts = t.accounts; is = t.is; short = omega (arith, t.fits, t.small); fits = t.fits; small = t.small; low = omega arith }; busy = s.busy; oldest = s.oldest }

pub call_final : (fit : Bool) (out ledger : ℕ) (c : Call) (past base : List Line) (a : Bool) (v : View) → v.held.lines ≡ [] → Sound past base 12 a (book_of v) → F past base 12 v (call_turn fit out ledger c v).after
call_final fit out ledger c past base a v e s = go (refusal_of fit out ledger v.state.counts) refl
  where
    few : refusal_of fit out ledger v.state.counts ≡ None → v.state.counts.reports ≤ 4294967000
    few n = grind arith

    go : (o : Option Refusal) → refusal_of fit out ledger v.state.counts ≡ o → F past base 12 v (unless o c v).after
    go None n = turn_final past base a v (rested e (few n) s) (ap (λ (ls : List Line). length (numbers_of is_spool_end ls)) e) c
    go (Some r) n = final_same s (kept_none s)
