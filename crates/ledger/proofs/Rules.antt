-- The rules on communications, control and reports keep the accounts.
use Rattle.std.proofs.Common.{◌≡◌, ℕ, ◌+◌, ◌≤◌, Bool, true, false, cond, not, ◌&&◌, List, [], length, Some, None, Option, sym, refl, ap, ◌∙◌, subst, inl, inr, arith}
use Rattle.bodies.specs.Bodies.{body_of}
use Rattle.bodies.specs.declared.body.Body.{Body}
use Rattle.bodies.specs.declared.body.Body.TheVariants as body
use Rattle.frames.specs.declared.header.Header.{Header}
use Rattle.lines.specs.declared.line.Line.{Line}
use Rattle.moves.proofs.Entering.{either, made_kept}
use Rattle.moves.proofs.Leaving.{activated_kept, closed_kept, dropped_kept, halted_kept, turned_kept}
use Rattle.moves.proofs.Sounds.{Kept, Sound, joined, kept_none, kept_then, kept_wider}
use Rattle.moves.specs.Books.{Book, Whole}
use Rattle.moves.specs.Moves.{Moves}
use Rattle.moves.specs.Numbers.{is_spool_end, numbers_of}
use Rattle.rules.specs.ControlRules.{attempted_at, expired, fell_back, fell_back_at, local_switched, mode_event, offline_switched, online_switched, overdue_at, remote_switched, switched, went_offline, went_online}
use Rattle.rules.specs.Events.{event_number}
use Rattle.rules.specs.LinkRules.{followed, into_disabled, into_wait_cra, into_wait_delay, linked, lost, spool_started, stopped_at, switched_off}
use Rattle.rules.specs.Reporting.{alarm_reported, evented, is_disabled, report_made}
use Rattle.rules.specs.Sends.{asked, faulted, replied}
use Rattle.rules.specs.Views.{View, closed_all, with_control, with_link, with_mode}
use Rattle.rules.specs.Views.{with_held as withHeldOf}
use Rattle.rules.specs.declared.control.Expiry.{Expiry}
use Rattle.rules.specs.declared.control.Expiry.TheVariants as expiry
use Rattle.rules.specs.declared.control.Switch.{Switch}
use Rattle.rules.specs.declared.control.Switch.TheVariants as switch
use Rattle.rules.specs.declared.event.Event.{Event}
use Rattle.rules.specs.declared.event.Event.TheVariants.{OnlineLeft, SpoolActivated, TransmitFailed}
use Rattle.rules.specs.declared.state.Next.{Next}
use Rattle.rules.specs.declared.state.SessionRequest.{SessionRequest}
use Rattle.rules.specs.declared.state.SessionRequest.TheVariants.{AreYouThere, Establish}
use Rattle.spooling.specs.Leaving.{activated, unloading}
use Rattle.spooling.specs.declared.state.OpenReport.{OpenReport}
use Rattle.spooling.specs.declared.state.Unload.{Unload}
use Rattle.spooling.specs.declared.state.Unload.TheVariants.{NoOutput, Transmit, Purge}
use Rattle.states.specs.Controls.{fallback_state, is_online, online_at}
use Rattle.states.specs.Links.{link_after}
use Rattle.states.specs.declared.control.Control.{Control}
use Rattle.states.specs.declared.control.Control.TheVariants.{EquipmentOffline, Attempt, HostOffline, Local, Remote}
use Rattle.states.specs.declared.control.Mode.TheVariants as mode
use Rattle.states.specs.declared.link.Link.{Link}
use Rattle.states.specs.declared.link.Link.TheVariants.{Disabled, WaitCra, WaitDelay, Communicating}
use Rattle.states.specs.declared.link.LinkEvent.{LinkEvent}
use Rattle.states.specs.declared.link.LinkEvent.TheVariants.{Enable, Disable, DelayOver, NoReply}
use Rattle.ledger.specs.Laws.{book_of}

-- whether an INACTIVE spool became ACTIVE from one book to another
abbrev pub turns_on : Book → Book → Bool
turns_on b c = not b.held.spooling.active && c.held.spooling.active

-- what a call leaves: moves, and a sound book whose counted lines begin anew where the spool became ACTIVE
pub record Final (o : Bool) (past base : List Line) (k : ℕ) (b c : Book) : Type 0 where
  pub moves : Moves o b c
  pub active : Bool
  pub sound : Sound past (cond (turns_on b c) [] base) k active c

not_and : (x : Bool) → (not x && x) ≡ false
not_and true = refl
not_and false = refl

and_false : (x : Bool) → (x && false) ≡ false
and_false true = refl
and_false false = refl

module _ {o : Bool} {past base : List Line} {k : ℕ} {b c : Book} where
  -- the spool stayed as it was
  pub final_same : {n : ℕ} {a : Bool} → Sound past base n a b → Kept o past base k a b c → Final o past base k b c
  final_same {n} {a} s m =
      let e : turns_on b c ≡ false = ap (λ (x : Bool). not x && c.held.spooling.active) s.standing.is ∙ (ap (λ (x : Bool). not a && x) m.sound.standing.is ∙ not_and a) in
      record { moves = m.moves; active = a; sound = subst (λ (x : Bool). Sound past (cond x [] base) k a c) (sym e) m.sound }

  -- it is INACTIVE now
  pub final_off : Kept o past base k false b c → Final o past base k b c
  final_off m =
      let e : turns_on b c ≡ false = ap (λ (x : Bool). not b.held.spooling.active && x) m.sound.standing.is ∙ and_false (not b.held.spooling.active) in
      record { moves = m.moves; active = false; sound = subst (λ (x : Bool). Sound past (cond x [] base) k false c) (sym e) m.sound }

  -- it became ACTIVE
  pub final_on : {n : ℕ} → Sound past base n false b → Kept o past [] k true b c → Final o past base k b c
  final_on s m =
      let e : turns_on b c ≡ true = ap (λ (x : Bool). not x && c.held.spooling.active) s.standing.is ∙ m.sound.standing.is in
      record { moves = m.moves; active = true; sound = subst (λ (x : Bool). Sound past (cond x [] base) k true c) (sym e) m.sound }

-- no report was made
pub quiet : {o : Bool} {past base : List Line} {k : ℕ} {b c : Book} {a : Bool} → Sound past base k a b → Kept o past base k a b c → Final o past base (k + 2) b c
quiet {o} {past} {base} {k} s m = final_same s (kept_wider (k + 2) (omega arith) m)

-- moves before, with the spool as it was
pub final_after : {o : Bool} {past base : List Line} {k n : ℕ} {b c d : Book} {a : Bool} → Sound past base n a b → Kept o past base n a b c → Final o past base k c d → Final o past base k b d
final_after {o} {past} {base} {k} {n} {b} {c} {d} {a} s x y =
    let e : turns_on c d ≡ turns_on b d = ap (λ (z : Bool). not z && d.held.spooling.active) (x.sound.standing.is ∙ sym s.standing.is) in
    record { moves = joined x.moves y.moves; active = y.active; sound = subst (λ (z : Bool). Sound past (cond z [] base) k y.active d) e y.sound }

module _ (past base : List Line) where
  abbrev pub K : ℕ → Bool → View → View → Type 0
  K k a v w = Kept v.state.settings.overwrite past base k a (book_of v) (book_of w)

  abbrev pub F : ℕ → View → View → Type 0
  F k v w = Final v.state.settings.overwrite past base k (book_of v) (book_of w)

  abbrev pub S : ℕ → Bool → View → Type 0
  S k a v = Sound past base k a (book_of v)

  is_disabled_lem : (l : Link) → is_disabled l ≡ true → l ≡ Disabled
  is_disabled_lem Disabled e = refl
  is_disabled_lem WaitCra e = let z : ◌≡◌ {A = ℕ} 0 1 = cc in absurd (omega arith)
  is_disabled_lem WaitDelay e = let z : ◌≡◌ {A = ℕ} 0 1 = cc in absurd (omega arith)
  is_disabled_lem Communicating e = let z : ◌≡◌ {A = ℕ} 0 1 = cc in absurd (omega arith)

  not_disabled : (l : Link) → is_disabled l ≡ false → l ≡ Disabled → ⊥
  not_disabled l e d = let z : ◌≡◌ {A = ℕ} 0 1 = cc in omega arith

  pub reported_kept : (k : ℕ) (a : Bool) (n : Next) (stream function : ℕ) (x : Body) (v : View) → S k a v → k ≤ 28 → n.report ≡ v.state.counts.reports + 1 → is_online v.state.control ≡ true
      → Whole (record { number = n.report; stream = stream; function = function; body = body_of x }) → K (k + 2) a v (report_made n stream function x v)
  reported_kept k a n stream function x v s room e online w =
      subst (λ (m : ℕ). Kept v.state.settings.overwrite past base (k + 2) a (book_of v) (record { held = (report_made n stream function x v).held; reports = m; link = v.state.link; control = v.state.control })) (sym e)
      (made_kept v.state.settings.overwrite past base k a (book_of v) s room online (record { number = n.report; stream = stream; function = function; body = body_of x }) e w (is_disabled v.state.link) (is_disabled_lem v.state.link) (not_disabled v.state.link))

  pub evented_kept : (k : ℕ) (a : Bool) (n : Next) (x : Event) (v : View) → S k a v → k ≤ 28 → n.report ≡ v.state.counts.reports + 1 → K (k + 2) a v (evented n x v)
  unfolding evented
  evented_kept k a n x v s room e =
      either (K (k + 2) a v) (is_online v.state.control) _ _
      (λ t. reported_kept k a n 6 11 (body.Event n.report (event_number x)) v s room e t (inl (record { event = event_number x; stream = refl; function = refl; body = refl })))
      (λ _. kept_wider (k + 2) (omega arith) (kept_none s))

  pub alarmed_kept : (k : ℕ) (a : Bool) (n : Next) (alcd alarm : ℕ) (v : View) → S k a v → k ≤ 28 → n.report ≡ v.state.counts.reports + 1 → K (k + 2) a v (alarm_reported n alcd alarm v)
  unfolding alarm_reported
  alarmed_kept k a n alcd alarm v s room e =
      either (K (k + 2) a v) (is_online v.state.control) _ _
      (λ t. reported_kept k a n 5 1 (body.Alarm alcd alarm) v s room e t (inr (record { alcd = alcd; alarm = alarm; stream = refl; function = refl; body = refl })))
      (λ _. kept_wider (k + 2) (omega arith) (kept_none s))

  -- what holds of an attempt that fell back, and of any other state
  pub fell : (v : View) (P : View → Type 0) → P v → P (with_control (fallback_state v.state.settings.fallback) v) → P (fell_back v)
  fell v P p q = go v.state.control
    where
      go : (c : Control) → P (fell_back_at c v)
      go EquipmentOffline = p
      go Attempt = q
      go HostOffline = p
      go Local = p
      go Remote = p

  module _ (k : ℕ) (a : Bool) (v : View) (s : S k a v) where
    pub control_kept : (c : Control) → K k a v (with_control c v)
    control_kept c = turned_kept v.state.settings.overwrite past base k a (book_of v) s v.state.link c

    pub link_kept : (l : Link) → K k a v (with_link l v)
    link_kept l = turned_kept v.state.settings.overwrite past base k a (book_of v) s l v.state.control

    pub closed_all_lem : K k a v (closed_all v)
    closed_all_lem = closed_kept v.state.settings.overwrite past base k a (book_of v) s

    pub asked_kept : (n : Next) (r : SessionRequest) → K k a v (asked n r v)
    unfolding asked
    asked_kept n r = kept_none s

    pub faulted_kept : (n : Next) (function : ℕ) (h : Header) → K k a v (faulted n function h v)
    unfolding faulted
    faulted_kept n function h = kept_none s

    pub replied_kept : (h : Header) (function : ℕ) (x : Body) → K k a v (replied h function x v)
    unfolding replied
    replied_kept h function x = either (K k a v) h.wait _ _ (λ _. kept_none s) (λ _. kept_none s)

    pub fell_kept : K k a v (fell_back v)
    fell_kept = fell v (K k a v) (kept_none s) (control_kept (fallback_state v.state.settings.fallback))

    pub switched_off_lem : k ≤ 28 → K k a v (switched_off v)
    switched_off_lem room = kept_then closed_all_lem (dropped_kept v.state.settings.overwrite past base k a room (book_of (closed_all v)) refl closed_all_lem.sound)

  module _ (n : Next) (k : ℕ) (a : Bool) (v : View) (s : S k a v) (room : k ≤ 26) (e : n.report ≡ v.state.counts.reports + 1) where
    pub online_kept : K (k + 2) a v (went_online n v)
    unfolding went_online
    online_kept =
        let x = control_kept k a v s (online_at v.state.mode) in
        kept_then x (evented_kept k a n (mode_event v.state.mode) (with_control (online_at v.state.mode) v) x.sound (omega arith) e)

    pub offline_kept : (c : Control) → K (k + 2) a v (went_offline n c v)
    unfolding went_offline
    offline_kept c =
        let x = evented_kept k a n OnlineLeft v s (omega arith) e in
        kept_then x (turned_kept v.state.settings.overwrite past base (k + 2) a (book_of (evented n OnlineLeft v)) x.sound (evented n OnlineLeft v).state.link c)

    stopped_kept : (u : Unload) → v.held.spooling.unload ≡ u → v.held.pending ≡ None → K (k + 2) a v (stopped_at n u v)
    stopped_kept NoOutput q p = kept_wider (k + 2) (omega arith) (kept_none s)
    stopped_kept Transmit q p =
        let x = halted_kept v.state.settings.overwrite past base k a (book_of v) s q p in
        kept_then x (evented_kept k a n TransmitFailed (withHeldOf (unloading NoOutput v.held) v) x.sound (omega arith) e)
    stopped_kept Purge q p = kept_wider (k + 2) (omega arith) (kept_none s)

-- an INACTIVE spool becomes ACTIVE, or a transmit stops
module _ (past base : List Line) (n : Next) (k : ℕ) (room : k ≤ 26) where
  started : (a : Bool) (v : View) → Sound past base k a (book_of v) → v.held.pending ≡ None → length (numbers_of is_spool_end v.held.lines) ≡ 0 → n.report ≡ v.state.counts.reports + 1
      → F past base (k + 2) v (spool_started n v)
  started a v s p z e =
      either (F past base (k + 2) v) v.held.spooling.active _ _
      (λ t. final_same s (stopped_kept past base n k a v s room e v.held.spooling.unload refl p))
      (λ f. let i : Sound past base k false (book_of v) = subst (λ (x : Bool). Sound past base k x (book_of v)) (sym s.standing.is ∙ f) s in
      let x = activated_kept v.state.settings.overwrite past base k (book_of v) (omega arith) p z i in
      final_on i (kept_then x (evented_kept past [] k true n SpoolActivated (withHeldOf (activated v.state.settings.overwrite v.held) v) x.sound (omega arith) e)))

  pub lost_final : (a : Bool) (v : View) → Sound past base k a (book_of v) → length (numbers_of is_spool_end v.held.lines) ≡ 0 → n.report ≡ v.state.counts.reports + 1 → F past base (k + 2) v (lost n v)
  unfolding lost
  lost_final a v s z e = let x = closed_all_lem past base k a v s in final_after s x (started a (closed_all v) x.sound refl z e)

  module _ (a : Bool) (v : View) (s : Sound past base k a (book_of v)) (z : length (numbers_of is_spool_end v.held.lines) ≡ 0) (e : n.report ≡ v.state.counts.reports + 1) where
    -- S1,F13 after communication is lost
    lost_asked : F past base (k + 2) v (asked n Establish (lost n v))
    unfolding asked
    lost_asked = lost_final a v s z e

    into_wait_cra_lem : (l : Link) → F past base (k + 2) v (into_wait_cra n l v)
    into_wait_cra_lem Disabled = quiet s (asked_kept past base k a v s n Establish)
    into_wait_cra_lem WaitCra = quiet s (kept_none s)
    into_wait_cra_lem WaitDelay = quiet s (asked_kept past base k a v s n Establish)
    into_wait_cra_lem Communicating = lost_asked

    into_wait_delay_lem : (l : Link) → F past base (k + 2) v (into_wait_delay n l v)
    into_wait_delay_lem Disabled = quiet s (kept_none s)
    into_wait_delay_lem WaitCra = lost_final a v s z e
    into_wait_delay_lem WaitDelay = quiet s (kept_none s)
    into_wait_delay_lem Communicating = quiet s (kept_none s)

    into_disabled_lem : (l : Link) → F past base (k + 2) v (into_disabled l v)
    into_disabled_lem Disabled = quiet s (kept_none s)
    into_disabled_lem WaitCra = quiet s (switched_off_lem past base k a v s (omega arith))
    into_disabled_lem WaitDelay = quiet s (switched_off_lem past base k a v s (omega arith))
    into_disabled_lem Communicating = quiet s (switched_off_lem past base k a v s (omega arith))

    followed_final : (before after : Link) → F past base (k + 2) v (followed n before after v)
    followed_final before Disabled = into_disabled_lem before
    followed_final before WaitCra = into_wait_cra_lem before
    followed_final before WaitDelay = into_wait_delay_lem before
    followed_final before Communicating = quiet s (kept_none s)

  pub linked_final : (a : Bool) (v : View) → Sound past base k a (book_of v) → length (numbers_of is_spool_end v.held.lines) ≡ 0 → n.report ≡ v.state.counts.reports + 1 → (x : LinkEvent) → F past base (k + 2) v (linked n x v)
  unfolding linked
  linked_final a v s z e x =
      let l = link_after v.state.link x in
      let y = link_kept past base k a v s (link_after v.state.link x) in
      final_after s y (followed_final a (with_link (link_after v.state.link x) v) y.sound z e v.state.link (link_after v.state.link x))

  module _ (a : Bool) (v : View) (s : Sound past base k a (book_of v)) (z : length (numbers_of is_spool_end v.held.lines) ≡ 0) (e : n.report ≡ v.state.counts.reports + 1) where
    -- an attempt falls back, and then communications move
    pub fell_linked : (x : LinkEvent) → F past base (k + 2) v (linked n x (fell_back v))
    fell_linked x =
        fell past base v (λ (w : View). F past base (k + 2) v (linked n x w)) (linked_final a v s z e x)
        (let y = control_kept past base k a v s (fallback_state v.state.settings.fallback) in final_after s y (linked_final a (with_control (fallback_state v.state.settings.fallback) v) y.sound z e x))

    attempted : (l : Link) → F past base (k + 2) v (attempted_at n l v)
    attempted Disabled = quiet s (control_kept past base k a v s (fallback_state v.state.settings.fallback))
    attempted WaitCra = quiet s (control_kept past base k a v s (fallback_state v.state.settings.fallback))
    attempted WaitDelay = quiet s (control_kept past base k a v s (fallback_state v.state.settings.fallback))
    attempted Communicating = let y = control_kept past base k a v s Attempt in quiet s (kept_then y (asked_kept past base k a (with_control Attempt v) y.sound n AreYouThere))

    switched_online : (c : Control) → F past base (k + 2) v (online_switched n c v)
    switched_online EquipmentOffline = attempted v.state.link
    switched_online Attempt = quiet s (kept_none s)
    switched_online HostOffline = quiet s (kept_none s)
    switched_online Local = quiet s (kept_none s)
    switched_online Remote = quiet s (kept_none s)

    switched_offline : (c : Control) → F past base (k + 2) v (offline_switched n c v)
    switched_offline EquipmentOffline = quiet s (kept_none s)
    switched_offline Attempt = quiet s (kept_none s)
    switched_offline HostOffline = final_same s (offline_kept past base n k a v s room e EquipmentOffline)
    switched_offline Local = final_same s (offline_kept past base n k a v s room e EquipmentOffline)
    switched_offline Remote = final_same s (offline_kept past base n k a v s room e EquipmentOffline)

    switched_local : (c : Control) → F past base (k + 2) v (local_switched n c (with_mode mode.Local v))
    switched_local EquipmentOffline = quiet s (kept_none s)
    switched_local Attempt = quiet s (kept_none s)
    switched_local HostOffline = quiet s (kept_none s)
    switched_local Local = quiet s (kept_none s)
    switched_local Remote = final_same s (online_kept past base n k a (with_mode mode.Local v) s room e)

    switched_remote : (c : Control) → F past base (k + 2) v (remote_switched n c (with_mode mode.Remote v))
    switched_remote EquipmentOffline = quiet s (kept_none s)
    switched_remote Attempt = quiet s (kept_none s)
    switched_remote HostOffline = quiet s (kept_none s)
    switched_remote Local = final_same s (online_kept past base n k a (with_mode mode.Remote v) s room e)
    switched_remote Remote = quiet s (kept_none s)

    pub switched_final : (x : Switch) → F past base (k + 2) v (switched n x v)
    unfolding switched
    switched_final switch.Enable = linked_final a v s z e Enable
    switched_final switch.Disable = fell_linked Disable
    switched_final switch.Online = switched_online v.state.control
    switched_final switch.Offline = switched_offline v.state.control
    switched_final switch.Local = switched_local v.state.control
    switched_final switch.Remote = switched_remote v.state.control

    overdue : (p : Option OpenReport) → F past base (k + 2) v (overdue_at n p v)
    unfolding faulted
    overdue None = quiet s (kept_none s)
    overdue (Some x) = quiet s (closed_kept v.state.settings.overwrite past base k a (book_of v) s)

    pub expired_final : (x : Expiry) → F past base (k + 2) v (expired n x v)
    unfolding expired
    expired_final expiry.CommDelay = linked_final a v s z e DelayOver
    expired_final expiry.SessionReply = fell_linked NoReply
    expired_final expiry.ReportReply = overdue v.held.pending
