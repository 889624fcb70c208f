-- A frame of the host keeps the accounts.
use Rattle.std.proofs.Common.{◌≡◌, ℕ, ◌+◌, ◌%◌, ◌≤◌, Bool, true, false, cond, ◌||◌, eqb, List, length, Some, None, Ok, Err, Option, Result, sym, refl, ◌∙◌, subst, arith}
use Rattle.bodies.specs.Bodies.{commack_accepted}
use Rattle.bodies.specs.declared.body.Body.{Body}
use Rattle.bodies.specs.declared.body.Body.TheVariants as body
use Rattle.frames.specs.declared.header.Header.{Header}
use Rattle.host.specs.Acknowledges.{acknowledge_byte, acknowledging}
use Rattle.host.specs.Grants.{alarm_granted, granted, online_granted, unload_answer, unload_granted, unloading_answer}
use Rattle.host.specs.Replies.{answers_report, answers_session, attempt_answered, commack_taken, is_awaited_commack, is_establish, reply_taken, report_answered, request_answered, session_answered, wait_taken}
use Rattle.host.specs.Takes.{Turn, frame_taken, link_taken, primary_taken, request_taken, session_taken, taken_offline, told}
use Rattle.host.specs.declared.acknowledge.Acknowledge.TheVariants.{NothingSpooled, OfflineAccepted}
use Rattle.lines.specs.declared.line.Line.{Line}
use Rattle.moves.proofs.Entering.{either}
use Rattle.moves.proofs.Leaving.{acknowledged_kept, closed_kept, unloads_kept}
use Rattle.moves.proofs.Sounds.{Sound, kept_none}
use Rattle.moves.specs.Books.{Book, OldestOpen, OpensFirst, OpensFrom, unloads}
use Rattle.moves.specs.Moves.{Move, starts_purge, transmits}
use Rattle.moves.specs.Numbers.{is_spool_end, numbers_of}
use Rattle.requests.specs.Faults.{fault_function}
use Rattle.requests.specs.Requests.{commack_of, request_of}
use Rattle.requests.specs.declared.request.FrameFault.{FrameFault}
use Rattle.requests.specs.declared.request.FrameFault.TheVariants.{Session}
use Rattle.requests.specs.declared.request.Request.{Request}
use Rattle.requests.specs.declared.request.Request.TheVariants as request
use Rattle.rules.specs.ControlRules.{went_offline, went_online}
use Rattle.rules.specs.LinkRules.{linked}
use Rattle.rules.specs.Sends.{replied}
use Rattle.rules.specs.Views.{View, with_held, with_session}
use Rattle.rules.specs.declared.state.Next.{Next}
use Rattle.rules.specs.declared.state.OpenSession.{OpenSession}
use Rattle.rules.specs.declared.state.SessionRequest.{SessionRequest}
use Rattle.rules.specs.declared.state.SessionRequest.TheVariants.{AreYouThere, Establish}
use Rattle.setup.specs.Tables.{entry_at}
use Rattle.setup.specs.declared.plan.Alarm.{Alarm}
use Rattle.spooling.specs.Holdings.{Holding}
use Rattle.spooling.specs.declared.state.OpenReport.{OpenReport}
use Rattle.spooling.specs.declared.state.Source.{Source}
use Rattle.spooling.specs.declared.state.Source.TheVariants.{Queue, Spool}
use Rattle.spooling.specs.declared.state.Unload.{Unload}
use Rattle.spooling.specs.declared.state.Unload.TheVariants as unload
use Rattle.states.specs.Controls.{is_online}
use Rattle.states.specs.declared.control.Control.{Control}
use Rattle.states.specs.declared.control.Control.TheVariants.{EquipmentOffline, Attempt, HostOffline, Local, Remote}
use Rattle.states.specs.declared.link.Link.{Link}
use Rattle.states.specs.declared.link.Link.TheVariants.{Disabled, WaitCra, WaitDelay, Communicating}
use Rattle.states.specs.declared.link.LinkEvent.TheVariants.{Accepted, Denied, HostEstablishes, OtherFrame}
use Rattle.ledger.specs.Laws.{book_of}
use Rattle.ledger.proofs.Rules.{F, Final, faulted_kept, fell_kept, final_same, linked_final, offline_kept, online_kept, quiet}

-- a reply moves no report
pub replied_book : (h : Header) (function : ℕ) (x : Body) (v : View) → book_of (replied h function x v) ≡ book_of v
unfolding replied
replied_book h function x v = either (λ (w : View). book_of w ≡ book_of v) h.wait _ _ (λ _. refl) (λ _. refl)

-- an ACTIVE spool that does not transmit has no report open
pub none_open : {past base : List Line} {k : ℕ} {a : Bool} {b : Book} → Sound past base k a b → a ≡ true → (b.held.spooling.unload ≡ unload.Transmit → ⊥) → b.held.pending ≡ None
none_open {past} {base} {k} {a} {b} s t u = go b.held.pending refl s.oldest
  where
    from : (p : OpenReport) (x : Source) → OpensFrom x p b.held.queue.records b.held.spool.records b.held.spooling.unload → ⊥
    from p Queue w = subst (OpensFirst p) (s.busy t) w
    from p Spool w = u w.1

    go : (p : Option OpenReport) → b.held.pending ≡ p → OldestOpen p b.held.queue.records b.held.spool.records b.held.spooling.unload → b.held.pending ≡ None
    go None n w = n
    go (Some p) n w = absurd (from p p.source w)

-- S6,F23 is granted only while the spool is ACTIVE and does not unload
granted_when : (x : Bool) (u : Unload) → eqb (acknowledge_byte (cond x (unloading_answer u) NothingSpooled)) 0 ≡ true → (x ≡ true) × (u ≡ unload.NoOutput)
granted_when true unload.NoOutput e = (refl, refl)
granted_when true unload.Transmit e = let z : ◌≡◌ {A = ℕ} 0 1 = cc in absurd (omega arith)
granted_when true unload.Purge e = let z : ◌≡◌ {A = ℕ} 0 1 = cc in absurd (omega arith)
granted_when false u e = let z : ◌≡◌ {A = ℕ} 0 1 = cc in absurd (omega arith)

module _ (past base : List Line) (n : Next) (k : ℕ) (room : k ≤ 26) (a : Bool) (v : View) (s : Sound past base k a (book_of v)) (e : n.report ≡ v.state.counts.reports + 1) where
  abbrev G : View → Type 0
  G w = F past base (k + 2) v w

  -- with a reply
  with_reply : (w : View) (h : Header) (function : ℕ) (x : Body) → G w → G (replied h function x w)
  with_reply w h function x g = subst (λ (b : Book). Final v.state.settings.overwrite past base (k + 2) (book_of v) b) (sym (replied_book h function x w)) g

  stays_so : G v
  stays_so = quiet s (kept_none s)

  attempt : (function : ℕ) (c : Control) → G (attempt_answered n function c v)
  attempt function EquipmentOffline = stays_so
  attempt function Attempt = either G (eqb function 0) _ _ (λ _. quiet s (fell_kept past base k a v s)) (λ _. final_same s (online_kept past base n k a v s room e))
  attempt function HostOffline = stays_so
  attempt function Local = stays_so
  attempt function Remote = stays_so

  unload_not : (u : Unload) → u ≡ unload.NoOutput → u ≡ unload.Transmit → ⊥
  unload_not u p q = let z : ◌≡◌ {A = ℕ} 0 1 = cc in omega arith

  unload_taken : (h : Header) (u : Unload) (m : ℕ) → m ≤ v.held.spooling.acknowledged
      → (v.held.spooling.active ≡ true → v.held.spooling.unload ≡ unload.NoOutput → v.held.pending ≡ None → Move v.state.settings.overwrite (book_of v) (book_of (with_held (unloads u m v.held) v))) → G (unload_granted h (unload_answer v.held.spooling) (unloads u m v.held) v)
  unload_taken h u m l x =
      with_reply (cond (eqb (acknowledge_byte (unload_answer v.held.spooling)) 0) (with_held (unloads u m v.held) v) v) h 24 (acknowledging (unload_answer v.held.spooling))
      (either G (eqb (acknowledge_byte (unload_answer v.held.spooling)) 0) _ _
      (λ t. let g = granted_when v.held.spooling.active v.held.spooling.unload t in
      let p = none_open s (sym s.standing.is ∙ g.0) (unload_not v.held.spooling.unload g.1) in
      quiet s (unloads_kept v.state.settings.overwrite past base k a (book_of v) s u m p l (x g.0 g.1 p)))
      (λ _. stays_so))

  alarm_taken : (h : Header) (enable : Bool) (number : ℕ) (x : Option Alarm) → G (alarm_granted h enable number x v)
  alarm_taken h enable number None = with_reply v h 4 _ stays_so
  alarm_taken h enable number (Some x) = with_reply _ h 4 _ stays_so

  online_taken : (h : Header) (c : Control) → G (online_granted n h c v)
  online_taken h EquipmentOffline = with_reply v h 18 _ stays_so
  online_taken h Attempt = with_reply v h 18 _ stays_so
  online_taken h HostOffline = with_reply (went_online n v) h 18 _ (final_same s (online_kept past base n k a v s room e))
  online_taken h Local = with_reply v h 18 _ stays_so
  online_taken h Remote = with_reply v h 18 _ stays_so

  granted_final : (h : Header) (r : Request) → G (granted n h r v)
  unfolding granted
  granted_final h request.AreYouThere = with_reply v h 2 body.Identity stays_so
  granted_final h request.Establish = with_reply v h 14 body.Accepted stays_so
  granted_final h request.GoOffline = with_reply (went_offline n HostOffline v) h 16 (acknowledging OfflineAccepted) (final_same s (offline_kept past base n k a v s room e HostOffline))
  granted_final h request.GoOnline = online_taken h v.state.control
  granted_final h (request.EnableAlarm enable number) = alarm_taken h enable number (entry_at v.state.setup.alarms.entries number)
  granted_final h request.Transmit = unload_taken h unload.Transmit 0 (omega arith) transmits
  granted_final h request.Purge = unload_taken h unload.Purge v.held.spooling.acknowledged (omega arith) starts_purge

  report_final : (function : ℕ) → G (report_answered function v)
  report_final function =
      either (λ (x : Holding). G (with_held x v)) (eqb function 0) _ _
      (λ _. quiet s (closed_kept v.state.settings.overwrite past base k a (book_of v) s))
      (λ _. final_same s (acknowledged_kept v.state.settings.overwrite past base k a (book_of v) s (omega arith)))

  told_final : (h : Header) (f : FrameFault) → G (told n h f v).after
  told_final h f = quiet s (faulted_kept past base k a v s n (fault_function f) h)

  request_final : (h : Header) (r : Result Request FrameFault) → G (request_taken n h r v).after
  request_final h (Ok r) = granted_final h r
  request_final h (Err f) = told_final h f

  either_turn : (b : Bool) (x y : Turn) → G x.after → G y.after → G (cond b x y).after
  either_turn true x y p q = p
  either_turn false x y p q = q

  primary_final : (h : Header) (frame : List ℕ) → G (primary_taken n h frame v).after
  unfolding primary_taken
  primary_final h frame =
      either_turn (is_online v.state.control || taken_offline h) _ _ (request_final h (request_of frame h.stream h.function)) (with_reply v h 0 body.Empty stays_so)

module _ (past base : List Line) (n : Next) (k : ℕ) (room : k ≤ 26) (a : Bool) (v : View) (s : Sound past base k a (book_of v)) (e : n.report ≡ v.state.counts.reports + 1) where
  session_answered_lem : (function : ℕ) (o : Option OpenSession) → G past base n k room a v s e (session_answered n function o v)
  session_answered_lem function None = stays_so past base n k room a v s e
  session_answered_lem function (Some o) = by o.request
    where
      by : (r : SessionRequest) → G past base n k room a v s e (request_answered n function r (with_session None v))
      by AreYouThere = attempt past base n k room a (with_session None v) s e function v.state.control
      by Establish = stays_so past base n k room a v s e

  reply_final : (h : Header) → G past base n k room a v s e (reply_taken n h v)
  unfolding reply_taken
  reply_final h =
      either (G past base n k room a v s e) (answers_session h v.state.session) _ _ (λ _. session_answered_lem h.function v.state.session)
      (λ _. either (G past base n k room a v s e) (answers_report h v.held.pending) _ _ (λ _. report_final past base n k room a v s e h.function) (λ _. stays_so past base n k room a v s e))

  module _ (z : length (numbers_of is_spool_end v.held.lines) ≡ 0) where
    commack_final : (c : Option ℕ) → G past base n k room a v s e (commack_taken n c v)
    commack_final None = stays_so past base n k room a v s e
    commack_final (Some c) =
        either (G past base n k room a v s e) (eqb c commack_accepted) _ _ (λ _. linked_final past base n k room a (with_session None v) s z e Accepted) (λ _. linked_final past base n k room a v s z e Denied)

    wait_final : (h : Header) (frame : List ℕ) → G past base n k room a v s e (wait_taken n h frame v)
    unfolding wait_taken
    wait_final h frame =
        either (G past base n k room a v s e) (is_establish h) _ _
        (λ _. with_reply past base n k room a v s e (linked n HostEstablishes v) h 14 body.Accepted (linked_final past base n k room a v s z e HostEstablishes))
        (λ _. either (G past base n k room a v s e) (is_awaited_commack h v) _ _ (λ _. commack_final (commack_of frame)) (λ _. linked_final past base n k room a v s z e OtherFrame))

    session_final : (h : Header) (frame : List ℕ) (l : Link) → G past base n k room a v s e (session_taken n h frame l v).after
    session_final h frame Disabled = stays_so past base n k room a v s e
    session_final h frame WaitCra = wait_final h frame
    session_final h frame WaitDelay = wait_final h frame
    session_final h frame Communicating = either_turn past base n k room a v s e (eqb (h.function % 2) 0) _ _ (reply_final h) (primary_final past base n k room a v s e h frame)

    link_final : (h : Header) (frame : List ℕ) (l : Link) → G past base n k room a v s e (link_taken n h frame l v).after
    link_final h frame Disabled = stays_so past base n k room a v s e
    link_final h frame WaitCra = either_turn past base n k room a v s e (eqb h.session v.state.settings.session) _ _ (session_final h frame WaitCra) (told_final past base n k room a v s e h Session)
    link_final h frame WaitDelay = either_turn past base n k room a v s e (eqb h.session v.state.settings.session) _ _ (session_final h frame WaitDelay) (told_final past base n k room a v s e h Session)
    link_final h frame Communicating = either_turn past base n k room a v s e (eqb h.session v.state.settings.session) _ _ (session_final h frame Communicating) (told_final past base n k room a v s e h Session)

    pub frame_final : (h : Header) (frame : List ℕ) → F past base (k + 2) v (frame_taken n h frame v).after
    unfolding frame_taken
    frame_final h frame = link_final h frame v.state.link
