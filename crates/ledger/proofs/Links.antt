-- How COMMUNICATING is entered.
use Rattle.std.proofs.Common.{◌≡◌, ℕ, Bool, true, false, cond, not, ◌&&◌, eqb, leb, List, [], ◌∷◌, length, Some, None, Ok, Err, Option, Result, sym, refl, ap, ◌∙◌, inl, inr, arith, Bor}
use Rattle.std.proofs.lemmas.Bool.{and_parts, eqb-true}
use Rattle.actions.specs.Powers.{powered}
use Rattle.actions.specs.Pumps.{is_maximum, is_ready, purge_pumped, pumped, pumped_by, report_sent, spool_ended, transmit_pumped}
use Rattle.actions.specs.Samples.{sample_taken, sampled, sampled_at}
use Rattle.bodies.specs.Bodies.{commack_accepted}
use Rattle.bodies.specs.declared.body.Body.{Body}
use Rattle.frames.specs.Frames.{Parted, frame_at}
use Rattle.frames.specs.declared.header.Header.{Header}
use Rattle.gem.specs.Alarms.{alarm_event, alarm_told, alarmed, alarmed_at, alcd_of, is_same}
use Rattle.gem.specs.Calls.{call_turn, unless}
use Rattle.gem.specs.Turns.{expiry_turn, frame_turn, host_turn, refusal_of, switch_turn, turn_of}
use Rattle.gem.specs.declared.equipment.Call.{Call}
use Rattle.gem.specs.declared.equipment.Call.TheVariants as call
use Rattle.host.specs.Grants.{with_alarm}
use Rattle.host.specs.Replies.{commack_taken, is_awaited_commack, is_establish, is_wait_cra, wait_taken}
use Rattle.host.specs.Takes.{Turn, frame_taken, link_taken, told}
use Rattle.moves.proofs.Entering.{either}
use Rattle.requests.specs.Requests.{commack_of}
use Rattle.requests.specs.declared.request.FrameFault.{FrameFault}
use Rattle.requests.specs.declared.request.FrameFault.TheVariants.{Session}
use Rattle.rules.specs.ControlRules.{attempted_at, expired, expiry_of, fell_back, local_switched, mode_event, offline_switched, online_switched, overdue_at, remote_switched, switch_of, switched, went_offline, went_online}
use Rattle.rules.specs.LinkRules.{followed, linked, lost, stopped_at}
use Rattle.rules.specs.Reporting.{alarm_reported, evented}
use Rattle.rules.specs.Sends.{asked, faulted, replied}
use Rattle.rules.specs.Views.{View, closed_all, next_of, with_control, with_held, with_link, with_mode}
use Rattle.rules.specs.declared.control.Expiry.{Expiry}
use Rattle.rules.specs.declared.control.Expiry.TheVariants as expiry
use Rattle.rules.specs.declared.control.Switch.{Switch}
use Rattle.rules.specs.declared.control.Switch.TheVariants as switch
use Rattle.rules.specs.declared.event.Event.{Event}
use Rattle.rules.specs.declared.event.Event.TheVariants.{OnlineLeft, SpoolActivated, SpoolDeactivated, TransmitFailed, ZoneMoved}
use Rattle.rules.specs.declared.state.Next.{Next}
use Rattle.setup.specs.declared.refusal.Refusal.{Refusal}
use Rattle.setup.specs.Tables.{entry_at}
use Rattle.setup.specs.declared.plan.Alarm.{Alarm}
use Rattle.spooling.specs.Leaving.{activated, unloading}
use Rattle.spooling.specs.declared.state.OpenReport.{OpenReport}
use Rattle.spooling.specs.declared.state.Source.{Source}
use Rattle.spooling.specs.declared.state.Source.TheVariants.{Queue, Spool}
use Rattle.spooling.specs.declared.state.Unload.{Unload}
use Rattle.spooling.specs.declared.state.Unload.TheVariants.{NoOutput, Transmit, Purge}
use Rattle.states.specs.Controls.{is_online, online_at}
use Rattle.states.specs.Links.{link_after}
use Rattle.states.specs.declared.control.Control.{Control}
use Rattle.states.specs.declared.control.Control.TheVariants.{EquipmentOffline, Attempt, HostOffline, Local, Remote}
use Rattle.states.specs.declared.control.Mode.TheVariants as mode
use Rattle.states.specs.declared.link.Link.{Link}
use Rattle.states.specs.declared.link.Link.TheVariants.{Disabled, WaitCra, WaitDelay, Communicating}
use Rattle.states.specs.declared.link.LinkEvent.{LinkEvent}
use Rattle.states.specs.declared.link.LinkEvent.TheVariants.{Accepted, DelayOver, Denied, Disable, Enable, Failure, HostEstablishes, NoReply, OtherFrame}
use Rattle.store.specs.Reports.{Report, oldest_number}
use Rattle.zone.specs.Variables.{sample_after, sample_answer}
use Rattle.zone.specs.declared.variable.Sample.{Sample}
use Rattle.zone.specs.declared.variable.SampleFault.{SampleFault}
use Rattle.zone.specs.declared.variable.Variable.{Variable}
use Rattle.ledger.specs.Laws.{EstablishedBy}
use Rattle.ledger.proofs.Rules.{fell}

-- communications stay as they are
abbrev Same : View → View → Type 0
Same v w = w.state.link ≡ v.state.link

evented_same : (n : Next) (x : Event) (v : View) → Same v (evented n x v)
unfolding evented
evented_same n x v = either (Same v) (is_online v.state.control) _ _ (λ _. refl) (λ _. refl)

reported_same : (n : Next) (alcd number : ℕ) (v : View) → Same v (alarm_reported n alcd number v)
unfolding alarm_reported
reported_same n alcd number v = either (Same v) (is_online v.state.control) _ _ (λ _. refl) (λ _. refl)

replied_same : (h : Header) (function : ℕ) (x : Body) (v : View) → Same v (replied h function x v)
unfolding replied
replied_same h function x v = either (Same v) h.wait _ _ (λ _. refl) (λ _. refl)

faulted_same : (n : Next) (function : ℕ) (h : Header) (v : View) → Same v (faulted n function h v)
unfolding faulted
faulted_same n function h v = refl

online_same : (n : Next) (v : View) → Same v (went_online n v)
unfolding went_online
online_same n v = evented_same n (mode_event v.state.mode) (with_control (online_at v.state.mode) v)

offline_same : (n : Next) (c : Control) (v : View) → Same v (went_offline n c v)
unfolding went_offline
offline_same n c v = evented_same n OnlineLeft v

fell_same : (v : View) → Same v (fell_back v)
fell_same v = fell [] [] v (Same v) refl refl

stopped_same : (n : Next) (u : Unload) (v : View) → Same v (stopped_at n u v)
stopped_same n NoOutput v = refl
stopped_same n Transmit v = evented_same n TransmitFailed (with_held (unloading NoOutput v.held) v)
stopped_same n Purge v = refl

lost_same : (n : Next) (v : View) → Same v (lost n v)
unfolding lost
lost_same n v =
    either (Same v) v.held.spooling.active _ _ (λ _. stopped_same n v.held.spooling.unload (closed_all v))
    (λ _. evented_same n SpoolActivated (with_held (activated v.state.settings.overwrite (closed_all v).held) (closed_all v)))

-- an event leads where the table says
followed_same : (n : Next) (before after : Link) (v : View) → Same v (followed n before after v)
unfolding asked
followed_same n Disabled Disabled v = refl
followed_same n WaitCra Disabled v = refl
followed_same n WaitDelay Disabled v = refl
followed_same n Communicating Disabled v = refl
followed_same n Disabled WaitCra v = refl
followed_same n WaitCra WaitCra v = refl
followed_same n WaitDelay WaitCra v = refl
followed_same n Communicating WaitCra v = lost_same n v
followed_same n Disabled WaitDelay v = refl
followed_same n WaitCra WaitDelay v = lost_same n v
followed_same n WaitDelay WaitDelay v = refl
followed_same n Communicating WaitDelay v = refl
followed_same n before Communicating v = refl

linked_to : (n : Next) (x : LinkEvent) (v : View) → (linked n x v).state.link ≡ link_after v.state.link x
unfolding linked
linked_to n x v = followed_same n v.state.link (link_after v.state.link x) (with_link (link_after v.state.link x) v)

not_disabled : Disabled ≡ Communicating → ⊥
not_disabled e = let z : ◌≡◌ {A = ℕ} 0 1 = cc in omega arith

not_cra : WaitCra ≡ Communicating → ⊥
not_cra e = let z : ◌≡◌ {A = ℕ} 0 1 = cc in omega arith

not_delay : WaitDelay ≡ Communicating → ⊥
not_delay e = let z : ◌≡◌ {A = ℕ} 0 1 = cc in omega arith

-- the events that lead to COMMUNICATING from elsewhere
abbrev establishes : LinkEvent → Bool
establishes Enable = false
establishes Disable = false
establishes Failure = false
establishes DelayOver = false
establishes NoReply = false
establishes HostEstablishes = true
establishes Accepted = true
establishes Denied = false
establishes OtherFrame = false

from_disabled_lem : (x : LinkEvent) → establishes x ≡ false → link_after Disabled x ≡ Communicating → ⊥
from_disabled_lem Enable f e = not_cra e
from_disabled_lem Disable f e = not_disabled e
from_disabled_lem Failure f e = not_disabled e
from_disabled_lem DelayOver f e = not_disabled e
from_disabled_lem NoReply f e = not_disabled e
from_disabled_lem HostEstablishes f e = not_disabled e
from_disabled_lem Accepted f e = not_disabled e
from_disabled_lem Denied f e = not_disabled e
from_disabled_lem OtherFrame f e = not_disabled e

from_cra : (x : LinkEvent) → establishes x ≡ false → link_after WaitCra x ≡ Communicating → ⊥
from_cra Enable f e = not_cra e
from_cra Disable f e = not_disabled e
from_cra Failure f e = not_delay e
from_cra DelayOver f e = not_cra e
from_cra NoReply f e = not_delay e
from_cra HostEstablishes f e = let z : ◌≡◌ {A = ℕ} 0 1 = cc in omega arith
from_cra Accepted f e = let z : ◌≡◌ {A = ℕ} 0 1 = cc in omega arith
from_cra Denied f e = not_delay e
from_cra OtherFrame f e = not_cra e

from_delay : (x : LinkEvent) → establishes x ≡ false → link_after WaitDelay x ≡ Communicating → ⊥
from_delay Enable f e = not_delay e
from_delay Disable f e = not_disabled e
from_delay Failure f e = not_delay e
from_delay DelayOver f e = not_cra e
from_delay NoReply f e = not_delay e
from_delay HostEstablishes f e = let z : ◌≡◌ {A = ℕ} 0 1 = cc in omega arith
from_delay Accepted f e = not_delay e
from_delay Denied f e = not_delay e
from_delay OtherFrame f e = not_cra e

stays_out : (l : Link) (x : LinkEvent) → establishes x ≡ false → (l ≡ Communicating → ⊥) → link_after l x ≡ Communicating → ⊥
stays_out Disabled x f out e = from_disabled_lem x f e
stays_out WaitCra x f out e = from_cra x f e
stays_out WaitDelay x f out e = from_delay x f e
stays_out Communicating x f out e = out refl

module _ (v : View) (out : v.state.link ≡ Communicating → ⊥) where
  -- not COMMUNICATING after all
  abbrev Out : View → Type 0
  Out w = w.state.link ≡ Communicating → ⊥

  still : {l : Link} → l ≡ v.state.link → l ≡ Communicating → ⊥
  still e t = out (sym e ∙ t)

  linked_out : (n : Next) (x : LinkEvent) → establishes x ≡ false → (w : View) → Same v w → Out (linked n x w)
  linked_out n x f w e t = stays_out v.state.link x f out (ap (λ (l : Link). link_after l x) (sym e) ∙ (sym (linked_to n x w) ∙ t))

  attempted_out : (n : Next) (l : Link) → Same v (attempted_at n l v)
  unfolding asked
  attempted_out n Disabled = refl
  attempted_out n WaitCra = refl
  attempted_out n WaitDelay = refl
  attempted_out n Communicating = refl

  online_out : (n : Next) (c : Control) → Same v (online_switched n c v)
  online_out n EquipmentOffline = attempted_out n v.state.link
  online_out n Attempt = refl
  online_out n HostOffline = refl
  online_out n Local = refl
  online_out n Remote = refl

  offline_out : (n : Next) (c : Control) → Same v (offline_switched n c v)
  offline_out n EquipmentOffline = refl
  offline_out n Attempt = refl
  offline_out n HostOffline = offline_same n EquipmentOffline v
  offline_out n Local = offline_same n EquipmentOffline v
  offline_out n Remote = offline_same n EquipmentOffline v

  local_out : (n : Next) (c : Control) → Same v (local_switched n c (with_mode mode.Local v))
  local_out n EquipmentOffline = refl
  local_out n Attempt = refl
  local_out n HostOffline = refl
  local_out n Local = refl
  local_out n Remote = online_same n (with_mode mode.Local v)

  remote_out : (n : Next) (c : Control) → Same v (remote_switched n c (with_mode mode.Remote v))
  remote_out n EquipmentOffline = refl
  remote_out n Attempt = refl
  remote_out n HostOffline = refl
  remote_out n Local = online_same n (with_mode mode.Remote v)
  remote_out n Remote = refl

  switched_out : (n : Next) (x : Switch) → Out (switched n x v)
  unfolding switched
  switched_out n switch.Enable = linked_out n Enable refl v refl
  switched_out n switch.Disable = linked_out n Disable refl (fell_back v) (fell_same v)
  switched_out n switch.Online = still (online_out n v.state.control)
  switched_out n switch.Offline = still (offline_out n v.state.control)
  switched_out n switch.Local = still (local_out n v.state.control)
  switched_out n switch.Remote = still (remote_out n v.state.control)

  overdue_same : (n : Next) (p : Option OpenReport) → Same v (overdue_at n p v)
  unfolding faulted
  overdue_same n None = refl
  overdue_same n (Some p) = refl

  expired_out : (n : Next) (x : Expiry) → Out (expired n x v)
  unfolding expired
  expired_out n expiry.CommDelay = linked_out n DelayOver refl v refl
  expired_out n expiry.SessionReply = linked_out n NoReply refl (fell_back v) (fell_same v)
  expired_out n expiry.ReportReply = still (overdue_same n v.held.pending)

  sent_same : (n : Next) (x : Source) (rs : List Report) → Same v (report_sent n x rs v)
  sent_same n x [] = refl
  sent_same n x (r ∷ rs) = refl

  ended_same : (n : Next) → Same v (spool_ended n v)
  ended_same n = evented_same n SpoolDeactivated _

  purge_same : (n : Next) (o : Option ℕ) → Same v (purge_pumped n o v)
  purge_same n None = ended_same n
  purge_same n (Some k) = refl

  transmit_same : (n : Next) (o : Option ℕ) → Same v (transmit_pumped n o v)
  transmit_same n None = ended_same n
  transmit_same n (Some k) = either (Same v) (is_maximum v.state.settings.max_transmit v.held.spooling.acknowledged) _ _ (λ _. refl) (λ _. sent_same n Spool v.held.spool.records)

  pumped_same : (n : Next) (u : Unload) → Same v (pumped_by n u v)
  pumped_same n NoOutput = either (Same v) (is_ready v && not v.held.spooling.active) _ _ (λ _. sent_same n Queue v.held.queue.records) (λ _. refl)
  pumped_same n Transmit = either (Same v) (is_ready v) _ _ (λ _. transmit_same n (oldest_number v.held.spool.records)) (λ _. refl)
  pumped_same n Purge = purge_same n (oldest_number v.held.spool.records)

  pumped_out : (n : Next) → Out (pumped n v)
  unfolding pumped
  pumped_out n = still (pumped_same n v.held.spooling.unload)

  sample_same : (n : Next) (number : ℕ) (x : Variable) (r : Result Bool SampleFault) → Same v (sample_taken n number x r v).after
  sample_same n number x (Ok moved) = either (Same v) moved _ _ (λ _. evented_same n (ZoneMoved number) _) (λ _. refl)
  sample_same n number x (Err fault) = refl

  sampled_same : (n : Next) (number : ℕ) (x : Sample) (o : Option Variable) → Same v (sampled_at n number x o v).after
  sampled_same n number x None = refl
  sampled_same n number x (Some y) = sample_same n number (sample_after y x) (sample_answer y x)

  sampled_out : (n : Next) (number : ℕ) (x : Sample) → Out (sampled n number x v).after
  unfolding sampled
  sampled_out n number x = still (sampled_same n number x (entry_at v.state.setup.variables.entries number))

  alarm_same : (number : ℕ) (set : Bool) (x : Alarm) (w : View) → Same v w → Same v (alarm_told (next_of w.state) number x set w)
  alarm_same number set x w e = either (Same v) x.enabled _ _ (λ _. reported_same (next_of w.state) (alcd_of x.category set) number w ∙ e) (λ _. e)

  alarmed_same : (number : ℕ) (set : Bool) (o : Option Alarm) → Same v (alarmed_at number set o v).after
  alarmed_same number set None = refl
  alarmed_same number set (Some x) =
      either (Same v) (is_same x.set set) _ _ (λ _. refl)
      (λ _. let w : View = with_alarm number (record { category = x.category; enabled = x.enabled; set = set }) v in
      evented_same (next_of (alarm_told (next_of w.state) number x set w).state) (alarm_event number set) (alarm_told (next_of w.state) number x set w) ∙ alarm_same number set x w refl)

  alarmed_out : (number : ℕ) (set : Bool) → Out (alarmed number set v).after
  unfolding alarmed
  alarmed_out number set = still (alarmed_same number set (entry_at v.state.setup.alarms.entries number))

  powered_out : Out (powered v)
  unfolding powered
  powered_out e = not_disabled e

  -- a frame of the host
  module _ (frame : Bor (List ℕ)) (p : Parted) (split : frame_at frame.now ≡ Some p) where
    abbrev By : View → Type 0
    By w = w.state.link ≡ Communicating → EstablishedBy (call.Host frame) v

    no_way : {l : Link} → (l ≡ Communicating → ⊥) → l ≡ Communicating → EstablishedBy (call.Host frame) v
    no_way f t = absurd (f t)

    cra_is : (l : Link) → is_wait_cra l ≡ true → l ≡ WaitCra
    cra_is Disabled e = let z : ◌≡◌ {A = ℕ} 0 1 = cc in absurd (omega arith)
    cra_is WaitCra e = refl
    cra_is WaitDelay e = let z : ◌≡◌ {A = ℕ} 0 1 = cc in absurd (omega arith)
    cra_is Communicating e = let z : ◌≡◌ {A = ℕ} 0 1 = cc in absurd (omega arith)

    commack : (n : Next) → is_awaited_commack p.header v ≡ true → (o : Option ℕ) → commack_of frame.now ≡ o → By (commack_taken n o v)
    commack n w None e = no_way out
    commack n w (Some c) e =
        either By (eqb c commack_accepted) _ _
        (λ t _. let x = and_parts (is_wait_cra v.state.link) _ w in
        let y = and_parts (eqb p.header.function 14) _ x.1 in
        record { frame = frame.now; from = refl; parts = p; split = split; cause = inr (record { wait = cra_is v.state.link x.0; function = eqb-true p.header.function 14 y.0; answers = y.1; accepted = e ∙ ap Some (eqb-true c commack_accepted t) }) })
        (λ _. no_way (linked_out n Denied refl v refl))

    wait_by : (n : Next) → By (wait_taken n p.header frame.now v)
    unfolding wait_taken
    wait_by n =
        either By (is_establish p.header) _ _
        (λ t _. let x = and_parts (eqb p.header.stream 1) _ t in
        record { frame = frame.now; from = refl; parts = p; split = split; cause = inl (eqb-true p.header.stream 1 x.0, eqb-true p.header.function 13 x.1) })
        (λ _. either By (is_awaited_commack p.header v) _ _ (λ w. commack n w (commack_of frame.now) refl) (λ _. no_way (linked_out n OtherFrame refl v refl)))

    either_by : (b : Bool) (x y : Turn) → By x.after → By y.after → By (cond b x y).after
    either_by true x y f g = f
    either_by false x y f g = g

    told_by : (n : Next) (f : FrameFault) → By (told n p.header f v).after
    told_by n f = no_way (still (faulted_same n _ p.header v))

    link_by : (n : Next) (l : Link) → v.state.link ≡ l → By (link_taken n p.header frame.now l v).after
    link_by n Disabled e = no_way out
    link_by n WaitCra e = either_by (eqb p.header.session v.state.settings.session) _ _ (wait_by n) (told_by n Session)
    link_by n WaitDelay e = either_by (eqb p.header.session v.state.settings.session) _ _ (wait_by n) (told_by n Session)
    link_by n Communicating e = absurd (out e)

    frame_by : (n : Next) → By (frame_taken n p.header frame.now v).after
    unfolding frame_taken
    frame_by n = link_by n v.state.link refl

    pub parts_by : By (frame_turn (next_of v.state) frame.now (Some p) v).after
    parts_by = either_by (not (eqb p.header.ptype 0)) _ _ (no_way out) (either_by (not (eqb p.header.stype 0)) _ _ (no_way out) (frame_by (next_of v.state)))

  host_by : (frame : Bor (List ℕ)) → (host_turn (next_of v.state) frame.now v).after.state.link ≡ Communicating → EstablishedBy (call.Host frame) v
  host_by frame = either (λ (t : Turn). t.after.state.link ≡ Communicating → EstablishedBy (call.Host frame) v) (leb (length frame.now) 490) _ _ (λ _. go (frame_at frame.now) refl) (λ _ t. absurd (out t))
    where
      go : (o : Option Parted) → frame_at frame.now ≡ o → (frame_turn (next_of v.state) frame.now o v).after.state.link ≡ Communicating → EstablishedBy (call.Host frame) v
      go None e t = absurd (out t)
      go (Some p) e t = parts_by frame p e t

  switch_by : (number : ℕ) (x : Option Switch) → Out (switch_turn number x v).after
  switch_by number None = out
  switch_by number (Some x) = switched_out (next_of v.state) x

  expiry_by : (number : ℕ) (x : Option Expiry) → Out (expiry_turn number x v).after
  expiry_by number None = out
  expiry_by number (Some x) = expired_out (next_of v.state) x

  turn_by : (c : Call) → (turn_of c v).after.state.link ≡ Communicating → EstablishedBy c v
  turn_by (call.Host frame) t = host_by frame t
  turn_by (call.Switch number) t = absurd (switch_by number (switch_of number) t)
  turn_by (call.Expiry number) t = absurd (expiry_by number (expiry_of number) t)
  turn_by call.Failure t = absurd (linked_out (next_of v.state) Failure refl (fell_back v) (fell_same v) t)
  turn_by (call.Sample number x) t = absurd (sampled_out (next_of v.state) number x t)
  turn_by (call.Alarm number set) t = absurd (alarmed_out number set t)
  turn_by call.Pump t = absurd (pumped_out (next_of v.state) t)
  turn_by call.Power t = absurd (powered_out t)

  pub call_by : (fit : Bool) (room ledger : ℕ) (c : Call) → (call_turn fit room ledger c v).after.state.link ≡ Communicating → EstablishedBy c v
  call_by fit room ledger c = go (refusal_of fit room ledger v.state.counts)
    where
      go : (o : Option Refusal) → (unless o c v).after.state.link ≡ Communicating → EstablishedBy c v
      go None t = turn_by c t
      go (Some r) t = absurd (out t)
