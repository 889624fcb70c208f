-- Each call ends in exactly one way.
use Rattle.std.proofs.Common.{◌≡◌, ℕ, ◌%◌, ◌≤◌, Bool, true, false, cond, not, ◌||◌, eqb, ltb, leb, List, [], length, Some, None, Ok, Err, Option, Result, refl, ap, ◌∙◌, arith, Bor}
use Rattle.actions.specs.Samples.{refused, sample_taken, sampled, sampled_at}
use Rattle.frames.specs.Frames.{Parted, frame_at}
use Rattle.host.specs.Grants.{granted}
use Rattle.host.specs.Replies.{reply_taken, wait_taken}
use Rattle.host.specs.Takes.{Turn, done, frame_taken, link_taken, primary_taken, request_taken, session_taken, taken_offline, told}
use Rattle.requests.specs.Faults.{fault_code}
use Rattle.requests.specs.Requests.{request_of}
use Rattle.requests.specs.declared.request.FrameFault.{FrameFault}
use Rattle.requests.specs.declared.request.FrameFault.TheVariants.{Session, Stream, Function, BadItem, Unlisted}
use Rattle.requests.specs.declared.request.Request.{Request}
use Rattle.rules.specs.ControlRules.{expiry_of, switch_of}
use Rattle.rules.specs.Views.{View, next_of}
use Rattle.rules.specs.declared.control.Expiry.{Expiry}
use Rattle.rules.specs.declared.control.Switch.{Switch}
use Rattle.rules.specs.declared.state.Counts.{Counts}
use Rattle.rules.specs.declared.state.Next.{Next}
use Rattle.setup.specs.Refusals.{refusal_code}
use Rattle.setup.specs.Tables.{entry_at}
use Rattle.setup.specs.declared.refusal.Refusal.{Refusal}
use Rattle.setup.specs.declared.refusal.Refusal.TheVariants as refusal
use Rattle.setup.specs.declared.plan.Alarm.{Alarm}
use Rattle.states.specs.Controls.{is_online}
use Rattle.states.specs.declared.link.Link.{Link}
use Rattle.states.specs.declared.link.Link.TheVariants.{Disabled, WaitCra, WaitDelay, Communicating}
use Rattle.zone.specs.declared.variable.Sample.{Sample}
use Rattle.zone.specs.declared.variable.SampleFault.{SampleFault}
use Rattle.zone.specs.declared.variable.SampleFault.TheVariants.{OtherKind, NotANumber}
use Rattle.zone.specs.declared.variable.Variable.{Variable}
use Rattle.zone.specs.Variables.{sample_after, sample_answer}
use Rattle.gem.specs.declared.equipment.Call.{Call}
use Rattle.gem.specs.declared.equipment.Call.TheVariants as call
use Rattle.gem.specs.Alarms.{alarmed, alarmed_at}
use Rattle.gem.specs.Calls.{Answered, Untouched, call_turn, found, unless}
use Rattle.lines.specs.Journals.{on_ledger}
use Rattle.lines.specs.declared.line.Line.{Line}
use Rattle.rules.specs.declared.state.Core.{Core}
use Rattle.sending.specs.Sending.{frame_bytes, on_buffer}
use Rattle.store.specs.declared.Store.{Ghosts}
use Rattle.gem.specs.Endings.{Done, Ended, Refused, Told, first, second, third}
use Rattle.gem.specs.Turns.{expiry_turn, frame_turn, host_turn, refusal_of, switch_turn, turn_of}

either : (P : Turn → Type 0) (b : Bool) (x y : Turn) → P x → P y → P (cond b x y)
either P true x y p q = p
either P false x y p q = q

fault_range : (f : FrameFault) → (20 ≤ fault_code f) × (fault_code f ≤ 24)
fault_range Session = (omega arith, omega arith)
fault_range Stream = (omega arith, omega arith)
fault_range Function = (omega arith, omega arith)
fault_range (BadItem p) = (omega arith, omega arith)
fault_range (Unlisted p) = (omega arith, omega arith)

module _ (c : Call) (v : View) where
  is_done : (t : Turn) → Done t → Ended c t v
  is_done t d =
      first d
      (λ x. let r = fault_range x.fault in omega (arith, d.code, x.code, r.0))
      (λ x. omega (arith, d.code, x.low))

  is_refused : (t : Turn) → Refused t v → Ended c t v
  is_refused t r =
      third
      (λ d. omega (arith, d.code, r.low))
      (λ x. let f = fault_range x.fault in omega (arith, r.high, x.code, f.0))
      r

  is_told : (t : Turn) → Told c t v → Ended c t v
  is_told t x =
      let f = fault_range x.fault in
      second
      (λ d. omega (arith, d.code, x.code, f.0))
      x
      (λ r. omega (arith, r.high, x.code, f.0))

  done_ends : (w : View) → Ended c (done w) v
  done_ends w = is_done (done w) (record { code = refl; detail = refl })

  refused_ends : (r : Refusal) → 1 ≤ refusal_code r → refusal_code r ≤ 9 → Ended c (refused r v) v
  refused_ends r l h = is_refused (refused r v) (record { low = l; high = h; after = refl })

-- the refusals that all calls share
module _ (c : Call) (v : View) where
  shared_cond : (b : Bool) (x : Refusal) (rest : Option Refusal) → 1 ≤ refusal_code x → refusal_code x ≤ 9 → Ended c (unless rest c v) v → Ended c (unless (cond b (Some x) rest) c v) v
  shared_cond true x rest l h e = refused_ends c v x l h
  shared_cond false x rest l h e = e

  shared : (fit : Bool) (out ledger : ℕ) (k : Counts) → Ended c (turn_of c v) v → Ended c (unless (refusal_of fit out ledger k) c v) v
  shared false out ledger k e = refused_ends c v refusal.Unfit (omega arith) (omega arith)
  shared true out ledger k e =
      shared_cond (ltb out 512) (refusal.ShortBuffer out) _ (omega arith) (omega arith)
      (shared_cond (ltb ledger 32) (refusal.ShortLedger ledger) _ (omega arith) (omega arith)
      (shared_cond (ltb 4294967000 k.transactions || ltb 4294967000 k.reports) refusal.CountsSpent None (omega arith) (omega arith) e))

-- a host's frame
module _ (frame : Bor (List ℕ)) (v : View) (p : Parted) (split : frame_at frame.now ≡ Some p) where
  abbrev C : Call
  C = call.Host frame

  abbrev N : Next
  N = next_of v.state

  told_ends : (f : FrameFault) → Ended C (told N p.header f v) v
  told_ends f =
      is_told C v (told N p.header f v)
      (record { frame = frame.now; from = refl; parts = p; split = split; fault = f; code = refl; detail = refl; after = refl })

  request_ends : (r : Result Request FrameFault) → Ended C (request_taken N p.header r v) v
  request_ends (Ok r) = done_ends C v (granted N p.header r v)
  request_ends (Err f) = told_ends f

  primary_ends : Ended C (primary_taken N p.header frame.now v) v
  unfolding primary_taken
  primary_ends =
      either (λ t. Ended C t v) (is_online v.state.control || taken_offline p.header) _ _
      (request_ends (request_of frame.now p.header.stream p.header.function))
      (done_ends C v _)

  session_ends : (l : Link) → Ended C (session_taken N p.header frame.now l v) v
  session_ends Disabled = done_ends C v v
  session_ends WaitCra = done_ends C v (wait_taken N p.header frame.now v)
  session_ends WaitDelay = done_ends C v (wait_taken N p.header frame.now v)
  session_ends Communicating =
      either (λ t. Ended C t v) (eqb (p.header.function % 2) 0) _ _ (done_ends C v (reply_taken N p.header v)) primary_ends

  link_ends : (l : Link) → Ended C (link_taken N p.header frame.now l v) v
  link_ends Disabled = done_ends C v v
  link_ends WaitCra = either (λ t. Ended C t v) (eqb p.header.session v.state.settings.session) _ _ (session_ends WaitCra) (told_ends Session)
  link_ends WaitDelay = either (λ t. Ended C t v) (eqb p.header.session v.state.settings.session) _ _ (session_ends WaitDelay) (told_ends Session)
  link_ends Communicating = either (λ t. Ended C t v) (eqb p.header.session v.state.settings.session) _ _ (session_ends Communicating) (told_ends Session)

  frame_ends : Ended C (frame_taken N p.header frame.now v) v
  unfolding frame_taken
  frame_ends = link_ends v.state.link

  parts_end : Ended C (frame_turn (next_of v.state) frame.now (Some p) v) v
  parts_end =
      either (λ t. Ended C t v) (not (eqb p.header.ptype 0)) _ _ (refused_ends C v (refusal.HeaderByte 4) (omega arith) (omega arith))
      (either (λ t. Ended C t v) (not (eqb p.header.stype 0)) _ _ (refused_ends C v (refusal.HeaderByte 5) (omega arith) (omega arith)) frame_ends)

host_ends : (frame : Bor (List ℕ)) (v : View) → Ended (call.Host frame) (host_turn (next_of v.state) frame.now v) v
host_ends frame v =
    either (λ t. Ended (call.Host frame) t v) (leb (length frame.now) 490) _ _
    (go (frame_at frame.now) refl)
    (refused_ends (call.Host frame) v (refusal.FrameLength (length frame.now)) (omega arith) (omega arith))
  where
    go : (o : Option Parted) → frame_at frame.now ≡ o → Ended (call.Host frame) (frame_turn (next_of v.state) frame.now o v) v
    go None e = refused_ends (call.Host frame) v (refusal.FrameLength (length frame.now)) (omega arith) (omega arith)
    go (Some p) e = parts_end frame v p e

switch_ends : (n : ℕ) (o : Option Switch) (v : View) → Ended (call.Switch n) (switch_turn n o v) v
switch_ends n None v = refused_ends (call.Switch n) v (refusal.Unknown n) (omega arith) (omega arith)
switch_ends n (Some s) v = done_ends (call.Switch n) v _

expiry_ends : (n : ℕ) (o : Option Expiry) (v : View) → Ended (call.Expiry n) (expiry_turn n o v) v
expiry_ends n None v = refused_ends (call.Expiry n) v (refusal.Unknown n) (omega arith) (omega arith)
expiry_ends n (Some e) v = done_ends (call.Expiry n) v _

module _ (k : ℕ) (s : Sample) (v : View) where
  answer_ends : (x : Variable) (r : Result Bool SampleFault) → Ended (call.Sample k s) (sample_taken (next_of v.state) k x r v) v
  answer_ends x (Ok moved) = done_ends (call.Sample k s) v _
  answer_ends x (Err OtherKind) = refused_ends (call.Sample k s) v (refusal.Sample k OtherKind) (omega arith) (omega arith)
  answer_ends x (Err NotANumber) = refused_ends (call.Sample k s) v (refusal.Sample k NotANumber) (omega arith) (omega arith)

  variable_ends : (o : Option Variable) → Ended (call.Sample k s) (sampled_at (next_of v.state) k s o v) v
  variable_ends None = refused_ends (call.Sample k s) v (refusal.Unknown k) (omega arith) (omega arith)
  variable_ends (Some x) = answer_ends (sample_after x s) (sample_answer x s)

  sample_ends : Ended (call.Sample k s) (sampled (next_of v.state) k s v) v
  unfolding sampled
  sample_ends = variable_ends (entry_at v.state.setup.variables.entries k)

alarm_ends : (k : ℕ) (set : Bool) (v : View) → Ended (call.Alarm k set) (alarmed k set v) v
unfolding alarmed
alarm_ends k set v = go (entry_at v.state.setup.alarms.entries k)
  where
    go : (o : Option Alarm) → Ended (call.Alarm k set) (alarmed_at k set o v) v
    go None = refused_ends (call.Alarm k set) v (refusal.Unknown k) (omega arith) (omega arith)
    go (Some a) = done_ends (call.Alarm k set) v _

turn_ends : (c : Call) (v : View) → Ended c (turn_of c v) v
turn_ends (call.Host frame) v = host_ends frame v
turn_ends (call.Switch n) v = switch_ends n (switch_of n) v
turn_ends (call.Expiry n) v = expiry_ends n (expiry_of n) v
turn_ends call.Failure v = done_ends call.Failure v _
turn_ends (call.Sample k s) v = sample_ends k s v
turn_ends (call.Alarm k set) v = alarm_ends k set v
turn_ends call.Pump v = done_ends call.Pump v _
turn_ends call.Power v = done_ends call.Power v _

pub call_ends : (fit : Bool) (out ledger : ℕ) (c : Call) (v : View) → Ended c (call_turn fit out ledger c v) v
call_ends fit out ledger c v = shared c v fit out ledger v.state.counts (turn_ends c v)

-- a call that answers 1 to 9 touched nothing
module _ {Q S : Type 0} (q : Ghosts Q) (s : Ghosts S) (c c' : Core Q S) (out out' : List ℕ) (ledger ledger' : List Line) where
  untouched_by : (t : Turn) (r : ℕ × ℕ × ℕ × ℕ) → t.after ≡ found q s c → Answered q s t out ledger r c' out' ledger' → Untouched q s c c' out out' ledger ledger'
  untouched_by t r e a =
      record {
        equipment = λ i. record { state = (a.state ∙ ap (λ (v : View). v.state) e) i; held = record { queue = (a.queue ∙ ap (λ (v : View). v.held.queue) e) i; spool = (a.spool ∙ ap (λ (v : View). v.held.spool) e) i; spooling = (a.spooling ∙ ap (λ (v : View). v.held.spooling) e) i; pending = (a.pending ∙ ap (λ (v : View). v.held.pending) e) i; lines = [] }; sent = None };
        bytes = a.bytes ∙ ap (λ (v : View). on_buffer (frame_bytes v.sent) out) e;
        lines = a.lines ∙ ap (λ (v : View). on_ledger v.held.lines ledger) e;
      }

  by_ending : (k : Call) (t : Turn) (r : ℕ × ℕ × ℕ × ℕ) → Ended k t (found q s c) → Answered q s t out ledger r c' out' ledger' → 1 ≤ r.0 → r.0 ≤ 9 → Untouched q s c c' out out' ledger ledger'
  by_ending k t r (first d x y) a l h = let e = ap (λ (z : ℕ × ℕ × ℕ × ℕ). z.0) a.answer in absurd (low d.code e l)
    where
      low : t.code ≡ 0 → r.0 ≡ t.code → 1 ≤ r.0 → ⊥
      low p q m = omega arith
  by_ending k t r (second x d y) a l h = let e = ap (λ (z : ℕ × ℕ × ℕ × ℕ). z.0) a.answer in absurd (high (fault_range d.fault).0 d.code e h)
    where
      high : {n : ℕ} → 20 ≤ n → t.code ≡ n → r.0 ≡ t.code → r.0 ≤ 9 → ⊥
      high p m q h = omega arith
  by_ending k t r (third x y d) a l h = untouched_by t r d.after a

  pub call_refused : (fit : Bool) (k : Call) (r : ℕ × ℕ × ℕ × ℕ)
      → Answered q s (call_turn fit (length out) (length ledger) k (found q s c)) out ledger r c' out' ledger' → 1 ≤ r.0 → r.0 ≤ 9 → Untouched q s c c' out out' ledger ledger'
  call_refused fit k r a l h = by_ending k (call_turn fit (length out) (length ledger) k (found q s c)) r (call_ends fit (length out) (length ledger) k (found q s c)) a l h
