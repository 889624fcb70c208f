use Rattle.std.proofs.Common.{◌≡◌, ℕ, [], length, subst, arith}
use Rattle.gem.specs.Runs.{Beginning}
use Rattle.gem.specs.declared.equipment.Call.TheVariants.{Host}
use Rattle.gem.specs.declared.equipment.LentCall.{LentCall}
use Rattle.gem.specs.Starts.{fresh_reports, fresh_state}
use Rattle.rules.specs.declared.state.Core.{Core}
use Rattle.setup.specs.declared.plan.Setup.{Setup}
use Rattle.setup.specs.declared.settings.Settings.{Settings}
use Rattle.spooling.specs.Holdings.{shelf}
use Rattle.store.specs.declared.Store.{Ghosts}
use Rattle.ledger.specs.Sittings.{Ran}
use Rattle.ledger.proofs.Making.{beginning_of, making_more, ran_all, ran_short}
use Rattle.ledger.proofs.sitting.run.Goals as goal

none : LentCall
none = record { call = Host (record { ref_ptr = (0, 0); now = [] }); out = 0; ledger = 0 }

-- what an equipment is started with is what it began with
begins : {Q S : Type 0} (q : Ghosts Q) (s : Ghosts S) (setup : Setup) (settings : Settings) (queue : Q) (spool : S) (c : Core Q S) → c.state ≡ fresh_state setup settings → c.reports ≡ fresh_reports queue spool
    → beginning_of q s c ≡ record { setup = setup; settings = settings; queue = shelf q queue; spool = shelf s spool }
begins q s setup settings queue spool c e f = λ i. record { setup = (e i).setup; settings = (e i).settings; queue = shelf q (f i).queue; spool = shelf s (f i).spool }

pub returns-then-ledger-used-lt32 : goal.returns-then-ledger-used-lt32
returns-then-ledger-used-lt32 g c =
    let x = c.args in
    let l = c.loop-made in
    let e = c.start-equipment.ensures in
    let s = c.start-equipment.result.core in
    subst (λ (b : Beginning). Ran g.Q.Store g.S.Store b x.calls.now x.ledger.now l.made l.used l.equipment.fit l.equipment.core l.ledger)
    (begins g.Q.Store g.S.Store x.setup x.settings x.queue x.spool s e.state e.reports)
    (ran_short g.Q.Store g.S.Store (beginning_of g.Q.Store g.S.Store s) x.calls.now l.made x.ledger.now l.made l.used l.equipment.fit l.equipment.core l.ledger l.invariant none c.loop-made-test.true c.if-ledger-used-lt32.true)

pub loop-made-preserved : goal.loop-made-preserved
loop-made-preserved g c =
    let x = c.args in
    let l = c.loop-made in
    let m = c.make_call-used in
    making_more g.Q.Store g.S.Store (beginning_of g.Q.Store g.S.Store c.start-equipment.result.core) x.calls.now l.made x.ledger.now l.made l.used l.equipment.fit l.equipment.core l.ledger l.invariant
    (record { call = Host (record { ref_ptr = (0, 0); now = [] }); out = 0; ledger = 0 }) m.result m.new.equipment.fit m.new.equipment.core m.new.page c.loop-made-test.true c.if-ledger-used-lt32.false m.ensures.left m.auto.page

pub returns : goal.returns
returns g c =
    let x = c.args in
    let l = c.loop-made in
    let e = c.start-equipment.ensures in
    let s = c.start-equipment.result.core in
    let all : l.made ≡ length x.calls.now = omega arith in
    subst (λ (n : ℕ). Ran g.Q.Store g.S.Store (record { setup = x.setup; settings = x.settings; queue = shelf g.Q.Store x.queue; spool = shelf g.S.Store x.spool }) x.calls.now x.ledger.now n l.used l.equipment.fit l.equipment.core l.ledger) all
    (subst (λ (b : Beginning). Ran g.Q.Store g.S.Store b x.calls.now x.ledger.now l.made l.used l.equipment.fit l.equipment.core l.ledger)
    (begins g.Q.Store g.S.Store x.setup x.settings x.queue x.spool s e.state e.reports)
    (ran_all g.Q.Store g.S.Store (beginning_of g.Q.Store g.S.Store s) x.calls.now l.made x.ledger.now l.made l.used l.equipment.fit l.equipment.core l.ledger l.invariant c.loop-made-test.false))
