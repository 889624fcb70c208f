use Rattle.std.proofs.Common.{sym, ◌∙◌}
use Rattle.spooling.specs.Holdings.{holding}
use Rattle.spooling.proofs.Queues.{drop_step, drop_less, drop_end}
use Rattle.spooling.proofs.state.Reports.drop_queue.Goals as goal

pub loop-smaller : goal.loop-smaller
loop-smaller g c =
    drop_less (holding g.Q.Store g.S.Store c.loop.self c.loop.journal) _ c.drop_oldest.ensures.after (sym c.drop_oldest.ensures.found ∙ c.loop-test.true)

pub loop-preserved : goal.loop-preserved
loop-preserved g c =
    drop_step (holding g.Q.Store g.S.Store c.loop.self c.loop.journal) _ c.drop_oldest.ensures.after ∙ c.loop.invariant

pub returns : goal.returns
returns g c =
    drop_end (holding g.Q.Store g.S.Store c.loop.self c.loop.journal) _ c.drop_oldest.ensures.after (sym c.drop_oldest.ensures.found ∙ c.loop-test.false)
    ∙ c.loop.invariant
