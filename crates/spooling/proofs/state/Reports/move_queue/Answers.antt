use Rattle.std.proofs.Common.{sym, ◌∙◌}
use Rattle.spooling.specs.Holdings.{holding}
use Rattle.spooling.proofs.Queues.{move_step, move_less, move_end}
use Rattle.spooling.proofs.state.Reports.move_queue.Goals as goal

pub loop-smaller : goal.loop-smaller
loop-smaller g c =
    move_less c.args.overwrite (holding g.Q.Store g.S.Store c.loop.self c.loop.journal) _ c.move_oldest.ensures.after (sym c.move_oldest.ensures.found ∙ c.loop-test.true)

pub loop-preserved : goal.loop-preserved
loop-preserved g c =
    move_step c.args.overwrite (holding g.Q.Store g.S.Store c.loop.self c.loop.journal) _ c.move_oldest.ensures.after ∙ c.loop.invariant

pub returns : goal.returns
returns g c =
    move_end c.args.overwrite (holding g.Q.Store g.S.Store c.loop.self c.loop.journal) _ c.move_oldest.ensures.after (sym c.move_oldest.ensures.found ∙ c.loop-test.false)
    ∙ c.loop.invariant
