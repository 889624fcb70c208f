use Rattle.std.proofs.Common.{◌≡◌, length}
use Rattle.spooling.specs.Holdings.{holding}
use Rattle.spooling.specs.Leaving.{dropped}
use Rattle.spooling.proofs.state.Reports.drop_queue.Given as goal

abbrev pub invariant-loop : goal.invariant-loop
invariant-loop g l =
    dropped (holding g.Q.Store g.S.Store l.self l.journal) ≡ dropped (holding g.Q.Store g.S.Store l.initial.self l.initial.journal)

abbrev pub decreases-loop : goal.decreases-loop
decreases-loop g l = length (g.Q.Store.records l.self.queue)
