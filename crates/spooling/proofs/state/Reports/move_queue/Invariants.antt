use Rattle.std.proofs.Common.{◌≡◌, length}
use Rattle.spooling.specs.Holdings.{holding}
use Rattle.spooling.specs.Leaving.{moved}
use Rattle.spooling.proofs.state.Reports.move_queue.Given as goal

abbrev pub invariant-loop : goal.invariant-loop
invariant-loop g l =
    moved l.overwrite (holding g.Q.Store g.S.Store l.self l.journal) ≡ moved l.overwrite (holding g.Q.Store g.S.Store l.initial.self l.initial.journal)

abbrev pub decreases-loop : goal.decreases-loop
decreases-loop g l = length (g.Q.Store.records l.self.queue)
