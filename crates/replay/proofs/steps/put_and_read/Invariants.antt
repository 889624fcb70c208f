use Rattle.std.proofs.Common.{◌≡◌, length}
use Rattle.store.specs.Lent.{report_of}
use Rattle.replay.proofs.Keeping.{EndsWith}
use Rattle.replay.proofs.steps.put_and_read.Given as goal

abbrev pub invariant-loop-store : goal.invariant-loop-store
invariant-loop-store g l =
    EndsWith (report_of l.fn.report) (g.S.Store.records l.store)
    × (g.S.Store.limit l.store ≡ g.S.Store.limit l.initial.store)

abbrev pub decreases-loop-store : goal.decreases-loop-store
decreases-loop-store g l = length (g.S.Store.records l.store)
