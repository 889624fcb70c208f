use Rattle.std.proofs.Common.{◌≡◌, take}
use Rattle.replay.specs.Runs.{after_steps}
use Rattle.replay.proofs.steps.replay.Given as goal

abbrev pub invariant-loop-step : goal.invariant-loop-step
invariant-loop-step g l =
    (g.S.Store.records l.store ≡ after_steps (g.S.Store.limit l.initial.store) (take l.step-index l.steps) (g.S.Store.records l.initial.store))
    × (g.S.Store.limit l.store ≡ g.S.Store.limit l.initial.store)
