use Rattle.std.proofs.Common.{◌≡◌, ℕ, ◌≤◌, List, length, get_or, take, sym, ap, ◌∙◌, subst, ap₂}
use Rattle.std.proofs.lemmas.List.{take_more, take_all}
use Rattle.store.specs.Reports.{Report}
use Rattle.replay.specs.declared.steps.Step.{Step}
use Rattle.replay.specs.declared.steps.Step.TheVariants.{Remove}
use Rattle.replay.specs.Runs.{after_step, after_steps}
use Rattle.replay.proofs.Keeping.{from_empty, steps_push}
use Rattle.replay.proofs.steps.replay.Goals as goal

pub loop-step-preserved : goal.loop-step-preserved
loop-step-preserved g c =
    let i = c.loop-step.step-index in
    let xs = c.args.steps.now in
    let n = g.S.Store.limit c.args.store.now in
    let x : Step = get_or xs i Remove in
    let before = g.S.Store.records c.args.store.now in
    let e = c.take_step.ensures in (
      e.list
          ∙ (ap₂ (λ (k : ℕ) (l : List Report). after_step k x l) c.loop-step.invariant.1 c.loop-step.invariant.0
          ∙ (sym (steps_push n (take i xs) x before)
          ∙ ap (λ (l : List Step). after_steps n l before) (sym (take_more xs i Remove c.loop-step-test.true)))),
      e.capacity ∙ c.loop-step.invariant.1,
    )

pub returns : goal.returns
returns g c =
    let xs = c.args.steps.now in
    let n = g.S.Store.limit c.args.store.now in
    let before = g.S.Store.records c.args.store.now in
    let after = g.S.Store.records c.loop-step.store in
    let l : after ≡ after_steps n xs before =
    c.loop-step.invariant.0 ∙ ap (λ (k : List Step). after_steps n k before) (take_all c.loop-step.step-index xs c.loop-step-test.false) in
    record {
      list = l;
      capacity = c.loop-step.invariant.1;
      law = λ b.
          let s = from_empty n xs before after l b in
          (s.0, subst (λ (k : ℕ). length after ≤ k) (sym c.loop-step.invariant.1) s.1);
    }
