use Rattle.std.proofs.Common.{◌≡◌, ℕ, ◌+◌, ◌-◌, List, ◌++◌, length, drop, replicate, refl, zero-add, ap, ◌∙◌}
use Rattle.std.proofs.lemmas.List.{drop_at, drop-replicate}
use Rattle.std.proofs.lemmas.Bool.{cond-true}
use Rattle.store.proofs.record.Record.new.Goals as goal

pub returns-clause-zeros : goal.returns-clause-zeros
returns-clause-zeros c =
    let bs = c.args.report.body.now in
    let n = length bs in
    let zeros : List ℕ = replicate 480 0 in
    let out : c.copy_at.new.out ≡ bs ++ drop (0 + n) zeros = c.copy_at.ensures.after ∙ cond-true _ _ _ c.if-not-copy_at.false in
    ap (drop n) out ∙ (drop_at bs (drop (0 + n) zeros) n refl ∙ (drop-replicate (0 + n) 480 0 ∙ ap (λ k. replicate (480 - k) 0) (zero-add n)))
