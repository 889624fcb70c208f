use Rattle.std.proofs.Common.{◌<◌, ◌≤◌, length, ◌∙◌, arith}
use Rattle.store.specs.Lent.{report_of}
use Rattle.replay.proofs.Keeping.{only_left, read_back, removed_ends}
use Rattle.replay.proofs.steps.put_and_read.Goals as goal

pub loop-store-preserved : goal.loop-store-preserved
loop-store-preserved g c =
    let r = report_of c.args.report in
    let held = g.S.Store.records c.loop-store.store in
    let long : 1 < length held = omega arith in (
      removed_ends r held (g.S.Store.records c.remove.new.self) c.loop-store.invariant.0 long c.remove.ensures.list,
      c.remove.ensures.same ∙ c.loop-store.invariant.1,
    )

pub returns-clause-law : goal.returns-clause-law
returns-clause-law g c z n =
    let r = report_of c.args.report in
    let held = g.S.Store.records c.loop-store.store in
    let short : length held ≤ 1 = omega arith in
    read_back r held c.read.result c.args.buffer.now c.read.new.buffer (only_left r held c.loop-store.invariant.0 short) n c.read.ensures
