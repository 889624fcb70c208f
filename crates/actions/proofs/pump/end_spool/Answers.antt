use Rattle.std.proofs.Common.{ap, ◌∙◌}
use Rattle.rules.specs.Reporting.{evented}
use Rattle.rules.specs.Views.{view, with_held}
use Rattle.rules.specs.declared.event.Event.TheVariants.{SpoolDeactivated}
use Rattle.spooling.specs.Holdings.{Holding}
use Rattle.actions.proofs.pump.end_spool.Goals as goal

pub returns : goal.returns
returns g c =
    let v = view g.Q.Store g.S.Store c.args.core.now c.args.effects.now in
    c.report_event.ensures
    ∙ ap (λ (h : Holding). evented c.args.next SpoolDeactivated (with_held h v)) (c.deactivate.ensures c.args.effects.now.journal)
