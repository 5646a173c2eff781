use Rattle.std.proofs.Common.{◌∙◌, sym}
use Rattle.p3_monitors.specs.Updates.{awaits}
use Rattle.p3_monitors.proofs.PossibleLaws.{still_turned}
use Rattle.p3_monitors.proofs.monitoring.awaited.Goals as goal

pub returns-then-not-branch-clause-made : goal.returns-then-not-branch-clause-made
returns-then-not-branch-clause-made c = still_turned c.args.regressed.now.effects (awaits c.args.first.now c.args.second.now)
    (sym c.in_ok-may_await.ensures ∙ c.if-not-branch.true)
