use Rattle.std.proofs.Common.{◌∙◌, ◌++◌, ap}
use Rattle.std.proofs.lemmas.Result.{IfOk-weaker}
use Rattle.p3_compile.proofs.UpdateLists.{changes_of}
use Rattle.p3_compile.proofs.changes.step_changes.Goals as goal

pub returns-clause-changes : goal.returns-clause-changes
returns-clause-changes c =
    let step = c.args.step.now in
    let updates = c.in_ok-updates.updates.items in
    let are = c.in_ok-made.ensures ∙ ap (λ own. own ++ updates) c.in_ok-own.ensures in
    IfOk-weaker c.simpler.result _ _ (changes_of step.effects c.args.frame.now.monitors updates c.in_ok-made.made c.in_ok-updates.ensures are step.pre) c.simpler.ensures.simpler
