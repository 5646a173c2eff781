use Rattle.std.proofs.Common.{◌∙◌, List, subst, sym}
use Rattle.std.specs.Prelude.{IsTrue}
use Rattle.p3_task.specs.Plans.{steps_fit}
use Rattle.p3_task.specs.declared.task.Step.{Step}
use Rattle.p3_types.specs.declared.checked.Checked.{Checked}
use Rattle.p3_eval.specs.Steps.{AreStepsOf}
use Rattle.p3_eval.proofs.RunLaws.{no_step_fault}
use Rattle.p3_explain.proofs.explaining.explain.Goals as goal

pub returns-in-Ok-clause-fits : goal.returns-in-Ok-clause-fits
returns-in-Ok-clause-fits c =
    let plan = c.args.plan.now in
    let same = c.grounded-grounded.ensures.checked in
    let are = subst (λ (checked : Checked). AreStepsOf checked.task plan c.in_ok-steps.steps) (c.checked.ensures.checked ∙ sym same)
    (subst (λ (list : List Step). AreStepsOf c.checked.result.now.task list c.in_ok-steps.steps) c.items.ensures c.in_ok-steps.ensures) in
    no_step_fault c.args.whole.now.checked.task plan (subst (λ (checked : Checked). IsTrue (steps_fit checked.task plan)) same (c.in-Ok.ensures.fit plan are))
