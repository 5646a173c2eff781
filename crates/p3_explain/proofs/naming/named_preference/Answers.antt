use Rattle.std.proofs.Common.{◌∙◌, ap, subst, sym}
use Rattle.p3_formula.specs.declared.task.GroundTask.{GroundTask}
use Rattle.p3_run.specs.Steps.{IsByNumber}
use Rattle.p3_explain.proofs.NamingLemmas.{steps_by_number}
use Rattle.p3_explain.proofs.naming.named_preference.Goals as goal

pub step_at-requires : goal.step_at-requires
step_at-requires c =
    subst IsByNumber (sym (c.items.ensures ∙ ap (λ (task : GroundTask). task.steps) c.ground_task.ensures)) (steps_by_number c.args.grounded.now)
