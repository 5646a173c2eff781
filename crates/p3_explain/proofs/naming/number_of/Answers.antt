use Rattle.std.proofs.Common.{◌∙◌, ◌-◌, ap, sym}
use Rattle.std.proofs.Math.Logic.{∥∥₁_elim}
use Rattle.p3_task.proofs.StepNumberLaws.{steps_have_numbers}
use Rattle.p3_task.specs.Explanations.{subject_name}
use Rattle.p3_eval.proofs.WholeRuns.{grounded_together}
use Rattle.p3_explain.specs.Naming.{name_numbered}
use Rattle.p3_explain.proofs.NamingLaws.{first_named}
use Rattle.p3_explain.proofs.NamingLemmas.{names-set}
use Rattle.p3_explain.proofs.naming.number_of.Goals as goal

pub returns-in-Pre : goal.returns-in-Pre
returns-in-Pre c plan first =
    let grounded = c.args.grounded.now in
    let T = grounded.checked.now.task in
    ∥∥₁_elim grounded.standing (names-set _ _) (λ stands.
    ap (name_numbered T) c.number_in_step.ensures
    ∙ first_named T stands.atoms grounded.ground_task.now stands.stands (steps_have_numbers T (grounded_together grounded).well) c.in-Pre.pref plan c.args.steps.now.numbers.items c.args.steps.now.rest first c.requires.asked (c.requires.fit plan first) (c.in-Pre.step - 1)
    ∙ ap (subject_name T plan) (sym c.in-Pre.is))
