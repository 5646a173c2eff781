use Rattle.std.proofs.Common.{◌∙◌, rules, subst, sym}
use Rattle.std.proofs.lemmas.Int.{to_z-of_z}
use mir.Syntax.{w128}
use mir.Val.{SFits}
use Rattle.p3_task.proofs.StepNumberLaws.{steps_have_numbers}
use Rattle.p3_eval.proofs.WholeRuns.{grounded_together}
use Rattle.p3_lift.specs.Judging.{IsOutcome}
use Rattle.p3_lift.proofs.LiftLaws.{plan_at}
use Rattle.p3_lift.proofs.lifting.cost_of.Goals as goal

pub returns-in-Fault-clause-refused : goal.returns-in-Fault-clause-refused
returns-in-Fault-clause-refused c = λ plan are T. (sym c.is_plain.ensures ∙ c.if-not-is_plain.false, subst (IsOutcome c.args.written.now.checked.now.task plan) c.in-Fault.is (c.in_ok-fault.ensures plan are))

pub returns-in-Valid-clause-cost : goal.returns-in-Valid-clause-cost
returns-in-Valid-clause-cost c = λ plan are.
    let U = c.args.written.now.checked.now.task in
    let fits : SFits w128 c.in-Valid.worth.metric = search rules in
    plan_at U (steps_have_numbers U (grounded_together c.args.written.now).well) (sym c.is_plain.ensures ∙ c.if-not-is_plain.false) c.args.steps.now plan c.in-Valid.worth are
    (subst (IsOutcome U plan) c.in-Valid.is (c.in_ok-fault.ensures plan are)) _ (to_z-of_z w128 c.in-Valid.worth.metric fits)
