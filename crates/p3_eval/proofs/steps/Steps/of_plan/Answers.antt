use Rattle.std.proofs.Common.{◌+◌, List, ℕ, subst, sym, take}
use Rattle.p3_ground.specs.PlansByNumber.{AreNumbers}
use Rattle.p3_eval.proofs.StepsLemmas.{ends_numbered, few_before, few_in_all, lacks_of, numbered_more, stops_at}
use Rattle.p3_eval.proofs.steps.Steps.of_plan.Goals as goal

pub invariant_of-result : goal.invariant_of-result
invariant_of-result c = record {
  few = few_before c.args.task.now.task c.args.plan.now c.loop-step.step-index c.loop-step.numbers.items c.loop-step.invariant c.step-item.result c.loop-step-test.true c.step-item.is c.requires.room;
}

pub returns-in_default : goal.returns-in_default
returns-in_default c =
    stops_at c.args.task.now.task c.args.plan.now c.loop-step.step-index c.loop-step.numbers.items c.loop-step.invariant c.step-item.result c.loop-step-test.true c.step-item.is
    c.find.result (lacks_of c.args.task.now.task c.step-item.result c.find.result c.in_default.not-Number c.find.ensures)

pub loop-step-preserved : goal.loop-step-preserved
loop-step-preserved c =
    subst (λ (numbers : List ℕ). AreNumbers c.args.task.now.task (take (c.loop-step.step-index + 1) c.args.plan.now) numbers) (sym c.in_ok-push-in-Number.ensures.items)
    (numbered_more c.args.task.now.task c.args.plan.now c.loop-step.step-index c.loop-step.numbers.items c.loop-step.invariant c.step-item.result c.loop-step-test.true c.step-item.is c.in-Number.number c.in-Number.ensures)

pub invariant_of-result-2 : goal.invariant_of-result-2
invariant_of-result-2 c = record {
  few = few_in_all c.args.task.now.task c.args.plan.now c.loop-step.step-index c.loop-step.numbers.items c.loop-step.invariant c.loop-step-test.false c.requires.room;
}

pub returns : goal.returns
returns c = ends_numbered c.args.task.now.task c.args.plan.now c.loop-step.step-index c.loop-step.numbers.items c.loop-step.invariant c.loop-step-test.false
