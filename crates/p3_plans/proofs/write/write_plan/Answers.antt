use Rattle.std.proofs.Common.{ap, ◌∙◌, arith, length}
use Rattle.std.proofs.lemmas.List.{take_all}
use Rattle.std.specs.List.{flat_map}
use Rattle.p3_plans.specs.Layout as layout
use Rattle.p3_task.specs.Plans.{Plan}
use Rattle.p3_plans.proofs.WrittenLemmas.{layout_is_text}
use Rattle.p3_plans.proofs.write.write_plan.Goals as goal

pub returns-clause-plan : goal.returns-clause-plan
returns-clause-plan c =
    layout_is_text c.loop-step.out.items c.args.plan.now (c.loop-step.invariant ∙ ap (λ (plan : Plan). flat_map layout.step_layout plan) (take_all c.loop-step.step-index c.args.plan.now (omega (arith, ap (λ (steps : Plan). length steps) c.items-step-items.ensures)))) c.requires.words
