use Rattle.std.proofs.Common.{◌∙◌, ap, subst, sym}
use Rattle.std.specs.Prelude.{option_map, pos}
use Rattle.p3_formula.specs.GroundPlans.{GroundPlan, GroundValid}
use Rattle.p3_formula.specs.Targets.{Compiled, TargetPlan, target_cost}
use Rattle.p3_formula.specs.declared.target.Weights.{Weights}
use Rattle.p3_formula.specs.declared.task.GroundTask.{GroundTask}
use Rattle.p3_eval.specs.Judged.{fault_in}
use Rattle.p3_eval.proofs.WholeRuns.{belong_together, whole_leaves_out}
use Rattle.p3_embed.specs.Embeds.{IsEmbedded, names_at}
use Rattle.p3_embed.proofs.PlanLaws.{names_of_steps, numbers_are_valid, source_is}
use Rattle.p3_embed.proofs.plans.embed_steps.Goals as goal

pub embed_numbers-requires : goal.embed_numbers-requires
embed_numbers-requires c =
    let whole = c.args.task.now in
    let plan = c.requires.some.plan in
    let are = c.requires.some.are in
    record {
      compiled = subst (λ (G : GroundTask). Compiled G c.weights.result.now c.args.target.now) (sym c.ground_task.ensures)
          (subst (λ (weights : Weights). Compiled whole.ground_task weights c.args.target.now) (sym c.weights.ensures.weights) c.requires.compiled);
      valid = subst (λ (G : GroundTask). GroundValid G c.as_slice.result.now) (sym c.ground_task.ensures)
          (subst (GroundValid whole.ground_task) (sym c.as_slice.ensures.value)
          (numbers_are_valid whole.checked.task whole.ground_task whole.weights (belong_together whole) plan (c.in_ok-fault.ensures.told plan are ∙ ap (option_map fault_in) c.in_default.is)
          (whole_leaves_out whole) c.args.steps.now.numbers.items (c.in_ok-fault.ensures.done c.in_default.is plan are)));
    }

pub returns-clause-plan : goal.returns-clause-plan
returns-clause-plan c = λ plan are.
    let whole = c.args.task.now in
    let X = c.args.target.now in
    let numbers = c.args.steps.now.numbers.items in
    let names = names_at X c.in_ok-source.source.places.items in
    source_is whole.checked.task whole.ground_task X plan numbers c.in_ok-source.source.places.items
    (c.in_ok-fault.ensures.done c.in_default.is plan are)
    (subst (λ (G : GroundTask). IsEmbedded G X numbers names) c.ground_task.ensures
    (subst (λ (those : GroundPlan). IsEmbedded c.ground_task.result.now X those names) c.as_slice.ensures.value c.in_ok-source.ensures.plan))

pub returns-clause-cost : goal.returns-clause-cost
returns-clause-cost c =
    let X = c.args.target.now in
    c.in_ok-source.ensures.cost ∙ ap (λ (names : TargetPlan). pos (target_cost X names)) (sym (names_of_steps X c.in_ok-source.source.places.items))
