use Rattle.std.proofs.Common.{◌<◌, ◌∙◌, length, of_z, rules, subst, sym, to_z}
use Rattle.std.specs.List.{All}
use Rattle.std.proofs.lemmas.Int.{to_z-of_z}
use mir.Syntax.{w128}
use mir.Val.{SFits}
use Rattle.p3_task.specs.Lifting.{steps as all_steps}
use Rattle.p3_task.specs.Plans.{Plan}
use Rattle.p3_types.specs.declared.checked.Checked.{Checked}
use Rattle.p3_eval.specs.Steps.{AreOfPlan, AreStepsOf, OfSteps}
use Rattle.p3_lift.specs.Judging.{DiffersAt, IsNoPlanOf, IsPlanAt, IsWorthAt}
use Rattle.p3_lift.specs.Lifting.{numbered_steps}
use Rattle.p3_lift.proofs.LiftLaws.{copied_alike, fails, lifted_within, lifts, some_lifted}
use Rattle.p3_lift.proofs.lifting.lift.Goals as goal

pub returns-in-Err-clause-refused : goal.returns-in-Err-clause-refused
returns-in-Err-clause-refused c =
    let source = c.args.source.now.checked in
    let written = c.args.written.now.checked in
    let plan = c.args.plan.now in
    let steps = c.in_ok-steps.steps in
    let first = subst (λ (checked : Checked). AreStepsOf checked.task plan steps) c.checked.ensures.checked (subst (λ (items : Plan). AreStepsOf c.checked.result.now.task items steps) c.items.ensures c.in_ok-steps.ensures) in
    subst (λ (checked : Checked). OfSteps checked.task steps (IsNoPlanOf checked.task c.in-Err.fail)) c.grounded.ensures.checked c.in-Err.ensures.refused plan first source.task

pub metric_of-requires-clause-some : goal.metric_of-requires-clause-some
metric_of-requires-clause-some c =
    let source = c.args.source.now.checked in
    let written = c.args.written.now.checked in
    let plan = c.args.plan.now in
    let steps = c.in_ok-steps.steps in
    let first = subst (λ (checked : Checked). AreStepsOf checked.task plan steps) c.checked.ensures.checked (subst (λ (items : Plan). AreStepsOf c.checked.result.now.task items steps) c.items.ensures c.in_ok-steps.ensures) in
    let copied = c.in_ok-copied.copied in
    let counted = copied_alike c.checked-2.result.now source c.checked-3.result.now written steps.numbers.items copied.numbers.items c.checked-2.ensures.checked c.checked-3.ensures.checked c.in_ok-copied.ensures.counted in
    let costs = subst (λ (checked : Checked). OfSteps checked.task steps (IsPlanAt checked.task steps.numbers.items c.in-Ok.cost)) c.grounded.ensures.checked c.in-Ok.ensures.cost in
    subst (λ (checked : Checked). AreOfPlan checked.task copied) (sym c.grounded-2.ensures.checked)
    (some_lifted source.task written.task steps copied c.in-Ok.cost costs counted c.in_ok-copied.ensures.whole (record { plan = plan; are = first }))

pub returns-in-Err-metric_of-clause-refused : goal.returns-in-Err-metric_of-clause-refused
returns-in-Err-metric_of-clause-refused c =
    let source = c.args.source.now.checked in
    let written = c.args.written.now.checked in
    let plan = c.args.plan.now in
    let steps = c.in_ok-steps.steps in
    let first = subst (λ (checked : Checked). AreStepsOf checked.task plan steps) c.checked.ensures.checked (subst (λ (items : Plan). AreStepsOf c.checked.result.now.task items steps) c.items.ensures c.in_ok-steps.ensures) in
    let copied = c.in_ok-copied.copied in
    let counted = copied_alike c.checked-2.result.now source c.checked-3.result.now written steps.numbers.items copied.numbers.items c.checked-2.ensures.checked c.checked-3.ensures.checked c.in_ok-copied.ensures.counted in
    let fits : SFits w128 c.in-Ok.cost = search rules in
    let cost = to_z w128 (of_z w128 c.in-Ok.cost) in
    let costs = subst (λ cost. OfSteps written.task steps (IsPlanAt written.task steps.numbers.items cost)) (sym (to_z-of_z w128 c.in-Ok.cost fits))
    (subst (λ (checked : Checked). OfSteps checked.task steps (IsPlanAt checked.task steps.numbers.items c.in-Ok.cost)) c.grounded.ensures.checked c.in-Ok.ensures.cost) in
    fails source.task written.task steps copied cost costs counted c.in_ok-copied.ensures.whole c.in-Err-metric_of.fail
    (subst (λ (checked : Checked). OfSteps checked.task copied (DiffersAt checked.task cost c.in-Err-metric_of.fail)) c.grounded-2.ensures.checked c.in-Err-metric_of.ensures.refused) plan first

pub plan_of-requires-clause-within : goal.plan_of-requires-clause-within
plan_of-requires-clause-within c =
    let source = c.args.source.now.checked in
    let written = c.args.written.now.checked in
    let plan = c.args.plan.now in
    let steps = c.in_ok-steps.steps in
    let first = subst (λ (checked : Checked). AreStepsOf checked.task plan steps) c.checked.ensures.checked (subst (λ (items : Plan). AreStepsOf c.checked.result.now.task items steps) c.items.ensures c.in_ok-steps.ensures) in
    let copied = c.in_ok-copied.copied in
    let counted = copied_alike c.checked-2.result.now source c.checked-3.result.now written steps.numbers.items copied.numbers.items c.checked-2.ensures.checked c.checked-3.ensures.checked c.in_ok-copied.ensures.counted in
    let costs = subst (λ (checked : Checked). OfSteps checked.task steps (IsPlanAt checked.task steps.numbers.items c.in-Ok.cost)) c.grounded.ensures.checked c.in-Ok.ensures.cost in
    subst (λ (checked : Checked). All (λ number. number < length (all_steps checked.task)) c.as_slice.result.now) (sym c.checked-4.ensures.checked)
    (subst (All (λ number. number < length (all_steps source.task))) (sym c.as_slice.ensures.value)
    (lifted_within source.task written.task steps copied c.in-Ok.cost costs counted c.in_ok-copied.ensures.whole (record { plan = plan; are = first })))

pub returns-clause-lifted : goal.returns-clause-lifted
returns-clause-lifted c =
    let source = c.args.source.now.checked in
    let written = c.args.written.now.checked in
    let plan = c.args.plan.now in
    let steps = c.in_ok-steps.steps in
    let first = subst (λ (checked : Checked). AreStepsOf checked.task plan steps) c.checked.ensures.checked (subst (λ (items : Plan). AreStepsOf c.checked.result.now.task items steps) c.items.ensures c.in_ok-steps.ensures) in
    let copied = c.in_ok-copied.copied in
    let counted = copied_alike c.checked-2.result.now source c.checked-3.result.now written steps.numbers.items copied.numbers.items c.checked-2.ensures.checked c.checked-3.ensures.checked c.in_ok-copied.ensures.counted in
    let fits : SFits w128 c.in-Ok.cost = search rules in
    let cost = to_z w128 (of_z w128 c.in-Ok.cost) in
    let costs = subst (λ cost. OfSteps written.task steps (IsPlanAt written.task steps.numbers.items cost)) (sym (to_z-of_z w128 c.in-Ok.cost fits))
    (subst (λ (checked : Checked). OfSteps checked.task steps (IsPlanAt checked.task steps.numbers.items c.in-Ok.cost)) c.grounded.ensures.checked c.in-Ok.ensures.cost) in
    let also : SFits w128 c.in-Ok-metric_of.metric = search rules in
    let metric = to_z w128 (of_z w128 c.in-Ok-metric_of.metric) in
    let worth = subst (λ told. OfSteps source.task copied (IsWorthAt source.task cost told)) (sym (to_z-of_z w128 c.in-Ok-metric_of.metric also))
    (subst (λ (checked : Checked). OfSteps checked.task copied (IsWorthAt checked.task cost c.in-Ok-metric_of.metric)) c.grounded-2.ensures.checked c.in-Ok-metric_of.ensures.metric) in
    let named = c.in_ok-plan.ensures ∙ (λ i. numbered_steps (c.checked-4.ensures.checked i).task (c.as_slice.ensures.value i)) in
    lifts source.task written.task steps copied cost costs counted c.in_ok-copied.ensures.whole metric worth (record { plan = c.in_ok-plan.plan; cost = cost; metric = metric })
    (λ i. record { plan = named i; cost = cost; metric = metric }) plan first
