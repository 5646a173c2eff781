use Rattle.std.proofs.Common.{of_z, refl, rules, subst, sym, to_z}
use Rattle.std.proofs.lemmas.Int.{to_z-of_z}
use mir.Syntax.{w128}
use mir.Val.{SFits}
use Rattle.p3_eval.specs.Steps.{OfSteps}
use Rattle.p3_lift.specs.Judging.{IsPlanAt, IsWorthAt}
use Rattle.p3_lift.specs.Lifting.{lifted_of}
use Rattle.p3_lift.proofs.LiftLaws.{copied_alike, fails, lifted_within, lifts, some_lifted}
use Rattle.p3_lift.proofs.lifting.lift_steps.Goals as goal

pub returns-in-Err-clause-refused : goal.returns-in-Err-clause-refused
returns-in-Err-clause-refused c = λ plan are. c.in-Err.ensures.refused plan are c.args.source.now.checked.task

pub metric_among-requires : goal.metric_among-requires
metric_among-requires c =
    let source = c.args.source.now.checked in
    let written = c.args.written.now.checked in
    let steps = c.args.steps.now in
    let copied = c.in_ok-copied.copied in
    let counted = copied_alike c.checked.result.now source c.checked-2.result.now written steps.numbers.items copied.numbers.items c.checked.ensures.checked c.checked-2.ensures.checked c.in_ok-copied.ensures.counted in
    record { some = some_lifted source.task written.task steps copied c.in-Ok.cost c.in-Ok.ensures.cost counted c.in_ok-copied.ensures.whole c.requires.some }

pub returns-in-Err-metric_among-clause-refused : goal.returns-in-Err-metric_among-clause-refused
returns-in-Err-metric_among-clause-refused c =
    let source = c.args.source.now.checked in
    let written = c.args.written.now.checked in
    let steps = c.args.steps.now in
    let copied = c.in_ok-copied.copied in
    let counted = copied_alike c.checked.result.now source c.checked-2.result.now written steps.numbers.items copied.numbers.items c.checked.ensures.checked c.checked-2.ensures.checked c.in_ok-copied.ensures.counted in
    let fits : SFits w128 c.in-Ok.cost = search rules in
    let costs = subst (λ cost. OfSteps written.task steps (IsPlanAt written.task steps.numbers.items cost)) (sym (to_z-of_z w128 c.in-Ok.cost fits)) c.in-Ok.ensures.cost in
    fails source.task written.task steps copied (to_z w128 (of_z w128 c.in-Ok.cost)) costs counted c.in_ok-copied.ensures.whole c.in-Err-metric_among.fail c.in-Err-metric_among.ensures.refused

pub returns-clause-lifted : goal.returns-clause-lifted
returns-clause-lifted c =
    let source = c.args.source.now.checked in
    let written = c.args.written.now.checked in
    let steps = c.args.steps.now in
    let copied = c.in_ok-copied.copied in
    let counted = copied_alike c.checked.result.now source c.checked-2.result.now written steps.numbers.items copied.numbers.items c.checked.ensures.checked c.checked-2.ensures.checked c.in_ok-copied.ensures.counted in
    let fits : SFits w128 c.in-Ok.cost = search rules in
    let also : SFits w128 c.in-Ok-metric_among.metric = search rules in
    let cost = to_z w128 (of_z w128 c.in-Ok.cost) in
    let metric = to_z w128 (of_z w128 c.in-Ok-metric_among.metric) in
    let costs = subst (λ cost. OfSteps written.task steps (IsPlanAt written.task steps.numbers.items cost)) (sym (to_z-of_z w128 c.in-Ok.cost fits)) c.in-Ok.ensures.cost in
    let worth = subst (λ told. OfSteps source.task copied (IsWorthAt source.task cost told)) (sym (to_z-of_z w128 c.in-Ok-metric_among.metric also)) c.in-Ok-metric_among.ensures.metric in
    lifts source.task written.task steps copied cost costs counted c.in_ok-copied.ensures.whole metric worth (lifted_of source.task (record { numbers = copied.numbers; cost = cost; metric = metric })) refl

pub returns-clause-within : goal.returns-clause-within
returns-clause-within c =
    let source = c.args.source.now.checked in
    let written = c.args.written.now.checked in
    let steps = c.args.steps.now in
    let copied = c.in_ok-copied.copied in
    let counted = copied_alike c.checked.result.now source c.checked-2.result.now written steps.numbers.items copied.numbers.items c.checked.ensures.checked c.checked-2.ensures.checked c.in_ok-copied.ensures.counted in
    lifted_within source.task written.task steps copied c.in-Ok.cost c.in-Ok.ensures.cost counted c.in_ok-copied.ensures.whole c.requires.some
