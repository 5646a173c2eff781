use Rattle.std.proofs.Common.{◌≡◌, ◌∙◌, ◌<◌, ◌≤◌, arith, ap, subst, length}
use Rattle.std.specs.Prelude.{slice_index_or}
use Rattle.p3_numbers.specs.Choices.{choice_count}
use Rattle.p3_steps.proofs.StepLemmas.{count-more, count-so-far, action-more, actions-all}
use Rattle.p3_steps.proofs.actions.steps.Goals as goal

pub push_action_steps-requires-clause-few : goal.push_action_steps-requires-clause-few
push_action_steps-requires-clause-few c =
    let X = c.args.task.now in
    let i = c.loop-action.action-index in
    let action = c.action-item.result in
    let inside : i < length X.actions = subst (λ all. i < length all) c.items-action-items.ensures c.loop-action-test.true in
    let read : action ≡ slice_index_or X.actions i action = c.action-item.is ∙ ap (λ all. slice_index_or all i action) c.items-action-items.ensures in
    let within = count-so-far X c.args.statics.now 0 X.actions i c.loop-action.first action inside read c.loop-action.invariant.first in
    omega (arith, within, c.requires.few)

pub overflow_cast-first : goal.overflow_cast-first
overflow_cast-first c =
    let X = c.args.task.now in
    let i = c.loop-action.action-index in
    let action = c.action-item.result in
    let inside : i < length X.actions = subst (λ all. i < length all) c.items-action-items.ensures c.loop-action-test.true in
    let read : action ≡ slice_index_or X.actions i action = c.action-item.is ∙ ap (λ all. slice_index_or all i action) c.items-action-items.ensures in
    let within = count-so-far X c.args.statics.now 0 X.actions i c.loop-action.first action inside read c.loop-action.invariant.first in
    let counted : c.in_ok-first.field-0 ≡ choice_count X.numbers action.ranges = c.in_ok-first.ensures ∙ ap (choice_count X.numbers) c.items.ensures in
    omega (arith, within, counted, c.requires.few)

pub overflow_add-first : goal.overflow_add-first
overflow_add-first c =
    let X = c.args.task.now in
    let i = c.loop-action.action-index in
    let action = c.action-item.result in
    let inside : i < length X.actions = subst (λ all. i < length all) c.items-action-items.ensures c.loop-action-test.true in
    let read : action ≡ slice_index_or X.actions i action = c.action-item.is ∙ ap (λ all. slice_index_or all i action) c.items-action-items.ensures in
    let within = count-so-far X c.args.statics.now 0 X.actions i c.loop-action.first action inside read c.loop-action.invariant.first in
    let counted : c.in_ok-first.field-0 ≡ choice_count X.numbers action.ranges = c.in_ok-first.ensures ∙ ap (choice_count X.numbers) c.items.ensures in
    omega (arith, within, counted, c.requires.few)

pub loop-action-preserved : goal.loop-action-preserved
loop-action-preserved c =
    let X = c.args.task.now in
    let i = c.loop-action.action-index in
    let action = c.action-item.result in
    let inside : i < length X.actions = subst (λ all. i < length all) c.items-action-items.ensures c.loop-action-test.true in
    let read : action ≡ slice_index_or X.actions i action = c.action-item.is ∙ ap (λ all. slice_index_or all i action) c.items-action-items.ensures in
    let counted : c.in_ok-first.field-0 ≡ choice_count X.numbers action.ranges = c.in_ok-first.ensures ∙ ap (choice_count X.numbers) c.items.ensures in
    let more = count-more X c.args.statics.now 0 X.actions i action inside read in
    record {
      first = omega (arith, c.loop-action.invariant.first, more, counted);
      pushes = action-more X c.args.statics.now c.args.costs.now.places X.actions i c.loop-action.first action c.args.work.now c.loop-action.work c.push_action_steps.new.work _ c.loop-action.made c.push_action_steps.new.made
          inside read c.loop-action.invariant.first c.loop-action.invariant.pushes c.in_ok-push_action_steps.ensures;
    }

pub returns : goal.returns
returns c =
    let X = c.args.task.now in
    actions-all X c.args.statics.now c.args.costs.now.places c.loop-action.action-index c.args.work.now c.loop-action.work c.loop-action.made
    (subst (λ all. length all ≤ c.loop-action.action-index) c.items-action-items.ensures c.loop-action-test.false) c.loop-action.invariant.pushes
