use Rattle.std.proofs.Common.{◌≡◌, ◌∙◌, ◌<◌, length, Some, List, sym, ap, subst, slice_get}
use Rattle.std.proofs.lemmas.Option.{slice_get_within}
use Rattle.p3_task.specs.declared.task.Action.{Action}
use Rattle.p3_numbers.specs.Places.{ranges_of}
use Rattle.p3_numbers.specs.declared.task.NumberedAction.{NumberedAction}
use Rattle.p3_inapplicable.specs.Arguments.{fault_by}
use Rattle.p3_inapplicable.specs.Reasons.{action_in}
use Rattle.p3_inapplicable.proofs.ReasonLemmas.{arguments-are-faulty, item-at, no-action, numbered-at, numbered-is, own-action}
use Rattle.p3_inapplicable.proofs.reason.arguments_reason.Goals as goal

pub returns-in_default : goal.returns-in_default
returns-in_default c has = absurd (no-action c.args.task.now c.args.step.now (ap (λ actions. action_in actions c.args.step.now.action) (sym c.items-actions.ensures) ∙ c.in_default.ensures.found) has)

pub returns : goal.returns
returns c has =
    let T = c.args.task.now in
    let X = c.args.numbered.now in
    let N = X.numbers in
    let well = c.requires.well_formed in
    let numbered = c.requires.numbered in
    let place = c.in-Some.place in
    let action = c.index-actions-place.result in
    let other = c.index-items-place.result in
    let at : slice_get T.domain.actions place ≡ Some action = item-at T.domain.actions c.items-actions.result.now place action c.items-actions.ensures c.in-Some.ensures.within c.index-actions-place.is in
    let named =
    own-action T c.args.step.now place action (subst (λ (actions : List Action). slice_get actions place ≡ action_in actions c.args.step.now.action) c.items-actions.ensures c.in-Some.ensures.found) at in
    let within : place < length X.actions = slice_get_within X.actions place _ (numbered-at T X well numbered place action at) in
    let there : slice_get X.actions place ≡ Some other =
    item-at X.actions c.items.result.now place other c.items.ensures (subst (λ (actions : List NumberedAction). place < length actions) (sym c.items.ensures) within) c.index-items-place.is in
    let parameters : action.params ≡ c.items-parameters.result.now = ap (λ (one : Action). one.params) c.index-actions-place.is ∙ sym c.items-parameters.ensures in
    let ranges : ranges_of N action.params ≡ c.items-ranges.result.now =
    sym (numbered-is T X well numbered place action other at there) ∙ ap (λ (one : NumberedAction). one.ranges) c.index-items-place.is ∙ sym c.items-ranges.ensures in
    arguments-are-faulty T X well numbered c.args.step.now has action named place at c.in_ok-fault.fault c.found.result
    ((λ i. fault_by N (parameters i) (ranges i) (sym c.items-names.ensures i)) ∙ sym c.in_ok-fault.ensures) c.found.ensures
