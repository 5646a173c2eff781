use Rattle.std.proofs.Common.{rules, ◌≡◌, ◌∙◌, ◌+◌, ◌<◌, ◌≤◌, nat_lt, arith, refl, ap, subst, length}
use Rattle.std.specs.Prelude.{slice_index_or}
use Rattle.std.proofs.lemmas.List.Kept.{AllPairs-from_increasing}
use Rattle.std.proofs.lemmas.List.Sorted.{IsPartitionPoint-from_clause, IsPartitionedBy-ltb}
use Rattle.p3_numbers.specs.Choices.{choice_count}
use Rattle.p3_expansion.proofs.WalkLemmas.{pushes-none}
use Rattle.p3_steps.proofs.RisingNumbers.{IsParted, not-falling, parted}
use Rattle.p3_steps.proofs.StepLemmas.{count-more, count-so-far, action-among-more, actions-among-all}
use Rattle.p3_steps.proofs.actions.steps_among.Goals as goal

pub loop-action-init : goal.loop-action-init
loop-action-init c = record {
  first = omega arith;
  left = record { same = λ n more. refl; rising = AllPairs-from_increasing c.args.those.now c.requires.rising; from = λ k d within. omega arith };
  pushes = search (rules, pushes-none);
}

pub overflow_cast-end : goal.overflow_cast-end
overflow_cast-end c =
    let X = c.args.task.now in
    let i = c.loop-action.action-index in
    let action = c.action-item.result in
    let inside : i < length X.actions = subst (λ all. i < length all) c.items-action-items.ensures c.loop-action-test.true in
    let read : action ≡ slice_index_or X.actions i action = c.action-item.is ∙ ap (λ all. slice_index_or all i action) c.items-action-items.ensures in
    let counted : c.in_ok-end.field-0 ≡ choice_count X.numbers action.ranges = c.in_ok-end.ensures ∙ ap (choice_count X.numbers) c.items.ensures in
    omega (arith, counted, count-so-far X c.args.statics.now 0 X.actions i c.loop-action.first action inside read c.loop-action.invariant.first, c.requires.few)

pub overflow_add-end : goal.overflow_add-end
overflow_add-end c =
    let X = c.args.task.now in
    let i = c.loop-action.action-index in
    let action = c.action-item.result in
    let inside : i < length X.actions = subst (λ all. i < length all) c.items-action-items.ensures c.loop-action-test.true in
    let read : action ≡ slice_index_or X.actions i action = c.action-item.is ∙ ap (λ all. slice_index_or all i action) c.items-action-items.ensures in
    let counted : c.in_ok-end.field-0 ≡ choice_count X.numbers action.ranges = c.in_ok-end.ensures ∙ ap (choice_count X.numbers) c.items.ensures in
    omega (arith, counted, count-so-far X c.args.statics.now 0 X.actions i c.loop-action.first action inside read c.loop-action.invariant.first, c.requires.few)

pub push_steps_among-requires-clause-few : goal.push_steps_among-requires-clause-few
push_steps_among-requires-clause-few c =
    let X = c.args.task.now in
    let i = c.loop-action.action-index in
    let action = c.action-item.result in
    let inside : i < length X.actions = subst (λ all. i < length all) c.items-action-items.ensures c.loop-action-test.true in
    let read : action ≡ slice_index_or X.actions i action = c.action-item.is ∙ ap (λ all. slice_index_or all i action) c.items-action-items.ensures in
    omega (arith, count-so-far X c.args.statics.now 0 X.actions i c.loop-action.first action inside read c.loop-action.invariant.first, c.requires.few)

pub push_steps_among-requires-clause-within : goal.push_steps_among-requires-clause-within
push_steps_among-requires-clause-within c =
    let X = c.args.task.now in
    let end = c.loop-action.first + c.in_ok-end.field-0 in
    let left = c.loop-action.left.now in
    let is = c.loop-action.invariant.left in
    let counted : end ≡ c.loop-action.first + choice_count X.numbers c.action-item.result.ranges = ap (λ n. c.loop-action.first + n) (c.in_ok-end.ensures ∙ ap (choice_count X.numbers) c.items.ensures) in
    let parts : IsParted c.loop-action.first end c.args.those.now c.split_at.result.0.now c.split_at.result.1.now =
    parted c.loop-action.first end c.args.those.now left c.partition_point.result is
    (IsPartitionPoint-from_clause (λ n. nat_lt n end) left c.partition_point.result c.partition_point.ensures.partitioned (IsPartitionedBy-ltb (λ n. n) left end (not-falling left is.rising)) (λ a r f' k. search rules))
    c.partition_point.ensures.bound c.split_at.result.0.now c.split_at.result.1.now (omega arith) c.split_at.ensures.front c.split_at.ensures.back
    in
    λ k d within. subst (λ n. slice_index_or c.split_at.result.0.now k d < n) counted (parts.below k d within)

pub loop-action-preserved : goal.loop-action-preserved
loop-action-preserved c =
    let X = c.args.task.now in
    let S = c.args.statics.now in
    let i = c.loop-action.action-index in
    let first = c.loop-action.first in
    let action = c.action-item.result in
    let end = first + c.in_ok-end.field-0 in
    let left = c.loop-action.left.now in
    let is = c.loop-action.invariant.left in
    let here = c.split_at.result.0.now in
    let later = c.split_at.result.1.now in
    let inside : i < length X.actions = subst (λ all. i < length all) c.items-action-items.ensures c.loop-action-test.true in
    let read : action ≡ slice_index_or X.actions i action = c.action-item.is ∙ ap (λ all. slice_index_or all i action) c.items-action-items.ensures in
    let counted : end ≡ first + choice_count X.numbers action.ranges = ap (λ n. first + n) (c.in_ok-end.ensures ∙ ap (choice_count X.numbers) c.items.ensures) in
    let parts : IsParted first end c.args.those.now here later =
    parted first end c.args.those.now left c.partition_point.result is
    (IsPartitionPoint-from_clause (λ n. nat_lt n end) left c.partition_point.result c.partition_point.ensures.partitioned (IsPartitionedBy-ltb (λ n. n) left end (not-falling left is.rising)) (λ a r f' k. search rules))
    c.partition_point.ensures.bound here later (omega arith) c.split_at.ensures.front c.split_at.ensures.back
    in
    record {
      first = omega (arith, c.loop-action.invariant.first, count-more X S 0 X.actions i action inside read, counted);
      left = parts.left;
      pushes = action-among-more X S c.args.costs.now.places X.actions i first action c.args.those.now here later c.args.work.now c.loop-action.work c.push_steps_among.new.work _ c.loop-action.made c.push_steps_among.new.made
          inside read c.loop-action.invariant.first (subst (λ end. IsParted first end c.args.those.now here later) counted parts) c.loop-action.invariant.pushes c.in_ok-push_steps_among.ensures;
    }

pub returns : goal.returns
returns c =
    let X = c.args.task.now in
    actions-among-all X c.args.statics.now c.args.costs.now.places c.args.those.now c.loop-action.action-index c.args.work.now c.loop-action.work c.loop-action.made
    (subst (λ all. length all ≤ c.loop-action.action-index) c.items-action-items.ensures c.loop-action-test.false) c.loop-action.invariant.pushes
