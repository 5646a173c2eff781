use Rattle.std.proofs.Common.{◌≡◌, ◌∙◌, ℕ, ◌+◌, ◌<◌, ◌++◌, ◌∷◌, [], List, ap, sym, subst, min, map, take, length, get_or}
use Rattle.std.specs.Prelude.{sum}
use Rattle.std.proofs.lemmas.List.{map_more}
use Rattle.p3_numbers.specs.declared.task.NumberedAction.{NumberedAction}
use Rattle.p3_numbers.specs.Choices.{choice_count}
use Rattle.p3_types.specs.FirstSteps.{firsts_from, too_many}
use Rattle.p3_types.proofs.StepLemmas.{next_first, firsts_next}
use Rattle.p3_types.proofs.steps.first_steps.Goals as goal

pub loop-action-preserved : goal.loop-action-preserved
loop-action-preserved c =
    let N = c.args.task.now.numbers in
    let actions = c.args.task.now.actions in
    let count : NumberedAction → ℕ = λ action. choice_count N action.ranges in
    let i = c.loop-action.action-index in
    let counts = map count (take i actions) in
    let item = c.action-item.result in
    let within : i < length actions = subst (λ (all : List NumberedAction). i < length all) c.items-action-items.ensures c.loop-action-test.true in
    let at : item ≡ get_or actions i item = c.action-item.is ∙ ap (λ (all : List NumberedAction). get_or all i item) c.items-action-items.ensures in
    let more : map count (take (i + 1) actions) ≡ counts ++ count item ∷ [] = map_more count actions i item within ∙ ap (λ (action : NumberedAction). counts ++ count action ∷ []) (sym at) in
    let counted : c.capped_count.result ≡ min (count item) too_many = c.capped_count.ensures ∙ ap (λ ranges. min (choice_count N ranges) too_many) c.items.ensures in
    let first : c.capped_sum-first.result ≡ min (sum (counts ++ count item ∷ [])) too_many =
    c.capped_sum-first.ensures ∙ ap (λ n. min (c.loop-action.first + n) too_many) counted ∙ next_first counts c.loop-action.first (count item) c.loop-action.invariant.first in
    record {
      first = first ∙ ap (λ all. min (sum all) too_many) (sym more);
      firsts = c.in_ok-push-2.ensures.items ∙ ap (λ firsts. firsts ++ c.capped_sum-first.result ∷ []) c.loop-action.invariant.firsts ∙ firsts_next counts (count item) c.capped_sum-first.result first ∙ ap (firsts_from 0) (sym more);
    }
