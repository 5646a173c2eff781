use Rattle.std.proofs.Common.{◌≡◌, ◌∙◌, ◌<◌, sym, ap, subst}
use Rattle.std.specs.List.{All}
use Rattle.p3_numbers.specs.Choices.{choice, choice_count}
use Rattle.p3_steps.specs.Candidates.{candidates_of}
use Rattle.p3_steps.specs.Possible.{may_begin}
use Rattle.p3_steps.proofs.CandidateLemmas.{passing-below}
use Rattle.p3_steps.proofs.actions.push_action_steps.Goals as goal

pub push_steps_at-requires-clause-within : goal.push_steps_at-requires-clause-within
push_steps_at-requires-clause-within c =
    let N = c.args.task.now.numbers in
    let S = c.args.statics.now in
    let action = c.args.action.now in
    let are : c.as_slice.result.now ≡ candidates_of N S action.ranges action.pre =
    c.as_slice.ensures.value ∙ c.in_ok-kept.ensures ∙ ap (λ all. candidates_of N S all action.pre) c.items-ranges.ensures
    in
    subst (All (λ n. n < choice_count N action.ranges)) (sym are) (passing-below (λ number. may_begin N S (choice N action.ranges number) action.pre) (choice_count N action.ranges))
