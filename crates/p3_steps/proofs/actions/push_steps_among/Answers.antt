use Rattle.std.proofs.Common.{◌≡◌, ◌∙◌, ◌+◌, ◌<◌, sym, ap, subst}
use Rattle.std.specs.List.{All}
use Rattle.p3_numbers.specs.Choices.{choice, choice_count}
use Rattle.p3_steps.specs.Candidates.{candidates_among}
use Rattle.p3_steps.specs.Possible.{may_begin}
use Rattle.p3_steps.proofs.AmongLemmas.{among-below}
use Rattle.p3_steps.proofs.actions.push_steps_among.Goals as goal

pub candidates_among-requires-clause-within : goal.candidates_among-requires-clause-within
candidates_among-requires-clause-within c =
    subst (λ ranges. All (λ number. number < c.args.first + choice_count c.args.task.now.numbers ranges) c.args.those.now) (sym c.items-ranges.ensures) c.requires.within

pub push_steps_at-requires-clause-within : goal.push_steps_at-requires-clause-within
push_steps_at-requires-clause-within c =
    let N = c.args.task.now.numbers in
    let S = c.args.statics.now in
    let action = c.args.action.now in
    let are : c.as_slice.result.now ≡ candidates_among N S action.ranges action.pre c.args.first c.args.those.now =
    c.as_slice.ensures.value ∙ c.in_ok-kept.ensures ∙ ap (λ all. candidates_among N S all action.pre c.args.first c.args.those.now) c.items-ranges.ensures
    in
    subst (All (λ n. n < choice_count N action.ranges)) (sym are) (among-below N S action.ranges action.pre c.args.first c.args.those.now (λ number. may_begin N S (choice N action.ranges number) action.pre) (choice_count N action.ranges) c.requires.from c.requires.within)
