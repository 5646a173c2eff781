use Rattle.std.proofs.Common.{◌<◌, ℕ, List, length, subst, sym}
use Rattle.std.specs.List.{All}
use Rattle.p3_task.specs.Lifting.{steps}
use Rattle.p3_lift.specs.Judging.{AreCopied}
use Rattle.p3_lift.proofs.NumberLaws.{numbers_within}
use Rattle.p3_lift.proofs.StepLaws.{few_copied}
use Rattle.p3_lift.proofs.steps.copied_steps.Goals as goal

pub copied_numbers-requires-clause-within : goal.copied_numbers-requires-clause-within
copied_numbers-requires-clause-within c =
    let U = c.args.written.now.task in
    let are = c.requires.some.are in
    subst (All (λ number. number < length (steps U))) (sym c.as_slice.ensures.value) (numbers_within U are.front c.args.steps.now.numbers.items are.are)

pub invariant_of-result : goal.invariant_of-result
invariant_of-result c =
    let T = c.args.source.now.task in
    let U = c.args.written.now.task in
    let copied = c.in_ok-numbers.numbers.items in
    record { few = few_copied T U c.args.steps.now copied c.requires.some (subst (λ (list : List ℕ). AreCopied T U list copied) c.as_slice.ensures.value c.in_ok-numbers.ensures) }
