use Rattle.std.proofs.Common.{◌+◌, ◌∷◌, [], ◌++◌, List, get_or, take, sym, subst}
use Rattle.std.specs.Prelude.{ℕ}
use Rattle.std.specs.List.{AllZip}
use Rattle.std.proofs.lemmas.List.{take_all, take_more}
use Rattle.p3_task.specs.StepNumbers.{HasNumber}
use Rattle.p3_task.specs.declared.task.Step.{Step}
use Rattle.p3_reasons.specs.Visits.{IsPlaced}
use Rattle.p3_reasons.specs.declared.visited.PlacedStep.{PlacedStep}
use Rattle.p3_expansion.proofs.WalkLemmas.{zip-push}
use Rattle.p3_scenes.proofs.PlacingLaws.{zip-through}
use Rattle.p3_scenes.proofs.placing.placed_steps.Goals as goal

pub returns : goal.returns
returns c plan numbered =
    let T = c.args.checked.now.task in
    let X = c.args.checked.now.numbered in
    zip-through (HasNumber T) (IsPlaced T X) plan c.args.numbers.now c.loop-number.steps numbered
    (subst (λ numbers. AllZip (λ (number : ℕ) (placed : PlacedStep). (step : Step) → HasNumber T step number → IsPlaced T X step placed) numbers c.loop-number.steps) (take_all c.loop-number.number-index c.args.numbers.now c.loop-number-test.false) c.loop-number.invariant)

pub loop-number-preserved : goal.loop-number-preserved
loop-number-preserved c =
    let T = c.args.checked.now.task in
    let X = c.args.checked.now.numbered in
    let numbers = c.args.numbers.now in
    let k = c.loop-number.number-index in
    let Q : ℕ → PlacedStep → Type 0 = λ number placed. (step : Step) → HasNumber T step number → IsPlaced T X step placed in
    subst (AllZip Q (take (k + 1) numbers)) (sym c.in_ok-push.ensures.ok)
    (subst (λ (first : List ℕ). AllZip Q first (c.loop-number.steps ++ c.in_ok-step.step ∷ [])) (sym (take_more numbers k 0 c.loop-number-test.true))
    (zip-push Q (take k numbers) c.loop-number.steps (get_or numbers k 0) c.in_ok-step.step c.loop-number.invariant c.in_ok-step.ensures))
