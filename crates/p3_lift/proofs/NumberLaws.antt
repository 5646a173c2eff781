-- The steps of a plan by their numbers.
use Rattle.std.proofs.Common.{◌≡◌, ◌∙◌, ℕ, zero, suc, ◌+◌, ◌<◌, List, [], ◌∷◌, ◌++◌, length, take, get_or, refl, ap, arith, Some}
use Rattle.std.specs.Prelude.{slice_get}
use Rattle.std.specs.List.{All, cons_option}
use Rattle.std.proofs.lemmas.List.{take_more}
use Rattle.std.proofs.lemmas.List.Elements.{All-cons, All-head, All-nil, All-tail, filter_map-append}
use Rattle.std.proofs.lemmas.Option.{slice_get_within}
use Rattle.p3_task.specs.Lifting.{steps}
use Rattle.p3_task.specs.Plans.{Plan}
use Rattle.p3_task.specs.StepNumbers.{HasNumber}
use Rattle.p3_task.specs.declared.task.Step.{Step}
use Rattle.p3_task.specs.declared.task.Task.{Task}
use Rattle.p3_ground.specs.PlansByNumber.{AreNumbers}
use Rattle.p3_lift.specs.Lifting.{numbered_steps}

pub there : {A : Type 0} (xs : List A) (n : ℕ) → n < length xs → (x : A) × (slice_get xs n ≡ Some x)
there [] n low = absurd (omega (arith, low))
there (x ∷ xs) zero low = (x, refl)
there (x ∷ xs) (suc n) low = there xs n (omega (arith, low))

-- the step at a place of the plan has the number at that place
pub record IsStepAt (T : Task) (plan : Plan) (numbers : List ℕ) (place : ℕ) : Type 0 where
  pub step : Step
  pub within : place < length plan
  pub is : step ≡ get_or plan place step
  pub has : HasNumber T step (get_or numbers place 0)

module _ (T : Task) where
  abbrev IsNumber : ℕ → Type 0
  IsNumber number = number < length (steps T)

  -- ---- of a plan whose steps have numbers

  pub numbers_within : (plan : Plan) (numbers : List ℕ) → AreNumbers T plan numbers → All (λ number. number < length (steps T)) numbers
  numbers_within [] [] are = All-nil IsNumber
  numbers_within [] (number ∷ numbers) are = absurd are
  numbers_within (step ∷ plan) [] are = absurd are
  numbers_within (step ∷ plan) (number ∷ numbers) are = All-cons IsNumber number numbers (slice_get_within (steps T) number step are.0) (numbers_within plan numbers are.1)

  pub steps_numbered : (plan : Plan) (numbers : List ℕ) → AreNumbers T plan numbers → numbered_steps T numbers ≡ plan
  steps_numbered [] [] are = refl
  steps_numbered [] (number ∷ numbers) are = absurd are
  steps_numbered (step ∷ plan) [] are = absurd are
  steps_numbered (step ∷ plan) (number ∷ numbers) are = λ i. cons_option (are.0 i) (steps_numbered plan numbers are.1 i)

  pub step_at : (plan : Plan) (numbers : List ℕ) (place : ℕ) → AreNumbers T plan numbers → place < length numbers → IsStepAt T plan numbers place
  step_at [] [] place are low = absurd (omega (arith, low))
  step_at [] (number ∷ numbers) place are low = absurd are
  step_at (step ∷ plan) [] place are low = absurd are
  step_at (step ∷ plan) (number ∷ numbers) zero are low = record { step = step; within = omega arith; is = refl; has = are.0 }
  step_at (first ∷ plan) (number ∷ numbers) (suc place) are low =
      let at = step_at plan numbers place are.1 (omega (arith, low)) in
      record { step = at.step; within = omega (arith, at.within); is = at.is; has = at.has }

  -- ---- of numbers

  pub numbered_one : (number : ℕ) (step : Step) → HasNumber T step number → numbered_steps T (number ∷ []) ≡ step ∷ []
  numbered_one number step has = ap (λ found. cons_option found []) has

  pub numbered_more : (numbers : List ℕ) (place : ℕ) → place < length numbers
      → numbered_steps T (take (place + 1) numbers) ≡ numbered_steps T (take place numbers) ++ numbered_steps T (get_or numbers place 0 ∷ [])
  numbered_more numbers place low = ap (numbered_steps T) (take_more numbers place 0 low) ∙ filter_map-append (slice_get (steps T)) (take place numbers) (get_or numbers place 0 ∷ [])

  pub steps_counted : (numbers : List ℕ) → All (λ number. number < length (steps T)) numbers → length (numbered_steps T numbers) ≡ length numbers
  steps_counted [] within = refl
  steps_counted (number ∷ numbers) within =
      let (step, at) = there (steps T) number (All-head IsNumber number numbers within) in
      let first : length (numbered_steps T (number ∷ numbers)) ≡ length (step ∷ numbered_steps T numbers) = ap (λ found. length (cons_option found (numbered_steps T numbers))) at in
      let rest = steps_counted numbers (All-tail IsNumber number numbers within) in
      omega (arith, first, rest)
