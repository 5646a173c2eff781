-- Fitting plans have numbers, and a plan and the list of its steps' numbers are one to one.
use Rattle.std.proofs.Common.{◌≡◌, ◌∙◌, sym, true, [], ◌∷◌, Option, Some, None}
use Rattle.std.proofs.lemmas.Bool.{and_parts}
use Rattle.p3_task.specs.States.{State, start}
use Rattle.p3_task.specs.Plans as plans
use Rattle.p3_task.specs.Plans.{Plan, action_named, fits, state_after, steps_fit}
use Rattle.p3_task.specs.Validity.{Valid, is_valid}
use Rattle.p3_task.specs.StepNumbers.{IsOwn, HasStepNumbers}
use Rattle.p3_task.proofs.OnceLemmas.{Some-injective}
use Rattle.p3_task.proofs.PlanLemmas.{fit_from, steps_fit-walk}
use Rattle.p3_task.specs.declared.task.Action.{Action}
use Rattle.p3_task.specs.declared.task.Step.{Step}
use Rattle.p3_task.specs.declared.task.Task.{Task}
use Rattle.p3_formula.specs.GroundPlans.{GroundPlan}
use Rattle.p3_ground.specs.PlansByNumber.{AreNumbers}

module _ (T : Task) where
  pub same_plan : (plan other : Plan) (numbers : GroundPlan) → AreNumbers T plan numbers → AreNumbers T other numbers → plan ≡ other
  same_plan [] [] [] e f = λ i. []
  same_plan [] (step ∷ other) [] e f = absurd f
  same_plan (step ∷ plan) other [] e f = absurd e
  same_plan [] other (number ∷ numbers) e f = absurd e
  same_plan (step ∷ plan) [] (number ∷ numbers) e f = absurd f
  same_plan (step ∷ plan) (again ∷ other) (number ∷ numbers) e f = λ i. Some-injective step again (sym e.0 ∙ f.0) i ∷ same_plan plan other numbers e.1 f.1 i

  pub same_numbers : HasStepNumbers T → (plan : Plan) (numbers others : GroundPlan) → AreNumbers T plan numbers → AreNumbers T plan others → numbers ≡ others
  same_numbers K [] [] [] e f = λ i. []
  same_numbers K [] [] (other ∷ others) e f = absurd f
  same_numbers K [] (number ∷ numbers) others e f = absurd e
  same_numbers K (step ∷ plan) [] others e f = absurd e
  same_numbers K (step ∷ plan) (number ∷ numbers) [] e f = absurd f
  same_numbers K (step ∷ plan) (number ∷ numbers) (other ∷ others) e f = λ i. K.one number other step e.0 f.0 i ∷ same_numbers K plan numbers others e.1 f.1 i

  pub fitting_own : (s : State) (step : Step) → fits T s step ≡ true → IsOwn T step
  unfolding fits
  fitting_own s step f = by (action_named T step.action) (λ i. action_named T step.action) f
    where
      by : (o : Option Action) → action_named T step.action ≡ o → plans.fits_by T s step o ≡ true → IsOwn T step
      by None e f = absurd (cc)
      by (Some action) e f = record { action = action; named = e; args = (and_parts _ _ (and_parts _ _ f).0).0 }

  numbers_from : HasStepNumbers T → (s : State) (plan : Plan) → fit_from T s plan ≡ true → (numbers : GroundPlan) × AreNumbers T plan numbers
  numbers_from K s [] f = ([], tt)
  numbers_from K s (step ∷ plan) f =
      let h = and_parts _ _ f in
      let (number, at) = K.found step (fitting_own s step h.0) in
      let (numbers, all) = numbers_from K (state_after T s step) plan h.1 in
      (number ∷ numbers, (at, all))

  pub has_numbers : HasStepNumbers T → (plan : Plan) → steps_fit T plan ≡ true → (numbers : GroundPlan) × AreNumbers T plan numbers
  has_numbers K plan f = numbers_from K (start T) plan (sym (steps_fit-walk T plan) ∙ f)

  pub valid_fits : (plan : Plan) → Valid T plan → steps_fit T plan ≡ true
  unfolding is_valid
  valid_fits plan valid = (and_parts _ _ (and_parts _ _ valid).0).0
