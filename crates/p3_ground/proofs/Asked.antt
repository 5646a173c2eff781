-- Ground tasks that stand for a task in some of its steps, and steps that are there or can begin in no reached state.
use Rattle.std.proofs.Common.{◌≡◌, ◌∙◌, ℕ, ◌<◌, refl, sym, ap, subst, arith, true, List, [], ◌∷◌, length, get_or, Option, Some, None}
use Rattle.std.specs.Prelude.{zip}
use Rattle.std.specs.List.{All, list_all, range_with_len}
use Rattle.std.proofs.lemmas.Bool.{and_parts, true≢false}
use Rattle.std.proofs.lemmas.List.Elements.{All-head, All-tail}
use Rattle.std.proofs.lemmas.List.FromFn.{get_or-range_with_len, length-range_with_len}
use Rattle.std.proofs.lemmas.Option.{slice_get_within}
use Rattle.p3_task.specs.Lifting.{steps}
use Rattle.p3_task.specs.Plans.{Plan}
use Rattle.p3_task.specs.declared.task.Task.{Task}
use Rattle.p3_formula.specs.Forms.{State}
use Rattle.p3_formula.specs.GroundPlans.{GroundPlan, step_of, fits_by, ground_fits, state_by, visited_from, ground_moves}
use Rattle.p3_formula.specs.declared.task.GroundStep.{GroundStep}
use Rattle.p3_formula.specs.declared.task.GroundTask.{GroundTask}
use Rattle.p3_ground.specs.StandsFor.{LeavesOutOnlyUnfit, LeftOutAt, StandsFor, StandsForSteps}
use Rattle.p3_ground.specs.PlansByNumber.{AreAsked, AreNumbers}

module _ (T : Task) (G : GroundTask) where
  -- what stands for the task stands for it in each of its steps
  pub stands_for_each : StandsFor T G → (numbers : List ℕ) → StandsForSteps T G numbers
  stands_for_each stands numbers = (record { atoms = stands.atoms; stands = stands.stands }, λ k d within. stands.left_out (get_or numbers k d))

  -- no other numbers have steps
  pub stands_for_all : StandsForSteps T G (range_with_len 0 (length (steps T))) → StandsFor T G
  stands_for_all (some, each) = record {
    atoms = some.atoms;
    stands = some.stands;
    left_out = λ number step has.
        let inside : number < length (steps T) = slice_get_within (steps T) number step has in
        let here : get_or (range_with_len 0 (length (steps T))) number 0 ≡ number = get_or-range_with_len 0 (length (steps T)) number 0 inside ∙ omega arith in
        (subst (LeftOutAt T G) here (each number 0 (subst (λ n. number < n) (sym (length-range_with_len 0 (length (steps T)))) inside))) step has;
  }

  -- a ground task that stands for the task can be asked for every step
  pub all_are_asked : LeavesOutOnlyUnfit T G → (plan : Plan) (numbers : GroundPlan) → AreNumbers T plan numbers → AreAsked T G plan numbers
  all_are_asked left_out [] [] e = tt
  all_are_asked left_out [] (number ∷ numbers) e = absurd e
  all_are_asked left_out (step ∷ plan) [] e = absurd e
  all_are_asked left_out (step ∷ plan) (number ∷ numbers) (e, es) = ((e, left_out number), all_are_asked left_out plan numbers es)

  -- so can one that stands for it in these steps, for them
  pub those_are_asked : (plan : Plan) (numbers : GroundPlan) → All (LeftOutAt T G) numbers → AreNumbers T plan numbers → AreAsked T G plan numbers
  those_are_asked [] [] all e = tt
  those_are_asked [] (number ∷ numbers) all e = absurd e
  those_are_asked (step ∷ plan) [] all e = absurd e
  those_are_asked (step ∷ plan) (number ∷ numbers) all (e, es) = ((e, All-head (LeftOutAt T G) number numbers all), those_are_asked plan numbers (All-tail (LeftOutAt T G) number numbers all) es)

  -- what is there is not left out
  there_at : (number : ℕ) (made : GroundStep) → step_of G number ≡ Some made → LeftOutAt T G number
  there_at number made found step has out s reached = absurd (let wrong : Some made ≡ None = sym found ∙ out in cc)

  -- a step that fits is there
  pub fit_at : (bits : State) (number : ℕ) → ground_fits G bits number ≡ true → LeftOutAt T G number
  fit_at bits number f = by (step_of G number) refl
    where
      by : (o : Option GroundStep) → step_of G number ≡ o → LeftOutAt T G number
      by None out = absurd (true≢false (sym f ∙ ap (fits_by bits) out))
      by (Some made) found = there_at number made found

  kept_from : (bits : State) (plan : Plan) (numbers : GroundPlan) → AreNumbers T plan numbers → list_all (λ (move : State × ℕ). ground_fits G move.0 move.1) (zip (visited_from G bits numbers) numbers) ≡ true → AreAsked T G plan numbers
  unfolding visited_from
  kept_from bits [] [] e f = tt
  kept_from bits [] (number ∷ numbers) e f = absurd e
  kept_from bits (step ∷ plan) [] e f = absurd e
  kept_from bits (step ∷ plan) (number ∷ numbers) (e, es) f =
      let h = and_parts _ _ f in
      ((e, fit_at bits number h.0), kept_from (state_by bits (step_of G number)) plan numbers es h.1)

  -- steps that were done are there
  pub kept_are_asked : (plan : Plan) (numbers : GroundPlan) → AreNumbers T plan numbers → list_all (λ (move : State × ℕ). ground_fits G move.0 move.1) (ground_moves G numbers) ≡ true → AreAsked T G plan numbers
  kept_are_asked plan numbers e f = kept_from G.initial plan numbers e f
