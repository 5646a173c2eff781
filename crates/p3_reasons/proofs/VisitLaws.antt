-- Behind the steps of a plan the facts are those of the state that it leads to.
use Rattle.std.proofs.Common.{◌≡◌, ◌∙◌, true, ◌&&◌, List, [], ◌∷◌, map, slice_get, Some, refl, sym, ap, subst}
use Rattle.std.specs.Prelude.{fold}
use Rattle.std.specs.List.{list_all, AllZip}
use Rattle.std.proofs.lemmas.Bool.{and_parts}
use Rattle.p3_task.specs.Effects.{next}
use Rattle.p3_task.specs.Offences.{WellFormed}
use Rattle.p3_task.specs.Plans.{Plan, action_named, arguments, state_after, state_by, last_state, visited}
use Rattle.p3_task.specs.States.{State, start}
use Rattle.p3_task.specs.declared.task.Action.{Action}
use Rattle.p3_task.specs.declared.task.Step.{Step}
use Rattle.p3_task.specs.declared.task.Task.{Task}
use Rattle.p3_task.proofs.OnceLemmas.{map_at}
use Rattle.p3_task.proofs.PlanLemmas.{state_from, last_state-walk}
use Rattle.p3_numbers.specs.Effects.{is_known_effect}
use Rattle.p3_numbers.specs.Goals.{is_known_goal}
use Rattle.p3_numbers.specs.Known.{is_known_action}
use Rattle.p3_numbers.specs.Places.{are_known_types, environment_of, words_of}
use Rattle.p3_numbers.specs.Slots.{object_names}
use Rattle.p3_numbers.specs.Tasks.{IsNumberedTask, numbered_action}
use Rattle.p3_numbers.specs.declared.task.NumberedTask.{NumberedTask}
use Rattle.p3_numbers.proofs.BindingLemmas.{extended-paired}
use Rattle.p3_numbers.proofs.KnownLaws.{task-known}
use Rattle.p3_expansion.proofs.NextLemmas.{all-at}
use Rattle.p3_reasons.specs.Decided.{TellsFacts}
use Rattle.p3_reasons.specs.Outcomes.{Test}
use Rattle.p3_reasons.specs.Visits.{step_test, action_test, start_test, test_after, IsPlaced, VisitsAreTold}
use Rattle.p3_reasons.specs.declared.visited.PlacedStep.{PlacedStep}
use Rattle.p3_reasons.proofs.TellingLaws.{start-is-told, next-is-told}

module _ (T : Task) (X : NumberedTask) (well : WellFormed T) (numbered : IsNumberedTask T X) where
  known-effect : (place_known : list_all (is_known_action X.numbers) T.domain.actions ≡ true) (step : PlacedStep) (action : Action) → slice_get T.domain.actions step.action ≡ Some action → is_known_effect X.numbers action.effect.body (words_of action.params) ≡ true
  known-effect all step action at =
      (and_parts (are_known_types X.numbers action.params && is_known_goal X.numbers action.pre.body (words_of action.params)) (is_known_effect X.numbers action.effect.body (words_of action.params))
      (all-at (is_known_action X.numbers) T.domain.actions step.action action all at)).1

  step-told : (s : State) (test : Test) (step : Step) (placed : PlacedStep) → TellsFacts X.numbers test s → IsPlaced T X step placed → TellsFacts X.numbers (step_test X test placed) (state_after T s step)
  unfolding state_after
  step-told s test step placed tells is =
      let N = X.numbers in
      let entry : slice_get X.actions placed.action ≡ Some (numbered_action N is.action) = ap (λ actions. slice_get actions placed.action) numbered.actions ∙ map_at (numbered_action N) T.domain.actions placed.action is.action is.at in
      let env : environment_of N (words_of is.action.params) placed.objects ≡ arguments is.action step = sym (extended-paired [] is.action.params (object_names N placed.objects)) ∙ (λ i. arguments is.action (record step { args = is.args i })) in
      let told = next-is-told T X numbered s test tells is.action.effect.body (words_of is.action.params) placed.objects is.fills (known-effect (task-known T N well numbered.covers).actions placed is.action is.at) in
      subst (λ state. TellsFacts N (step_test X test placed) state) (ap (λ env. next T s env is.action.effect.body) env ∙ sym (ap (state_by T s step) is.named))
      (subst (λ action. TellsFacts N (action_test X test placed action) (next T s (environment_of N (words_of is.action.params) placed.objects) is.action.effect.body)) (sym entry) told)

  steps-told : (s : State) (test : Test) (plan : Plan) (steps : List PlacedStep) → TellsFacts X.numbers test s → AllZip (IsPlaced T X) plan steps → TellsFacts X.numbers (fold (step_test X) test steps) (state_from T s plan)
  steps-told s test [] [] tells all = tells
  steps-told s test [] (placed ∷ steps) tells all = absurd all
  steps-told s test (step ∷ plan) [] tells all = absurd all
  steps-told s test (step ∷ plan) (placed ∷ steps) tells all = steps-told (state_after T s step) (step_test X test placed) plan steps (step-told s test step placed tells all.0) all.1

pub visits-are-told : VisitsAreTold
visits-are-told T X well numbered plan steps all =
    subst (TellsFacts X.numbers (test_after X steps)) (sym (last_state-walk T plan)) (steps-told T X well numbered (start T) (start_test X) plan steps (start-is-told T X well numbered) all)
