-- The scenes of an action at the objects of a step are bound to the step's preferences.
use Rattle.std.proofs.Common.{◌≡◌, ◌∙◌, true, ◌&&◌, [], sym, ap, subst}
use Rattle.std.specs.List.{AllZip}
use Rattle.std.proofs.lemmas.Bool.{and_parts}
use Rattle.p3_task.specs.Goals.{prefs}
use Rattle.p3_task.specs.Metrics.{step_prefs, prefs_by}
use Rattle.p3_task.specs.Offences.{WellFormed}
use Rattle.p3_task.specs.Plans.{arguments}
use Rattle.p3_task.specs.declared.task.Step.{Step}
use Rattle.p3_task.specs.declared.task.Task.{Task}
use Rattle.p3_numbers.specs.Effects.{is_known_effect}
use Rattle.p3_numbers.specs.Goals.{is_known_goal}
use Rattle.p3_numbers.specs.Known.{is_known_action}
use Rattle.p3_numbers.specs.Places.{are_known_types, environment_of, words_of}
use Rattle.p3_numbers.specs.Slots.{object_names}
use Rattle.p3_numbers.specs.Tasks.{IsNumberedTask}
use Rattle.p3_numbers.specs.declared.task.NumberedTask.{NumberedTask}
use Rattle.p3_numbers.proofs.BindingLemmas.{extended-paired}
use Rattle.p3_numbers.proofs.KnownLaws.{task-known}
use Rattle.p3_reasons.specs.Visits.{IsPlaced}
use Rattle.p3_reasons.specs.declared.visited.PlacedStep.{PlacedStep}
use Rattle.p3_scenes.specs.Bound.{IsBoundPref}
use Rattle.p3_scenes.specs.Scenes.{action_scenes}
use Rattle.p3_scenes.proofs.BoundLaws.{prefs-bound}
use Rattle.p3_expansion.proofs.NextLemmas.{all-at}

module _ (T : Task) (X : NumberedTask) (well : WellFormed T) (numbered : IsNumberedTask T X) (step : Step) (placed : PlacedStep) (is : IsPlaced T X step placed) where
  -- all in the precondition is known
  pub pre-known : is_known_goal X.numbers is.action.pre.body (words_of is.action.params) ≡ true
  pre-known =
      let N = X.numbers in
      let scope = words_of is.action.params in
      let all = (task-known T N well numbered.covers).actions in
      (and_parts (are_known_types N is.action.params) (is_known_goal N is.action.pre.body scope)
      (and_parts (are_known_types N is.action.params && is_known_goal N is.action.pre.body scope) (is_known_effect N is.action.effect.body scope) (all-at (is_known_action N) T.domain.actions placed.action is.action all is.at)).0).1

  -- the objects bind the parameters as the arguments do
  pub placed-env : environment_of X.numbers (words_of is.action.params) placed.objects ≡ arguments is.action step
  placed-env = sym (extended-paired [] is.action.params (object_names X.numbers placed.objects)) ∙ (λ i. arguments is.action (record step { args = is.args i }))

  pub step-scenes-bound : AllZip (IsBoundPref X.numbers) (step_prefs T step) (action_scenes X.numbers is.action placed.objects)
  unfolding step_prefs
  step-scenes-bound =
      subst (λ list. AllZip (IsBoundPref X.numbers) list (action_scenes X.numbers is.action placed.objects)) (ap (λ env. prefs T env is.action.pre.body) placed-env ∙ sym (ap (prefs_by T step) is.named))
      (prefs-bound T X.numbers numbered.numbering is.action.pre.body (words_of is.action.params) placed.objects is.fills pre-known)
