-- What a step at objects is by name: its arguments, when it begins, what it wants, and what it costs.
use Rattle.std.proofs.Common.{◌≡◌, ◌∙◌, Bool, true, false, ◌&&◌, [], refl, sym, ap, true≢false}
use Rattle.std.specs.Prelude.{option_and_then}
use Rattle.std.proofs.lemmas.Bool.{and_parts}
use Rattle.p3_task.specs.Bindings.{extended}
use Rattle.p3_task.specs.Costs.{cost_places, effect_cost}
use Rattle.p3_task.specs.Goals.{hard_holds}
use Rattle.p3_task.specs.Offences.{WellFormed}
use Rattle.p3_task.specs.Plans.{arguments, cost_by, step_cost}
use Rattle.p3_task.specs.States.{State, Environment}
use Rattle.p3_task.specs.declared.task.Action.{Action}
use Rattle.p3_task.specs.declared.task.Step.{Step}
use Rattle.p3_task.specs.declared.task.Task.{Task}
use Rattle.p3_numbers.specs.Effects.{is_known_effect}
use Rattle.p3_numbers.specs.Goals.{hard_met, is_known_goal}
use Rattle.p3_numbers.specs.Known.{is_known_action}
use Rattle.p3_numbers.specs.Places.{Variables, are_known_types, environment_of, words_of}
use Rattle.p3_numbers.specs.Slots.{Slots, object_names}
use Rattle.p3_numbers.specs.Tasks.{IsNumberedTask, numbered_action}
use Rattle.p3_numbers.specs.declared.goal.NumberedGoal.{NumberedGoal}
use Rattle.p3_numbers.specs.declared.numbers.Numbers.{Numbers}
use Rattle.p3_numbers.specs.declared.task.NumberedTask.{NumberedTask}
use Rattle.p3_numbers.proofs.BindingLemmas.{extended-paired}
use Rattle.p3_numbers.proofs.GoalLaws.{hard-means}
use Rattle.p3_expansion.specs.Statics.{TellStatics}
use Rattle.p3_expansion.proofs.NextLemmas.{all-at}
use Rattle.p3_expansion.proofs.StaticLemmas.{tell-statics}
use Rattle.p3_expansion.proofs.TaskLemmas.{known}
use Rattle.p3_steps.proofs.PossibleLaws.{may-begin-where-met}
use Rattle.p3_steps.specs.Costs.{cost_of}
use Rattle.p3_steps.proofs.CostLaws.{costs-mean}
use Rattle.p3_ground.specs.Expanded.{IsStepAt}
use Rattle.p3_ground.specs.StandsFor.{can_begin_by, can_begin}
use Rattle.p3_ground.specs.StepParts.{OfSteps, NeverBegins, CostsAlike}

module _ (T : Task) (X : NumberedTask) (well : WellFormed T) (numbered : IsNumberedTask T X) (action : Action) (slots : Slots) (step : Step) (is : IsStepAt T X.numbers action slots step) where
  abbrev words : Variables
  words = words_of action.params

  abbrev env : Environment
  env = environment_of X.numbers (words_of action.params) slots

  pub step-env : arguments action step ≡ environment_of X.numbers (words_of action.params) slots
  step-env = ap (extended [] action.params) is.args ∙ extended-paired [] action.params (object_names X.numbers slots)

  pub step-known : (is_known_goal X.numbers action.pre.body (words_of action.params) ≡ true) × (is_known_effect X.numbers action.effect.body (words_of action.params) ≡ true)
  step-known =
      let all = all-at (is_known_action X.numbers) T.domain.actions is.place action (known T X well numbered).actions is.here in
      let halves = and_parts (are_known_types X.numbers action.params && is_known_goal X.numbers action.pre.body words) (is_known_effect X.numbers action.effect.body words) all in
      ((and_parts (are_known_types X.numbers action.params) (is_known_goal X.numbers action.pre.body words) halves.0).1, halves.1)

  pub step-begins : (s : State) → can_begin T s step ≡ hard_holds T s (environment_of X.numbers (words_of action.params) slots) action.pre.body
  step-begins s = ap (can_begin_by T s step) is.named ∙ ap (λ env. hard_holds T s env action.pre.body) step-env

  -- by numbers
  begins-by-number : (s : State) → can_begin T s step ≡ hard_met X.numbers s slots (numbered_action X.numbers action).pre
  begins-by-number s = step-begins s ∙ sym (hard-means T X.numbers numbered.numbering s action.pre.body words slots is.fills step-known.0)

  costs-alike : cost_of (cost_places T) X.values slots (numbered_action X.numbers action).effect ≡ step_cost T step
  unfolding step_cost
  costs-alike =
      costs-mean T X well numbered action.effect.body words slots is.fills step-known.1 ∙ sym (ap (λ env. effect_cost T env action.effect.body) step-env)
      ∙ sym (ap (option_and_then (cost_by T step)) is.named)

pub never-begins : OfSteps NeverBegins
never-begins T X S action slots step whole is cannot s reached =
    let N : Numbers = X.numbers in
    let pre : NumberedGoal = (numbered_action X.numbers action).pre in
    let told : TellStatics T X.numbers S = tell-statics T X S whole.well whole.numbered whole.statics in
    begins-by-number T X whole.well whole.numbered action slots step is s ∙ by (hard_met N s slots pre) refl told
  where
    by : (met : Bool) → hard_met X.numbers s slots (numbered_action X.numbers action).pre ≡ met → TellStatics T X.numbers S → met ≡ false
    by true holds told =
        absurd (true≢false (
        sym (may-begin-where-met X.numbers S s (told.settled s reached) slots (numbered_action X.numbers action).pre holds) ∙ cannot
        ))
    by false holds told = refl

pub steps-cost-alike : OfSteps CostsAlike
steps-cost-alike T X S action slots step whole is = costs-alike T X whole.well whole.numbered action slots step is
