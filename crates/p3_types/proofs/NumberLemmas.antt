-- The number of the step of an action with given arguments.
use Rattle.std.proofs.Common.{◌≡◌, ◌∙◌, ℕ, zero, suc, ◌+◌, ◌<◌, ◌≤◌, refl, sym, ap, subst, true, false, List, [], ◌∷◌, length, get_or, Some, arith}
use Rattle.std.specs.Prelude.{slice_get}
use Rattle.std.specs.List.{All}
use Rattle.p3_task.proofs.OnceLemmas.{Some-injective}
use Rattle.p3_task.specs.Bindings.{are_arguments}
use Rattle.p3_task.specs.Lifting.{steps}
use Rattle.p3_task.specs.Limits.{step_count}
use Rattle.p3_task.specs.Names.{Name}
use Rattle.p3_task.specs.Offences.{WellFormed}
use Rattle.p3_task.specs.declared.task.Action.{Action}
use Rattle.p3_task.specs.declared.task.Task.{Task}
use Rattle.p3_task.specs.Sides.{step_count_limit}
use Rattle.p3_numbers.specs.Places.{ranges_of, are_known_types}
use Rattle.p3_numbers.specs.Slots.{range_at}
use Rattle.p3_numbers.specs.Tasks.{IsNumberedTask}
use Rattle.p3_numbers.specs.declared.task.NumberedAction.{NumberedAction}
use Rattle.p3_numbers.specs.declared.task.NumberedTask.{NumberedTask}
use Rattle.p3_types.proofs.FindLemmas.{ranges_are, among_is}
use Rattle.p3_types.proofs.NameOrderLemmas.{slice_at}
use Rattle.p3_types.proofs.StepLemmas.{known_at}
use Rattle.p3_types.proofs.StepTableLemmas.{known, first_is, numbered_here, count_between, step_between}
use Rattle.p3_numbers.specs.Choices.{choice_count}
use Rattle.p3_types.specs.FirstSteps.{counts_of, firsts_from, too_many}
use Rattle.p3_types.specs.Finds.{are_among, IsRange, IsChoice}

some_action : (actions : List Action) (place : ℕ) → place < length actions → (action : Action) × (slice_get actions place ≡ Some action)
some_action [] place within = absurd (omega arith)
some_action (action ∷ actions) zero within = (action, refl)
some_action (action ∷ actions) (suc place) within = some_action actions place (omega arith)

module _ (T : Task) (X : NumberedTask) (firsts : List ℕ) (well : WellFormed T) (is : IsNumberedTask T X) (table : firsts ≡ firsts_from 0 (counts_of X)) (place : ℕ) (item : NumberedAction) (within : place < length T.domain.actions) (there : item ≡ get_or X.actions place item) where
  here : (action : Action) → slice_get T.domain.actions place ≡ Some action → action ≡ get_or T.domain.actions place action
  here action at = Some-injective _ _ (sym at ∙ slice_at T.domain.actions place action within)

  ranges_at : (action : Action) → slice_get T.domain.actions place ≡ Some action → item.ranges ≡ ranges_of X.numbers action.params
  ranges_at action at = numbered_here T X firsts well is table place action item within (here action at) there

  known_here : (action : Action) → slice_get T.domain.actions place ≡ Some action → are_known_types X.numbers action.params ≡ true
  known_here action at = known_at T X.numbers is.numbering T.domain.actions place action (known T X firsts well is table) at

  pub all_ranges : All (λ range. IsRange X.numbers.objects (range_at X.numbers range)) item.ranges
  all_ranges =
      let found = some_action T.domain.actions place within in
      subst (λ ranges. All (λ range. IsRange X.numbers.objects (range_at X.numbers range)) ranges) (sym (ranges_at found.0 found.1)) (ranges_are T X.numbers is.names is.numbering found.0.params (known_here found.0 found.1))

  pub sum_small : step_count T ≤ step_count_limit → (number : ℕ) → number < choice_count X.numbers item.ranges → get_or firsts place 0 + number < too_many
  sum_small few number below =
      let next = first_is T X firsts well is table (place + 1) (omega (arith, within)) in
      let count = count_between T X firsts well is table few place item within there in
      omega (arith, next, count, below)

  pub number_in : step_count T ≤ step_count_limit → (args : List Name) (number : ℕ) → IsChoice X.numbers item.ranges args number → (action : Action) → slice_get T.domain.actions place ≡ Some action → slice_get (steps T) (get_or firsts place 0 + number) ≡ Some (record { action = action.name.name; args = args })
  number_in few args number choice action at =
      let count = count_between T X firsts well is table few place item within there in
      step_between T X firsts well is table few place (get_or firsts place 0 + number) number action item within (here action at) there (omega arith) (omega (arith, count, choice.within)) (omega arith)
      ∙ (λ i. Some (record { action = action.name.name; args = choice.names i }))

  pub no_number : (args : List Name) → are_among X.numbers item.ranges args ≡ false → (action : Action) → slice_get T.domain.actions place ≡ Some action → are_arguments T action.params args ≡ false
  no_number args none action at =
      sym (among_is T X.numbers is.names is.numbering action.params args (known_here action at)) ∙ ap (λ ranges. are_among X.numbers ranges args) (sym (ranges_at action at)) ∙ none
