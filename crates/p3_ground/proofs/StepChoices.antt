-- The steps of a task are its actions at choices of objects.
use Rattle.std.proofs.Common.{◌≡◌, ◌∙◌, ℕ, ◌+◌, ◌<◌, true, ◌&&◌, List, [], ◌∷◌, slice_get, Some, refl, sym, ap, subst}
use Rattle.std.specs.Prelude.{flat_map}
use Rattle.std.specs.List.{list_all}
use Rattle.std.proofs.lemmas.Bool.{and_parts, and_from}
use Rattle.std.proofs.lemmas.List.Elements.{All-get_or}
use Rattle.std.proofs.lemmas.Option.{get_or_from_slice_get}
use Rattle.p3_task.specs.Bindings.{tuples}
use Rattle.p3_task.specs.Lifting.{steps, steps_of}
use Rattle.p3_task.specs.Offences.{WellFormed}
use Rattle.p3_task.specs.StepNumbers.{HasNumber}
use Rattle.p3_task.specs.declared.task.Action.{Action}
use Rattle.p3_task.specs.declared.task.Step.{Step}
use Rattle.p3_task.specs.declared.task.Task.{Task}
use Rattle.p3_task.proofs.OnceLemmas.{Some-injective, in_flat, in_map, map_at}
use Rattle.p3_task.proofs.StepNumberLaws.{steps_have_numbers}
use Rattle.p3_numbers.specs.Choices.{choice_count}
use Rattle.p3_numbers.specs.Effects.{is_known_effect}
use Rattle.p3_numbers.specs.Goals.{is_known_goal}
use Rattle.p3_numbers.specs.Known.{is_known_action}
use Rattle.p3_numbers.specs.Places.{Fills, are_known_types, ranges_of, words_of}
use Rattle.p3_numbers.specs.Slots.{object_names, tuples_of}
use Rattle.p3_numbers.specs.Tasks.{IsNumberedTask}
use Rattle.p3_numbers.specs.declared.numbers.Numbers.{Numbers}
use Rattle.p3_numbers.specs.declared.task.NumberedTask.{NumberedTask}
use Rattle.p3_numbers.proofs.BindingLemmas.{tuples_fill, tuples_mean}
use Rattle.p3_numbers.proofs.KnownLaws.{task-known}
use Rattle.p3_types.proofs.ChoiceLemmas.{choice_at, length-tuples}
use Rattle.p3_types.proofs.FindLemmas.{found_action}
use Rattle.p3_types.proofs.StepLemmas.{step_at}
use Rattle.p3_expansion.proofs.NextLemmas.{all-at, within-get}
use Rattle.p3_ground.specs.StepParts.{IsSomeChoice, NumbersAreChoices}
use Rattle.p3_ground.specs.Expanded.{step_of, choice_of, steps_before, StepsAreAtChoices}

pub parameters-known : (N : Numbers) (actions : List Action) → list_all (is_known_action N) actions ≡ true → list_all (λ (action : Action). are_known_types N action.params) actions ≡ true
parameters-known N [] known = refl
parameters-known N (action ∷ actions) known =
    let parts = and_parts (is_known_action N action) (list_all (is_known_action N) actions) known in
    let halves = and_parts (are_known_types N action.params && is_known_goal N action.pre.body (words_of action.params)) (is_known_effect N action.effect.body (words_of action.params)) parts.0 in
    and_from (are_known_types N action.params) _ (and_parts (are_known_types N action.params) (is_known_goal N action.pre.body (words_of action.params)) halves.0).0 (parameters-known N actions parts.1)

pub steps-are-at-choices : StepsAreAtChoices
steps-are-at-choices T X place number action well numbered here within =
    let N : Numbers = X.numbers in
    let tuple = choice_at N (ranges_of N action.params) number within in
    let found = found_action T well T.domain.actions refl action.name.name place (map_at (λ (action : Action). action.name.name) T.domain.actions place action here) in
    let same : found.action ≡ action = Some-injective found.action action (sym found.at ∙ here) in
    record {
      has = step_at T N numbered.numbering place number _ action (parameters-known N T.domain.actions (task-known T N well numbered.covers).actions) here within refl;
      at = record {
        place = place;
        here = here;
        named = found.named ∙ ap Some same;
        args = refl;
        fills =
            subst (Fills N (words_of action.params)) (get_or_from_slice_get (tuples_of N (ranges_of N action.params)) number (choice_of N action number) [] tuple)
            (All-get_or (Fills N (words_of action.params)) (tuples_of N (ranges_of N action.params)) number [] (within-get (tuples_of N (ranges_of N action.params)) number (choice_of N action number) tuple) (tuples_fill T N numbered.numbering action.params));
      };
    }

-- each step with a number is one of them
module _ (T : Task) (X : NumberedTask) (well : WellFormed T) (numbered : IsNumberedTask T X) where
  some-choice : (number : ℕ) (step : Step) → slice_get (flat_map (steps_of T) T.domain.actions) number ≡ Some step → HasNumber T step number → IsSomeChoice T X.numbers number step
  some-choice number step there has =
      let N : Numbers = X.numbers in
      let (place, action, here, own) = in_flat (steps_of T) T.domain.actions number step there in
      let rest : ℕ = own.0 in
      let params-known = all-at (λ (action : Action). are_known_types N action.params) T.domain.actions place action (parameters-known N T.domain.actions (task-known T N well numbered.covers).actions) here in
      let (args, at, is) = in_map (λ tuple. record { action = action.name.name; args = tuple }) (tuples T action.params) rest step own.1 in
      let (slots, chosen, same) = in_map (object_names N) (tuples_of N (ranges_of N action.params)) rest args (ap (λ all. slice_get all rest) (tuples_mean T N numbered.numbering action.params params-known) ∙ at) in
      let within : rest < choice_count N (ranges_of N action.params) = subst (λ n. rest < n) (length-tuples N (ranges_of N action.params)) (within-get (tuples_of N (ranges_of N action.params)) rest slots chosen) in
      let one : slots ≡ choice_of N action rest = Some-injective slots (choice_of N action rest) (sym chosen ∙ choice_at N (ranges_of N action.params) rest within) in
      let step_is : step ≡ step_of N action (choice_of N action rest) = sym is ∙ (λ i. record { action = action.name.name; args = (sym same ∙ ap (object_names N) one) i }) in
      let choice_is = steps-are-at-choices T X place rest action well numbered here within in
      record {
        place = place;
        action = action;
        here = here;
        rest = rest;
        within = within;
        is = choice_is;
        number_is = (steps_have_numbers T well).one (steps_before N T place + rest) number step (subst (λ one. HasNumber T one (steps_before N T place + rest)) (sym step_is) choice_is.has) has;
        step_is = step_is;
      }

pub numbers-are-choices : NumbersAreChoices
unfolding steps
numbers-are-choices T X number step well numbered has = some-choice T X well numbered number step has has
