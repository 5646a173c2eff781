-- The step of a number by numbers.
use Rattle.std.proofs.Common.{◌≡◌, ◌∙◌, ℕ, ◌+◌, ◌-◌, ◌<◌, ◌≤◌, List, [], ◌∷◌, length, get_or, Some, refl, sym, ap, subst, arith, zero, suc}
use Rattle.std.specs.Prelude.{slice_get}
use Rattle.p3_task.proofs.OnceLemmas.{map_at, Some-injective}
use Rattle.p3_task.specs.Limits.{step_count}
use Rattle.p3_task.specs.Offences.{WellFormed}
use Rattle.p3_task.specs.Sides.{step_count_limit}
use Rattle.p3_task.specs.declared.task.Action.{Action}
use Rattle.p3_task.specs.declared.task.Task.{Task}
use Rattle.p3_numbers.proofs.BindingLemmas.{tuples_fill}
use Rattle.p3_numbers.specs.Choices.{choice_count, choice}
use Rattle.p3_numbers.specs.Places.{Fills, IsNumbering, ranges_of, words_of}
use Rattle.p3_numbers.specs.Slots.{tuples_of}
use Rattle.p3_numbers.specs.Tasks.{IsNumberedTask}
use Rattle.p3_numbers.specs.declared.numbers.Numbers.{Numbers}
use Rattle.p3_numbers.specs.declared.task.NumberedAction.{NumberedAction}
use Rattle.p3_numbers.specs.declared.task.NumberedTask.{NumberedTask}
use Rattle.p3_types.specs.Finds.{IsStepAt}
use Rattle.p3_types.specs.FirstSteps.{counts_of, firsts_from}
use Rattle.p3_types.proofs.ChoiceLemmas.{choice_at, length-tuples}
use Rattle.p3_types.proofs.FindLemmas.{action_name, found_action}
use Rattle.p3_types.proofs.NameOrderLemmas.{slice_at}
use Rattle.p3_types.proofs.StepTableLemmas.{count_between, numbered_here, step_between}

there_at : {A : Type 0} (xs : List A) (k : ℕ) → k < length xs → (x : A) × (slice_get xs k ≡ Some x)
there_at [] k within = absurd (omega arith)
there_at (x ∷ xs) zero within = (x, refl)
there_at (y ∷ xs) (suc k) within = there_at xs k (omega arith)

read_at : {A : Type 0} (xs : List A) (k : ℕ) (x : A) → slice_get xs k ≡ Some x → x ≡ get_or xs k x
read_at [] k x here = absurd (cc)
read_at (y ∷ xs) zero x here = sym (Some-injective y x here)
read_at (y ∷ xs) (suc k) x here = read_at xs k x here

-- a choice of objects for the parameters fills their slots
choice_fills : (T : Task) (N : Numbers) → IsNumbering T N → (action : Action) (rest : ℕ) → rest < choice_count N (ranges_of N action.params) → Fills N (words_of action.params) (choice N (ranges_of N action.params) rest)
choice_fills T N ties action rest within =
    let tuples = tuples_of N (ranges_of N action.params) in
    let inside : rest < length tuples = omega (arith, within, length-tuples N (ranges_of N action.params)) in
    subst (Fills N (words_of action.params)) (Some-injective _ _ (sym (slice_at tuples rest [] inside) ∙ choice_at N (ranges_of N action.params) rest within))
    (tuples_fill T N ties action.params rest [] inside)

module _ (T : Task) (X : NumberedTask) (firsts : List ℕ) (well : WellFormed T) (is : IsNumberedTask T X) (table : firsts ≡ firsts_from 0 (counts_of X)) where
  pub placed_between : step_count T ≤ step_count_limit → (place number : ℕ) (item : NumberedAction) → place < length T.domain.actions → item ≡ get_or X.actions place item → get_or firsts place 0 ≤ number → number < get_or firsts (place + 1) 0
      → IsStepAt T X.numbers number place (choice X.numbers item.ranges (number - get_or firsts place 0))
  placed_between few place number item within there low high =
      let N = X.numbers in
      let rest = number - get_or firsts place 0 in
      let (action, at) = there_at T.domain.actions place within in
      let here : action ≡ get_or T.domain.actions place action = read_at T.domain.actions place action at in
      let ranges = numbered_here T X firsts well is table place action item within here there in
      let count = count_between T X firsts well is table few place item within there in
      let below : rest < choice_count N item.ranges = omega (arith, low, high, count) in
      let found = found_action T well T.domain.actions refl action.name.name place (map_at action_name T.domain.actions place action at) in
      let same : found.action ≡ action = Some-injective found.action action (sym found.at ∙ at) in
      record {
        action = action;
        at = at;
        named = found.named ∙ ap Some same;
        fills = subst (λ all. Fills N (words_of action.params) (choice N all rest)) (sym ranges) (choice_fills T N is.numbering action rest (subst (λ all. rest < choice_count N all) ranges below));
        step = step_between T X firsts well is table few place number rest action item within here there low high refl;
      }
