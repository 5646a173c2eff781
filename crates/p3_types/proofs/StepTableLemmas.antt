-- The table of first steps, and the steps that it finds.
use Rattle.std.proofs.Common.{◌≡◌, ◌∙◌, ℕ, ◌+◌, ◌-◌, ◌<◌, ◌≤◌, min, refl, sym, ap, true, List, [], ◌∷◌, map, length, get_or, take, Some, arith}
use Rattle.std.specs.Prelude.{slice_get, sum}
use Rattle.std.specs.List.{list_all}
use Rattle.std.proofs.lemmas.Bool.{and_parts, and_from}
use Rattle.std.proofs.lemmas.List.{get_or-map, length-map, take_all}
use Rattle.std.proofs.lemmas.List.Sums.{sum_by_more, sum_by-take-le}
use Rattle.p3_task.specs.Lifting.{steps}
use Rattle.p3_task.specs.Limits.{step_count}
use Rattle.p3_task.specs.Offences.{WellFormed}
use Rattle.p3_task.specs.declared.task.Action.{Action}
use Rattle.p3_task.specs.declared.task.Task.{Task}
use Rattle.p3_task.specs.Sides.{step_count_limit}
use Rattle.p3_numbers.proofs.KnownLaws.{task-known}
use Rattle.p3_numbers.specs.Known.{is_known_action}
use Rattle.p3_numbers.specs.Places.{ranges_of, are_known_types}
use Rattle.p3_numbers.specs.Slots.{object_names}
use Rattle.p3_numbers.specs.Tasks.{IsNumberedTask, numbered_action}
use Rattle.p3_numbers.specs.declared.numbers.Numbers.{Numbers}
use Rattle.p3_numbers.specs.declared.task.NumberedAction.{NumberedAction}
use Rattle.p3_numbers.specs.declared.task.NumberedTask.{NumberedTask}
use Rattle.p3_types.proofs.NameOrderLemmas.{slice_at}
use Rattle.p3_types.proofs.StepLemmas.{first_at, firsts_length, step_count_is, step_at, AreKnown, count_at}
use Rattle.p3_numbers.specs.Choices.{choice_count, choice}
use Rattle.p3_types.specs.FirstSteps.{counts_of, firsts_from, too_many}

params_known : (N : Numbers) (actions : List Action) → list_all (is_known_action N) actions ≡ true → list_all (λ (action : Action). are_known_types N action.params) actions ≡ true
params_known N [] known = refl
params_known N (action ∷ actions) known =
    let here = and_parts (is_known_action N action) _ known in
    and_from _ _ (and_parts _ _ (and_parts _ _ here.0).0).0 (params_known N actions here.1)

map_twice : {A B C : Type 0} (f : A → B) (g : B → C) (xs : List A) → map g (map f xs) ≡ map (λ x. g (f x)) xs
map_twice f g [] = refl
map_twice f g (x ∷ xs) = ap (λ rest. g (f x) ∷ rest) (map_twice f g xs)

module _ (T : Task) (X : NumberedTask) (firsts : List ℕ) (well : WellFormed T) (is : IsNumberedTask T X) (table : firsts ≡ firsts_from 0 (counts_of X)) where
  abbrev N : Numbers
  N = X.numbers

  abbrev counts : List ℕ
  counts = map (count_at T N is.numbering) T.domain.actions

  pub known : AreKnown T N is.numbering T.domain.actions
  known = params_known N T.domain.actions (task-known T N well is.covers).actions

  counts_same : counts_of X ≡ counts
  counts_same = ap (map (λ (action : NumberedAction). choice_count N action.ranges)) is.actions ∙ map_twice (numbered_action N) (λ (action : NumberedAction). choice_count N action.ranges) T.domain.actions

  counts_length : length counts ≡ length T.domain.actions
  counts_length = length-map T.domain.actions (count_at T N is.numbering)

  steps_are : step_count T ≡ sum counts
  steps_are = step_count_is T N is.numbering known

  pub actions_length : length X.actions ≡ length T.domain.actions
  actions_length = ap length is.actions ∙ length-map T.domain.actions (numbered_action N)

  pub table_length : length firsts ≡ length T.domain.actions + 1
  table_length = ap length table ∙ firsts_length 0 (counts_of X) ∙ ap (λ all. length all + 1) counts_same ∙ ap (λ n. n + 1) counts_length

  pub first_is : (k : ℕ) → k ≤ length T.domain.actions → get_or firsts k 0 ≡ min (sum (take k counts)) too_many
  first_is k within =
      let some : k ≤ length counts = omega (arith, within, counts_length) in
      let zero_behind : min (0 + sum (take k counts)) too_many ≡ min (sum (take k counts)) too_many = omega arith in
      ap (λ all. get_or all k 0) (table ∙ ap (firsts_from 0) counts_same) ∙ first_at 0 counts k some ∙ zero_behind

  pub last_is : (k : ℕ) → k ≡ length firsts - 1 → get_or firsts k 0 ≡ min (step_count T) too_many
  last_is k at =
      let here : k ≡ length counts = omega (arith, at, table_length, counts_length) in
      first_is k (omega (arith, at, table_length)) ∙ ap (λ all. min (sum all) too_many) (ap (λ n. take n counts) here ∙ take_all (length counts) counts (omega arith)) ∙ ap (λ n. min n too_many) (sym steps_are)

  pub start_is : get_or firsts 0 0 ≡ 0
  start_is = first_is 0 (omega arith) ∙ omega arith

  exact : step_count T ≤ step_count_limit → (k : ℕ) → k ≤ length T.domain.actions → get_or firsts k 0 ≡ sum (take k counts)
  exact few k within = let part = sum_by-take-le (λ n. n) counts k in omega (arith, first_is k within, part, steps_are, few)

  pub numbered_here : (place : ℕ) (action : Action) (item : NumberedAction) → place < length T.domain.actions → action ≡ get_or T.domain.actions place action → item ≡ get_or X.actions place item → item.ranges ≡ ranges_of N action.params
  numbered_here place action item within at there =
      ap (λ (other : NumberedAction). other.ranges) (there ∙ ap (λ (all : List NumberedAction). get_or all place item) is.actions ∙ get_or-map (numbered_action N) T.domain.actions place action item within ∙ ap (numbered_action N) (sym at))

  -- how many steps the action has
  pub count_between : step_count T ≤ step_count_limit → (place : ℕ) (item : NumberedAction) → place < length T.domain.actions → item ≡ get_or X.actions place item → get_or firsts (place + 1) 0 - get_or firsts place 0 ≡ choice_count N item.ranges
  count_between few place item within there =
      let inside : place < length counts = omega (arith, within, counts_length) in
      let more = sum_by_more (λ n. n) counts place 0 inside in
      let here = exact few place (omega (arith, within)) in
      let next = exact few (place + 1) (omega (arith, within)) in
      let own : get_or counts place 0 ≡ choice_count N item.ranges =
      ap (λ (all : List ℕ). get_or all place 0) (sym counts_same)
      ∙ get_or-map (λ (action : NumberedAction). choice_count N action.ranges) X.actions place item 0 (omega (arith, within, actions_length))
      ∙ ap (λ (action : NumberedAction). choice_count N action.ranges) (sym there)
      in
      omega (arith, more, here, next, own)

  pub first_below : step_count T ≤ step_count_limit → (place : ℕ) → place < length T.domain.actions → get_or firsts place 0 ≤ get_or firsts (place + 1) 0
  first_below few place within =
      let more = sum_by_more (λ n. n) counts place 0 (omega (arith, within, counts_length)) in
      let here = exact few place (omega (arith, within)) in
      let next = exact few (place + 1) (omega (arith, within)) in
      omega (arith, more, here, next)

  -- the step of a number between the first steps of an action and the next
  pub step_between : step_count T ≤ step_count_limit → (place number rest : ℕ) (action : Action) (item : NumberedAction) → place < length T.domain.actions → action ≡ get_or T.domain.actions place action → item ≡ get_or X.actions place item
      → get_or firsts place 0 ≤ number → number < get_or firsts (place + 1) 0 → rest ≡ number - get_or firsts place 0
      → slice_get (steps T) number ≡ Some (record { action = action.name.name; args = object_names N (choice N item.ranges rest) })
  step_between few place number rest action item within at there low high e =
      let here = exact few place (omega (arith, within)) in
      let ranges = numbered_here place action item within at there in
      let long : get_or firsts (place + 1) 0 - get_or firsts place 0 ≡ count_at T N is.numbering action = count_between few place item within there ∙ ap (choice_count N) ranges in
      let below : rest < count_at T N is.numbering action = omega (arith, low, high, e, long) in
      step_at T N is.numbering place rest number action known (slice_at T.domain.actions place action within ∙ ap Some (sym at)) below (omega (arith, here, low, e))
      ∙ ap (λ all. Some (record { action = action.name.name; args = object_names N (choice N all rest) })) (sym ranges)
