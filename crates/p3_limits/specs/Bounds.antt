-- What is measured of an action by its numbered trees, cut at the greatest number of 64 bits, and the first action of which it passes a limit.
use Rattle.std.specs.Prelude.{ℕ, ◌+◌, ◌-◌, ◌*◌, ◌^◌, ◌<◌, nat_lt, Bool, List, [], ◌∷◌, length, slice_index_or, if◌then◌else◌, Option, Some, None}
use Rattle.std.specs.List.{All}
use Rattle.p3_base.specs.declared.refusal.Code.{Code}
use Rattle.p3_base.specs.declared.refusal.Code.TheVariants.{CostTooLarge, SplitTooWide}
use Rattle.p3_base.specs.declared.refusal.Refusal.{Refusal}
use Rattle.p3_base.specs.declared.refusal.Role.{Role}
use Rattle.p3_formula.specs.declared.target.Weights.{Weights}
use Rattle.p3_limits.specs.Cuts.{cut, cut_choices, cut_sum}
use Rattle.p3_numbers.specs.Folds.{fold_effect, fold_goal}
use Rattle.p3_numbers.specs.Slots.{name_at}
use Rattle.p3_numbers.specs.declared.effect.NumberedAmount.{NumberedAmount}
use Rattle.p3_numbers.specs.declared.effect.NumberedAmount.TheVariants as amount
use Rattle.p3_numbers.specs.declared.effect.NumberedEffect.{NumberedEffect}
use Rattle.p3_numbers.specs.declared.effect.NumberedEffect.TheOpen as effect
use Rattle.p3_numbers.specs.declared.goal.NumberedGoal.{NumberedGoal}
use Rattle.p3_numbers.specs.declared.goal.NumberedGoal.TheOpen as goal
use Rattle.p3_numbers.specs.declared.numbers.Numbers.{Numbers}
use Rattle.p3_numbers.specs.declared.task.NumberedAction.{NumberedAction}
use Rattle.p3_task.specs.Costs.{cost_units}
use Rattle.p3_task.specs.Names.{Name}
use Rattle.p3_task.specs.Refusals.Places.{refusal_at_word}
use Rattle.p3_task.specs.Sides.{weight_bound, width_limit}
use Rattle.p3_task.specs.declared.task.Action.{Action}
use Rattle.p3_task.specs.declared.task.Task.{Task}
use Rattle.p3_types.specs.Tables.{greatest_value_of}
use Rattle.p3_limits.specs.declared.measure.Measure.{Measure}
use Rattle.p3_limits.specs.declared.measure.Measure.TheVariants.{Cost, Width}

-- ---- preferences

-- the weight of a name by its number; a preference without a name has none
abbrev pub weight_at : List ℕ → Option ℕ → ℕ
weight_at by_name None = 0
weight_at by_name (Some number) = slice_index_or by_name number 0

-- what a preference of the weight counts for: its weight, or 1 where it has one
abbrev pub share : Measure → ℕ → ℕ
share Cost weight = weight
share Width weight = if nat_lt 0 weight then 1 else 0

abbrev pub share_of : Measure → List ℕ → Option ℕ → ℕ
share_of measure by_name name = share measure (weight_at by_name name)

-- what the preferences count for together, each once for each choice of objects outside it
abbrev pub shares_layer : Measure → List ℕ → Numbers → goal.NumberedGoal-F ℕ → ℕ
shares_layer measure by_name N (goal.Plain body) = 0
shares_layer measure by_name N (goal.Both parts) = cut_sum 0 parts
shares_layer measure by_name N (goal.Each ranges body) = cut (cut_choices N ranges * body)
shares_layer measure by_name N (goal.Soft preference) = cut (share_of measure by_name preference.name)

unfoldable pub shares : Measure → List ℕ → Numbers → NumberedGoal → ℕ
shares measure by_name N tree = fold_goal (shares_layer measure by_name N) tree

-- ---- increases

-- the greatest value of a function by its number, 0 where no function has the number
abbrev pub greatest_at : Task → List Name → ℕ → ℕ
greatest_at T functions function = if nat_lt function (length functions) then greatest_value_of T (name_at functions function) else 0

abbrev pub greatest_increase : Task → List Name → NumberedAmount → ℕ
greatest_increase T functions (amount.Number numeral) = cost_units T numeral
greatest_increase T functions (amount.Value function args) = greatest_at T functions function

-- the sum of the greatest increases; they stand under `and` alone
abbrev pub greatest_cost_layer : Task → List Name → effect.NumberedEffect-F ℕ → ℕ
greatest_cost_layer T functions (effect.Add predicate args) = 0
greatest_cost_layer T functions (effect.Del predicate args) = 0
greatest_cost_layer T functions (effect.All parts) = cut_sum 0 parts
greatest_cost_layer T functions (effect.Each ranges body) = 0
greatest_cost_layer T functions (effect.If condition body) = 0
greatest_cost_layer T functions (effect.Cost increase) = cut (greatest_increase T functions increase)

unfoldable pub greatest_cost : Task → List Name → NumberedEffect → ℕ
greatest_cost T functions tree = fold_effect (greatest_cost_layer T functions) tree

-- ---- actions

abbrev pub measured : Task → Numbers → Weights → Measure → NumberedAction → ℕ
measured T N w Cost action = cut (cut (w.total_cost * greatest_cost T N.functions action.effect) + shares Cost w.by_name N action.pre)
measured T N w Width action = shares Width w.by_name N action.pre

-- the greatest that is accepted
abbrev pub limit_of : Measure → ℕ
limit_of Cost = weight_bound - 1
limit_of Width = width_limit

abbrev pub code_of : Measure → Code
code_of Cost = CostTooLarge
code_of Width = SplitTooWide

abbrev pub is_past : Task → Numbers → Weights → Measure → NumberedAction → Bool
is_past T N w measure action = nat_lt (limit_of measure) (measured T N w measure action)

-- at the name of the first action that passes the test
abbrev pub first_passing : (NumberedAction → Bool) → Code → Role → List Action → List NumberedAction → Option Refusal
first_passing test code role [] numbered = None
first_passing test code role (action ∷ actions) [] = None
first_passing test code role (action ∷ actions) (one ∷ others) = if test one then Some (refusal_at_word code role action.name) else first_passing test code role actions others

abbrev pub first_past : Task → Numbers → Weights → Measure → Role → List Action → List NumberedAction → Option Refusal
first_past T N w measure role actions numbered = first_passing (is_past T N w measure) (code_of measure) role actions numbered

abbrev pub HaveShortNames : List Action → Type 0
HaveShortNames actions = All (λ (action : Action). length action.name.name < 2 ^ 32) actions
