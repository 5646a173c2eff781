-- What a step costs (the action costs of the 2008 planning competition). Costs may have decimal places: they are counted in units of the smallest place that one of the task's costs has.
use Rattle.std.specs.Prelude.{ℕ, ◌+◌, ◌-◌, ◌*◌, ◌^◌, max, ◌&&◌, List, [], ◌∷◌, ◌++◌, map, filter_map, flat_map, fold, slice_get, if◌then◌else◌, Option, Some, None, option_map, unwrap_or}
use Rattle.p3_task.specs.Folds.{fold_effect}
use Rattle.p3_task.specs.Names.{Name, same_name, same_names, total_cost}
use Rattle.p3_task.specs.States.{Environment, meanings}
use Rattle.p3_task.specs.declared.effect.Numeral.{Numeral}
use Rattle.p3_task.specs.declared.effect.Amount.{Amount}
use Rattle.p3_task.specs.declared.effect.Amount.TheVariants as amount
use Rattle.p3_task.specs.declared.effect.Effect.{Effect}
use Rattle.p3_task.specs.declared.effect.Effect.TheOpen.{Effect-F, Add, Del, All, Each, If, Cost}
use Rattle.p3_task.specs.declared.task.Init.{Init}
use Rattle.p3_task.specs.declared.task.Init.TheVariants.{True, False, Value}
use Rattle.p3_task.specs.declared.task.Task.{Task}

-- ---- the numbers that are costs

-- the increases of an effect; they stand under `and` alone
abbrev pub increases_layer : Effect-F (List Amount) → List Amount
increases_layer (Add pred args) = []
increases_layer (Del pred args) = []
increases_layer (All parts) = flat_map (λ part. part) parts
increases_layer (Each variables body) = []
increases_layer (If condition body) = []
increases_layer (Cost at amount) = amount ∷ []

unfoldable pub increases : Effect → List Amount
increases effect = fold_effect increases_layer effect

abbrev pub amount_numeral : Amount → Option Numeral
amount_numeral (amount.Number numeral) = Some numeral
amount_numeral (amount.Value function args) = None

abbrev pub value_numeral : Init → Option Numeral
value_numeral (Value function args number) = Some number
value_numeral (True pred args) = None
value_numeral (False pred args) = None

-- the amounts of all increases that are numbers
abbrev pub amount_numerals : Task → List Numeral
amount_numerals T = flat_map (λ action. filter_map amount_numeral (increases action.effect.body)) T.domain.actions

-- all values that the initial state gives
abbrev pub value_numerals : Task → List Numeral
value_numerals T = filter_map value_numeral T.problem.init

abbrev pub most_places : List ℕ → ℕ
most_places places = fold max 0 places

-- the most decimal places that one of them has
unfoldable pub cost_places : Task → ℕ
cost_places T = most_places (map (λ (numeral : Numeral). numeral.places) (amount_numerals T ++ value_numerals T))

-- a number in units of the smallest of these places
abbrev pub cost_units : Task → Numeral → ℕ
cost_units T numeral = numeral.digits * 10 ^ (cost_places T - numeral.places)

-- ---- values, and what a step costs

-- the value that an entry gives to the function at the objects, if it does
abbrev pub entry_value : Task → Name → List Name → Init → Option ℕ
entry_value T function objects (Value other args number) = if same_name other.name function && same_names (meanings [] args) objects then Some (cost_units T number) else None
entry_value T function objects (True pred args) = None
entry_value T function objects (False pred args) = None

-- the value that the initial state gives to a function
unfoldable pub given_value : Task → Name → List Name → Option ℕ
given_value T function objects = slice_get (filter_map (entry_value T function objects) T.problem.init) 0

-- the total cost before the first step
abbrev pub initial_cost : Task → ℕ
initial_cost T = unwrap_or (given_value T total_cost []) 0

abbrev pub amount_value : Task → Environment → Amount → Option ℕ
amount_value T env (amount.Number numeral) = Some (cost_units T numeral)
amount_value T env (amount.Value function args) = given_value T function.name (meanings env args)

-- the sum, where each part has a value
abbrev pub total : List (Option ℕ) → Option ℕ
total [] = Some 0
total (None ∷ values) = None
total (Some value ∷ values) = option_map (λ rest. value + rest) (total values)

unfoldable pub effect_cost : Task → Environment → Effect → Option ℕ
effect_cost T env effect = total (map (amount_value T env) (increases effect))
