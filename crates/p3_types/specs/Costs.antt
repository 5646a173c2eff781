-- The decimal places of a task's costs, and the greatest values of its functions, as one pass finds them.
use Rattle.std.specs.Prelude.{ℕ, ◌==◌, max, List, map, fold, if◌then◌else◌, Option}
use Rattle.std.specs.List.{range_with_len}
use Rattle.std.specs.Option.{option_map_or}
use Rattle.p3_task.specs.Costs.{increases, amount_numeral, value_numeral}
use Rattle.p3_task.specs.declared.effect.Amount.{Amount}
use Rattle.p3_task.specs.declared.effect.Effect.{Effect}
use Rattle.p3_task.specs.declared.effect.Numeral.{Numeral}
use Rattle.p3_task.specs.declared.task.Action.{Action}
use Rattle.p3_task.specs.declared.task.Init.{Init}
use Rattle.p3_numbers.specs.Units.{units_at}
use Rattle.p3_numbers.specs.declared.task.NumberedValue.{NumberedValue}

-- the greatest of the numbers that the items give, 0 where there is no item
abbrev pub most_of : {A : Type 0} → (A → ℕ) → List A → ℕ
most_of number items = fold (λ most item. max most (number item)) 0 items

-- ---- decimal places

-- 0 where there is no number
abbrev pub places_of : Option Numeral → ℕ
places_of number = option_map_or (λ (numeral : Numeral). numeral.places) number 0

abbrev pub amount_places : Amount → ℕ
amount_places amount = places_of (amount_numeral amount)

abbrev pub entry_places : Init → ℕ
entry_places entry = places_of (value_numeral entry)

-- the most places that an increase in the effect has
unfoldable pub effect_places : Effect → ℕ
effect_places effect = most_of amount_places (increases effect)

abbrev pub action_places : Action → ℕ
action_places action = effect_places action.effect.body

-- ---- values

-- the units that the value has, where it is of the function of that number
abbrev pub units_of : ℕ → ℕ → NumberedValue → ℕ
units_of places function value = if value.function == function then units_at places value.number else 0

-- the greatest of the function's values
abbrev pub greatest_of : ℕ → List NumberedValue → ℕ → ℕ
greatest_of places values function = most_of (units_of places function) values

-- those of so many functions
abbrev pub greatest_of_all : ℕ → List NumberedValue → ℕ → List ℕ
greatest_of_all places values functions = map (greatest_of places values) (range_with_len 0 functions)
