-- Values that the initial state does not give, though the cost of a step reads them.
use Rattle.std.specs.Prelude.{◌≡◌, ℕ, not, List, [], ◌∷◌, filter_map, slice_get, if◌then◌else◌, Option, Some, None, is_some}
use Rattle.p3_task.specs.Costs.{effect_cost, given_value, increases}
use Rattle.p3_task.specs.States.{Environment, meanings}
use Rattle.p3_task.specs.declared.effect.Amount.{Amount}
use Rattle.p3_task.specs.declared.effect.Amount.TheVariants as amount
use Rattle.p3_task.specs.declared.effect.Effect.{Effect}
use Rattle.p3_task.specs.declared.state.Fact.{Fact}
use Rattle.p3_task.specs.declared.task.Task.{Task}
use Rattle.p3_numbers.specs.Effects.{numbered_increases}
use Rattle.p3_numbers.specs.Slots.{Slots, values_of, name_at, object_names}
use Rattle.p3_numbers.specs.declared.effect.NumberedAmount.{NumberedAmount}
use Rattle.p3_numbers.specs.declared.effect.NumberedAmount.TheVariants as numbered
use Rattle.p3_numbers.specs.declared.effect.NumberedEffect.{NumberedEffect}
use Rattle.p3_numbers.specs.declared.numbers.Numbers.{Numbers}
use Rattle.p3_numbers.specs.declared.task.NumberedValue.{NumberedValue}
use Rattle.p3_steps.specs.Costs.{given_at}

-- ---- by name

-- the function at objects that an amount reads, where no value is given to it
abbrev pub missing : Task → Environment → Amount → Option Fact
missing T env (amount.Number numeral) = None
missing T env (amount.Value function args) = if is_some (given_value T function.name (meanings env args)) then None else Some (record { name = function.name; args = meanings env args })

-- that of the first of the amounts
abbrev pub missing_value : Task → Environment → List Amount → Option Fact
missing_value T env amounts = slice_get (filter_map (missing T env) amounts) 0

-- there is one exactly where a step has no cost
abbrev pub MissingWhereNoCost : Type 0
MissingWhereNoCost = (T : Task) (env : Environment) (effect : Effect) → is_some (missing_value T env (increases effect)) ≡ not (is_some (effect_cost T env effect))

-- ---- by number

-- what the number of a function, and then those of objects, stand for
abbrev pub value_fact : Numbers → List ℕ → Fact
value_fact N [] = record { name = []; args = [] }
value_fact N (function ∷ objects) = record { name = name_at N.functions function; args = object_names N objects }

abbrev pub missing_at : ℕ → List NumberedValue → Slots → NumberedAmount → Option (List ℕ)
missing_at places values slots (numbered.Number numeral) = None
missing_at places values slots (numbered.Value function args) = if is_some (given_at places values function (values_of slots args)) then None else Some (function ∷ values_of slots args)

unfoldable pub first_missing : ℕ → List NumberedValue → Slots → NumberedEffect → Option (List ℕ)
first_missing places values slots effect = slice_get (filter_map (missing_at places values slots) (numbered_increases effect)) 0
