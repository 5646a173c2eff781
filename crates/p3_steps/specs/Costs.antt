-- What steps cost, by numbers: amounts, and the values that the initial state gives, in units.
use Rattle.std.specs.Prelude.{◌≡◌, ℕ, ◌==◌, Bool, true, ◌&&◌, List, ◌∷◌, map, filter_map, slice_get, if◌then◌else◌, Option, Some, None, bytes_eq}
use Rattle.std.specs.Option.{option_or}
use Rattle.std.specs.HashMap.{HashMap, get}
use denote.Ref.{Bor}
use Rattle.p3_task.specs.Costs.{cost_places, effect_cost, total}
use Rattle.p3_task.specs.Offences.{WellFormed}
use Rattle.p3_task.specs.declared.effect.Effect.{Effect}
use Rattle.p3_task.specs.declared.task.Task.{Task}
use Rattle.p3_numbers.specs.Effects.{effect_of, is_known_effect, numbered_increases}
use Rattle.p3_numbers.specs.Places.{Variables, Fills, environment_of}
use Rattle.p3_numbers.specs.Slots.{Slots, values_of}
use Rattle.p3_numbers.specs.Tasks.{IsNumberedTask}
use Rattle.p3_numbers.specs.Units.{units_at}
use Rattle.p3_numbers.specs.declared.effect.NumberedAmount.{NumberedAmount}
use Rattle.p3_numbers.specs.declared.effect.NumberedAmount.TheVariants.{Number, Value}
use Rattle.p3_numbers.specs.declared.effect.NumberedEffect.{NumberedEffect}
use Rattle.p3_numbers.specs.declared.task.NumberedTask.{NumberedTask}
use Rattle.p3_numbers.specs.declared.task.NumberedValue.{NumberedValue}

-- ---- values

-- the units that the value gives to the function at the objects, if it does
abbrev pub units_given : ℕ → ℕ → List ℕ → NumberedValue → Option ℕ
units_given places function objects value = if value.function == function && bytes_eq value.objects objects then Some (units_at places value.number) else None

-- the first of the values that the function has at the objects
abbrev pub given_at : ℕ → List NumberedValue → ℕ → List ℕ → Option ℕ
given_at places values function objects = slice_get (filter_map (units_given places function objects) values) 0

-- ---- costs

abbrev pub amount_at : ℕ → List NumberedValue → Slots → NumberedAmount → Option ℕ
amount_at places values slots (Number numeral) = Some (units_at places numeral)
amount_at places values slots (Value function args) = given_at places values function (values_of slots args)

-- the sum of an effect's increases, where each has a value
unfoldable pub cost_of : ℕ → List NumberedValue → Slots → NumberedEffect → Option ℕ
cost_of places values slots effect = total (map (amount_at places values slots) (numbered_increases effect))

-- ---- a table of values

-- a function that is given a value, and its objects
abbrev pub numbers_in : NumberedValue → List ℕ
numbers_in value = value.function ∷ value.objects

abbrev pub Key : Type 0
Key = ℕ × Bor (List ℕ)

abbrev pub is_same_key : Key → Key → Bool
is_same_key first second = first.0 == second.0 && bytes_eq first.1.now second.1.now

abbrev pub key : ℕ → List ℕ → Key
key function objects = (function, record { ref_ptr = (0, 0); now = objects })

-- what the table has for the function at the objects
unfoldable pub entry_at : {S : Type 0} → HashMap Key ℕ S → ℕ → List ℕ → Option ℕ
entry_at table function objects = get is_same_key table (key function objects)

-- the table has the first of these values for each function and objects
abbrev pub HasValues : {S : Type 0} → ℕ → List NumberedValue → HashMap Key ℕ S → Type 0
HasValues places values table = (function : ℕ) (objects : List ℕ) → entry_at table function objects ≡ given_at places values function objects

-- one value more, where the table has none for its function and objects
abbrev pub AddsValue : {S : Type 0} → ℕ → HashMap Key ℕ S → NumberedValue → HashMap Key ℕ S → Type 0
AddsValue places old value new = (function : ℕ) (objects : List ℕ) → entry_at new function objects ≡ option_or (entry_at old function objects) (units_given places function objects value)

-- ---- the law

-- an effect costs by numbers what it costs by names
abbrev pub CostsByNumber : Type 0
CostsByNumber = (T : Task) (X : NumberedTask) → WellFormed T → IsNumberedTask T X → (tree : Effect) (scope : Variables) (slots : Slots)
    → Fills X.numbers scope slots → is_known_effect X.numbers tree scope ≡ true
    → cost_of (cost_places T) X.values slots (effect_of X.numbers tree scope) ≡ effect_cost T (environment_of X.numbers scope slots) tree
