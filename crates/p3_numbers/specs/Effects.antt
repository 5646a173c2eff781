-- Effects with numbers: what they add and delete, their literals, and their cost.
use Rattle.std.specs.Prelude.{◌≡◌, ℕ, Bool, true, false, ◌&&◌, List, [], ◌∷◌, ◌++◌, map, flat_map, if◌then◌else◌, Option, Some}
use Rattle.std.specs.List.{list_all}
use Rattle.p3_task.specs.Costs.{cost_units, given_value, total, effect_cost}
use Rattle.p3_task.specs.Effects.{adds, dels}
use Rattle.p3_task.specs.Folds as named
use Rattle.p3_task.specs.Formulas.{holds}
use Rattle.p3_task.specs.Literals as literal
use Rattle.p3_task.specs.Names.{has_name}
use Rattle.p3_task.specs.States.{State}
use Rattle.p3_task.specs.declared.state.Fact.{Fact}
use Rattle.p3_task.specs.declared.effect.Amount.{Amount}
use Rattle.p3_task.specs.declared.effect.Amount.TheVariants as amount
use Rattle.p3_task.specs.declared.effect.Effect.{Effect}
use Rattle.p3_task.specs.declared.effect.Effect.TheOpen as effect
use Rattle.p3_task.specs.declared.task.Task.{Task}
use Rattle.p3_numbers.specs.Conditions.{met, condition_of, is_known_formula}
use Rattle.p3_numbers.specs.Folds.{fold_effect}
use Rattle.p3_numbers.specs.Places.{Variables, number_in, numbered_terms, ranges_of, words_of, are_known_terms, are_known_types, Fills, environment_of}
use Rattle.p3_numbers.specs.Slots.{Slots, values_of, name_at, object_names, fact_at, bound}
use Rattle.p3_numbers.specs.declared.condition.NumberedCondition.{NumberedCondition}
use Rattle.p3_numbers.specs.declared.effect.NumberedAmount.{NumberedAmount}
use Rattle.p3_numbers.specs.declared.effect.NumberedAmount.TheVariants as numbered_amount
use Rattle.p3_numbers.specs.declared.effect.NumberedEffect.{NumberedEffect, NumberedEffect-F}
use Rattle.p3_numbers.specs.declared.effect.NumberedEffect.TheVariants as numbered_effect
use Rattle.p3_numbers.specs.declared.effect.NumberedEffect.TheOpen as layer
use Rattle.p3_numbers.specs.declared.numbers.Numbers.{Numbers}

-- ---- what it adds and deletes

-- the atoms of the literals that take place, where `added` and `deleted` say what an added and a deleted atom give
abbrev pub changes_layer : (Fact → List Fact) → (Fact → List Fact) → Numbers → State → NumberedEffect-F (Slots → List Fact) → Slots → List Fact
changes_layer added deleted N s (layer.Add predicate args) slots = added (fact_at N slots predicate args)
changes_layer added deleted N s (layer.Del predicate args) slots = deleted (fact_at N slots predicate args)
changes_layer added deleted N s (layer.All parts) slots = flat_map (λ part. part slots) parts
changes_layer added deleted N s (layer.Each ranges body) slots = flat_map body (bound N slots ranges)
changes_layer added deleted N s (layer.If condition body) slots = if met N s slots condition then body slots else []
changes_layer added deleted N s (layer.Cost increase) slots = []

abbrev pub added_layer : Numbers → State → NumberedEffect-F (Slots → List Fact) → Slots → List Fact
added_layer = changes_layer (λ fact. fact ∷ []) (λ fact. [])

abbrev pub deleted_layer : Numbers → State → NumberedEffect-F (Slots → List Fact) → Slots → List Fact
deleted_layer = changes_layer (λ fact. []) (λ fact. fact ∷ [])

unfoldable pub added : Numbers → State → Slots → NumberedEffect → List Fact
added N s slots tree = fold_effect (added_layer N s) tree slots

unfoldable pub deleted : Numbers → State → Slots → NumberedEffect → List Fact
deleted N s slots tree = fold_effect (deleted_layer N s) tree slots

-- ---- its literals

-- a condition at objects in the slots of its variables
pub record PlacedCondition : Type 0 where
  pub condition : NumberedCondition
  pub slots : Slots

-- a predicate at objects that is added or deleted, with the condition of each `when` above it, the outermost first
pub record NumberedLiteral : Type 0 where
  pub add : Bool
  pub predicate : ℕ
  pub objects : List ℕ
  pub conditions : List PlacedCondition

abbrev pub under : NumberedCondition → Slots → NumberedLiteral → NumberedLiteral
under condition slots literal = record literal { conditions = record { condition = condition; slots = slots } ∷ literal.conditions }

abbrev pub literals_layer : Numbers → NumberedEffect-F (Slots → List NumberedLiteral) → Slots → List NumberedLiteral
literals_layer N (layer.Add predicate args) slots = record { add = true; predicate = predicate; objects = values_of slots args; conditions = [] } ∷ []
literals_layer N (layer.Del predicate args) slots = record { add = false; predicate = predicate; objects = values_of slots args; conditions = [] } ∷ []
literals_layer N (layer.All parts) slots = flat_map (λ part. part slots) parts
literals_layer N (layer.Each ranges body) slots = flat_map body (bound N slots ranges)
literals_layer N (layer.If condition body) slots = map (under condition slots) (body slots)
literals_layer N (layer.Cost increase) slots = []

unfoldable pub numbered_literals : Numbers → Slots → NumberedEffect → List NumberedLiteral
numbered_literals N slots tree = fold_effect (literals_layer N) tree slots

-- ---- what it costs

-- the increases stand under `and` alone
abbrev pub increases_layer : NumberedEffect-F (List NumberedAmount) → List NumberedAmount
increases_layer (layer.Add predicate args) = []
increases_layer (layer.Del predicate args) = []
increases_layer (layer.All parts) = flat_map (λ part. part) parts
increases_layer (layer.Each ranges body) = []
increases_layer (layer.If condition body) = []
increases_layer (layer.Cost increase) = increase ∷ []

unfoldable pub numbered_increases : NumberedEffect → List NumberedAmount
numbered_increases tree = fold_effect increases_layer tree

-- in the units of the task's costs
abbrev pub value_at : Task → Numbers → Slots → NumberedAmount → Option ℕ
value_at T N slots (numbered_amount.Number numeral) = Some (cost_units T numeral)
value_at T N slots (numbered_amount.Value function args) = given_value T (name_at N.functions function) (object_names N (values_of slots args))

-- the sum, where each increase has a value
unfoldable pub cost_at : Task → Numbers → Slots → NumberedEffect → Option ℕ
cost_at T N slots tree = total (map (value_at T N slots) (numbered_increases tree))

-- ---- what an effect becomes under variables

abbrev pub amount_of : Numbers → Amount → Variables → NumberedAmount
amount_of N (amount.Number numeral) scope = numbered_amount.Number numeral
amount_of N (amount.Value function args) scope = numbered_amount.Value (number_in N.functions function.name) (numbered_terms N scope args)

abbrev pub effect_layer : Numbers → effect.Effect-F (Variables → NumberedEffect) → Variables → NumberedEffect
effect_layer N (effect.Add pred args) scope = numbered_effect.Add (number_in N.predicates pred.name) (numbered_terms N scope args)
effect_layer N (effect.Del pred args) scope = numbered_effect.Del (number_in N.predicates pred.name) (numbered_terms N scope args)
effect_layer N (effect.All parts) scope = numbered_effect.All (map (λ part. part scope) parts)
effect_layer N (effect.Each variables body) scope = numbered_effect.Each (ranges_of N variables) (body (scope ++ words_of variables))
effect_layer N (effect.If formula body) scope = numbered_effect.If (condition_of N formula scope) (body scope)
effect_layer N (effect.Cost at increase) scope = numbered_effect.Cost (amount_of N increase scope)

unfoldable pub effect_of : Numbers → Effect → Variables → NumberedEffect
effect_of N tree = named.fold_effect (effect_layer N) tree

-- ---- whether all in it is known

abbrev pub is_known_amount : Numbers → Amount → Variables → Bool
is_known_amount N (amount.Number numeral) scope = true
is_known_amount N (amount.Value function args) scope = has_name N.functions function.name && are_known_terms N scope args

abbrev pub known_effect_layer : Numbers → effect.Effect-F (Variables → Bool) → Variables → Bool
known_effect_layer N (effect.Add pred args) scope = has_name N.predicates pred.name && are_known_terms N scope args
known_effect_layer N (effect.Del pred args) scope = has_name N.predicates pred.name && are_known_terms N scope args
known_effect_layer N (effect.All parts) scope = list_all (λ part. part scope) parts
known_effect_layer N (effect.Each variables body) scope = are_known_types N variables && body (scope ++ words_of variables)
known_effect_layer N (effect.If formula body) scope = is_known_formula N formula scope && body scope
known_effect_layer N (effect.Cost at increase) scope = is_known_amount N increase scope

unfoldable pub is_known_effect : Numbers → Effect → Variables → Bool
is_known_effect N tree = named.fold_effect (known_effect_layer N) tree

-- ---- the laws

-- it adds the same atoms, and deletes the same, in the same order
abbrev pub AddsAreKept : Task → Numbers → Type 0
AddsAreKept T N = (s : State) (tree : Effect) (scope : Variables) (slots : Slots) → Fills N scope slots → is_known_effect N tree scope ≡ true
    → added N s slots (effect_of N tree scope) ≡ adds T s (environment_of N scope slots) tree

abbrev pub DeletesAreKept : Task → Numbers → Type 0
DeletesAreKept T N = (s : State) (tree : Effect) (scope : Variables) (slots : Slots) → Fills N scope slots → is_known_effect N tree scope ≡ true
    → deleted N s slots (effect_of N tree scope) ≡ dels T s (environment_of N scope slots) tree

-- what is seen of a literal: its atom, and where each condition above it holds
pub record LiteralMeaning : Type 0 where
  pub add : Bool
  pub fact : Fact
  pub conditions : List (State → Bool)

abbrev pub numbered_literal_meaning : Numbers → NumberedLiteral → LiteralMeaning
numbered_literal_meaning N literal = record {
  add = literal.add;
  fact = record { name = name_at N.predicates literal.predicate; args = object_names N literal.objects };
  conditions = map (λ (placed : PlacedCondition). λ s. met N s placed.slots placed.condition) literal.conditions;
}

abbrev pub literal_meaning : Task → literal.Literal → LiteralMeaning
literal_meaning T entry = record { add = entry.add; fact = entry.fact; conditions = map (λ (condition : literal.Condition). λ s. holds T s condition.env condition.formula) entry.conditions }

-- the literals are the same, in the same order
abbrev pub LiteralsAreKept : Task → Numbers → Type 0
LiteralsAreKept T N = (tree : Effect) (scope : Variables) (slots : Slots) → Fills N scope slots → is_known_effect N tree scope ≡ true
    → map (numbered_literal_meaning N) (numbered_literals N slots (effect_of N tree scope)) ≡ map (literal_meaning T) (literal.literals T (environment_of N scope slots) tree)

-- the cost is the same
abbrev pub CostIsKept : Task → Numbers → Type 0
CostIsKept T N = (tree : Effect) (scope : Variables) (slots : Slots) → Fills N scope slots → is_known_effect N tree scope ≡ true
    → cost_at T N slots (effect_of N tree scope) ≡ effect_cost T (environment_of N scope slots) tree
