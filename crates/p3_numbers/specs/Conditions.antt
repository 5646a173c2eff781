-- Formulas with numbers: which one a named formula becomes, and where it holds.
use Rattle.std.specs.Prelude.{◌≡◌, ◌==◌, Bool, true, not, ◌&&◌, ◌++◌, map}
use Rattle.std.specs.List.{list_any, list_all}
use Rattle.p3_base.specs.Connectives.{◌implies◌}
use Rattle.p3_task.specs.Folds.{fold_formula}
use Rattle.p3_task.specs.Formulas.{holds}
use Rattle.p3_task.specs.Names.{has_name}
use Rattle.p3_task.specs.States.{State, has_fact}
use Rattle.p3_task.specs.declared.formula.Formula.{Formula}
use Rattle.p3_task.specs.declared.formula.Formula.TheOpen as formula
use Rattle.p3_task.specs.declared.task.Task.{Task}
use Rattle.p3_numbers.specs.Folds.{fold_condition}
use Rattle.p3_numbers.specs.Places.{Variables, number_in, numbered_term, numbered_terms, ranges_of, words_of, is_known_term, are_known_terms, are_known_types, Fills, environment_of}
use Rattle.p3_numbers.specs.Slots.{Slots, value_of, fact_at, bound}
use Rattle.p3_numbers.specs.declared.condition.NumberedCondition.{NumberedCondition, NumberedCondition-F}
use Rattle.p3_numbers.specs.declared.condition.NumberedCondition.TheVariants as condition
use Rattle.p3_numbers.specs.declared.condition.NumberedCondition.TheOpen as layer
use Rattle.p3_numbers.specs.declared.numbers.Numbers.{Numbers}

-- ---- where it holds: each part stands as its truth at the objects in the slots

abbrev pub met_layer : Numbers → State → NumberedCondition-F (Slots → Bool) → Slots → Bool
met_layer N s (layer.Atom predicate args) slots = has_fact s (fact_at N slots predicate args)
met_layer N s (layer.Equal left right) slots = value_of slots left == value_of slots right
met_layer N s (layer.And parts) slots = list_all (λ part. part slots) parts
met_layer N s (layer.Or parts) slots = list_any (λ part. part slots) parts
met_layer N s (layer.Not part) slots = not (part slots)
met_layer N s (layer.Imply first second) slots = first slots implies second slots
met_layer N s (layer.Exists ranges body) slots = list_any body (bound N slots ranges)
met_layer N s (layer.Forall ranges body) slots = list_all body (bound N slots ranges)

unfoldable pub met : Numbers → State → Slots → NumberedCondition → Bool
met N s slots condition = fold_condition (met_layer N s) condition slots

-- ---- the condition that a formula becomes under variables

abbrev pub condition_layer : Numbers → formula.Formula-F (Variables → NumberedCondition) → Variables → NumberedCondition
condition_layer N (formula.Atom pred args) scope = condition.Atom (number_in N.predicates pred.name) (numbered_terms N scope args)
condition_layer N (formula.Equal left right) scope = condition.Equal (numbered_term N scope left) (numbered_term N scope right)
condition_layer N (formula.And parts) scope = condition.And (map (λ part. part scope) parts)
condition_layer N (formula.Or parts) scope = condition.Or (map (λ part. part scope) parts)
condition_layer N (formula.Not part) scope = condition.Not (part scope)
condition_layer N (formula.Imply first second) scope = condition.Imply (first scope) (second scope)
condition_layer N (formula.Exists variables body) scope = condition.Exists (ranges_of N variables) (body (scope ++ words_of variables))
condition_layer N (formula.Forall variables body) scope = condition.Forall (ranges_of N variables) (body (scope ++ words_of variables))

unfoldable pub condition_of : Numbers → Formula → Variables → NumberedCondition
condition_of N tree = fold_formula (condition_layer N) tree

-- ---- whether each name in it has a number, and each variable a slot

abbrev pub known_formula_layer : Numbers → formula.Formula-F (Variables → Bool) → Variables → Bool
known_formula_layer N (formula.Atom pred args) scope = has_name N.predicates pred.name && are_known_terms N scope args
known_formula_layer N (formula.Equal left right) scope = is_known_term N scope left && is_known_term N scope right
known_formula_layer N (formula.And parts) scope = list_all (λ part. part scope) parts
known_formula_layer N (formula.Or parts) scope = list_all (λ part. part scope) parts
known_formula_layer N (formula.Not part) scope = part scope
known_formula_layer N (formula.Imply first second) scope = first scope && second scope
known_formula_layer N (formula.Exists variables body) scope = are_known_types N variables && body (scope ++ words_of variables)
known_formula_layer N (formula.Forall variables body) scope = are_known_types N variables && body (scope ++ words_of variables)

unfoldable pub is_known_formula : Numbers → Formula → Variables → Bool
is_known_formula N tree = fold_formula (known_formula_layer N) tree

-- ---- the law

-- the condition holds where the formula does
abbrev pub TruthIsKept : Task → Numbers → Type 0
TruthIsKept T N = (s : State) (tree : Formula) (scope : Variables) (slots : Slots) → Fills N scope slots → is_known_formula N tree scope ≡ true
    → met N s slots (condition_of N tree scope) ≡ holds T s (environment_of N scope slots) tree
