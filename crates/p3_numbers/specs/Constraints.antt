-- Trajectory constraints with numbers: their operators and their preferences.
use Rattle.std.specs.Prelude.{◌≡◌, ℕ, Bool, true, ◌&&◌, List, [], ◌∷◌, ◌++◌, map, flat_map, length, Option, option_map}
use Rattle.std.specs.List.{list_all}
use mathlib.Core.Former.{Count, one_more}
use Rattle.p3_task.specs.Constraints as named
use Rattle.p3_task.specs.Constraints.{HardModal, Instance}
use Rattle.p3_task.specs.Folds as fold
use Rattle.p3_task.specs.Formulas.{holds}
use Rattle.p3_task.specs.Names.{Name}
use Rattle.p3_task.specs.Plans.{state_at}
use Rattle.p3_task.specs.States.{State, Environment}
use Rattle.p3_task.specs.Modal.{Modal}
use Rattle.p3_base.specs.Operators as operator
use Rattle.p3_base.specs.Operators.{all, over}
use Rattle.p3_base.specs.declared.operator.Operator.{Operator}
use Rattle.p3_task.specs.declared.constraint.Constraint.{Constraint}
use Rattle.p3_task.specs.declared.constraint.Constraint.TheOpen as constraint
use Rattle.p3_task.specs.declared.formula.Formula.{Formula}
use Rattle.p3_task.specs.declared.task.Task.{Task}
use Rattle.p3_numbers.specs.Conditions.{met, condition_of, is_known_formula}
use Rattle.p3_numbers.specs.Folds.{fold_constraint}
use Rattle.p3_numbers.specs.Goals.{numbered_name, is_known_name}
use Rattle.p3_numbers.specs.Places.{Variables, number_in, ranges_of, words_of, are_known_types, Fills, environment_of}
use Rattle.p3_numbers.specs.Slots.{Slots, name_at, bound}
use Rattle.p3_numbers.specs.declared.condition.NumberedCondition.{NumberedCondition}
use Rattle.p3_numbers.specs.NumberedModal.{NumberedModal}
use Rattle.p3_numbers.specs.declared.constraint.NumberedConstraint.{NumberedConstraint, NumberedConstraint-F, Row_of-NumberedConstraint, end_of-NumberedConstraint, more_of-NumberedConstraint}
use Rattle.p3_numbers.specs.declared.constraint.NumberedConstraint.TheVariants as numbered_constraint
use Rattle.p3_numbers.specs.declared.constraint.NumberedConstraint.TheOpen as layer
use Rattle.p3_numbers.specs.declared.numbers.Numbers.{Numbers}

-- ---- its operators

-- an operator at objects in the slots of the variables outside it
pub record PlacedModal : Type 0 where
  pub modal : NumberedModal
  pub slots : Slots

-- the operators outside preferences
abbrev pub hard_layer : Numbers → NumberedConstraint-F (Slots → List PlacedModal) → Slots → List PlacedModal
hard_layer N (layer.Both parts) slots = flat_map (λ part. part slots) parts
hard_layer N (layer.Each ranges body) slots = flat_map body (bound N slots ranges)
hard_layer N (layer.Single modal) slots = record { modal = modal; slots = slots } ∷ []
hard_layer N (layer.Soft at name body) slots = []

unfoldable pub hard_operators : Numbers → Slots → NumberedConstraint → List PlacedModal
hard_operators N slots tree = fold_constraint (hard_layer N) tree slots

-- all operators, those within preferences too
abbrev pub operators_layer : Numbers → NumberedConstraint-F (Slots → List PlacedModal) → Slots → List PlacedModal
operators_layer N (layer.Both parts) slots = flat_map (λ part. part slots) parts
operators_layer N (layer.Each ranges body) slots = flat_map body (bound N slots ranges)
operators_layer N (layer.Single modal) slots = record { modal = modal; slots = slots } ∷ []
operators_layer N (layer.Soft at name body) slots = body slots

unfoldable pub all_operators : Numbers → Slots → NumberedConstraint → List PlacedModal
all_operators N slots tree = fold_constraint (operators_layer N) tree slots

-- ---- its preferences

-- a preference at objects in the slots of the variables outside it
pub record PlacedInstance : Type 0 where
  pub at : ℕ
  pub name : Option ℕ
  pub body : NumberedConstraint
  pub slots : Slots

abbrev pub one_numbered : {n : Count} → Row_of-NumberedConstraint (one_more n) → NumberedConstraint
one_numbered (more_of-NumberedConstraint constraint rest) = constraint

-- one for each preference and each choice of objects outside it
unfoldable mutual
  pub soft_instances : Numbers → NumberedConstraint → Slots → List PlacedInstance
  soft_instances N (numbered_constraint.Both' _ parts) slots = soft_instances_of_all N parts slots
  soft_instances N (numbered_constraint.Each' ranges _ body) slots = flat_map (soft_instances_of_one N body) (bound N slots ranges)
  soft_instances N (numbered_constraint.Single modal) slots = []
  soft_instances N (numbered_constraint.Soft' at name _ body) slots = record { at = at; name = name; body = one_numbered body; slots = slots } ∷ []

  pub soft_instances_of_all : Numbers → {n : Count} → Row_of-NumberedConstraint n → Slots → List PlacedInstance
  soft_instances_of_all N end_of-NumberedConstraint slots = []
  soft_instances_of_all N (more_of-NumberedConstraint constraint rest) slots = soft_instances N constraint slots ++ soft_instances_of_all N rest slots

  pub soft_instances_of_one : Numbers → {n : Count} → Row_of-NumberedConstraint (one_more n) → Slots → List PlacedInstance
  soft_instances_of_one N (more_of-NumberedConstraint constraint rest) slots = soft_instances N constraint slots

-- ---- what a constraint becomes under variables

abbrev pub modal_of : Numbers → Modal → Variables → NumberedModal
modal_of N modal scope = over (λ (formula : Formula). condition_of N formula scope) modal

abbrev pub constraint_layer : Numbers → constraint.Constraint-F (Variables → NumberedConstraint) → Variables → NumberedConstraint
constraint_layer N (constraint.Both parts) scope = numbered_constraint.Both (map (λ part. part scope) parts)
constraint_layer N (constraint.Each variables body) scope = numbered_constraint.Each (ranges_of N variables) (body (scope ++ words_of variables))
constraint_layer N (constraint.Single operator) scope = numbered_constraint.Single (modal_of N operator scope)
constraint_layer N (constraint.Soft at name body) scope = numbered_constraint.Soft at (numbered_name N name) (body scope)

unfoldable pub constraint_of : Numbers → Constraint → Variables → NumberedConstraint
constraint_of N tree = fold.fold_constraint (constraint_layer N) tree

-- ---- whether all in it is known

abbrev pub is_known_modal : Numbers → Modal → Variables → Bool
is_known_modal N modal scope = all (λ (formula : Formula). is_known_formula N formula scope) modal

abbrev pub known_constraint_layer : Numbers → constraint.Constraint-F (Variables → Bool) → Variables → Bool
known_constraint_layer N (constraint.Both parts) scope = list_all (λ part. part scope) parts
known_constraint_layer N (constraint.Each variables body) scope = are_known_types N variables && body (scope ++ words_of variables)
known_constraint_layer N (constraint.Single operator) scope = is_known_modal N operator scope
known_constraint_layer N (constraint.Soft at name body) scope = is_known_name N name && body scope

unfoldable pub is_known_constraint : Numbers → Constraint → Variables → Bool
is_known_constraint N tree = fold.fold_constraint (known_constraint_layer N) tree

-- ---- the laws

-- what is seen of an operator: which one it is, and where its formulas hold
abbrev pub ModalMeaning : Type 0
ModalMeaning = Operator (State → Bool)

abbrev pub test_at : Numbers → Slots → NumberedCondition → State → Bool
test_at N slots condition s = met N s slots condition

abbrev pub numbered_modal_meaning : Numbers → Slots → NumberedModal → ModalMeaning
numbered_modal_meaning N slots modal = over (test_at N slots) modal

abbrev pub placed_modal_meaning : Numbers → PlacedModal → ModalMeaning
placed_modal_meaning N placed = numbered_modal_meaning N placed.slots placed.modal

abbrev pub test_of : Task → Environment → Formula → State → Bool
test_of T env formula s = holds T s env formula

abbrev pub modal_meaning : Task → Environment → Modal → ModalMeaning
modal_meaning T env modal = over (test_of T env) modal

abbrev pub hard_modal_meaning : Task → HardModal → ModalMeaning
hard_modal_meaning T hard = modal_meaning T hard.env hard.modal

-- the hard operators are the same, in the same order
abbrev pub HardOperatorsAreKept : Task → Numbers → Type 0
HardOperatorsAreKept T N = (tree : Constraint) (scope : Variables) (slots : Slots) → Fills N scope slots → is_known_constraint N tree scope ≡ true
    → map (placed_modal_meaning N) (hard_operators N slots (constraint_of N tree scope)) ≡ map (hard_modal_meaning T) (named.hard_modals T (environment_of N scope slots) tree)

-- and so are all operators
abbrev pub OperatorsAreKept : Task → Numbers → Type 0
OperatorsAreKept T N = (tree : Constraint) (scope : Variables) (slots : Slots) → Fills N scope slots → is_known_constraint N tree scope ≡ true
    → map (placed_modal_meaning N) (all_operators N slots (constraint_of N tree scope)) ≡ map (hard_modal_meaning T) (named.operators T (environment_of N scope slots) tree)

-- whether the states meet it
abbrev pub is_met_by : List State → ModalMeaning → Bool
is_met_by W meaning = operator.is_satisfied (length W) (over (λ (holds : State → Bool) (i : ℕ). holds (state_at W i)) meaning)

-- a constraint is satisfied where all its operators are
abbrev pub is_satisfied : Numbers → List State → Slots → NumberedConstraint → Bool
is_satisfied N W slots tree = list_all (λ (placed : PlacedModal). is_met_by W (placed_modal_meaning N placed)) (all_operators N slots tree)

abbrev pub SatisfactionIsKept : Task → Numbers → Type 0
SatisfactionIsKept T N = (W : List State) (tree : Constraint) (scope : Variables) (slots : Slots) → Fills N scope slots → is_known_constraint N tree scope ≡ true
    → is_satisfied N W slots (constraint_of N tree scope) ≡ named.sat T W (environment_of N scope slots) tree

-- what is seen of a preference: its place, the number of its name and the name, and what its operators mean
pub record InstanceMeaning : Type 0 where
  pub at : ℕ
  pub number : Option ℕ
  pub name : Option Name
  pub operators : List ModalMeaning

abbrev pub placed_instance_meaning : Numbers → PlacedInstance → InstanceMeaning
placed_instance_meaning N soft = record { at = soft.at; number = soft.name; name = option_map (name_at N.preferences) soft.name; operators = map (placed_modal_meaning N) (all_operators N soft.slots soft.body) }

abbrev pub instance_meaning : Task → Numbers → Instance → InstanceMeaning
instance_meaning T N instance = record { at = instance.at; number = option_map (number_in N.preferences) instance.name; name = instance.name; operators = map (hard_modal_meaning T) (named.operators T instance.env instance.body) }

-- the instances of preferences are the same, in the same order
abbrev pub InstancesAreKept : Task → Numbers → Type 0
InstancesAreKept T N = (tree : Constraint) (scope : Variables) (slots : Slots) → Fills N scope slots → is_known_constraint N tree scope ≡ true
    → map (placed_instance_meaning N) (soft_instances N (constraint_of N tree scope) slots) ≡ map (instance_meaning T N) (named.instances_of T tree (environment_of N scope slots))
