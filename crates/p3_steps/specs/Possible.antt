-- What may be so where all objects are chosen, or some are still to be: what no step changes is known as soon as its objects are chosen.
use Rattle.std.specs.Prelude.{◌≡◌, ◌==◌, ℕ, nat_lt, Bool, true, false, not, ◌&&◌, ◌||◌, List, [], ◌∷◌, ◌++◌, length, flat_map, bytes_eq, if◌then◌else◌}
use Rattle.std.specs.List.{list_any, list_all}
use Rattle.p3_task.specs.States.{State}
use Rattle.p3_numbers.specs.Conditions.{met}
use Rattle.p3_numbers.specs.Folds.{fold_condition, fold_goal}
use Rattle.p3_numbers.specs.Goals.{hard_met}
use Rattle.p3_numbers.specs.Slots.{Slots, value_of, bound}
use Rattle.p3_numbers.specs.declared.condition.NumberedArgument.{NumberedArgument}
use Rattle.p3_numbers.specs.declared.condition.NumberedArgument.TheVariants.{Slot, Object}
use Rattle.p3_numbers.specs.declared.condition.NumberedCondition.{NumberedCondition, NumberedCondition-F}
use Rattle.p3_numbers.specs.declared.condition.NumberedCondition.TheOpen as layer
use Rattle.p3_numbers.specs.declared.goal.NumberedGoal.{NumberedGoal, NumberedGoal-F}
use Rattle.p3_numbers.specs.declared.goal.NumberedGoal.TheOpen as goal_layer
use Rattle.p3_numbers.specs.declared.numbers.Numbers.{Numbers}
use Rattle.p3_expansion.specs.Atoms.{GroundAtom, atom_at}
use Rattle.p3_expansion.specs.Meanings.{each_or_some, both_or_one}
use Rattle.p3_expansion.specs.Statics.{IsSettled, is_decided}
use Rattle.p3_expansion.specs.declared.statics.Statics.{Statics}

-- ---- arguments whose objects are chosen: the slots are those of the first variables

abbrev pub is_chosen : Slots → NumberedArgument → Bool
is_chosen slots (Slot place) = nat_lt place (length slots)
is_chosen slots (Object number) = true

abbrev pub are_chosen : Slots → List NumberedArgument → Bool
are_chosen slots args = list_all (is_chosen slots) args

-- the objects are chosen, and no step changes the atom
abbrev pub is_known : Numbers → Statics → Slots → ℕ → List NumberedArgument → Bool
is_known N S slots predicate args = are_chosen slots args && is_decided N S (atom_at slots predicate args)

abbrev pub is_at_start : Statics → GroundAtom → Bool
is_at_start S atom = list_any (bytes_eq atom) S.facts

-- ---- whether something may have a truth: it is not known to have the other one

abbrev pub has_truth : Bool → Bool → Bool
has_truth true truth = truth
has_truth false truth = not truth

abbrev pub atom_may : Numbers → Statics → Slots → ℕ → List NumberedArgument → Bool → Bool
atom_may N S slots predicate args wish = not (is_known N S slots predicate args) || has_truth wish (is_at_start S (atom_at slots predicate args))

abbrev pub equality_may : Slots → NumberedArgument → NumberedArgument → Bool → Bool
equality_may slots left right wish = not (is_chosen slots left && is_chosen slots right) || has_truth wish (value_of slots left == value_of slots right)

-- what stands under a quantifier may have it at each choice of objects, or else at some; before the objects of all variables outside are chosen, those inside are not, and there may be none
abbrev pub bodies_may : Numbers → Bool → Bool → (Slots → Bool) → Slots → List ℕ → Bool
bodies_may N true every body slots ranges = each_or_some every body (bound N slots ranges)
bodies_may N false every body slots ranges = every || body slots

abbrev pub may_layer : Numbers → Statics → Bool → NumberedCondition-F (Slots → Bool → Bool) → Slots → Bool → Bool
may_layer N S whole (layer.Atom predicate args) slots wish = atom_may N S slots predicate args wish
may_layer N S whole (layer.Equal left right) slots wish = equality_may slots left right wish
may_layer N S whole (layer.And parts) slots wish = each_or_some wish (λ part. part slots wish) parts
may_layer N S whole (layer.Or parts) slots wish = each_or_some (not wish) (λ part. part slots wish) parts
may_layer N S whole (layer.Not part) slots wish = part slots (not wish)
may_layer N S whole (layer.Imply first second) slots wish = both_or_one (not wish) (first slots (not wish)) (second slots wish)
may_layer N S whole (layer.Exists ranges body) slots wish = bodies_may N whole (not wish) (λ inner. body inner wish) slots ranges
may_layer N S whole (layer.Forall ranges body) slots wish = bodies_may N whole wish (λ inner. body inner wish) slots ranges

-- the condition may have the truth, where the slots have the whole of the variables outside it or the first of them
unfoldable pub condition_may : Numbers → Statics → Bool → Slots → NumberedCondition → Bool → Bool
condition_may N S whole slots condition wish = fold_condition (may_layer N S whole) condition slots wish

abbrev pub goal_may_layer : Numbers → Statics → Bool → NumberedGoal-F (Slots → Bool) → Slots → Bool
goal_may_layer N S whole (goal_layer.Plain condition) slots = condition_may N S whole slots condition true
goal_may_layer N S whole (goal_layer.Both parts) slots = list_all (λ part. part slots) parts
goal_may_layer N S whole (goal_layer.Each ranges body) slots = bodies_may N whole true body slots ranges
goal_may_layer N S whole (goal_layer.Soft preference) slots = true

-- the hard part of a precondition may hold
unfoldable pub goal_may : Numbers → Statics → Bool → Slots → NumberedGoal → Bool
goal_may N S whole slots goal = fold_goal (goal_may_layer N S whole) goal slots

-- where the objects of all variables outside are chosen
abbrev pub may_be : Numbers → Statics → Slots → NumberedCondition → Bool → Bool
may_be N S slots condition wish = condition_may N S true slots condition wish

abbrev pub may_begin : Numbers → Statics → Slots → NumberedGoal → Bool
may_begin N S slots goal = goal_may N S true slots goal

-- where some are still to be chosen
abbrev pub may_yet_be : Numbers → Statics → Slots → NumberedCondition → Bool → Bool
may_yet_be N S slots condition wish = condition_may N S false slots condition wish

abbrev pub may_yet_begin : Numbers → Statics → Slots → NumberedGoal → Bool
may_yet_begin N S slots goal = goal_may N S false slots goal

-- ---- the atoms that `and` alone joins and whose objects are chosen

abbrev pub joined_atoms_layer : Slots → NumberedCondition-F (List GroundAtom) → List GroundAtom
joined_atoms_layer slots (layer.Atom predicate args) = if are_chosen slots args then atom_at slots predicate args ∷ [] else []
joined_atoms_layer slots (layer.Equal left right) = []
joined_atoms_layer slots (layer.And parts) = flat_map (λ part. part) parts
joined_atoms_layer slots (layer.Or parts) = []
joined_atoms_layer slots (layer.Not part) = []
joined_atoms_layer slots (layer.Imply first second) = []
joined_atoms_layer slots (layer.Exists ranges body) = []
joined_atoms_layer slots (layer.Forall ranges body) = []

unfoldable pub joined_atoms : Slots → NumberedCondition → List GroundAtom
joined_atoms slots condition = fold_condition (joined_atoms_layer slots) condition

abbrev pub goal_joined_layer : Slots → NumberedGoal-F (List GroundAtom) → List GroundAtom
goal_joined_layer slots (goal_layer.Plain condition) = joined_atoms slots condition
goal_joined_layer slots (goal_layer.Both parts) = flat_map (λ part. part) parts
goal_joined_layer slots (goal_layer.Each ranges body) = []
goal_joined_layer slots (goal_layer.Soft preference) = []

unfoldable pub goal_joined_atoms : Slots → NumberedGoal → List GroundAtom
goal_joined_atoms slots goal = fold_goal (goal_joined_layer slots) goal

-- a step may change the atom, or it holds at the start
abbrev pub is_possible : Numbers → Statics → GroundAtom → Bool
is_possible N S atom = not (is_decided N S atom) || is_at_start S atom

-- ---- the laws

-- what holds in a state where all that no step changes is as at the start is possible
abbrev pub MayBeWhereMet : Type 0
MayBeWhereMet = (N : Numbers) (S : Statics) (s : State) → IsSettled N S s → (slots : Slots) (condition : NumberedCondition) (wish : Bool)
    → met N s slots condition ≡ wish → may_be N S slots condition wish ≡ true

abbrev pub MayBeginWhereMet : Type 0
MayBeginWhereMet = (N : Numbers) (S : Statics) (s : State) → IsSettled N S s → (slots : Slots) (goal : NumberedGoal)
    → hard_met N s slots goal ≡ true → may_begin N S slots goal ≡ true

-- what is possible was so before all objects were chosen
abbrev pub MayBeWhereYet : Type 0
MayBeWhereYet = (N : Numbers) (S : Statics) (slots rest : Slots) (condition : NumberedCondition) (wish : Bool) → may_be N S (slots ++ rest) condition wish ≡ true → may_yet_be N S slots condition wish ≡ true

abbrev pub MayBeginWhereYet : Type 0
MayBeginWhereYet = (N : Numbers) (S : Statics) (slots rest : Slots) (goal : NumberedGoal) → may_begin N S (slots ++ rest) goal ≡ true → may_yet_begin N S slots goal ≡ true

-- what `and` alone joins in what may begin is possible
abbrev pub JoinedArePossible : Type 0
JoinedArePossible = (N : Numbers) (S : Statics) (slots : Slots) (goal : NumberedGoal) → may_begin N S slots goal ≡ true → list_all (is_possible N S) (goal_joined_atoms slots goal) ≡ true
