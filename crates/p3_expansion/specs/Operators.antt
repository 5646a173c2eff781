-- The operators of a constraint at objects, as ground operators.
use Rattle.std.specs.Prelude.{◌≡◌, ℕ, Bool, true, false, List, flat_map, IsTrue}
use Rattle.std.specs.List.{list_all, AllZip}
use Rattle.p3_task.specs.States.{State}
use Rattle.p3_formula.specs.Forms.{truth}
use Rattle.p3_formula.specs.Modals.{modal_has}
use Rattle.p3_base.specs.Operators.{formulas_of, Pairs}
use Rattle.p3_formula.specs.Tidy.{is_tidy}
use Rattle.p3_formula.specs.declared.form.Form.{Form}
use Rattle.p3_formula.specs.GroundModal.{GroundModal}
use Rattle.p3_numbers.specs.Constraints.{PlacedModal, ModalMeaning, placed_modal_meaning, hard_operators, all_operators}
use Rattle.p3_numbers.specs.Slots.{Slots}
use Rattle.p3_numbers.specs.declared.constraint.NumberedConstraint.{NumberedConstraint}
use Rattle.p3_numbers.specs.declared.numbers.Numbers.{Numbers}
use Rattle.p3_expansion.specs.Atoms.{GroundAtom}
use Rattle.p3_expansion.specs.Expansions.{Allows, Grows, Tells}
use Rattle.p3_expansion.specs.Meanings.{condition_atoms}
use Rattle.p3_expansion.specs.Statics.{IsSettled}
use Rattle.p3_expansion.specs.Walks.{Pushes}
use Rattle.p3_expansion.specs.declared.statics.Statics.{Statics}
use Rattle.p3_expansion.specs.declared.work.Work.{Work}

-- ---- atoms

-- the atoms of an operator
abbrev pub operator_atoms : Numbers → PlacedModal → List GroundAtom
operator_atoms N placed = flat_map (condition_atoms N placed.slots) (formulas_of placed.modal)

-- ---- operators

-- the form holds where the test says so, in the states that keep what no step changes
abbrev pub HasTruth : Numbers → Statics → List GroundAtom → (State → Bool) → Form → Type 0
HasTruth N S atoms test form = (s : State) (b : List Bool) → IsSettled N S s → Tells N atoms s b → truth b form ≡ test s

-- the same operator, whose forms hold where its tests say so
abbrev pub HasTruths : Numbers → Statics → List GroundAtom → ModalMeaning → GroundModal → Type 0
HasTruths N S atoms meaning modal = Pairs (HasTruth N S atoms) meaning modal

-- its tidy forms hold where the conditions do, and read no other atoms
pub record OperatorStands (N : Numbers) (S : Statics) (atoms : List GroundAtom) (meant : PlacedModal) (made : GroundModal) : Type 0 where
  pub truths : HasTruths N S atoms (placed_modal_meaning N meant) made
  pub reads : (passes : GroundAtom → Bool) (allowed : ℕ → Bool) → Allows atoms passes allowed → list_all passes (operator_atoms N meant) ≡ true → modal_has allowed made ≡ true
  pub tidy : IsTrue (list_all is_tidy (formulas_of made))

-- entry by entry
abbrev pub OperatorsStand : Numbers → Statics → List GroundAtom → List PlacedModal → List GroundModal → Type 0
OperatorsStand N S atoms meant made = AllZip (OperatorStands N S atoms) meant made

-- an operator at the objects in the slots, among the atoms and nodes that came
pub record MakesOperator (N : Numbers) (S : Statics) (meant : PlacedModal) (old new : Work) (made : GroundModal) : Type 0 where
  pub grows : Grows (operator_atoms N meant) old new
  pub stands : OperatorStands N S new.atoms meant made

-- all operators of a constraint, or else those outside preferences
abbrev pub operators_of : Numbers → Bool → Slots → NumberedConstraint → List PlacedModal
operators_of N true slots tree = all_operators N slots tree
operators_of N false slots tree = hard_operators N slots tree

-- those operators behind the ones made before
abbrev pub PushesOperators : Numbers → Statics → List PlacedModal → Work → Work → List GroundModal → List GroundModal → Type 0
PushesOperators N S meant old new before after = Pushes (OperatorsStand N S) (flat_map (operator_atoms N) meant) old new meant before after
