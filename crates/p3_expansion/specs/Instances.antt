-- The preferences of constraints and goals at objects, as instances over the visited states.
use Rattle.std.specs.Prelude.{◌≡◌, List, [], ◌∷◌, flat_map}
use Rattle.std.specs.List.{AllZip}
use Rattle.p3_base.specs.declared.operator.Operator.TheVariants as ground_modal
use Rattle.p3_formula.specs.declared.modal.GroundPref.{GroundPref}
use Rattle.p3_formula.specs.declared.modal.GroundSoft.{GroundSoft}
use Rattle.p3_numbers.specs.Constraints.{PlacedInstance, all_operators}
use Rattle.p3_numbers.specs.Goals.{PlacedPreference}
use Rattle.p3_numbers.specs.declared.constraint.NumberedConstraint.TheVariants.{Single}
use Rattle.p3_base.specs.declared.operator.Operator.TheVariants.{AtEnd}
use Rattle.p3_numbers.specs.declared.numbers.Numbers.{Numbers}
use Rattle.p3_expansion.specs.Atoms.{GroundAtom}
use Rattle.p3_expansion.specs.Operators.{operator_atoms, OperatorsStand}
use Rattle.p3_expansion.specs.Walks.{Pushes}
use Rattle.p3_expansion.specs.declared.statics.Statics.{Statics}
use Rattle.p3_expansion.specs.declared.work.Work.{Work}

-- the atoms of a preference
abbrev pub instance_atoms : Numbers → PlacedInstance → List GroundAtom
instance_atoms N instance = flat_map (operator_atoms N) (all_operators N instance.slots instance.body)

-- the same name, and its operators
pub record InstanceStands (N : Numbers) (S : Statics) (atoms : List GroundAtom) (meant : PlacedInstance) (made : GroundSoft) : Type 0 where
  pub name : made.name ≡ meant.name
  pub parts : OperatorsStand N S atoms (all_operators N meant.slots meant.body) made.parts

-- entry by entry
abbrev pub InstancesStand : Numbers → Statics → List GroundAtom → List PlacedInstance → List GroundSoft → Type 0
InstancesStand N S atoms meant made = AllZip (InstanceStands N S atoms) meant made

-- those instances behind the ones made before
abbrev pub PushesInstances : Numbers → Statics → List PlacedInstance → Work → Work → List GroundSoft → List GroundSoft → Type 0
PushesInstances N S meant old new before after = Pushes (InstancesStand N S) (flat_map (instance_atoms N) meant) old new meant before after

-- ---- preferences of the goal, which speak of the last state

abbrev pub at_end : PlacedPreference → PlacedInstance
at_end placed = record { at = placed.at; name = placed.name; body = Single (AtEnd placed.body); slots = placed.slots }

abbrev pub made_at_end : GroundPref → GroundSoft
made_at_end preference = record { name = preference.name; parts = ground_modal.AtEnd preference.body ∷ [] }
