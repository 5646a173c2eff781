-- The atoms of what is made lie below the count of atoms.
use Rattle.std.specs.Prelude.{List, length, IsTrue}
use Rattle.std.specs.List.{list_all}
use Rattle.p3_formula.specs.Forms.{is_below, IsBelow}
use Rattle.p3_formula.specs.Modals.{is_modal_below}
use Rattle.p3_formula.specs.Targets.{is_sized_change}
use Rattle.p3_formula.specs.declared.form.Change.{Change}
use Rattle.p3_formula.specs.declared.form.Form.{Form}
use Rattle.p3_formula.specs.GroundModal.{GroundModal}
use Rattle.p3_formula.specs.declared.modal.GroundPref.{GroundPref}
use Rattle.p3_formula.specs.declared.modal.GroundSoft.{GroundSoft}
use Rattle.p3_numbers.specs.Constraints.{PlacedModal, PlacedInstance}
use Rattle.p3_numbers.specs.Goals.{PlacedPreference}
use Rattle.p3_numbers.specs.declared.numbers.Numbers.{Numbers}
use Rattle.p3_expansion.specs.Atoms.{GroundAtom}
use Rattle.p3_expansion.specs.Changes.{GuardedLiteral, ChangesStand}
use Rattle.p3_expansion.specs.Expansions.{Stands}
use Rattle.p3_expansion.specs.Instances.{InstancesStand}
use Rattle.p3_expansion.specs.Meanings.{Meaning}
use Rattle.p3_expansion.specs.Operators.{OperatorsStand}
use Rattle.p3_expansion.specs.Preferences.{PreferencesStand}
use Rattle.p3_expansion.specs.declared.statics.Statics.{Statics}

-- so it is of forms, preferences, changes, operators and instances that stand for something
pub record AreBounded (N : Numbers) (S : Statics) (atoms : List GroundAtom) : Type 0 where
  pub form : (meaning : Meaning) (made : Form) → Stands N S atoms meaning made → IsBelow (length atoms) made
  pub prefs : (meant : List PlacedPreference) (made : List GroundPref) → PreferencesStand N S atoms meant made → IsTrue (list_all (λ (pref : GroundPref). is_below (length atoms) pref.body) made)
  pub changes : (meant : List GuardedLiteral) (made : List Change) → ChangesStand N S atoms meant made → IsTrue (list_all (is_sized_change (length atoms)) made)
  pub operators : (meant : List PlacedModal) (made : List GroundModal) → OperatorsStand N S atoms meant made → IsTrue (list_all (is_modal_below (length atoms)) made)
  pub instances : (meant : List PlacedInstance) (made : List GroundSoft) → InstancesStand N S atoms meant made → IsTrue (list_all (λ (soft : GroundSoft). list_all (is_modal_below (length atoms)) soft.parts) made)
