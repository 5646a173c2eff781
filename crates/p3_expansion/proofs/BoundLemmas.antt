-- The atoms of what is made lie below the count of atoms.
use Rattle.std.proofs.Common.{◌≡◌, nat_lt, true, List, [], ◌∷◌, length, refl, inl, inr}
use Rattle.std.specs.List.{list_all}
use Rattle.std.proofs.lemmas.Bool.{and_from, lt-ltb}
use Rattle.p3_formula.specs.Forms.{is_below, IsBelow}
use Rattle.p3_formula.specs.Modals.{is_modal_below}
use Rattle.p3_formula.specs.Targets.{is_sized_change}
use Rattle.p3_formula.specs.declared.form.Change.{Change}
use Rattle.p3_formula.specs.declared.form.Form.{Form}
use Rattle.p3_formula.specs.GroundModal.{GroundModal}
use Rattle.p3_formula.specs.declared.modal.GroundPref.{GroundPref}
use Rattle.p3_formula.specs.declared.modal.GroundSoft.{GroundSoft}
use Rattle.p3_numbers.specs.Constraints.{PlacedModal, PlacedInstance, all_operators}
use Rattle.p3_numbers.specs.Goals.{PlacedPreference}
use Rattle.p3_numbers.specs.declared.numbers.Numbers.{Numbers}
use Rattle.p3_expansion.specs.Atoms.{GroundAtom}
use Rattle.p3_expansion.specs.Bounds.{AreBounded}
use Rattle.p3_expansion.specs.Changes.{GuardedLiteral, ChangeStands, ChangesStand}
use Rattle.p3_expansion.specs.Expansions.{Stands, Allows}
use Rattle.p3_expansion.specs.Instances.{InstancesStand}
use Rattle.p3_expansion.specs.Meanings.{Meaning}
use Rattle.p3_expansion.specs.Operators.{OperatorsStand, operator_atoms}
use Rattle.p3_expansion.specs.Preferences.{PreferencesStand}
use Rattle.p3_expansion.specs.declared.statics.Statics.{Statics}
use Rattle.p3_expansion.proofs.NextLemmas.{within-get}

all-pass : (atoms : List GroundAtom) → list_all (λ atom. true) atoms ≡ true
all-pass [] = refl
all-pass (atom ∷ atoms) = all-pass atoms

module _ (N : Numbers) (S : Statics) (atoms : List GroundAtom) where
  numbers-below : Allows atoms (λ atom. true) (λ k. nat_lt k (length atoms))
  numbers-below = record { number = λ k atom here passes. lt-ltb k (length atoms) (within-get atoms k atom here) }

  form-below : (meaning : Meaning) (made : Form) → Stands N S atoms meaning made → IsBelow (length atoms) made
  form-below meaning made stands = stands.reads (λ atom. true) (λ k. nat_lt k (length atoms)) numbers-below (all-pass meaning.reads)

  prefs-below : (meant : List PlacedPreference) (made : List GroundPref) → PreferencesStand N S atoms meant made → list_all (λ (pref : GroundPref). is_below (length atoms) pref.body) made ≡ true
  prefs-below [] [] all = refl
  prefs-below [] (one ∷ made) all = absurd all
  prefs-below (placed ∷ meant) [] all = absurd all
  prefs-below (placed ∷ meant) (one ∷ made) all = and_from (is_below (length atoms) one.body) _ (form-below _ one.body all.0.body) (prefs-below meant made all.1)

  change-below : (meant : GuardedLiteral) (made : Change) → ChangeStands N S atoms meant made → is_sized_change (length atoms) made ≡ true
  change-below meant made stands = and_from (nat_lt made.atom (length atoms)) (is_below (length atoms) made.cond) (lt-ltb made.atom (length atoms) (within-get atoms made.atom meant.atom stands.atom)) (form-below meant.takes_place made.cond stands.cond)

  changes-below : (meant : List GuardedLiteral) (made : List Change) → ChangesStand N S atoms meant made → list_all (is_sized_change (length atoms)) made ≡ true
  changes-below [] [] stand = refl
  changes-below [] (change ∷ made) stand = absurd stand
  changes-below (literal ∷ meant) [] stand = refl
  changes-below (literal ∷ meant) (change ∷ made) (inl stand) = changes-below meant (change ∷ made) stand.1
  changes-below (literal ∷ meant) (change ∷ made) (inr stand) = and_from (is_sized_change (length atoms) change) _ (change-below literal change stand.0) (changes-below meant made stand.1)

  operators-below : (meant : List PlacedModal) (made : List GroundModal) → OperatorsStand N S atoms meant made → list_all (is_modal_below (length atoms)) made ≡ true
  operators-below [] [] all = refl
  operators-below [] (one ∷ made) all = absurd all
  operators-below (placed ∷ meant) [] all = absurd all
  operators-below (placed ∷ meant) (one ∷ made) all =
      and_from (is_modal_below (length atoms) one) _ (all.0.reads (λ atom. true) (λ k. nat_lt k (length atoms)) numbers-below (all-pass (operator_atoms N placed))) (operators-below meant made all.1)

  instances-below : (meant : List PlacedInstance) (made : List GroundSoft) → InstancesStand N S atoms meant made → list_all (λ (soft : GroundSoft). list_all (is_modal_below (length atoms)) soft.parts) made ≡ true
  instances-below [] [] all = refl
  instances-below [] (one ∷ made) all = absurd all
  instances-below (placed ∷ meant) [] all = absurd all
  instances-below (placed ∷ meant) (one ∷ made) all =
      and_from (list_all (is_modal_below (length atoms)) one.parts) _ (operators-below (all_operators N placed.slots placed.body) one.parts all.0.parts) (instances-below meant made all.1)

  pub are-bounded : AreBounded N S atoms
  are-bounded = record { form = form-below; prefs = prefs-below; changes = changes-below; operators = operators-below; instances = instances-below }
