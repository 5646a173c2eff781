-- The preferences of a goal at objects, as ground preferences.
use Rattle.std.specs.Prelude.{◌≡◌, List, flat_map, IsTrue}
use Rattle.std.specs.List.{AllZip}
use Rattle.p3_formula.specs.Tidy.{is_tidy}
use Rattle.p3_formula.specs.declared.modal.GroundPref.{GroundPref}
use Rattle.p3_numbers.specs.Goals.{PlacedPreference, preferences}
use Rattle.p3_numbers.specs.Slots.{Slots}
use Rattle.p3_numbers.specs.declared.goal.NumberedGoal.{NumberedGoal}
use Rattle.p3_numbers.specs.declared.numbers.Numbers.{Numbers}
use Rattle.p3_expansion.specs.Atoms.{GroundAtom}
use Rattle.p3_expansion.specs.Expansions.{Stands}
use Rattle.p3_expansion.specs.Meanings.{condition_atoms, condition_meaning}
use Rattle.p3_expansion.specs.declared.statics.Statics.{Statics}

-- the atoms of its preferences
unfoldable pub preference_atoms : Numbers → Slots → NumberedGoal → List GroundAtom
preference_atoms N slots tree = flat_map (λ (placed : PlacedPreference). condition_atoms N placed.slots placed.body) (preferences N slots tree)

-- the same name, and a tidy form of what is preferred
pub record PreferenceStands (N : Numbers) (S : Statics) (atoms : List GroundAtom) (meant : PlacedPreference) (made : GroundPref) : Type 0 where
  pub name : made.name ≡ meant.name
  pub body : Stands N S atoms (condition_meaning N meant.slots meant.body) made.body
  pub tidy : IsTrue (is_tidy made.body)

-- entry by entry
abbrev pub PreferencesStand : Numbers → Statics → List GroundAtom → List PlacedPreference → List GroundPref → Type 0
PreferencesStand N S atoms meant made = AllZip (PreferenceStands N S atoms) meant made
