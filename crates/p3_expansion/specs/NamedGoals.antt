-- Goals at objects, in the terms of the preconditions and goals that they were made of.
use Rattle.std.specs.Prelude.{◌≡◌, true, List, map}
use Rattle.std.specs.List.{AllZip}
use Rattle.p3_task.specs.Goals.{hard_holds, prefs}
use Rattle.p3_task.specs.declared.goal.PreGoal.{PreGoal}
use Rattle.p3_task.specs.declared.task.Task.{Task}
use Rattle.p3_formula.specs.declared.form.Form.{Form}
use Rattle.p3_formula.specs.declared.modal.GroundPref.{GroundPref}
use Rattle.p3_numbers.specs.Goals.{PreferenceMeaning, preferences, preference_meaning, goal_of, is_known_goal}
use Rattle.p3_numbers.specs.Places.{IsNumbering, Variables, Fills, environment_of}
use Rattle.p3_numbers.specs.Slots.{Slots}
use Rattle.p3_numbers.specs.declared.numbers.Numbers.{Numbers}
use Rattle.p3_expansion.specs.Atoms.{GroundAtom}
use Rattle.p3_expansion.specs.Expansions.{Stands}
use Rattle.p3_expansion.specs.Hard.{hard_meaning}
use Rattle.p3_expansion.specs.Operators.{HasTruth}
use Rattle.p3_expansion.specs.Preferences.{PreferencesStand}
use Rattle.p3_expansion.specs.declared.statics.Statics.{Statics}

-- the number of the name, and a form that holds where what is preferred does
pub record HasPreference (N : Numbers) (S : Statics) (atoms : List GroundAtom) (meant : PreferenceMeaning) (made : GroundPref) : Type 0 where
  pub name : made.name ≡ meant.number
  pub body : HasTruth N S atoms meant.holds made.body

-- a form that stands for the hard part holds where the precondition or goal does
abbrev pub HardPartsHold : Type 0
HardPartsHold = (T : Task) (N : Numbers) (S : Statics) (atoms : List GroundAtom) (tree : PreGoal) (scope : Variables) (slots : Slots) (form : Form) → IsNumbering T N → Fills N scope slots → is_known_goal N tree scope ≡ true
    → Stands N S atoms (hard_meaning N slots (goal_of N tree scope)) form → HasTruth N S atoms (λ s. hard_holds T s (environment_of N scope slots) tree) form

-- and so do those that stand for its preferences, entry by entry
abbrev pub PreferencesHold : Type 0
PreferencesHold = (T : Task) (N : Numbers) (S : Statics) (atoms : List GroundAtom) (tree : PreGoal) (scope : Variables) (slots : Slots) (made : List GroundPref) → IsNumbering T N → Fills N scope slots → is_known_goal N tree scope ≡ true
    → PreferencesStand N S atoms (preferences N slots (goal_of N tree scope)) made → AllZip (HasPreference N S atoms) (map (preference_meaning T N) (prefs T (environment_of N scope slots) tree)) made
