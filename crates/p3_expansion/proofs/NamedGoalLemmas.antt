-- What stands for a goal holds where the precondition or goal does that it was made of.
use Rattle.std.proofs.Common.{◌∙◌, List, [], ◌∷◌, map, subst}
use Rattle.std.specs.List.{AllZip}
use Rattle.p3_formula.specs.declared.modal.GroundPref.{GroundPref}
use Rattle.p3_numbers.specs.Goals.{PlacedPreference, preferences, placed_preference_meaning, goal_of}
use Rattle.p3_numbers.specs.declared.numbers.Numbers.{Numbers}
use Rattle.p3_numbers.proofs.GoalLaws.{hard-means, preferences-mean}
use Rattle.p3_expansion.specs.Atoms.{GroundAtom}
use Rattle.p3_expansion.specs.NamedGoals.{HasPreference, HardPartsHold, PreferencesHold}
use Rattle.p3_expansion.specs.Preferences.{PreferencesStand}
use Rattle.p3_expansion.specs.declared.statics.Statics.{Statics}

pub hard-parts-hold : HardPartsHold
hard-parts-hold T N S atoms tree scope slots form ties fills known stands = λ s b settled tells. stands.truth s b settled tells ∙ hard-means T N ties s tree scope slots fills known

have-preferences : (N : Numbers) (S : Statics) (atoms : List GroundAtom) (meant : List PlacedPreference) (made : List GroundPref) → PreferencesStand N S atoms meant made → AllZip (HasPreference N S atoms) (map (placed_preference_meaning N) meant) made
have-preferences N S atoms [] [] all = tt
have-preferences N S atoms [] (one ∷ made) all = absurd all
have-preferences N S atoms (placed ∷ meant) [] all = absurd all
have-preferences N S atoms (placed ∷ meant) (one ∷ made) all = (record { name = all.0.name; body = all.0.body.truth }, have-preferences N S atoms meant made all.1)

pub preferences-hold : PreferencesHold
preferences-hold T N S atoms tree scope slots made ties fills known stand =
    subst (λ meant. AllZip (HasPreference N S atoms) meant made) (preferences-mean T N ties tree scope slots fills known) (have-preferences N S atoms (preferences N slots (goal_of N tree scope)) made stand)
