-- The preferences of a goal that is built of given parts.
use Rattle.std.proofs.Common.{◌≡◌, ◌∙◌, ℕ, List, [], ◌∷◌, ◌++◌, refl, sym, ap, subst}
use Rattle.std.specs.Prelude.{flat_map}
use Rattle.std.proofs.lemmas.List.{append-nil}
use Rattle.p3_formula.specs.declared.modal.GroundPref.{GroundPref}
use Rattle.p3_numbers.specs.Goals.{PlacedPreference, preferences}
use Rattle.p3_numbers.specs.Slots.{Slots, bound}
use Rattle.p3_numbers.specs.declared.condition.NumberedCondition.{NumberedCondition}
use Rattle.p3_numbers.specs.declared.goal.NumberedGoal.{NumberedGoal}
use Rattle.p3_numbers.specs.declared.goal.NumberedGoal.TheVariants.{Plain, Both, Each, Soft}
use Rattle.p3_numbers.specs.declared.goal.NumberedPreference.{NumberedPreference}
use Rattle.p3_numbers.specs.declared.numbers.Numbers.{Numbers}
use Rattle.p3_numbers.proofs.GoalLemmas.{preferences-Both, preferences-Each}
use Rattle.p3_expansion.specs.Atoms.{GroundAtom, Keeps}
use Rattle.p3_expansion.specs.Forms.{Makes}
use Rattle.p3_expansion.specs.Meanings.{condition_atoms, condition_meaning}
use Rattle.p3_expansion.specs.Preferences.{preference_atoms, PreferenceStands, PreferencesStand}
use Rattle.p3_expansion.specs.Walks.{Pushes}
use Rattle.p3_expansion.specs.declared.statics.Statics.{Statics}
use Rattle.p3_expansion.specs.declared.work.Work.{Work}
use Rattle.p3_expansion.proofs.ExpansionLemmas.{stands-grows}
use Rattle.p3_expansion.proofs.WalkLemmas.{flat-flat, pushes-by, zip-weaker, zip-push}

abbrev placed-atoms : Numbers → PlacedPreference → List GroundAtom
placed-atoms N placed = condition_atoms N placed.slots placed.body

module _ (N : Numbers) (slots : Slots) where
  pub preferences-Plain : (condition : NumberedCondition) → preferences N slots (Plain condition) ≡ []
  unfolding preferences
  preferences-Plain condition = refl

  pub atoms-Plain : (condition : NumberedCondition) → preference_atoms N slots (Plain condition) ≡ []
  unfolding preference_atoms preferences
  atoms-Plain condition = refl

  preferences-Soft : (preference : NumberedPreference) → preferences N slots (Soft preference) ≡ record { at = preference.at; name = preference.name; body = preference.body; slots = slots } ∷ []
  unfolding preferences
  preferences-Soft preference = refl

  pub atoms-Soft : (preference : NumberedPreference) → preference_atoms N slots (Soft preference) ≡ condition_atoms N slots preference.body
  unfolding preference_atoms
  atoms-Soft preference = ap (flat_map (placed-atoms N)) (preferences-Soft preference) ∙ append-nil (condition_atoms N slots preference.body)

  pub atoms-Both : (parts : List NumberedGoal) → preference_atoms N slots (Both parts) ≡ flat_map (preference_atoms N slots) parts
  unfolding preference_atoms
  atoms-Both parts = ap (flat_map (placed-atoms N)) (preferences-Both N slots parts) ∙ flat-flat (placed-atoms N) (preferences N slots) parts

  pub atoms-Each : (ranges : List ℕ) (body : NumberedGoal) → preference_atoms N slots (Each ranges body) ≡ flat_map (λ inner. preference_atoms N inner body) (bound N slots ranges)
  unfolding preference_atoms
  atoms-Each ranges body = ap (flat_map (placed-atoms N)) (preferences-Each N slots ranges body) ∙ flat-flat (placed-atoms N) (λ inner. preferences N inner body) (bound N slots ranges)

  module _ (S : Statics) where
    pub stand-keeps : (old new : List GroundAtom) → Keeps old new → (meant : List PlacedPreference) (made : List GroundPref) → PreferencesStand N S old meant made → PreferencesStand N S new meant made
    stand-keeps old new keeps meant made stand =
        zip-weaker (PreferenceStands N S old) (PreferenceStands N S new)
        (λ m a one. record { name = one.name; body = stands-grows N S old new (condition_meaning N m.slots m.body) a.body keeps one.body; tidy = one.tidy }) meant made stand

    pub pushes-preference : (old new : Work) (preference : NumberedPreference) (before after : List GroundPref) (made : GroundPref) → Makes N S old new (condition_meaning N slots preference.body) made.body → made.name ≡ preference.name → after ≡ before ++ made ∷ []
        → Pushes (PreferencesStand N S) (preference_atoms N slots (Soft preference)) old new (preferences N slots (Soft preference)) before after
    pushes-preference old new preference before after made makes named is =
        let placed : PlacedPreference = record { at = preference.at; name = preference.name; body = preference.body; slots = slots } in
        pushes-by (PreferencesStand N S) (preference_atoms N slots (Soft preference)) (condition_atoms N slots preference.body) old new (preferences N slots (Soft preference)) (placed ∷ []) before after (atoms-Soft preference) (preferences-Soft preference) (record {
          grows = makes.grows;
          made = λ those stand.
              subst (PreferencesStand N S new.atoms (those ++ placed ∷ [])) (sym is)
              (zip-push (PreferenceStands N S new.atoms) those before placed made (stand-keeps old.atoms new.atoms makes.grows.atoms those before stand) (record { name = named; body = makes.stands; tidy = makes.tidy }));
        })
