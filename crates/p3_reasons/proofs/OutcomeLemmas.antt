-- What a condition and the hard part of a goal come to that are built of given parts.
use Rattle.std.proofs.Common.{◌≡◌, ◌∙◌, ◌==◌, ℕ, true, false, List, [], ◌∷◌, map, refl, ap}
use Rattle.std.proofs.lemmas.Simd.{map-map}
use denote.Hole.Carrier.{hidden}
use Rattle.p3_numbers.specs.Slots.{Slots, value_of, bound}
use Rattle.p3_numbers.specs.Folds.{fold_condition, fold_goal}
use Rattle.p3_numbers.specs.declared.condition.NumberedArgument.{NumberedArgument}
use Rattle.p3_numbers.specs.declared.condition.NumberedCondition.{NumberedCondition}
use Rattle.p3_numbers.specs.declared.condition.NumberedCondition.TheBlock.{hidden-the_row-NumberedCondition-1}
use Rattle.p3_numbers.specs.declared.condition.NumberedCondition.TheVariants.{Atom, Equal, And, Or, Not, Imply, Exists, Forall}
use Rattle.p3_numbers.specs.declared.goal.NumberedGoal.{NumberedGoal}
use Rattle.p3_numbers.specs.declared.goal.NumberedGoal.TheBlock.{hidden-the_row-NumberedGoal-1}
use Rattle.p3_numbers.specs.declared.goal.NumberedGoal.TheVariants.{Plain, Both, Each, Soft}
use Rattle.p3_numbers.specs.declared.goal.NumberedPreference.{NumberedPreference}
use Rattle.p3_numbers.specs.declared.numbers.Numbers.{Numbers}
use Rattle.p3_expansion.specs.Atoms.{atom_at}
use Rattle.p3_expansion.proofs.MeaningLemmas.{hidden_conditions}
use Rattle.p3_expansion.proofs.HardLemmas.{hidden_goals}
use Rattle.p3_reasons.specs.Outcomes.{Test, joined, opposite, outcome, outcome_layer, hard_outcome, hard_outcome_layer}

module _ (N : Numbers) (test : Test) (slots : Slots) where
  pub outcome-Atom : (predicate : ℕ) (args : List NumberedArgument) → outcome N test slots (Atom predicate args) ≡ record { holds = test (atom_at slots predicate args); atoms = atom_at slots predicate args ∷ [] }
  unfolding outcome
  outcome-Atom predicate args = refl

  pub outcome-Equal : (left right : NumberedArgument) → outcome N test slots (Equal left right) ≡ record { holds = value_of slots left == value_of slots right; atoms = [] }
  unfolding outcome
  outcome-Equal left right = refl

  pub outcome-And : (parts : List NumberedCondition) → outcome N test slots (And parts) ≡ joined true (map (outcome N test slots) parts)
  unfolding outcome
  outcome-And parts =
      ap (λ outcomes. joined true (map (λ part. part slots) outcomes)) (hidden_conditions (outcome_layer N test) parts)
      ∙ ap (joined true) (map-map (λ part. part slots) (fold_condition (outcome_layer N test)) parts)

  pub outcome-Or : (parts : List NumberedCondition) → outcome N test slots (Or parts) ≡ joined false (map (outcome N test slots) parts)
  unfolding outcome
  outcome-Or parts =
      ap (λ outcomes. joined false (map (λ part. part slots) outcomes)) (hidden_conditions (outcome_layer N test) parts)
      ∙ ap (joined false) (map-map (λ part. part slots) (fold_condition (outcome_layer N test)) parts)

  pub outcome-Not : (part : NumberedCondition) → outcome N test slots (Not part) ≡ opposite (outcome N test slots part)
  unfolding outcome hidden-the_row-NumberedCondition-1 hidden
  outcome-Not part = refl

  pub outcome-Imply : (first second : NumberedCondition) → outcome N test slots (Imply first second) ≡ joined false (opposite (outcome N test slots first) ∷ outcome N test slots second ∷ [])
  unfolding outcome hidden-the_row-NumberedCondition-1 hidden
  outcome-Imply first second = refl

  pub outcome-Exists : (ranges : List ℕ) (body : NumberedCondition) → outcome N test slots (Exists ranges body) ≡ joined false (map (λ inner. outcome N test inner body) (bound N slots ranges))
  unfolding outcome hidden-the_row-NumberedCondition-1 hidden
  outcome-Exists ranges body = refl

  pub outcome-Forall : (ranges : List ℕ) (body : NumberedCondition) → outcome N test slots (Forall ranges body) ≡ joined true (map (λ inner. outcome N test inner body) (bound N slots ranges))
  unfolding outcome hidden-the_row-NumberedCondition-1 hidden
  outcome-Forall ranges body = refl

  pub hard-Plain : (condition : NumberedCondition) → hard_outcome N test slots (Plain condition) ≡ outcome N test slots condition
  unfolding hard_outcome
  hard-Plain condition = refl

  pub hard-Both : (parts : List NumberedGoal) → hard_outcome N test slots (Both parts) ≡ joined true (map (hard_outcome N test slots) parts)
  unfolding hard_outcome
  hard-Both parts =
      ap (λ outcomes. joined true (map (λ part. part slots) outcomes)) (hidden_goals (hard_outcome_layer N test) parts)
      ∙ ap (joined true) (map-map (λ part. part slots) (fold_goal (hard_outcome_layer N test)) parts)

  pub hard-Each : (ranges : List ℕ) (body : NumberedGoal) → hard_outcome N test slots (Each ranges body) ≡ joined true (map (λ inner. hard_outcome N test inner body) (bound N slots ranges))
  unfolding hard_outcome hidden-the_row-NumberedGoal-1 hidden
  hard-Each ranges body = refl

  pub hard-Soft : (preference : NumberedPreference) → hard_outcome N test slots (Soft preference) ≡ record { holds = true; atoms = [] }
  unfolding hard_outcome
  hard-Soft preference = refl

pub ruleset outcome_laws = (outcome-Atom, outcome-Equal, outcome-And, outcome-Or, outcome-Not, outcome-Imply, outcome-Exists, outcome-Forall)

pub ruleset hard_laws = (hard-Plain, hard-Both, hard-Each, hard-Soft)
