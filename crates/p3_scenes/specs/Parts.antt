-- The parts of numbered trees whose form is known.
use Rattle.std.specs.Prelude.{◌≡◌, ℕ, List, Option, Some}
use Rattle.p3_numbers.specs.NumberedModal.{NumberedModal}
use Rattle.p3_numbers.specs.declared.constraint.NumberedConstraint.{NumberedConstraint}
use Rattle.p3_numbers.specs.declared.constraint.NumberedConstraint.TheVariants as tree
use Rattle.p3_numbers.specs.declared.goal.NumberedGoal.{NumberedGoal}
use Rattle.p3_numbers.specs.declared.goal.NumberedGoal.TheVariants as goal
use Rattle.p3_numbers.specs.declared.goal.NumberedPreference.{NumberedPreference}

-- ---- of constraints

-- where it is a conjunction, these are its parts
abbrev pub AreParts : NumberedConstraint → List NumberedConstraint → Type 0
AreParts whole found = (parts : List NumberedConstraint) → whole ≡ tree.Both parts → found ≡ parts

-- where it is quantified, these are its ranges
abbrev pub AreRanges : NumberedConstraint → List ℕ → Type 0
AreRanges whole found = (ranges : List ℕ) (body : NumberedConstraint) → whole ≡ tree.Each ranges body → found ≡ ranges

-- and this is its body
abbrev pub IsBody : NumberedConstraint → NumberedConstraint → Type 0
IsBody whole found = (ranges : List ℕ) (body : NumberedConstraint) → whole ≡ tree.Each ranges body → found ≡ body

-- where it is a preference, this is its body
abbrev pub IsPreferred : NumberedConstraint → NumberedConstraint → Type 0
IsPreferred whole found = (at : ℕ) (name : Option ℕ) (body : NumberedConstraint) → whole ≡ tree.Soft at name body → found ≡ body

-- where it is an operator, it is this one
abbrev pub IsOperator : NumberedConstraint → Option NumberedModal → Type 0
IsOperator whole found = (modal : NumberedModal) → whole ≡ tree.Single modal → found ≡ Some modal

-- ---- of goals

abbrev pub AreGoals : NumberedGoal → List NumberedGoal → Type 0
AreGoals whole found = (parts : List NumberedGoal) → whole ≡ goal.Both parts → found ≡ parts

abbrev pub AreGoalRanges : NumberedGoal → List ℕ → Type 0
AreGoalRanges whole found = (ranges : List ℕ) (body : NumberedGoal) → whole ≡ goal.Each ranges body → found ≡ ranges

abbrev pub IsGoalBody : NumberedGoal → NumberedGoal → Type 0
IsGoalBody whole found = (ranges : List ℕ) (body : NumberedGoal) → whole ≡ goal.Each ranges body → found ≡ body

abbrev pub IsPreference : NumberedGoal → Option NumberedPreference → Type 0
IsPreference whole found = (preference : NumberedPreference) → whole ≡ goal.Soft preference → found ≡ Some preference
