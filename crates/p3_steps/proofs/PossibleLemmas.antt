-- What may be so of a tree that is built of given parts.
use Rattle.std.proofs.Common.{◌≡◌, ◌∙◌, ℕ, Bool, true, false, not, List, map, refl, ap}
use Rattle.std.specs.List.{list_all}
use Rattle.std.proofs.lemmas.List.Folds.{list_all-map}
use denote.Hole.Carrier.{hidden}
use Rattle.p3_task.proofs.MeaningLemmas.{list_any-map}
use Rattle.p3_numbers.specs.Folds.{fold_condition, fold_goal}
use Rattle.p3_numbers.specs.Slots.{Slots}
use Rattle.p3_numbers.specs.declared.condition.NumberedArgument.{NumberedArgument}
use Rattle.p3_numbers.specs.declared.condition.NumberedCondition.{NumberedCondition}
use Rattle.p3_numbers.specs.declared.condition.NumberedCondition.TheBlock.{hidden-the_row-NumberedCondition-1}
use Rattle.p3_numbers.specs.declared.condition.NumberedCondition.TheVariants as condition
use Rattle.p3_numbers.specs.declared.goal.NumberedGoal.{NumberedGoal}
use Rattle.p3_numbers.specs.declared.goal.NumberedGoal.TheBlock.{hidden-the_row-NumberedGoal-1}
use Rattle.p3_numbers.specs.declared.goal.NumberedGoal.TheVariants as goal
use Rattle.p3_numbers.specs.declared.goal.NumberedPreference.{NumberedPreference}
use Rattle.p3_numbers.specs.declared.numbers.Numbers.{Numbers}
use Rattle.p3_expansion.specs.Meanings.{each_or_some, both_or_one}
use Rattle.p3_expansion.specs.declared.statics.Statics.{Statics}
use Rattle.p3_expansion.proofs.HardLemmas.{hidden_goals}
use Rattle.p3_expansion.proofs.MeaningLemmas.{hidden_conditions}
use Rattle.p3_steps.specs.Possible.{atom_may, equality_may, bodies_may, may_layer, condition_may, goal_may_layer, goal_may}

each-map : {A B : Type 0} (every : Bool) (test : B → Bool) (of : A → B) (xs : List A) → each_or_some every test (map of xs) ≡ each_or_some every (λ x. test (of x)) xs
each-map true test of xs = list_all-map test of xs
each-map false test of xs = list_any-map test of xs

module _ (N : Numbers) (S : Statics) (whole : Bool) (slots : Slots) where
  pub may-Atom : (predicate : ℕ) (args : List NumberedArgument) (wish : Bool) → condition_may N S whole slots (condition.Atom predicate args) wish ≡ atom_may N S slots predicate args wish
  unfolding condition_may
  may-Atom predicate args wish = refl

  pub may-Equal : (left right : NumberedArgument) (wish : Bool) → condition_may N S whole slots (condition.Equal left right) wish ≡ equality_may slots left right wish
  unfolding condition_may
  may-Equal left right wish = refl

  pub may-And : (parts : List NumberedCondition) (wish : Bool) → condition_may N S whole slots (condition.And parts) wish ≡ each_or_some wish (λ part. condition_may N S whole slots part wish) parts
  unfolding condition_may
  may-And parts wish = ap (each_or_some wish (λ part. part slots wish)) (hidden_conditions (may_layer N S whole) parts) ∙ each-map wish (λ part. part slots wish) (fold_condition (may_layer N S whole)) parts

  pub may-Or : (parts : List NumberedCondition) (wish : Bool) → condition_may N S whole slots (condition.Or parts) wish ≡ each_or_some (not wish) (λ part. condition_may N S whole slots part wish) parts
  unfolding condition_may
  may-Or parts wish = ap (each_or_some (not wish) (λ part. part slots wish)) (hidden_conditions (may_layer N S whole) parts) ∙ each-map (not wish) (λ part. part slots wish) (fold_condition (may_layer N S whole)) parts

  pub may-Not : (part : NumberedCondition) (wish : Bool) → condition_may N S whole slots (condition.Not part) wish ≡ condition_may N S whole slots part (not wish)
  unfolding condition_may hidden-the_row-NumberedCondition-1 hidden
  may-Not part wish = refl

  pub may-Imply : (first second : NumberedCondition) (wish : Bool)
      → condition_may N S whole slots (condition.Imply first second) wish ≡ both_or_one (not wish) (condition_may N S whole slots first (not wish)) (condition_may N S whole slots second wish)
  unfolding condition_may hidden-the_row-NumberedCondition-1 hidden
  may-Imply first second wish = refl

  pub may-Exists : (ranges : List ℕ) (body : NumberedCondition) (wish : Bool)
      → condition_may N S whole slots (condition.Exists ranges body) wish ≡ bodies_may N whole (not wish) (λ inner. condition_may N S whole inner body wish) slots ranges
  unfolding condition_may hidden-the_row-NumberedCondition-1 hidden
  may-Exists ranges body wish = refl

  pub may-Forall : (ranges : List ℕ) (body : NumberedCondition) (wish : Bool)
      → condition_may N S whole slots (condition.Forall ranges body) wish ≡ bodies_may N whole wish (λ inner. condition_may N S whole inner body wish) slots ranges
  unfolding condition_may hidden-the_row-NumberedCondition-1 hidden
  may-Forall ranges body wish = refl

  pub begin-Plain : (body : NumberedCondition) → goal_may N S whole slots (goal.Plain body) ≡ condition_may N S whole slots body true
  unfolding goal_may
  begin-Plain body = refl

  pub begin-Each : (ranges : List ℕ) (body : NumberedGoal) → goal_may N S whole slots (goal.Each ranges body) ≡ bodies_may N whole true (λ inner. goal_may N S whole inner body) slots ranges
  unfolding goal_may hidden-the_row-NumberedGoal-1 hidden
  begin-Each ranges body = refl

  pub begin-Soft : (preference : NumberedPreference) → goal_may N S whole slots (goal.Soft preference) ≡ true
  unfolding goal_may
  begin-Soft preference = refl

  pub begin-Both : (parts : List NumberedGoal) → goal_may N S whole slots (goal.Both parts) ≡ list_all (λ part. goal_may N S whole slots part) parts
  unfolding goal_may
  begin-Both parts = ap (list_all (λ part. part slots)) (hidden_goals (goal_may_layer N S whole) parts) ∙ list_all-map (λ part. part slots) (fold_goal (goal_may_layer N S whole)) parts

pub ruleset condition_laws = (may-Atom, may-Equal, may-And, may-Or, may-Not, may-Imply, may-Exists, may-Forall)

pub ruleset goal_laws = (begin-Plain, begin-Both, begin-Each, begin-Soft)
