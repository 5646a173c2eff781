-- The names of preferences in a well-formed task have numbers, which are their places in the order of the text.
use Rattle.std.proofs.Common.{◌≡◌, ◌∙◌, nat_lt, Bool, true, not, cond, ◌+◌, List, [], ◌∷◌, ◌++◌, map, length, Option, Some, None, refl, sym, ap}
use Rattle.std.specs.Prelude.{flat_map, option_map, position}
use Rattle.std.specs.Bool.{one_answer}
use Rattle.std.specs.List.{list_all, position_or_len}
use Rattle.std.proofs.lemmas.Bool.{and_parts, and_from, lt-ltb}
use Rattle.std.proofs.lemmas.List.Folds.{list_all-append, list_all-map}
use Rattle.std.proofs.lemmas.Slice.Eq.{bytes_eq-Decides}
use mathlib.Core.Former.{Count}
use Rattle.p3_task.specs.Bindings.{bind}
use Rattle.p3_task.specs.Constraints.{Instance, at_end, instances, instances_of, instances_of_all, instances_of_one}
use Rattle.p3_task.specs.Folds.{fold_goals, fold_constraints}
use Rattle.p3_task.specs.Goals as named_goal
use Rattle.p3_task.specs.Goals.{StatePref, prefs, prefs_layer}
use Rattle.p3_task.specs.Names.{Name, same_name, has_name}
use Rattle.p3_task.specs.Offences.{WellFormed}
use Rattle.p3_task.specs.States.{Environment}
use Rattle.p3_task.specs.declared.constraint.Constraint.{Constraint, Row_of-Constraint, end_of-Constraint, more_of-Constraint}
use Rattle.p3_task.specs.declared.constraint.Constraint.TheVariants as constraint
use Rattle.p3_task.specs.declared.goal.PreGoal.{PreGoal, Row_of-PreGoal, end_of-PreGoal, more_of-PreGoal}
use Rattle.p3_task.specs.declared.goal.PreGoal.TheVariants as goal
use Rattle.p3_task.specs.declared.task.Task.{Task}
use Rattle.p3_task.specs.declared.term.Ref.{Ref}
use Rattle.p3_numbers.specs.Constraints.{is_known_constraint, known_constraint_layer}
use Rattle.p3_numbers.specs.Goals.{is_known_goal, is_known_name, known_goal_layer}
use Rattle.p3_numbers.specs.Known.{IsKnownTask}
use Rattle.p3_numbers.specs.Places.{Variables, number_in, are_known_types, words_of}
use Rattle.p3_numbers.specs.Tasks.{IsNumberedTask}
use Rattle.p3_numbers.specs.declared.numbers.Numbers.{Numbers}
use Rattle.p3_numbers.specs.declared.task.NumberedTask.{NumberedTask}
use Rattle.p3_numbers.proofs.KnownLaws.{task-known}
use Rattle.p3_numbers.proofs.PlaceLemmas.{found_within}
use Rattle.p3_ground.specs.StandsFor.{number_of_name}

-- the name has a number, where there is one
abbrev pub is_known_maybe : Numbers → Option Name → Bool
is_known_maybe N None = true
is_known_maybe N (Some name) = has_name N.preferences name

-- ---- numbers and places

same-turned : (first second : Name) → same_name first second ≡ same_name second first
same-turned first second =
    one_answer (same_name first second) (same_name second first) (bytes_eq-Decides first second)
    ((λ test. sym ((bytes_eq-Decides second first).0 test)), (λ is. (bytes_eq-Decides second first).1 (sym is)))

same-place : (name : Name) (names : List Name) → position_or_len (λ other. same_name other name) names ≡ position_or_len (same_name name) names
same-place name [] = refl
same-place name (other ∷ names) = λ i. cond (not (same-turned other name i)) (1 + same-place name names i) 0

number-is-place : (name : Name) (names : List Name) → has_name names name ≡ true → Some (number_in names name) ≡ position (same_name name) names
number-is-place name names known =
    sym (ap (λ t. cond t (Some (number_in names name)) None) (lt-ltb (number_in names name) (length names) (found_within names name known)))
    ∙ (λ i. cond (nat_lt (same-place name names i) (length names)) (Some (same-place name names i)) None)

pub place-of-name : (T : Task) (X : NumberedTask) → IsNumberedTask T X → (name : Option Name) → is_known_maybe X.numbers name ≡ true → option_map (number_in X.numbers.preferences) name ≡ number_of_name T name
place-of-name T X numbered None known = refl
place-of-name T X numbered (Some name) known = number-is-place name X.numbers.preferences known ∙ ap (position (same_name name)) numbered.names.preferences

-- ---- names in trees

all-flat : {A B : Type 0} (test : B → Bool) (f : A → List B) (xs : List A) → ((x : A) → list_all test (f x) ≡ true) → list_all test (flat_map f xs) ≡ true
all-flat test f [] each = refl
all-flat test f (x ∷ xs) each = list_all-append test (f x) (flat_map f xs) ∙ and_from (list_all test (f x)) (list_all test (flat_map f xs)) (each x) (all-flat test f xs each)

module _ (T : Task) (N : Numbers) where
  known-named : (name : Option Ref) → is_known_name N name ≡ true → is_known_maybe N (named_goal.named name) ≡ true
  known-named None known = refl
  known-named (Some ref) known = known

  abbrev pub is_preference_known : StatePref → Bool
  is_preference_known pref = is_known_maybe N pref.name

  abbrev pub is_instance_known : Instance → Bool
  is_instance_known instance = is_known_maybe N instance.name

  mutual
    unfolding prefs is_known_goal

    pub preferences-known : (tree : PreGoal) (scope : Variables) (env : Environment) → is_known_goal N tree scope ≡ true → list_all is_preference_known (prefs T env tree) ≡ true
    preferences-known (goal.Plain body) scope env known = refl
    preferences-known (goal.Both' _ parts) scope env known = all-preferences-known parts scope env known
    preferences-known (goal.Each' variables _ (more_of-PreGoal body _)) scope env known =
        let inner = scope ++ words_of variables in
        let parts = and_parts (are_known_types N variables) (is_known_goal N body inner) known in
        all-flat is_preference_known (λ more. prefs T more body) (bind T env variables) (λ more. preferences-known body inner more parts.1)
    preferences-known (goal.Soft pref) scope env known = and_from (is_known_maybe N (named_goal.named pref.name)) true (known-named pref.name (and_parts (is_known_name N pref.name) _ known).0) refl

    all-preferences-known : {n : Count} (parts : Row_of-PreGoal n) (scope : Variables) (env : Environment) → list_all (λ part. part scope) (fold_goals (known_goal_layer N) parts) ≡ true → list_all is_preference_known (flat_map (λ part. part env) (fold_goals (prefs_layer T) parts)) ≡ true
    all-preferences-known end_of-PreGoal scope env known = refl
    all-preferences-known (more_of-PreGoal part rest) scope env known =
        let parts = and_parts (is_known_goal N part scope) (list_all (λ part. part scope) (fold_goals (known_goal_layer N) rest)) known in
        list_all-append is_preference_known (prefs T env part) (flat_map (λ part. part env) (fold_goals (prefs_layer T) rest))
        ∙ and_from (list_all is_preference_known (prefs T env part)) _ (preferences-known part scope env parts.0) (all-preferences-known rest scope env parts.1)

  mutual
    unfolding instances_of instances_of_all instances_of_one is_known_constraint

    pub instances-known : (tree : Constraint) (scope : Variables) (env : Environment) → is_known_constraint N tree scope ≡ true → list_all is_instance_known (instances_of T tree env) ≡ true
    instances-known (constraint.Both' _ parts) scope env known = all-instances-known parts scope env known
    instances-known (constraint.Each' variables _ (more_of-Constraint body _)) scope env known =
        let inner = scope ++ words_of variables in
        let parts = and_parts (are_known_types N variables) (is_known_constraint N body inner) known in
        all-flat is_instance_known (λ more. instances_of T body more) (bind T env variables) (λ more. instances-known body inner more parts.1)
    instances-known (constraint.Single operator) scope env known = refl
    instances-known (constraint.Soft' at name _ (more_of-Constraint body _)) scope env known = and_from (is_known_maybe N (named_goal.named name)) true (known-named name (and_parts (is_known_name N name) (is_known_constraint N body scope) known).0) refl

    all-instances-known : {n : Count} (parts : Row_of-Constraint n) (scope : Variables) (env : Environment) → list_all (λ part. part scope) (fold_constraints (known_constraint_layer N) parts) ≡ true → list_all is_instance_known (instances_of_all T parts env) ≡ true
    all-instances-known end_of-Constraint scope env known = refl
    all-instances-known (more_of-Constraint part rest) scope env known =
        let parts = and_parts (is_known_constraint N part scope) (list_all (λ part. part scope) (fold_constraints (known_constraint_layer N) rest)) known in
        list_all-append is_instance_known (instances_of T part env) (instances_of_all T rest env)
        ∙ and_from (list_all is_instance_known (instances_of T part env)) _ (instances-known part scope env parts.0) (all-instances-known rest scope env parts.1)

module _ (T : Task) (X : NumberedTask) (well : WellFormed T) (numbered : IsNumberedTask T X) where
  all_known : IsKnownTask T X.numbers
  all_known = task-known T X.numbers well numbered.covers

  abbrev test : Instance → Bool
  test instance = is_known_maybe X.numbers instance.name

  pub task-instances-known : list_all test (instances T) ≡ true
  unfolding instances
  task-instances-known =
      let of_goal : List Instance = map at_end (prefs T [] T.problem.goal.body) in
      let of_problem : List Instance = instances_of T T.problem.constraints.body [] in
      let of_domain : List Instance = instances_of T T.domain.constraints.body [] in
      list_all-append test of_domain (of_problem ++ of_goal)
      ∙ and_from (list_all test of_domain) (list_all test (of_problem ++ of_goal)) (instances-known T X.numbers T.domain.constraints.body [] [] all_known.domain)
      (
      list_all-append test of_problem of_goal
      ∙ and_from (list_all test of_problem) (list_all test of_goal) (instances-known T X.numbers T.problem.constraints.body [] [] all_known.problem)
      (list_all-map test at_end (prefs T [] T.problem.goal.body) ∙ preferences-known T X.numbers T.problem.goal.body [] [] all_known.goal)
      )
