-- The preferences of a numbered tree are counted right, and stand where those of the tree do that it was made of.
use Rattle.std.proofs.Common.{◌≡◌, ◌∙◌, ℕ, ◌+◌, ◌*◌, true, List, [], ◌∷◌, ◌++◌, map, sum, length, refl, sym, ap, arith, length-append}
use Rattle.std.specs.Prelude.{fold, flat_map}
use Rattle.std.specs.List.{list_all}
use Rattle.std.proofs.Math.Nat.{suc-mul}
use Rattle.std.proofs.lemmas.Bool.{and_parts}
use Rattle.std.proofs.lemmas.List.{length-map, map-append}
use Rattle.std.proofs.lemmas.List.Folds.{flat_map-map}
use mathlib.Core.Former.{Count}
use Rattle.p3_task.specs.Bindings.{tuples, bind, extended}
use Rattle.p3_task.specs.Constraints.{Instance, instances_of, instances_of_all, instances_of_one}
use Rattle.p3_task.specs.Folds as tree
use Rattle.p3_task.specs.Goals.{StatePref, prefs, prefs_layer}
use Rattle.p3_task.specs.Limits.{binding_count}
use Rattle.p3_task.specs.Names.{Name}
use Rattle.p3_task.specs.States.{Environment}
use Rattle.p3_task.specs.Types.{objects}
use Rattle.p3_task.specs.declared.constraint.Constraint.{Constraint, Row_of-Constraint, end_of-Constraint, more_of-Constraint}
use Rattle.p3_task.specs.declared.constraint.Constraint.TheVariants as constraint
use Rattle.p3_task.specs.declared.goal.PreGoal.{PreGoal, Row_of-PreGoal, end_of-PreGoal, more_of-PreGoal}
use Rattle.p3_task.specs.declared.goal.PreGoal.TheVariants as goal
use Rattle.p3_task.specs.declared.task.Task.{Task}
use Rattle.p3_task.specs.declared.term.Typed.{Typed}
use Rattle.p3_numbers.specs.Choices.{choice_count}
use Rattle.p3_numbers.proofs.JoinLemmas.{joined}
use Rattle.p3_numbers.specs.Conditions.{condition_of, is_known_formula}
use Rattle.p3_numbers.specs.Constraints.{constraint_of, constraint_layer, is_known_constraint, known_constraint_layer}
use Rattle.p3_numbers.specs.Folds.{fold_goals, fold_constraints}
use Rattle.p3_numbers.specs.Goals.{goal_of, goal_layer, is_known_name, is_known_goal, known_goal_layer}
use Rattle.p3_numbers.specs.Places.{Variables, ranges_of, words_of, are_known_types, IsNumbering}
use Rattle.p3_numbers.specs.declared.constraint.NumberedConstraint.{NumberedConstraint, Row_of-NumberedConstraint, end_of-NumberedConstraint, more_of-NumberedConstraint}
use Rattle.p3_numbers.specs.declared.constraint.NumberedConstraint.TheVariants as numbered_constraint
use Rattle.p3_numbers.specs.declared.goal.NumberedGoal.{NumberedGoal, Row_of-NumberedGoal, end_of-NumberedGoal, more_of-NumberedGoal}
use Rattle.p3_numbers.specs.declared.goal.NumberedGoal.TheVariants as numbered_goal
use Rattle.p3_numbers.specs.declared.numbers.Numbers.{Numbers}
use Rattle.p3_limits.specs.Cuts.{cut, cut_choices, cut_sum}
use Rattle.p3_limits.specs.Preferences.{repeated, goal_offsets_layer, goal_offsets, constraint_offsets_layer, constraint_offsets, goal_count_layer, goal_count, constraint_count_layer, constraint_count}
use Rattle.p3_limits.proofs.CutLaws.{cut-zero, cut-one, sum-cons, cut-total-zero, cut-each}
use Rattle.p3_limits.proofs.PreferenceLemmas.{length-repeated, goal_offsets-Both, goal_offsets-Each, constraint_offsets-Both, constraint_offsets-Each}
use Rattle.p3_limits.proofs.SizeLaws.{choices-are}

-- ---- counts

sum-lengths : {A : Type 0} (lists : List (List A)) → sum (map length lists) ≡ length (flat_map (λ items. items) lists)
sum-lengths [] = refl
sum-lengths (items ∷ lists) = sum-cons (length items) (map length lists) ∙ ap (λ n. length items + n) (sum-lengths lists) ∙ sym (length-append items (flat_map (λ part. part) lists))

module _ (N : Numbers) where
  mutual
    unfolding goal_count goal_offsets

    pub goal-counted : (tree : NumberedGoal) → goal_count N tree ≡ cut (length (goal_offsets N tree))
    goal-counted (numbered_goal.Plain body) = cut-zero
    goal-counted (numbered_goal.Both' _ parts) =
        let offsets = fold_goals (goal_offsets_layer N) parts in
        ap (cut_sum 0) (goals-counted parts) ∙ cut-total-zero (map length offsets) ∙ ap cut (sum-lengths offsets)
    goal-counted (numbered_goal.Each' ranges _ (more_of-NumberedGoal body _)) =
        ap (λ n. cut (cut_choices N ranges * n)) (goal-counted body) ∙ cut-each N ranges (length (goal_offsets N body))
        ∙ ap cut (sym (length-repeated (choice_count N ranges) (goal_offsets N body)))
    goal-counted (numbered_goal.Soft preference) = cut-one

    goals-counted : {n : Count} (parts : Row_of-NumberedGoal n) → fold_goals (goal_count_layer N) parts ≡ map cut (map length (fold_goals (goal_offsets_layer N) parts))
    goals-counted end_of-NumberedGoal = refl
    goals-counted (more_of-NumberedGoal part rest) = λ i. goal-counted part i ∷ goals-counted rest i

  mutual
    unfolding constraint_count constraint_offsets

    pub constraint-counted : (tree : NumberedConstraint) → constraint_count N tree ≡ cut (length (constraint_offsets N tree))
    constraint-counted (numbered_constraint.Both' _ parts) =
        let offsets = fold_constraints (constraint_offsets_layer N) parts in
        ap (cut_sum 0) (constraints-counted parts) ∙ cut-total-zero (map length offsets) ∙ ap cut (sum-lengths offsets)
    constraint-counted (numbered_constraint.Each' ranges _ (more_of-NumberedConstraint body _)) =
        ap (λ n. cut (cut_choices N ranges * n)) (constraint-counted body) ∙ cut-each N ranges (length (constraint_offsets N body))
        ∙ ap cut (sym (length-repeated (choice_count N ranges) (constraint_offsets N body)))
    constraint-counted (numbered_constraint.Single operator) = cut-zero
    constraint-counted (numbered_constraint.Soft' at name _ body) = cut-one

    constraints-counted : {n : Count} (parts : Row_of-NumberedConstraint n) → fold_constraints (constraint_count_layer N) parts ≡ map cut (map length (fold_constraints (constraint_offsets_layer N) parts))
    constraints-counted end_of-NumberedConstraint = refl
    constraints-counted (more_of-NumberedConstraint part rest) = λ i. constraint-counted part i ∷ constraints-counted rest i

-- ---- the number of bindings

length-begun : (tuples : List (List Name)) (names : List Name) → length (flat_map (λ object. map (λ rest. object ∷ rest) tuples) names) ≡ length names * length tuples
length-begun tuples [] = omega arith
length-begun tuples (object ∷ names) =
    length-append (map (λ rest. object ∷ rest) tuples) (flat_map (λ object. map (λ rest. object ∷ rest) tuples) names)
    ∙ (λ i. length-map tuples (λ rest. object ∷ rest) i + length-begun tuples names i) ∙ omega (arith, suc-mul (length names) (length tuples))

length-tuples : (T : Task) (start : ℕ) (variables : List Typed) → fold (λ product variable. product * length (objects T variable.types)) start variables ≡ start * length (tuples T variables)
unfolding tuples
length-tuples T start [] = omega arith
length-tuples T start (variable ∷ variables) =
    let regrouped : start * length (objects T variable.types) * length (tuples T variables) ≡ start * (length (objects T variable.types) * length (tuples T variables)) = omega arith in
    length-tuples T (start * length (objects T variable.types)) variables ∙ regrouped
    ∙ ap (λ n. start * n) (sym (length-begun (tuples T variables) (objects T variable.types)))

pub length-bind : (T : Task) (env : Environment) (variables : List Typed) → length (bind T env variables) ≡ binding_count T variables
unfolding bind binding_count
length-bind T env variables =
    let once : 1 * length (tuples T variables) ≡ length (tuples T variables) = omega arith in
    length-map (tuples T variables) (extended env variables) ∙ sym once ∙ sym (length-tuples T 1 variables)

-- what is seen alike at all bindings is repeated
seen-alike : {A B C : Type 0} (seen : B → C) (f : A → List B) (items : List C) → ((x : A) → map seen (f x) ≡ items) → (xs : List A) → map seen (flat_map f xs) ≡ repeated (length xs) items
seen-alike seen f items alike [] = refl
seen-alike seen f items alike (x ∷ xs) = map-append seen (f x) (flat_map f xs) ∙ (λ i. alike x i ++ seen-alike seen f items alike xs i)

-- ---- the offsets of the instances

abbrev pub pref_at : StatePref → ℕ
pref_at pref = pref.at

abbrev pub instance_at : Instance → ℕ
instance_at instance = instance.at

module _ (T : Task) (N : Numbers) (ties : IsNumbering T N) where
  mutual
    unfolding prefs goal_of is_known_goal goal_offsets

    pub goal-offsets : (tree : PreGoal) (scope : Variables) (env : Environment) → is_known_goal N tree scope ≡ true → map pref_at (prefs T env tree) ≡ goal_offsets N (goal_of N tree scope)
    goal-offsets (goal.Plain formula) scope env known = refl
    goal-offsets (goal.Both' _ parts) scope env known =
        let made = map (λ part. part scope) (tree.fold_goals (goal_layer N) parts) in
        joined pref_at (λ part. part env) (tree.fold_goals (prefs_layer T) parts)
        ∙ ap (flat_map (λ found. found)) (goals-offsets parts scope env known) ∙ flat_map-map (λ found. found) (goal_offsets N) made ∙ sym (goal_offsets-Both N made)
    goal-offsets (goal.Each' variables _ (more_of-PreGoal body _)) scope env known =
        let inner = scope ++ words_of variables in
        let parts = and_parts (are_known_types N variables) (is_known_goal N body inner) known in
        let made = goal_of N body inner in
        seen-alike pref_at (λ more. prefs T more body) (goal_offsets N made) (λ more. goal-offsets body inner more parts.1) (bind T env variables)
        ∙ ap (λ n. repeated n (goal_offsets N made)) (length-bind T env variables ∙ sym (choices-are T N ties variables parts.0))
        ∙ sym (goal_offsets-Each N (ranges_of N variables) made)
    goal-offsets (goal.Soft pref) scope env known = refl

    goals-offsets : {n : Count} (parts : Row_of-PreGoal n) (scope : Variables) (env : Environment) → list_all (λ part. part scope) (tree.fold_goals (known_goal_layer N) parts) ≡ true
        → map (λ part. map pref_at (part env)) (tree.fold_goals (prefs_layer T) parts) ≡ map (goal_offsets N) (map (λ part. part scope) (tree.fold_goals (goal_layer N) parts))
    goals-offsets end_of-PreGoal scope env known = refl
    goals-offsets (more_of-PreGoal part rest) scope env known =
        let parts = and_parts (is_known_goal N part scope) (list_all (λ part. part scope) (tree.fold_goals (known_goal_layer N) rest)) known in
        λ i. goal-offsets part scope env parts.0 i ∷ goals-offsets rest scope env parts.1 i

  mutual
    unfolding instances_of instances_of_all instances_of_one constraint_of is_known_constraint constraint_offsets

    pub constraint-offsets : (tree : Constraint) (scope : Variables) (env : Environment) → is_known_constraint N tree scope ≡ true → map instance_at (instances_of T tree env) ≡ constraint_offsets N (constraint_of N tree scope)
    constraint-offsets (constraint.Both' _ parts) scope env known =
        let made = map (λ part. part scope) (tree.fold_constraints (constraint_layer N) parts) in
        constraints-offsets parts scope env known ∙ sym (constraint_offsets-Both N made)
    constraint-offsets (constraint.Each' variables _ (more_of-Constraint body _)) scope env known =
        let inner = scope ++ words_of variables in
        let parts = and_parts (are_known_types N variables) (is_known_constraint N body inner) known in
        let made = constraint_of N body inner in
        seen-alike instance_at (λ more. instances_of T body more) (constraint_offsets N made) (λ more. constraint-offsets body inner more parts.1) (bind T env variables)
        ∙ ap (λ n. repeated n (constraint_offsets N made)) (length-bind T env variables ∙ sym (choices-are T N ties variables parts.0))
        ∙ sym (constraint_offsets-Each N (ranges_of N variables) made)
    constraint-offsets (constraint.Single operator) scope env known = refl
    constraint-offsets (constraint.Soft' at name _ body) scope env known = refl

    constraints-offsets : {n : Count} (parts : Row_of-Constraint n) (scope : Variables) (env : Environment) → list_all (λ part. part scope) (tree.fold_constraints (known_constraint_layer N) parts) ≡ true
        → map instance_at (instances_of_all T parts env) ≡ flat_map (constraint_offsets N) (map (λ part. part scope) (tree.fold_constraints (constraint_layer N) parts))
    constraints-offsets end_of-Constraint scope env known = refl
    constraints-offsets (more_of-Constraint part rest) scope env known =
        let parts = and_parts (is_known_constraint N part scope) (list_all (λ part. part scope) (tree.fold_constraints (known_constraint_layer N) rest)) known in
        map-append instance_at (instances_of T part env) (instances_of_all T rest env) ∙ (λ i. constraint-offsets part scope env parts.0 i ++ constraints-offsets rest scope env parts.1 i)
