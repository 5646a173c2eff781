-- A constraint is satisfied where its operators are.
use Rattle.std.proofs.Common.{◌≡◌, ◌∙◌, refl, sym, Bool, ◌&&◌, List, [], ◌∷◌}
use Rattle.std.specs.Prelude.{flat_map}
use Rattle.std.specs.List.{list_all}
use Rattle.std.proofs.Math.Bool.{and-true}
use Rattle.std.proofs.lemmas.List.Folds.{list_all-append}
use mathlib.Core.Former.{Count, one_more}
use Rattle.p3_task.specs.Folds.{fold_constraints, fold_one_constraint}
use Rattle.p3_task.specs.States.{State, Environment}
use Rattle.p3_task.specs.Bindings.{bind}
use Rattle.p3_task.specs.Constraints.{HardModal, satisfies, sat, sat_layer, operators, operators_layer}
use Rattle.p3_task.specs.declared.constraint.Constraint.{Constraint, Row_of-Constraint, end_of-Constraint, more_of-Constraint}
use Rattle.p3_task.specs.declared.constraint.Constraint.TheVariants as constraint
use Rattle.p3_task.specs.declared.task.Task.{Task}

module _ (T : Task) (W : List State) where
  abbrev pub all_met : List HardModal → Bool
  all_met list = list_all (λ (h : HardModal). satisfies T W h.env h.modal) list

  over_bindings : (test : Environment → Bool) (found : Environment → List HardModal) → ((env : Environment) → test env ≡ all_met (found env)) → (envs : List Environment) → list_all test envs ≡ all_met (flat_map found envs)
  over_bindings test found same [] = refl
  over_bindings test found same (env ∷ envs) = (λ i. same env i && over_bindings test found same envs i) ∙ sym (list_all-append (λ (h : HardModal). satisfies T W h.env h.modal) (found env) (flat_map found envs))

  mutual
    unfolding sat operators

    pub sat-operators : (tree : Constraint) (env : Environment) → sat T W env tree ≡ all_met (operators T env tree)
    sat-operators (constraint.Both' _ parts) env = all-operators parts env
    sat-operators (constraint.Each' variables _ body) env = over_bindings _ _ (one-operators body) (bind T env variables)
    sat-operators (constraint.Single modal) env = sym (and-true (satisfies T W env modal))
    sat-operators (constraint.Soft' at name _ body) env = one-operators body env

    all-operators : {n : Count} (row : Row_of-Constraint n) (env : Environment) → list_all (λ part. part env) (fold_constraints (sat_layer T W) row) ≡ all_met (flat_map (λ part. part env) (fold_constraints (operators_layer T) row))
    all-operators end_of-Constraint env = refl
    all-operators (more_of-Constraint part rest) env = (λ i. sat-operators part env i && all-operators rest env i) ∙ sym (list_all-append (λ (h : HardModal). satisfies T W h.env h.modal) (operators T env part) (flat_map (λ part. part env) (fold_constraints (operators_layer T) rest)))

    one-operators : {n : Count} (row : Row_of-Constraint (one_more n)) (env : Environment) → fold_one_constraint (sat_layer T W) row env ≡ all_met (fold_one_constraint (operators_layer T) row env)
    one-operators (more_of-Constraint part rest) env = sat-operators part env
