-- Folds of erased trees. A layer is erased by its own names, with a function over the meanings of its parts.
use Rattle.std.proofs.Common.{◌≡◌, ◌∙◌, refl, ◌∷◌, map}
use Rattle.std.specs.Prelude.{option_map}
use mathlib.Core.Former.{Count, one_more}
use Rattle.p3_task.specs.Folds.{fold_formula, fold_formulas, fold_one_formula, fold_effect, fold_effects, fold_one_effect, fold_goal, fold_goals, fold_one_goal, fold_constraint, fold_constraints, fold_one_constraint, fold_num, fold_nums, fold_one_num}
use Rattle.p3_task.specs.Erased.{erased_ref, erased_term, erased_terms, erased_all_typed, erased_numeral, erased_amount, erased_pref, erased_modal, erased_formula, erased_formulas, erased_effect, erased_effects, erased_goal, erased_goals, erased_constraint, erased_constraints, erased_num, erased_nums}
use Rattle.p3_task.specs.declared.formula.Formula.{Formula, Formula-F, Row_of-Formula, end_of-Formula, more_of-Formula}
use Rattle.p3_task.specs.declared.formula.Formula.TheVariants as formula
use Rattle.p3_task.specs.declared.formula.Formula.TheOpen as formula_layer
use Rattle.p3_task.specs.declared.effect.Effect.{Effect, Effect-F, Row_of-Effect, end_of-Effect, more_of-Effect}
use Rattle.p3_task.specs.declared.effect.Effect.TheVariants as effect
use Rattle.p3_task.specs.declared.effect.Effect.TheOpen as effect_layer
use Rattle.p3_task.specs.declared.goal.PreGoal.{PreGoal, PreGoal-F, Row_of-PreGoal, end_of-PreGoal, more_of-PreGoal}
use Rattle.p3_task.specs.declared.goal.PreGoal.TheVariants as goal
use Rattle.p3_task.specs.declared.goal.PreGoal.TheOpen as goal_layer
use Rattle.p3_task.specs.declared.constraint.Constraint.{Constraint, Constraint-F, Row_of-Constraint, end_of-Constraint, more_of-Constraint}
use Rattle.p3_task.specs.declared.constraint.Constraint.TheVariants as constraint
use Rattle.p3_task.specs.declared.constraint.Constraint.TheOpen as constraint_layer
use Rattle.p3_task.specs.declared.metric.Num.{Num, Num-F, Row_of-Num, end_of-Num, more_of-Num}
use Rattle.p3_task.specs.declared.metric.Num.TheVariants as num
use Rattle.p3_task.specs.declared.metric.Num.TheOpen as num_layer

abbrev pub erased_formula_layer : {A B : Type 0} → (A → B) → Formula-F A → Formula-F B
erased_formula_layer h (formula_layer.Atom pred args) = formula_layer.Atom (erased_ref pred) (erased_terms args)
erased_formula_layer h (formula_layer.Equal left right) = formula_layer.Equal (erased_term left) (erased_term right)
erased_formula_layer h (formula_layer.And parts) = formula_layer.And (map h parts)
erased_formula_layer h (formula_layer.Or parts) = formula_layer.Or (map h parts)
erased_formula_layer h (formula_layer.Not part) = formula_layer.Not (h part)
erased_formula_layer h (formula_layer.Imply first second) = formula_layer.Imply (h first) (h second)
erased_formula_layer h (formula_layer.Exists variables part) = formula_layer.Exists (erased_all_typed variables) (h part)
erased_formula_layer h (formula_layer.Forall variables part) = formula_layer.Forall (erased_all_typed variables) (h part)

module _ {A B : Type 0} (layer : Formula-F A → A) (other : Formula-F B → B) (h : A → B) (alike : (x : Formula-F A) → other (erased_formula_layer h x) ≡ h (layer x)) where
  mutual
    pub fold_formula-erased : (tree : Formula) → fold_formula other (erased_formula tree) ≡ h (fold_formula layer tree)
    fold_formula-erased (formula.Atom pred args) = alike (formula_layer.Atom pred args)
    fold_formula-erased (formula.Equal left right) = alike (formula_layer.Equal left right)
    fold_formula-erased (formula.And' _ parts) = (λ i. other (formula_layer.And (fold_formulas-erased parts i))) ∙ alike (formula_layer.And (fold_formulas layer parts))
    fold_formula-erased (formula.Or' _ parts) = (λ i. other (formula_layer.Or (fold_formulas-erased parts i))) ∙ alike (formula_layer.Or (fold_formulas layer parts))
    fold_formula-erased (formula.Not' _ part) = (λ i. other (formula_layer.Not (fold_one_formula-erased part i))) ∙ alike (formula_layer.Not (fold_one_formula layer part))
    fold_formula-erased (formula.Imply' _ first _ second) = (λ i. other (formula_layer.Imply (fold_one_formula-erased first i) (fold_one_formula-erased second i))) ∙ alike (formula_layer.Imply (fold_one_formula layer first) (fold_one_formula layer second))
    fold_formula-erased (formula.Exists' variables _ part) = (λ i. other (formula_layer.Exists (erased_all_typed variables) (fold_one_formula-erased part i))) ∙ alike (formula_layer.Exists variables (fold_one_formula layer part))
    fold_formula-erased (formula.Forall' variables _ part) = (λ i. other (formula_layer.Forall (erased_all_typed variables) (fold_one_formula-erased part i))) ∙ alike (formula_layer.Forall variables (fold_one_formula layer part))

    fold_formulas-erased : {n : Count} (row : Row_of-Formula n) → fold_formulas other (erased_formulas row) ≡ map h (fold_formulas layer row)
    fold_formulas-erased end_of-Formula = refl
    fold_formulas-erased (more_of-Formula part rest) = λ i. fold_formula-erased part i ∷ fold_formulas-erased rest i

    fold_one_formula-erased : {n : Count} (row : Row_of-Formula (one_more n)) → fold_one_formula other (erased_formulas row) ≡ h (fold_one_formula layer row)
    fold_one_formula-erased (more_of-Formula part rest) = fold_formula-erased part

abbrev pub erased_effect_layer : {A B : Type 0} → (A → B) → Effect-F A → Effect-F B
erased_effect_layer h (effect_layer.Add pred args) = effect_layer.Add (erased_ref pred) (erased_terms args)
erased_effect_layer h (effect_layer.Del pred args) = effect_layer.Del (erased_ref pred) (erased_terms args)
erased_effect_layer h (effect_layer.All parts) = effect_layer.All (map h parts)
erased_effect_layer h (effect_layer.Each variables part) = effect_layer.Each (erased_all_typed variables) (h part)
erased_effect_layer h (effect_layer.If condition part) = effect_layer.If (erased_formula condition) (h part)
erased_effect_layer h (effect_layer.Cost at increase) = effect_layer.Cost 0 (erased_amount increase)

module _ {A B : Type 0} (layer : Effect-F A → A) (other : Effect-F B → B) (h : A → B) (alike : (x : Effect-F A) → other (erased_effect_layer h x) ≡ h (layer x)) where
  mutual
    pub fold_effect-erased : (tree : Effect) → fold_effect other (erased_effect tree) ≡ h (fold_effect layer tree)
    fold_effect-erased (effect.Add pred args) = alike (effect_layer.Add pred args)
    fold_effect-erased (effect.Del pred args) = alike (effect_layer.Del pred args)
    fold_effect-erased (effect.All' _ parts) = (λ i. other (effect_layer.All (fold_effects-erased parts i))) ∙ alike (effect_layer.All (fold_effects layer parts))
    fold_effect-erased (effect.Each' variables _ part) = (λ i. other (effect_layer.Each (erased_all_typed variables) (fold_one_effect-erased part i))) ∙ alike (effect_layer.Each variables (fold_one_effect layer part))
    fold_effect-erased (effect.If' condition _ part) = (λ i. other (effect_layer.If (erased_formula condition) (fold_one_effect-erased part i))) ∙ alike (effect_layer.If condition (fold_one_effect layer part))
    fold_effect-erased (effect.Cost at increase) = alike (effect_layer.Cost at increase)

    fold_effects-erased : {n : Count} (row : Row_of-Effect n) → fold_effects other (erased_effects row) ≡ map h (fold_effects layer row)
    fold_effects-erased end_of-Effect = refl
    fold_effects-erased (more_of-Effect part rest) = λ i. fold_effect-erased part i ∷ fold_effects-erased rest i

    fold_one_effect-erased : {n : Count} (row : Row_of-Effect (one_more n)) → fold_one_effect other (erased_effects row) ≡ h (fold_one_effect layer row)
    fold_one_effect-erased (more_of-Effect part rest) = fold_effect-erased part

abbrev pub erased_goal_layer : {A B : Type 0} → (A → B) → PreGoal-F A → PreGoal-F B
erased_goal_layer h (goal_layer.Plain body) = goal_layer.Plain (erased_formula body)
erased_goal_layer h (goal_layer.Both parts) = goal_layer.Both (map h parts)
erased_goal_layer h (goal_layer.Each variables part) = goal_layer.Each (erased_all_typed variables) (h part)
erased_goal_layer h (goal_layer.Soft pref) = goal_layer.Soft (erased_pref pref)

module _ {A B : Type 0} (layer : PreGoal-F A → A) (other : PreGoal-F B → B) (h : A → B) (alike : (x : PreGoal-F A) → other (erased_goal_layer h x) ≡ h (layer x)) where
  mutual
    pub fold_goal-erased : (tree : PreGoal) → fold_goal other (erased_goal tree) ≡ h (fold_goal layer tree)
    fold_goal-erased (goal.Plain body) = alike (goal_layer.Plain body)
    fold_goal-erased (goal.Both' _ parts) = (λ i. other (goal_layer.Both (fold_goals-erased parts i))) ∙ alike (goal_layer.Both (fold_goals layer parts))
    fold_goal-erased (goal.Each' variables _ part) = (λ i. other (goal_layer.Each (erased_all_typed variables) (fold_one_goal-erased part i))) ∙ alike (goal_layer.Each variables (fold_one_goal layer part))
    fold_goal-erased (goal.Soft pref) = alike (goal_layer.Soft pref)

    fold_goals-erased : {n : Count} (row : Row_of-PreGoal n) → fold_goals other (erased_goals row) ≡ map h (fold_goals layer row)
    fold_goals-erased end_of-PreGoal = refl
    fold_goals-erased (more_of-PreGoal part rest) = λ i. fold_goal-erased part i ∷ fold_goals-erased rest i

    fold_one_goal-erased : {n : Count} (row : Row_of-PreGoal (one_more n)) → fold_one_goal other (erased_goals row) ≡ h (fold_one_goal layer row)
    fold_one_goal-erased (more_of-PreGoal part rest) = fold_goal-erased part

abbrev pub erased_constraint_layer : {A B : Type 0} → (A → B) → Constraint-F A → Constraint-F B
erased_constraint_layer h (constraint_layer.Both parts) = constraint_layer.Both (map h parts)
erased_constraint_layer h (constraint_layer.Each variables part) = constraint_layer.Each (erased_all_typed variables) (h part)
erased_constraint_layer h (constraint_layer.Single operator) = constraint_layer.Single (erased_modal operator)
erased_constraint_layer h (constraint_layer.Soft at name part) = constraint_layer.Soft 0 (option_map erased_ref name) (h part)

module _ {A B : Type 0} (layer : Constraint-F A → A) (other : Constraint-F B → B) (h : A → B) (alike : (x : Constraint-F A) → other (erased_constraint_layer h x) ≡ h (layer x)) where
  mutual
    pub fold_constraint-erased : (tree : Constraint) → fold_constraint other (erased_constraint tree) ≡ h (fold_constraint layer tree)
    fold_constraint-erased (constraint.Both' _ parts) = (λ i. other (constraint_layer.Both (fold_constraints-erased parts i))) ∙ alike (constraint_layer.Both (fold_constraints layer parts))
    fold_constraint-erased (constraint.Each' variables _ part) = (λ i. other (constraint_layer.Each (erased_all_typed variables) (fold_one_constraint-erased part i))) ∙ alike (constraint_layer.Each variables (fold_one_constraint layer part))
    fold_constraint-erased (constraint.Single operator) = alike (constraint_layer.Single operator)
    fold_constraint-erased (constraint.Soft' at name _ part) = (λ i. other (constraint_layer.Soft 0 (option_map erased_ref name) (fold_one_constraint-erased part i))) ∙ alike (constraint_layer.Soft at name (fold_one_constraint layer part))

    fold_constraints-erased : {n : Count} (row : Row_of-Constraint n) → fold_constraints other (erased_constraints row) ≡ map h (fold_constraints layer row)
    fold_constraints-erased end_of-Constraint = refl
    fold_constraints-erased (more_of-Constraint part rest) = λ i. fold_constraint-erased part i ∷ fold_constraints-erased rest i

    fold_one_constraint-erased : {n : Count} (row : Row_of-Constraint (one_more n)) → fold_one_constraint other (erased_constraints row) ≡ h (fold_one_constraint layer row)
    fold_one_constraint-erased (more_of-Constraint part rest) = fold_constraint-erased part

abbrev pub erased_num_layer : {A B : Type 0} → (A → B) → Num-F A → Num-F B
erased_num_layer h (num_layer.Number numeral) = num_layer.Number (erased_numeral numeral)
erased_num_layer h (num_layer.TotalCost at) = num_layer.TotalCost 0
erased_num_layer h (num_layer.Violated name) = num_layer.Violated (erased_ref name)
erased_num_layer h (num_layer.Neg at part) = num_layer.Neg 0 (h part)
erased_num_layer h (num_layer.Sub at first second) = num_layer.Sub 0 (h first) (h second)
erased_num_layer h (num_layer.Sum at parts) = num_layer.Sum 0 (map h parts)
erased_num_layer h (num_layer.Product at parts) = num_layer.Product 0 (map h parts)

module _ {A B : Type 0} (layer : Num-F A → A) (other : Num-F B → B) (h : A → B) (alike : (x : Num-F A) → other (erased_num_layer h x) ≡ h (layer x)) where
  mutual
    pub fold_num-erased : (tree : Num) → fold_num other (erased_num tree) ≡ h (fold_num layer tree)
    fold_num-erased (num.Number numeral) = alike (num_layer.Number numeral)
    fold_num-erased (num.TotalCost at) = alike (num_layer.TotalCost at)
    fold_num-erased (num.Violated name) = alike (num_layer.Violated name)
    fold_num-erased (num.Neg' at _ part) = (λ i. other (num_layer.Neg 0 (fold_one_num-erased part i))) ∙ alike (num_layer.Neg at (fold_one_num layer part))
    fold_num-erased (num.Sub' at _ first _ second) = (λ i. other (num_layer.Sub 0 (fold_one_num-erased first i) (fold_one_num-erased second i))) ∙ alike (num_layer.Sub at (fold_one_num layer first) (fold_one_num layer second))
    fold_num-erased (num.Sum' at _ parts) = (λ i. other (num_layer.Sum 0 (fold_nums-erased parts i))) ∙ alike (num_layer.Sum at (fold_nums layer parts))
    fold_num-erased (num.Product' at _ parts) = (λ i. other (num_layer.Product 0 (fold_nums-erased parts i))) ∙ alike (num_layer.Product at (fold_nums layer parts))

    fold_nums-erased : {n : Count} (row : Row_of-Num n) → fold_nums other (erased_nums row) ≡ map h (fold_nums layer row)
    fold_nums-erased end_of-Num = refl
    fold_nums-erased (more_of-Num part rest) = λ i. fold_num-erased part i ∷ fold_nums-erased rest i

    fold_one_num-erased : {n : Count} (row : Row_of-Num (one_more n)) → fold_one_num other (erased_nums row) ≡ h (fold_one_num layer row)
    fold_one_num-erased (more_of-Num part rest) = fold_num-erased part
