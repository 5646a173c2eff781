-- The size of a numbered tree is that of the tree that it was made of, cut.
use Rattle.std.proofs.Common.{◌≡◌, ◌∙◌, ℕ, ◌+◌, ◌*◌, true, List, [], ◌∷◌, ◌++◌, map, sum, length, refl, sym, ap, arith}
use Rattle.std.specs.Prelude.{fold}
use Rattle.std.specs.List.{list_all}
use Rattle.std.proofs.Math.Nat.{mul_assoc}
use Rattle.std.proofs.lemmas.Bool.{and_parts}
use Rattle.std.proofs.lemmas.List.{length-map}
use mathlib.Core.Former.{Count}
use Rattle.p3_task.specs.Folds.{fold_formulas, fold_effects, fold_goals, fold_constraints}
use Rattle.p3_task.specs.Limits as named
use Rattle.p3_task.specs.Limits.{binding_count}
use Rattle.p3_task.specs.Types.{objects}
use Rattle.p3_task.specs.declared.constraint.Constraint.{Constraint, Row_of-Constraint, end_of-Constraint, more_of-Constraint}
use Rattle.p3_task.specs.declared.constraint.Constraint.TheVariants as constraint
use Rattle.p3_task.specs.Modal.{Modal}
use Rattle.p3_base.specs.declared.operator.Operator.TheVariants as modal
use Rattle.p3_task.specs.declared.effect.Effect.{Effect, Row_of-Effect, end_of-Effect, more_of-Effect}
use Rattle.p3_task.specs.declared.effect.Effect.TheVariants as effect
use Rattle.p3_task.specs.declared.formula.Formula.{Formula, Row_of-Formula, end_of-Formula, more_of-Formula}
use Rattle.p3_task.specs.declared.formula.Formula.TheVariants as formula
use Rattle.p3_task.specs.declared.goal.PreGoal.{PreGoal, Row_of-PreGoal, end_of-PreGoal, more_of-PreGoal}
use Rattle.p3_task.specs.declared.goal.PreGoal.TheVariants as goal
use Rattle.p3_task.specs.declared.task.Task.{Task}
use Rattle.p3_task.specs.declared.term.Ref.{Ref}
use Rattle.p3_task.specs.declared.term.Typed.{Typed}
use Rattle.p3_numbers.specs.Choices.{choice_count}
use Rattle.p3_numbers.specs.Conditions.{condition_of, condition_layer, is_known_formula, known_formula_layer}
use Rattle.p3_numbers.specs.Constraints.{constraint_of, constraint_layer, modal_of, is_known_modal, is_known_constraint, known_constraint_layer}
use Rattle.p3_numbers.specs.Effects.{effect_of, effect_layer, amount_of, is_known_amount, is_known_effect, known_effect_layer}
use Rattle.p3_numbers.specs.Goals.{goal_of, goal_layer, numbered_name, is_known_name, is_known_goal, known_goal_layer}
use Rattle.p3_numbers.specs.Places.{Variables, number_in, numbered_term, numbered_terms, range_of, ranges_of, words_of, has_types, are_known_types, IsNumbering}
use Rattle.p3_numbers.specs.Slots.{name_at, range_at}
use Rattle.p3_numbers.specs.declared.numbers.Numbers.{Numbers}
use Rattle.p3_limits.specs.Cuts.{cut, cut_choices, cut_sum}
use Rattle.p3_limits.specs.Sizes.{above, above_two, above_each, condition_size, effect_size, goal_size, modal_size, constraint_size}
use Rattle.p3_limits.proofs.CutLaws.{cut-one, cut-total-one, cut-above, cut-above_two, cut-above_each}
use Rattle.p3_limits.proofs.SizeLemmas as built
use Rattle.p3_limits.proofs.SizeLemmas.{cut_total-map}

module _ (T : Task) (N : Numbers) (ties : IsNumbering T N) where
  -- ---- choices

  range-length : (types : List Ref) → has_types N types ≡ true → length (range_at N (range_of N types)) ≡ length (objects T types)
  range-length types known = sym (length-map (range_at N (range_of N types)) (name_at N.objects)) ∙ ap length (ties.named types known)

  choices-from : (start : ℕ) (variables : List Typed) → are_known_types N variables ≡ true
      → start * choice_count N (ranges_of N variables) ≡ fold (λ product variable. product * length (objects T variable.types)) start variables
  unfolding choice_count
  choices-from start [] known = omega arith
  choices-from start (variable ∷ variables) known =
      let parts = and_parts (has_types N variable.types) (are_known_types N variables) known in
      ap (λ n. start * (n * choice_count N (ranges_of N variables))) (range-length variable.types parts.0)
      ∙ sym (mul_assoc start (length (objects T variable.types)) (choice_count N (ranges_of N variables)))
      ∙ choices-from (start * length (objects T variable.types)) variables parts.1

  pub choices-are : (variables : List Typed) → are_known_types N variables ≡ true → choice_count N (ranges_of N variables) ≡ binding_count T variables
  unfolding binding_count
  choices-are variables known =
      let once : choice_count N (ranges_of N variables) ≡ 1 * choice_count N (ranges_of N variables) = omega arith in
      once ∙ choices-from 1 variables known

  each-is : (variables : List Typed) (body size : ℕ) → are_known_types N variables ≡ true → body ≡ cut size → above_each (cut_choices N (ranges_of N variables)) body ≡ cut (1 + binding_count T variables * size)
  each-is variables body size known is =
      ap (above_each (cut_choices N (ranges_of N variables))) is ∙ cut-above_each N (ranges_of N variables) size ∙ ap (λ n. cut (1 + n * size)) (choices-are variables known)

  two-is : (first second size more : ℕ) → first ≡ cut size → second ≡ cut more → above_two first second ≡ cut (1 + size + more)
  two-is first second size more is are = (λ i. above_two (is i) (are i)) ∙ cut-above_two size more

  one-is : (part size : ℕ) → part ≡ cut size → above part ≡ cut (1 + size)
  one-is part size is = ap above is ∙ cut-above size

  -- ---- conditions

  mutual
    unfolding named.formula_size condition_of is_known_formula

    pub condition-size : (tree : Formula) (scope : Variables) → is_known_formula N tree scope ≡ true → condition_size N (condition_of N tree scope) ≡ cut (named.formula_size T tree)
    condition-size (formula.Atom pred args) scope known = built.condition-Atom N (number_in N.predicates pred.name) (numbered_terms N scope args) ∙ cut-one
    condition-size (formula.Equal left right) scope known = built.condition-Equal N (numbered_term N scope left) (numbered_term N scope right) ∙ cut-one
    condition-size (formula.And' _ parts) scope known =
        let made = map (λ part. part scope) (fold_formulas (condition_layer N) parts) in
        built.condition-And N made ∙ sym (cut_total-map (condition_size N) 1 made) ∙ ap (cut_sum 1) (conditions-sizes parts scope known) ∙ cut-total-one (fold_formulas (named.formula_layer T) parts)
    condition-size (formula.Or' _ parts) scope known =
        let made = map (λ part. part scope) (fold_formulas (condition_layer N) parts) in
        built.condition-Or N made ∙ sym (cut_total-map (condition_size N) 1 made) ∙ ap (cut_sum 1) (conditions-sizes parts scope known) ∙ cut-total-one (fold_formulas (named.formula_layer T) parts)
    condition-size (formula.Not' _ (more_of-Formula part _)) scope known = built.condition-Not N (condition_of N part scope) ∙ one-is _ (named.formula_size T part) (condition-size part scope known)
    condition-size (formula.Imply' _ (more_of-Formula first _) _ (more_of-Formula second _)) scope known =
        let parts = and_parts (is_known_formula N first scope) (is_known_formula N second scope) known in
        built.condition-Imply N (condition_of N first scope) (condition_of N second scope)
        ∙ two-is _ _ (named.formula_size T first) (named.formula_size T second) (condition-size first scope parts.0) (condition-size second scope parts.1)
    condition-size (formula.Exists' variables _ (more_of-Formula body _)) scope known =
        let inner = scope ++ words_of variables in
        let parts = and_parts (are_known_types N variables) (is_known_formula N body inner) known in
        built.condition-Exists N (ranges_of N variables) (condition_of N body inner) ∙ each-is variables _ (named.formula_size T body) parts.0 (condition-size body inner parts.1)
    condition-size (formula.Forall' variables _ (more_of-Formula body _)) scope known =
        let inner = scope ++ words_of variables in
        let parts = and_parts (are_known_types N variables) (is_known_formula N body inner) known in
        built.condition-Forall N (ranges_of N variables) (condition_of N body inner) ∙ each-is variables _ (named.formula_size T body) parts.0 (condition-size body inner parts.1)

    conditions-sizes : {n : Count} (parts : Row_of-Formula n) (scope : Variables) → list_all (λ part. part scope) (fold_formulas (known_formula_layer N) parts) ≡ true
        → map (condition_size N) (map (λ part. part scope) (fold_formulas (condition_layer N) parts)) ≡ map cut (fold_formulas (named.formula_layer T) parts)
    conditions-sizes end_of-Formula scope known = refl
    conditions-sizes (more_of-Formula part rest) scope known =
        let parts = and_parts (is_known_formula N part scope) (list_all (λ part. part scope) (fold_formulas (known_formula_layer N) rest)) known in
        λ i. condition-size part scope parts.0 i ∷ conditions-sizes rest scope parts.1 i

  -- ---- effects

  mutual
    unfolding named.effect_size effect_of is_known_effect

    pub effect-size : (tree : Effect) (scope : Variables) → is_known_effect N tree scope ≡ true → effect_size N (effect_of N tree scope) ≡ cut (named.effect_size T tree)
    effect-size (effect.Add pred args) scope known = built.effect-Add N (number_in N.predicates pred.name) (numbered_terms N scope args) ∙ cut-one
    effect-size (effect.Del pred args) scope known = built.effect-Del N (number_in N.predicates pred.name) (numbered_terms N scope args) ∙ cut-one
    effect-size (effect.All' _ parts) scope known =
        let made = map (λ part. part scope) (fold_effects (effect_layer N) parts) in
        built.effect-All N made ∙ sym (cut_total-map (effect_size N) 1 made) ∙ ap (cut_sum 1) (effects-sizes parts scope known) ∙ cut-total-one (fold_effects (named.effect_layer T) parts)
    effect-size (effect.Each' variables _ (more_of-Effect body _)) scope known =
        let inner = scope ++ words_of variables in
        let parts = and_parts (are_known_types N variables) (is_known_effect N body inner) known in
        built.effect-Each N (ranges_of N variables) (effect_of N body inner) ∙ each-is variables _ (named.effect_size T body) parts.0 (effect-size body inner parts.1)
    effect-size (effect.If' test _ (more_of-Effect body _)) scope known =
        let parts = and_parts (is_known_formula N test scope) (is_known_effect N body scope) known in
        built.effect-If N (condition_of N test scope) (effect_of N body scope)
        ∙ two-is _ _ (named.formula_size T test) (named.effect_size T body) (condition-size test scope parts.0) (effect-size body scope parts.1)
    effect-size (effect.Cost at increase) scope known = built.effect-Cost N (amount_of N increase scope) ∙ cut-one

    effects-sizes : {n : Count} (parts : Row_of-Effect n) (scope : Variables) → list_all (λ part. part scope) (fold_effects (known_effect_layer N) parts) ≡ true
        → map (effect_size N) (map (λ part. part scope) (fold_effects (effect_layer N) parts)) ≡ map cut (fold_effects (named.effect_layer T) parts)
    effects-sizes end_of-Effect scope known = refl
    effects-sizes (more_of-Effect part rest) scope known =
        let parts = and_parts (is_known_effect N part scope) (list_all (λ part. part scope) (fold_effects (known_effect_layer N) rest)) known in
        λ i. effect-size part scope parts.0 i ∷ effects-sizes rest scope parts.1 i

  -- ---- goals

  mutual
    unfolding named.goal_size goal_of is_known_goal

    pub goal-size : (tree : PreGoal) (scope : Variables) → is_known_goal N tree scope ≡ true → goal_size N (goal_of N tree scope) ≡ cut (named.goal_size T tree)
    goal-size (goal.Plain body) scope known = built.goal-Plain N (condition_of N body scope) ∙ condition-size body scope known
    goal-size (goal.Both' _ parts) scope known =
        let made = map (λ part. part scope) (fold_goals (goal_layer N) parts) in
        built.goal-Both N made ∙ sym (cut_total-map (goal_size N) 1 made) ∙ ap (cut_sum 1) (goals-sizes parts scope known) ∙ cut-total-one (fold_goals (named.goal_layer T) parts)
    goal-size (goal.Each' variables _ (more_of-PreGoal body _)) scope known =
        let inner = scope ++ words_of variables in
        let parts = and_parts (are_known_types N variables) (is_known_goal N body inner) known in
        built.goal-Each N (ranges_of N variables) (goal_of N body inner) ∙ each-is variables _ (named.goal_size T body) parts.0 (goal-size body inner parts.1)
    goal-size (goal.Soft pref) scope known =
        let parts = and_parts (is_known_name N pref.name) (is_known_formula N pref.body scope) known in
        built.goal-Soft N (record { at = pref.at; name = numbered_name N pref.name; body = condition_of N pref.body scope })
        ∙ one-is _ (named.formula_size T pref.body) (condition-size pref.body scope parts.1)

    goals-sizes : {n : Count} (parts : Row_of-PreGoal n) (scope : Variables) → list_all (λ part. part scope) (fold_goals (known_goal_layer N) parts) ≡ true
        → map (goal_size N) (map (λ part. part scope) (fold_goals (goal_layer N) parts)) ≡ map cut (fold_goals (named.goal_layer T) parts)
    goals-sizes end_of-PreGoal scope known = refl
    goals-sizes (more_of-PreGoal part rest) scope known =
        let parts = and_parts (is_known_goal N part scope) (list_all (λ part. part scope) (fold_goals (known_goal_layer N) rest)) known in
        λ i. goal-size part scope parts.0 i ∷ goals-sizes rest scope parts.1 i

  -- ---- constraints

  modal-size : (operator : Modal) (scope : Variables) → is_known_modal N operator scope ≡ true → modal_size N (modal_of N operator scope) ≡ cut (named.modal_size T operator)
  modal-size (modal.AtEnd f) scope known = one-is _ (named.formula_size T f) (condition-size f scope known)
  modal-size (modal.Always f) scope known = one-is _ (named.formula_size T f) (condition-size f scope known)
  modal-size (modal.Sometime f) scope known = one-is _ (named.formula_size T f) (condition-size f scope known)
  modal-size (modal.AtMostOnce f) scope known = one-is _ (named.formula_size T f) (condition-size f scope known)
  modal-size (modal.SometimeAfter f g) scope known =
      let parts = and_parts (is_known_formula N f scope) (is_known_formula N g scope) known in
      two-is _ _ (named.formula_size T f) (named.formula_size T g) (condition-size f scope parts.0) (condition-size g scope parts.1)
  modal-size (modal.SometimeBefore f g) scope known =
      let parts = and_parts (is_known_formula N f scope) (is_known_formula N g scope) known in
      two-is _ _ (named.formula_size T f) (named.formula_size T g) (condition-size f scope parts.0) (condition-size g scope parts.1)

  mutual
    unfolding named.constraint_size constraint_of is_known_constraint

    pub constraint-size : (tree : Constraint) (scope : Variables) → is_known_constraint N tree scope ≡ true → constraint_size N (constraint_of N tree scope) ≡ cut (named.constraint_size T tree)
    constraint-size (constraint.Both' _ parts) scope known =
        let made = map (λ part. part scope) (fold_constraints (constraint_layer N) parts) in
        built.constraint-Both N made ∙ sym (cut_total-map (constraint_size N) 1 made) ∙ ap (cut_sum 1) (constraints-sizes parts scope known) ∙ cut-total-one (fold_constraints (named.constraint_layer T) parts)
    constraint-size (constraint.Each' variables _ (more_of-Constraint body _)) scope known =
        let inner = scope ++ words_of variables in
        let parts = and_parts (are_known_types N variables) (is_known_constraint N body inner) known in
        built.constraint-Each N (ranges_of N variables) (constraint_of N body inner) ∙ each-is variables _ (named.constraint_size T body) parts.0 (constraint-size body inner parts.1)
    constraint-size (constraint.Single operator) scope known = built.constraint-Single N (modal_of N operator scope) ∙ modal-size operator scope known
    constraint-size (constraint.Soft' at name _ (more_of-Constraint body _)) scope known =
        let parts = and_parts (is_known_name N name) (is_known_constraint N body scope) known in
        built.constraint-Soft N at (numbered_name N name) (constraint_of N body scope) ∙ one-is _ (named.constraint_size T body) (constraint-size body scope parts.1)

    constraints-sizes : {n : Count} (parts : Row_of-Constraint n) (scope : Variables) → list_all (λ part. part scope) (fold_constraints (known_constraint_layer N) parts) ≡ true
        → map (constraint_size N) (map (λ part. part scope) (fold_constraints (constraint_layer N) parts)) ≡ map cut (fold_constraints (named.constraint_layer T) parts)
    constraints-sizes end_of-Constraint scope known = refl
    constraints-sizes (more_of-Constraint part rest) scope known =
        let parts = and_parts (is_known_constraint N part scope) (list_all (λ part. part scope) (fold_constraints (known_constraint_layer N) rest)) known in
        λ i. constraint-size part scope parts.0 i ∷ constraints-sizes rest scope parts.1 i
