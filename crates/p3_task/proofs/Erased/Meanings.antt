-- Formulas, effects, goals and constraints mean the same without offsets.
use Rattle.std.proofs.Common.{◌≡◌, ◌∙◌, ◌-◌, ◌*◌, refl, sym, ap, Bool, not, ◌&&◌, List, [], ◌∷◌, ◌++◌, length, map, Option, None, Some}
use Rattle.std.specs.Prelude.{◌^◌, flat_map, filter, filter_map, option_map, if◌then◌else◌, slice_get}
use Rattle.std.specs.List.{list_any, list_all}
use Rattle.std.proofs.lemmas.List.{map-append}
use mathlib.Core.Former.{Count, one_more}
use Rattle.p3_task.specs.Names.{Name, same_name, same_names}
use Rattle.p3_task.specs.States.{State, Environment, meanings, has_fact}
use Rattle.p3_task.specs.Bindings.{bind}
use Rattle.p3_task.specs.Formulas.{holds, holds_layer}
use Rattle.p3_task.specs.Effects.{adds, adds_layer, dels, dels_layer, next}
use Rattle.p3_task.specs.Goals.{hard_holds, hard_layer, StatePref, named, prefs, prefs_layer}
use Rattle.p3_task.specs.Costs.{increases, increases_layer, amount_numeral, value_numeral, amount_numerals, value_numerals, most_places, cost_places, cost_units, entry_value, given_value, amount_value, total, effect_cost}
use Rattle.p3_task.specs.Plans.{state_at}
use Rattle.p3_task.specs.Constraints.{holds_at, satisfies, sat, sat_layer, HardModal, hard_modals, hard_modals_layer, hard_list, operators, operators_layer, Instance, instances_of, instances_of_all, instances_of_one, one_constraint, at_end, instances}
use Rattle.p3_task.specs.Erased.{erased_ref, erased_numeral, erased_amount, erased_init, erased_action, erased_formula, erased_effect, erased_goal, erased_modal, erased_constraint, erased_constraints, erased, erased_state_pref, erased_hard_modal, erased_instance}
use Rattle.p3_task.proofs.Erased.Along.{any_along, all_along, map_along, flat_map_along, filter_map_along, flat_map_into, filter_map_into, flat_map_images}
use Rattle.p3_task.proofs.Erased.Folds.{erased_formula_layer, fold_formula-erased, erased_effect_layer, fold_effect-erased, erased_goal_layer, fold_goal-erased, erased_constraint_layer, fold_constraint-erased}
use Rattle.p3_task.proofs.Erased.Words.{meaning-erased, meanings-erased, fact_of-erased, bind-erased}
use Rattle.p3_task.specs.declared.state.Fact.{Fact}
use Rattle.p3_task.specs.declared.term.Ref.{Ref}
use Rattle.p3_task.specs.declared.formula.Formula.{Formula, Formula-F}
use Rattle.p3_task.specs.declared.formula.Formula.TheOpen as formula
use Rattle.p3_task.specs.declared.effect.Numeral.{Numeral}
use Rattle.p3_task.specs.declared.effect.Amount.{Amount}
use Rattle.p3_task.specs.declared.effect.Amount.TheVariants as amount
use Rattle.p3_task.specs.declared.effect.Effect.{Effect, Effect-F}
use Rattle.p3_task.specs.declared.effect.Effect.TheOpen as effect
use Rattle.p3_task.specs.declared.goal.PreGoal.{PreGoal, PreGoal-F}
use Rattle.p3_task.specs.declared.goal.PreGoal.TheOpen as goal
use Rattle.p3_task.specs.Modal.{Modal}
use Rattle.p3_base.proofs.OperatorLaws.{over_over, over_same}
use Rattle.p3_base.specs.Operators.{is_satisfied}
use Rattle.p3_task.specs.declared.constraint.Constraint.{Constraint, Constraint-F, Row_of-Constraint, end_of-Constraint, more_of-Constraint}
use Rattle.p3_task.specs.declared.constraint.Constraint.TheVariants as tree
use Rattle.p3_task.specs.declared.constraint.Constraint.TheOpen as constraint
use Rattle.p3_task.specs.declared.task.Action.{Action}
use Rattle.p3_task.specs.declared.task.Init.{Init}
use Rattle.p3_task.specs.declared.task.Init.TheVariants.{True, False, Value}
use Rattle.p3_task.specs.declared.task.Task.{Task}

abbrev same : {A : Type 0} → A → A
same a = a

pub named-erased : (name : Option Ref) → named (option_map erased_ref name) ≡ named name
named-erased None = refl
named-erased (Some ref) = refl

module _ (T : Task) (s : State) where
  holds_layer-erased : (x : Formula-F (Environment → Bool)) → holds_layer (erased T) s (erased_formula_layer same x) ≡ holds_layer T s x
  holds_layer-erased (formula.Atom pred args) = λ i env. has_fact s (fact_of-erased env pred args i)
  holds_layer-erased (formula.Equal left right) = λ i env. same_name (meaning-erased env left i) (meaning-erased env right i)
  holds_layer-erased (formula.And parts) = λ i env. all_along same (λ part. part env) (λ part. part env) (λ part. refl) parts i
  holds_layer-erased (formula.Or parts) = λ i env. any_along same (λ part. part env) (λ part. part env) (λ part. refl) parts i
  holds_layer-erased (formula.Not part) = refl
  holds_layer-erased (formula.Imply first second) = refl
  holds_layer-erased (formula.Exists variables body) = λ i env. list_any body (bind-erased T env variables i)
  holds_layer-erased (formula.Forall variables body) = λ i env. list_all body (bind-erased T env variables i)

  pub holds-erased : (env : Environment) (f : Formula) → holds (erased T) s env (erased_formula f) ≡ holds T s env f
  unfolding holds
  holds-erased env f = λ i. fold_formula-erased (holds_layer T s) (holds_layer (erased T) s) same holds_layer-erased f i env

  adds_layer-erased : (x : Effect-F (Environment → List Fact)) → adds_layer (erased T) s (erased_effect_layer same x) ≡ adds_layer T s x
  adds_layer-erased (effect.Add pred args) = λ i env. fact_of-erased env pred args i ∷ []
  adds_layer-erased (effect.Del pred args) = refl
  adds_layer-erased (effect.All parts) = λ i env. flat_map_along same (λ part. part env) (λ part. part env) (λ part. refl) parts i
  adds_layer-erased (effect.Each variables body) = λ i env. flat_map body (bind-erased T env variables i)
  adds_layer-erased (effect.If condition body) = λ i env. if holds-erased env condition i then body env else []
  adds_layer-erased (effect.Cost at increase) = refl

  pub adds-erased : (env : Environment) (e : Effect) → adds (erased T) s env (erased_effect e) ≡ adds T s env e
  unfolding adds
  adds-erased env e = λ i. fold_effect-erased (adds_layer T s) (adds_layer (erased T) s) same adds_layer-erased e i env

  dels_layer-erased : (x : Effect-F (Environment → List Fact)) → dels_layer (erased T) s (erased_effect_layer same x) ≡ dels_layer T s x
  dels_layer-erased (effect.Add pred args) = refl
  dels_layer-erased (effect.Del pred args) = λ i env. fact_of-erased env pred args i ∷ []
  dels_layer-erased (effect.All parts) = λ i env. flat_map_along same (λ part. part env) (λ part. part env) (λ part. refl) parts i
  dels_layer-erased (effect.Each variables body) = λ i env. flat_map body (bind-erased T env variables i)
  dels_layer-erased (effect.If condition body) = λ i env. if holds-erased env condition i then body env else []
  dels_layer-erased (effect.Cost at increase) = refl

  pub dels-erased : (env : Environment) (e : Effect) → dels (erased T) s env (erased_effect e) ≡ dels T s env e
  unfolding dels
  dels-erased env e = λ i. fold_effect-erased (dels_layer T s) (dels_layer (erased T) s) same dels_layer-erased e i env

  pub next-erased : (env : Environment) (e : Effect) → next (erased T) s env (erased_effect e) ≡ next T s env e
  unfolding next
  next-erased env e = λ i. adds-erased env e i ++ filter (λ fact. not (has_fact (dels-erased env e i) fact)) s

  hard_layer-erased : (x : PreGoal-F (Environment → Bool)) → hard_layer (erased T) s (erased_goal_layer same x) ≡ hard_layer T s x
  hard_layer-erased (goal.Plain body) = λ i env. holds-erased env body i
  hard_layer-erased (goal.Both parts) = λ i env. all_along same (λ part. part env) (λ part. part env) (λ part. refl) parts i
  hard_layer-erased (goal.Each variables body) = λ i env. list_all body (bind-erased T env variables i)
  hard_layer-erased (goal.Soft pref) = refl

  pub hard_holds-erased : (env : Environment) (g : PreGoal) → hard_holds (erased T) s env (erased_goal g) ≡ hard_holds T s env g
  unfolding hard_holds
  hard_holds-erased env g = λ i. fold_goal-erased (hard_layer T s) (hard_layer (erased T) s) same hard_layer-erased g i env

module _ (T : Task) where
  erased_prefs : (Environment → List StatePref) → Environment → List StatePref
  erased_prefs found env = map erased_state_pref (found env)

  prefs_layer-erased : (x : PreGoal-F (Environment → List StatePref)) → prefs_layer (erased T) (erased_goal_layer erased_prefs x) ≡ erased_prefs (prefs_layer T x)
  unfolding erased_prefs
  prefs_layer-erased (goal.Plain body) = refl
  prefs_layer-erased (goal.Both parts) = λ i env. flat_map_into erased_prefs erased_state_pref (λ part. part env) (λ part. part env) (λ part. refl) parts i
  prefs_layer-erased (goal.Each variables body) = λ i env. (ap (flat_map (erased_prefs body)) (bind-erased T env variables) ∙ flat_map_images erased_state_pref (erased_prefs body) body (λ inner. refl) (bind T env variables)) i
  prefs_layer-erased (goal.Soft pref) = λ i env. record { at = 0; name = named-erased pref.name i; body = erased_formula pref.body; env = env } ∷ []

  pub prefs-erased : (env : Environment) (g : PreGoal) → prefs (erased T) env (erased_goal g) ≡ map erased_state_pref (prefs T env g)
  unfolding prefs erased_prefs
  prefs-erased env g = λ i. fold_goal-erased (prefs_layer T) (prefs_layer (erased T)) erased_prefs prefs_layer-erased g i env

-- ---- costs

increases_layer-erased : (x : Effect-F (List Amount)) → increases_layer (erased_effect_layer (map erased_amount) x) ≡ map erased_amount (increases_layer x)
increases_layer-erased (effect.Add pred args) = refl
increases_layer-erased (effect.Del pred args) = refl
increases_layer-erased (effect.All parts) = flat_map_into (map erased_amount) erased_amount (λ part. part) (λ part. part) (λ part. refl) parts
increases_layer-erased (effect.Each variables body) = refl
increases_layer-erased (effect.If condition body) = refl
increases_layer-erased (effect.Cost at increase) = refl

pub increases-erased : (e : Effect) → increases (erased_effect e) ≡ map erased_amount (increases e)
unfolding increases
increases-erased e = fold_effect-erased increases_layer increases_layer (map erased_amount) increases_layer-erased e

amount_numeral-erased : (a : Amount) → amount_numeral (erased_amount a) ≡ option_map erased_numeral (amount_numeral a)
amount_numeral-erased (amount.Number numeral) = refl
amount_numeral-erased (amount.Value function args) = refl

value_numeral-erased : (entry : Init) → value_numeral (erased_init entry) ≡ option_map erased_numeral (value_numeral entry)
value_numeral-erased (Value function args number) = refl
value_numeral-erased (True pred args) = refl
value_numeral-erased (False pred args) = refl

module _ (T : Task) where
  abbrev numerals : Action → List Numeral
  numerals action = filter_map amount_numeral (increases action.effect.body)

  numerals-erased : (action : Action) → numerals (erased_action action) ≡ map erased_numeral (numerals action)
  numerals-erased action = ap (filter_map amount_numeral) (increases-erased action.effect.body) ∙ filter_map_into erased_amount erased_numeral amount_numeral amount_numeral amount_numeral-erased (increases action.effect.body)

  amounts-erased : amount_numerals (erased T) ≡ map erased_numeral (amount_numerals T)
  amounts-erased = flat_map_into erased_action erased_numeral numerals numerals numerals-erased T.domain.actions

  values-erased : value_numerals (erased T) ≡ map erased_numeral (value_numerals T)
  values-erased = filter_map_into erased_init erased_numeral value_numeral value_numeral value_numeral-erased T.problem.init

  pub cost_places-erased : cost_places (erased T) ≡ cost_places T
  unfolding cost_places
  cost_places-erased = ap most_places (
      ap (map (λ (numeral : Numeral). numeral.places)) ((λ i. amounts-erased i ++ values-erased i) ∙ sym (map-append erased_numeral (amount_numerals T) (value_numerals T)))
      ∙ map_along erased_numeral _ _ (λ numeral. refl) (amount_numerals T ++ value_numerals T))

  pub cost_units-erased : (numeral : Numeral) → cost_units (erased T) (erased_numeral numeral) ≡ cost_units T numeral
  cost_units-erased numeral = ap (λ most. numeral.digits * 10 ^ (most - numeral.places)) cost_places-erased

  entry_value-erased : (function : Name) (objects : List Name) (entry : Init) → entry_value (erased T) function objects (erased_init entry) ≡ entry_value T function objects entry
  entry_value-erased function objects (True pred args) = refl
  entry_value-erased function objects (False pred args) = refl
  entry_value-erased function objects (Value other args number) = λ i. if same_name other.name function && same_names (meanings-erased [] args i) objects then Some (cost_units-erased number i) else None

  pub given_value-erased : (function : Name) (objects : List Name) → given_value (erased T) function objects ≡ given_value T function objects
  unfolding given_value
  given_value-erased function objects = ap (λ values. slice_get values 0) (filter_map_along erased_init (entry_value (erased T) function objects) (entry_value T function objects) (entry_value-erased function objects) T.problem.init)

  amount_value-erased : (env : Environment) (a : Amount) → amount_value (erased T) env (erased_amount a) ≡ amount_value T env a
  amount_value-erased env (amount.Number numeral) = ap Some (cost_units-erased numeral)
  amount_value-erased env (amount.Value function args) = ap (given_value (erased T) function.name) (meanings-erased env args) ∙ given_value-erased function.name (meanings env args)

  pub effect_cost-erased : (env : Environment) (e : Effect) → effect_cost (erased T) env (erased_effect e) ≡ effect_cost T env e
  unfolding effect_cost
  effect_cost-erased env e = ap total (ap (map (amount_value (erased T) env)) (increases-erased e) ∙ map_along erased_amount (amount_value (erased T) env) (amount_value T env) (amount_value-erased env) (increases e))

  -- ---- constraints

  module _ (W : List State) where
    pub satisfies-erased : (env : Environment) (m : Modal) → satisfies (erased T) W env (erased_modal m) ≡ satisfies T W env m
    unfolding satisfies
    satisfies-erased env m = λ i. is_satisfied (length W) ((over_over erased_formula (holds_at (erased T) W env) m ∙ over_same _ (holds_at T W env) (λ f i k. holds-erased T (state_at W k) env f i) m) i)

    sat_layer-erased : (x : Constraint-F (Environment → Bool)) → sat_layer (erased T) W (erased_constraint_layer same x) ≡ sat_layer T W x
    sat_layer-erased (constraint.Both parts) = λ i env. all_along same (λ part. part env) (λ part. part env) (λ part. refl) parts i
    sat_layer-erased (constraint.Each variables body) = λ i env. list_all body (bind-erased T env variables i)
    sat_layer-erased (constraint.Single operator) = λ i env. satisfies-erased env operator i
    sat_layer-erased (constraint.Soft at name body) = refl

    pub sat-erased : (env : Environment) (c : Constraint) → sat (erased T) W env (erased_constraint c) ≡ sat T W env c
    unfolding sat
    sat-erased env c = λ i. fold_constraint-erased (sat_layer T W) (sat_layer (erased T) W) same sat_layer-erased c i env

  erased_modals : (Environment → List HardModal) → Environment → List HardModal
  erased_modals found env = map erased_hard_modal (found env)

  hard_modals_layer-erased : (x : Constraint-F (Environment → List HardModal)) → hard_modals_layer (erased T) (erased_constraint_layer erased_modals x) ≡ erased_modals (hard_modals_layer T x)
  unfolding erased_modals
  hard_modals_layer-erased (constraint.Both parts) = λ i env. flat_map_into erased_modals erased_hard_modal (λ part. part env) (λ part. part env) (λ part. refl) parts i
  hard_modals_layer-erased (constraint.Each variables body) = λ i env. (ap (flat_map (erased_modals body)) (bind-erased T env variables) ∙ flat_map_images erased_hard_modal (erased_modals body) body (λ inner. refl) (bind T env variables)) i
  hard_modals_layer-erased (constraint.Single operator) = refl
  hard_modals_layer-erased (constraint.Soft at name body) = refl

  hard_modals-erased : (env : Environment) (c : Constraint) → hard_modals (erased T) env (erased_constraint c) ≡ map erased_hard_modal (hard_modals T env c)
  unfolding hard_modals erased_modals
  hard_modals-erased env c = λ i. fold_constraint-erased (hard_modals_layer T) (hard_modals_layer (erased T)) erased_modals hard_modals_layer-erased c i env

  pub hard_list-erased : hard_list (erased T) ≡ map erased_hard_modal (hard_list T)
  unfolding hard_list
  hard_list-erased = (λ i. hard_modals-erased [] T.domain.constraints.body i ++ hard_modals-erased [] T.problem.constraints.body i) ∙ sym (map-append erased_hard_modal (hard_modals T [] T.domain.constraints.body) (hard_modals T [] T.problem.constraints.body))

  operators_layer-erased : (x : Constraint-F (Environment → List HardModal)) → operators_layer (erased T) (erased_constraint_layer erased_modals x) ≡ erased_modals (operators_layer T x)
  unfolding erased_modals
  operators_layer-erased (constraint.Both parts) = λ i env. flat_map_into erased_modals erased_hard_modal (λ part. part env) (λ part. part env) (λ part. refl) parts i
  operators_layer-erased (constraint.Each variables body) = λ i env. (ap (flat_map (erased_modals body)) (bind-erased T env variables) ∙ flat_map_images erased_hard_modal (erased_modals body) body (λ inner. refl) (bind T env variables)) i
  operators_layer-erased (constraint.Single operator) = refl
  operators_layer-erased (constraint.Soft at name body) = refl

  pub operators-erased : (env : Environment) (c : Constraint) → operators (erased T) env (erased_constraint c) ≡ map erased_hard_modal (operators T env c)
  unfolding operators erased_modals
  operators-erased env c = λ i. fold_constraint-erased (operators_layer T) (operators_layer (erased T)) erased_modals operators_layer-erased c i env

  one_constraint-erased : {n : Count} (row : Row_of-Constraint (one_more n)) → one_constraint (erased_constraints row) ≡ erased_constraint (one_constraint row)
  one_constraint-erased (more_of-Constraint part rest) = refl

  mutual
    unfolding instances_of

    instances_of-erased : (c : Constraint) (env : Environment) → instances_of (erased T) (erased_constraint c) env ≡ map erased_instance (instances_of T c env)
    instances_of-erased (tree.Both' _ parts) env = instances_of_all-erased parts env
    instances_of-erased (tree.Each' variables _ body) env = ap (flat_map (instances_of_one (erased T) (erased_constraints body))) (bind-erased T env variables) ∙ flat_map_images erased_instance (instances_of_one (erased T) (erased_constraints body)) (instances_of_one T body) (instances_of_one-erased body) (bind T env variables)
    instances_of-erased (tree.Single operator) env = refl
    instances_of-erased (tree.Soft' at name _ body) env = λ i. record { at = 0; name = named-erased name i; body = one_constraint-erased body i; env = env } ∷ []

    instances_of_all-erased : {n : Count} (row : Row_of-Constraint n) (env : Environment) → instances_of_all (erased T) (erased_constraints row) env ≡ map erased_instance (instances_of_all T row env)
    instances_of_all-erased end_of-Constraint env = refl
    instances_of_all-erased (more_of-Constraint part rest) env = (λ i. instances_of-erased part env i ++ instances_of_all-erased rest env i) ∙ sym (map-append erased_instance (instances_of T part env) (instances_of_all T rest env))

    instances_of_one-erased : {n : Count} (row : Row_of-Constraint (one_more n)) (env : Environment) → instances_of_one (erased T) (erased_constraints row) env ≡ map erased_instance (instances_of_one T row env)
    instances_of_one-erased (more_of-Constraint part rest) env = instances_of-erased part env

  images : (list : List StatePref) → map at_end (map erased_state_pref list) ≡ map erased_instance (map at_end list)
  images list = map_along erased_state_pref at_end (λ pref. at_end (erased_state_pref pref)) (λ pref. refl) list ∙ sym (map_along at_end erased_instance (λ pref. at_end (erased_state_pref pref)) (λ pref. refl) list)

  pub instances-erased : instances (erased T) ≡ map erased_instance (instances T)
  unfolding instances
  instances-erased =
      let own : List Instance = instances_of T T.domain.constraints.body [] in
      let others : List Instance = instances_of T T.problem.constraints.body [] in
      let last : List StatePref = prefs T [] T.problem.goal.body in
      (λ i. instances_of-erased T.domain.constraints.body [] i ++ (instances_of-erased T.problem.constraints.body [] i ++ (ap (map at_end) (prefs-erased T [] T.problem.goal.body) ∙ images last) i))
      ∙ ap (λ back. map erased_instance own ++ back) (sym (map-append erased_instance others (map at_end last)))
      ∙ sym (map-append erased_instance own (others ++ map at_end last))
