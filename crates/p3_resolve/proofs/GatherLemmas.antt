-- What trees declare, form by form.
use Rattle.std.proofs.Common.{◌≡◌, ◌∙◌, ℕ, ◌+◌, ◌<◌, length, take, get_or, List, [], ◌∷◌, ◌++◌, map, Option, refl, sym, ap}
use Rattle.std.specs.Prelude.{flat_map}
use Rattle.std.proofs.lemmas.List.{append-nil, append_assoc, take_more}
use Rattle.std.proofs.lemmas.List.Concat.{flat_map-append}
use Rattle.std.proofs.lemmas.List.Folds.{flat_map-map}
use mathlib.Core.Former.{Count}
use Rattle.p3_base.proofs.OperatorLaws.{joined_binary, joined_unary, joined_image}
use Rattle.p3_base.specs.Operators.{binary, unary, joined}
use Rattle.p3_base.specs.declared.operator.Binary.{Binary}
use Rattle.p3_base.specs.declared.operator.Unary.{Unary}
use Rattle.p3_task.proofs.Computes.{trees_compute}
use Rattle.p3_task.proofs.FoldLemmas.{fold_goal-Both, fold_constraint-Both}
use Rattle.p3_task.proofs.ShapeLemmas.{formula_uses-And, formula_uses-Or, effect_uses-All, goal_uses-Both, constraint_uses-Both}
use Rattle.p3_task.specs.Folds.{fold_formulas, fold_effects, fold_goals, fold_constraints}
use Rattle.p3_task.specs.Modal.{Modal}
use Rattle.p3_task.specs.PreferenceNames.{Named, named_at, named_in_goal, named_in_constraint, goal_names_layer, constraint_names_layer}
use Rattle.p3_task.specs.Uses.{Use, Scope, scope_of, formula_layer, effect_layer, goal_layer, constraint_layer, formula_uses, effect_uses, goal_uses, modal_uses, constraint_uses}
use Rattle.p3_task.specs.declared.constraint.Constraint.{Constraint, Row_of-Constraint, end_of-Constraint, more_of-Constraint}
use Rattle.p3_task.specs.declared.constraint.Constraint.TheVariants as constraint
use Rattle.p3_task.specs.declared.effect.Amount.{Amount}
use Rattle.p3_task.specs.declared.effect.Amount.TheVariants as amount
use Rattle.p3_task.specs.declared.effect.Effect.{Effect, Row_of-Effect, end_of-Effect, more_of-Effect}
use Rattle.p3_task.specs.declared.effect.Effect.TheVariants as effect
use Rattle.p3_task.specs.declared.formula.Formula.{Formula, Row_of-Formula, end_of-Formula, more_of-Formula}
use Rattle.p3_task.specs.declared.formula.Formula.TheVariants as formula
use Rattle.p3_task.specs.declared.goal.Pref.{Pref}
use Rattle.p3_task.specs.declared.goal.PreGoal.{PreGoal, Row_of-PreGoal, end_of-PreGoal, more_of-PreGoal}
use Rattle.p3_task.specs.declared.goal.PreGoal.TheVariants as goal
use Rattle.p3_task.specs.declared.task.Action.{Action}
use Rattle.p3_task.specs.declared.term.Ref.{Ref}
use Rattle.p3_task.specs.declared.term.Term.{Term}
use Rattle.p3_task.specs.declared.term.Typed.{Typed}
use Rattle.p3_resolve.specs.Listed.{Gathering, more, nothing, types_of, lists_at, lists_of, formula_lists, effect_lists, goal_lists, modal_lists, constraint_lists, action_lists}

pub lists_of-append : (first second : List Use) → lists_of (first ++ second) ≡ lists_of first ++ lists_of second
lists_of-append first second = flat_map-append lists_at first second

pub lists_of-each : {A : Type 0} (uses : A → List Use) (parts : List A) → lists_of (flat_map uses parts) ≡ flat_map (λ part. lists_of (uses part)) parts
lists_of-each uses [] = refl
lists_of-each uses (part ∷ parts) = lists_of-append (uses part) (flat_map uses parts) ∙ ap (λ rest. lists_of (uses part) ++ rest) (lists_of-each uses parts)

-- ---- no list hangs on the variables in scope

mutual
  unfolding formula_uses

  formula-any : (tree : Formula) (scope other : Scope) → lists_of (formula_uses tree scope) ≡ lists_of (formula_uses tree other)
  formula-any (formula.Atom pred args) scope other = refl
  formula-any (formula.Equal left right) scope other = refl
  formula-any (formula.And' _ parts) scope other = formulas-any parts scope other
  formula-any (formula.Or' _ parts) scope other = formulas-any parts scope other
  formula-any (formula.Not' _ (more_of-Formula part _)) scope other = formula-any part scope other
  formula-any (formula.Imply' _ (more_of-Formula first _) _ (more_of-Formula second _)) scope other =
      lists_of-append (formula_uses first scope) (formula_uses second scope) ∙ (λ i. formula-any first scope other i ++ formula-any second scope other i)
      ∙ sym (lists_of-append (formula_uses first other) (formula_uses second other))
  formula-any (formula.Exists' variables _ (more_of-Formula body _)) scope other = ap (λ rest. types_of variables ++ rest) (formula-any body (scope_of variables ++ scope) (scope_of variables ++ other))
  formula-any (formula.Forall' variables _ (more_of-Formula body _)) scope other = ap (λ rest. types_of variables ++ rest) (formula-any body (scope_of variables ++ scope) (scope_of variables ++ other))

  formulas-any : {n : Count} (parts : Row_of-Formula n) (scope other : Scope)
      → lists_of (flat_map (λ part. part scope) (fold_formulas formula_layer parts)) ≡ lists_of (flat_map (λ part. part other) (fold_formulas formula_layer parts))
  formulas-any end_of-Formula scope other = refl
  formulas-any (more_of-Formula part rest) scope other =
      lists_of-append (formula_uses part scope) (flat_map (λ found. found scope) (fold_formulas formula_layer rest)) ∙ (λ i. formula-any part scope other i ++ formulas-any rest scope other i)
      ∙ sym (lists_of-append (formula_uses part other) (flat_map (λ found. found other) (fold_formulas formula_layer rest)))

mutual
  unfolding effect_uses

  effect-any : (tree : Effect) (scope other : Scope) → lists_of (effect_uses tree scope) ≡ lists_of (effect_uses tree other)
  effect-any (effect.Add pred args) scope other = refl
  effect-any (effect.Del pred args) scope other = refl
  effect-any (effect.All' _ parts) scope other = effects-any parts scope other
  effect-any (effect.Each' variables _ (more_of-Effect body _)) scope other = ap (λ rest. types_of variables ++ rest) (effect-any body (scope_of variables ++ scope) (scope_of variables ++ other))
  effect-any (effect.If' condition _ (more_of-Effect body _)) scope other =
      lists_of-append (formula_uses condition scope) (effect_uses body scope) ∙ (λ i. formula-any condition scope other i ++ effect-any body scope other i)
      ∙ sym (lists_of-append (formula_uses condition other) (effect_uses body other))
  effect-any (effect.Cost at (amount.Number numeral)) scope other = refl
  effect-any (effect.Cost at (amount.Value function args)) scope other = refl

  effects-any : {n : Count} (parts : Row_of-Effect n) (scope other : Scope)
      → lists_of (flat_map (λ part. part scope) (fold_effects effect_layer parts)) ≡ lists_of (flat_map (λ part. part other) (fold_effects effect_layer parts))
  effects-any end_of-Effect scope other = refl
  effects-any (more_of-Effect part rest) scope other =
      lists_of-append (effect_uses part scope) (flat_map (λ found. found scope) (fold_effects effect_layer rest)) ∙ (λ i. effect-any part scope other i ++ effects-any rest scope other i)
      ∙ sym (lists_of-append (effect_uses part other) (flat_map (λ found. found other) (fold_effects effect_layer rest)))

mutual
  unfolding goal_uses

  goal-any : (tree : PreGoal) (scope other : Scope) → lists_of (goal_uses tree scope) ≡ lists_of (goal_uses tree other)
  goal-any (goal.Plain body) scope other = formula-any body scope other
  goal-any (goal.Both' _ parts) scope other = goals-any parts scope other
  goal-any (goal.Each' variables _ (more_of-PreGoal body _)) scope other = ap (λ rest. types_of variables ++ rest) (goal-any body (scope_of variables ++ scope) (scope_of variables ++ other))
  goal-any (goal.Soft pref) scope other = formula-any pref.body scope other

  goals-any : {n : Count} (parts : Row_of-PreGoal n) (scope other : Scope)
      → lists_of (flat_map (λ part. part scope) (fold_goals goal_layer parts)) ≡ lists_of (flat_map (λ part. part other) (fold_goals goal_layer parts))
  goals-any end_of-PreGoal scope other = refl
  goals-any (more_of-PreGoal part rest) scope other =
      lists_of-append (goal_uses part scope) (flat_map (λ found. found scope) (fold_goals goal_layer rest)) ∙ (λ i. goal-any part scope other i ++ goals-any rest scope other i)
      ∙ sym (lists_of-append (goal_uses part other) (flat_map (λ found. found other) (fold_goals goal_layer rest)))

joined-lists : (operator : Modal) (scope other : Scope) → joined ◌++◌ (λ formula. lists_of (formula_uses formula other)) operator ≡ lists_of (modal_uses operator scope)
joined-lists operator scope other =
    joined_image lists_of ◌++◌ ◌++◌ (λ first second. sym (lists_of-append first second)) (λ formula. lists_of (formula_uses formula other)) (λ formula. formula_uses formula scope)
    (λ formula. formula-any formula other scope) operator

modal-any : (operator : Modal) (scope other : Scope) → lists_of (modal_uses operator scope) ≡ lists_of (modal_uses operator other)
modal-any operator scope other = sym (joined-lists operator scope other) ∙ joined-lists operator other other

mutual
  unfolding constraint_uses

  constraint-any : (tree : Constraint) (scope other : Scope) → lists_of (constraint_uses tree scope) ≡ lists_of (constraint_uses tree other)
  constraint-any (constraint.Both' _ parts) scope other = constraints-any parts scope other
  constraint-any (constraint.Each' variables _ (more_of-Constraint body _)) scope other = ap (λ rest. types_of variables ++ rest) (constraint-any body (scope_of variables ++ scope) (scope_of variables ++ other))
  constraint-any (constraint.Single operator) scope other = modal-any operator scope other
  constraint-any (constraint.Soft' at name _ (more_of-Constraint body _)) scope other = constraint-any body scope other

  constraints-any : {n : Count} (parts : Row_of-Constraint n) (scope other : Scope)
      → lists_of (flat_map (λ part. part scope) (fold_constraints constraint_layer parts)) ≡ lists_of (flat_map (λ part. part other) (fold_constraints constraint_layer parts))
  constraints-any end_of-Constraint scope other = refl
  constraints-any (more_of-Constraint part rest) scope other =
      lists_of-append (constraint_uses part scope) (flat_map (λ found. found scope) (fold_constraints constraint_layer rest)) ∙ (λ i. constraint-any part scope other i ++ constraints-any rest scope other i)
      ∙ sym (lists_of-append (constraint_uses part other) (flat_map (λ found. found other) (fold_constraints constraint_layer rest)))

-- ---- one behind the other

pub more-none : (before : Gathering) → more [] [] before ≡ before
unfolding more
more-none before = λ i. record { lists = append-nil before.lists i; named = append-nil before.named i }

more-both : (lists others : List (List Ref)) (named names : List Named) (before : Gathering) → more others names (more lists named before) ≡ more (lists ++ others) (named ++ names) before
unfolding more
more-both lists others named names before = λ i. record { lists = append_assoc before.lists lists others i; named = append_assoc before.named named names i }

-- ---- form by form

module _ (before : Gathering) where
  pub formula-Atom : (pred : Ref) (args : List Term) → more (formula_lists (formula.Atom pred args)) [] before ≡ before
  unfolding formula_lists formula_uses
  formula-Atom pred args = more-none before

  pub formula-Equal : (left right : Term) → more (formula_lists (formula.Equal left right)) [] before ≡ before
  unfolding formula_lists formula_uses
  formula-Equal left right = more-none before

  pub formula-And : (parts : List Formula) → more (formula_lists (formula.And parts)) [] before ≡ more (flat_map formula_lists parts) [] before
  unfolding formula_lists
  formula-And parts = λ i. more ((ap lists_of (formula_uses-And parts []) ∙ lists_of-each (λ part. formula_uses part []) parts) i) [] before

  pub formula-Or : (parts : List Formula) → more (formula_lists (formula.Or parts)) [] before ≡ more (flat_map formula_lists parts) [] before
  unfolding formula_lists
  formula-Or parts = λ i. more ((ap lists_of (formula_uses-Or parts []) ∙ lists_of-each (λ part. formula_uses part []) parts) i) [] before

  pub formula-Not : (part : Formula) → more (formula_lists (formula.Not part)) [] before ≡ more (formula_lists part) [] before
  unfolding formula_lists formula_uses trees_compute
  formula-Not part = refl

  pub formula-Imply : (first second : Formula) → more (formula_lists (formula.Imply first second)) [] before ≡ more (formula_lists second) [] (more (formula_lists first) [] before)
  unfolding formula_lists formula_uses trees_compute
  formula-Imply first second =
      (λ i. more (lists_of-append (formula_uses first []) (formula_uses second []) i) [] before) ∙ sym (more-both (formula_lists first) (formula_lists second) [] [] before)

  pub formula-Exists : (variables : List Typed) (body : Formula) → more (formula_lists (formula.Exists variables body)) [] before ≡ more (formula_lists body) [] (more (types_of variables) [] before)
  unfolding formula_lists formula_uses trees_compute
  formula-Exists variables body =
      (λ i. more (types_of variables ++ formula-any body (scope_of variables ++ []) [] i) [] before) ∙ sym (more-both (types_of variables) (formula_lists body) [] [] before)

  pub formula-Forall : (variables : List Typed) (body : Formula) → more (formula_lists (formula.Forall variables body)) [] before ≡ more (formula_lists body) [] (more (types_of variables) [] before)
  unfolding formula_lists formula_uses trees_compute
  formula-Forall variables body =
      (λ i. more (types_of variables ++ formula-any body (scope_of variables ++ []) [] i) [] before) ∙ sym (more-both (types_of variables) (formula_lists body) [] [] before)

  pub effect-Add : (pred : Ref) (args : List Term) → more (effect_lists (effect.Add pred args)) [] before ≡ before
  unfolding effect_lists effect_uses
  effect-Add pred args = more-none before

  pub effect-Del : (pred : Ref) (args : List Term) → more (effect_lists (effect.Del pred args)) [] before ≡ before
  unfolding effect_lists effect_uses
  effect-Del pred args = more-none before

  pub effect-All : (parts : List Effect) → more (effect_lists (effect.All parts)) [] before ≡ more (flat_map effect_lists parts) [] before
  unfolding effect_lists
  effect-All parts = λ i. more ((ap lists_of (effect_uses-All parts []) ∙ lists_of-each (λ part. effect_uses part []) parts) i) [] before

  pub effect-Each : (variables : List Typed) (body : Effect) → more (effect_lists (effect.Each variables body)) [] before ≡ more (effect_lists body) [] (more (types_of variables) [] before)
  unfolding effect_lists effect_uses trees_compute
  effect-Each variables body =
      (λ i. more (types_of variables ++ effect-any body (scope_of variables ++ []) [] i) [] before) ∙ sym (more-both (types_of variables) (effect_lists body) [] [] before)

  pub effect-If : (condition : Formula) (body : Effect) → more (effect_lists (effect.If condition body)) [] before ≡ more (effect_lists body) [] (more (formula_lists condition) [] before)
  unfolding effect_lists formula_lists effect_uses trees_compute
  effect-If condition body =
      (λ i. more (lists_of-append (formula_uses condition []) (effect_uses body []) i) [] before) ∙ sym (more-both (formula_lists condition) (effect_lists body) [] [] before)

  pub effect-Cost : (at : ℕ) (increase : Amount) → more (effect_lists (effect.Cost at increase)) [] before ≡ before
  unfolding effect_lists effect_uses
  effect-Cost at increase = by increase
    where
      by : (increase : Amount) → more (effect_lists (effect.Cost at increase)) [] before ≡ before
      by (amount.Number numeral) = more-none before
      by (amount.Value function args) = more-none before

  pub goal-Plain : (body : Formula) → more (goal_lists (goal.Plain body)) (named_in_goal (goal.Plain body)) before ≡ more (formula_lists body) [] before
  unfolding goal_lists formula_lists goal_uses named_in_goal
  goal-Plain body = refl

  pub goal-Both : (parts : List PreGoal) → more (goal_lists (goal.Both parts)) (named_in_goal (goal.Both parts)) before ≡ more (flat_map goal_lists parts) (flat_map named_in_goal parts) before
  unfolding goal_lists named_in_goal
  goal-Both parts = λ i. more ((ap lists_of (goal_uses-Both parts []) ∙ lists_of-each (λ part. goal_uses part []) parts) i)
      ((fold_goal-Both goal_names_layer parts ∙ flat_map-map (λ part. part) named_in_goal parts) i) before

  pub goal-Each : (variables : List Typed) (body : PreGoal) → more (goal_lists (goal.Each variables body)) (named_in_goal (goal.Each variables body)) before
      ≡ more (goal_lists body) (named_in_goal body) (more (types_of variables) [] before)
  unfolding goal_lists goal_uses named_in_goal trees_compute
  goal-Each variables body =
      (λ i. more (types_of variables ++ goal-any body (scope_of variables ++ []) [] i) (named_in_goal body) before) ∙ sym (more-both (types_of variables) (goal_lists body) [] (named_in_goal body) before)

  pub goal-Soft : (pref : Pref) → more (goal_lists (goal.Soft pref)) (named_in_goal (goal.Soft pref)) before ≡ more (formula_lists pref.body) [] (more [] (named_at pref.at pref.name) before)
  unfolding goal_lists formula_lists goal_uses named_in_goal
  goal-Soft pref = (λ i. more (formula_lists pref.body) (sym (append-nil (named_at pref.at pref.name)) i) before)
      ∙ sym (more-both [] (formula_lists pref.body) (named_at pref.at pref.name) [] before)

  pub modal-One : (kind : Unary) (body : Formula) → more (modal_lists (unary kind body)) [] before ≡ more (formula_lists body) [] before
  unfolding modal_lists formula_lists
  modal-One kind body = λ i. more (lists_of (joined_unary ◌++◌ (λ formula. formula_uses formula []) kind body i)) [] before

  pub modal-Two : (kind : Binary) (first second : Formula) → more (modal_lists (binary kind first second)) [] before ≡ more (formula_lists second) [] (more (formula_lists first) [] before)
  unfolding modal_lists formula_lists
  modal-Two kind first second =
      (λ i. more ((ap lists_of (joined_binary ◌++◌ (λ formula. formula_uses formula []) kind first second) ∙ lists_of-append (formula_uses first []) (formula_uses second [])) i) [] before)
      ∙ sym (more-both (formula_lists first) (formula_lists second) [] [] before)

  pub constraint-Both : (parts : List Constraint) → more (constraint_lists (constraint.Both parts)) (named_in_constraint (constraint.Both parts)) before
      ≡ more (flat_map constraint_lists parts) (flat_map named_in_constraint parts) before
  unfolding constraint_lists named_in_constraint
  constraint-Both parts = λ i. more ((ap lists_of (constraint_uses-Both parts []) ∙ lists_of-each (λ part. constraint_uses part []) parts) i)
      ((fold_constraint-Both constraint_names_layer parts ∙ flat_map-map (λ part. part) named_in_constraint parts) i) before

  pub constraint-Each : (variables : List Typed) (body : Constraint) → more (constraint_lists (constraint.Each variables body)) (named_in_constraint (constraint.Each variables body)) before
      ≡ more (constraint_lists body) (named_in_constraint body) (more (types_of variables) [] before)
  unfolding constraint_lists constraint_uses named_in_constraint trees_compute
  constraint-Each variables body =
      (λ i. more (types_of variables ++ constraint-any body (scope_of variables ++ []) [] i) (named_in_constraint body) before)
      ∙ sym (more-both (types_of variables) (constraint_lists body) [] (named_in_constraint body) before)

  pub constraint-Single : (operator : Modal) → more (constraint_lists (constraint.Single operator)) (named_in_constraint (constraint.Single operator)) before ≡ more (modal_lists operator) [] before
  unfolding constraint_lists modal_lists constraint_uses named_in_constraint
  constraint-Single operator = refl

  pub constraint-Soft : (at : ℕ) (name : Option Ref) (body : Constraint) → more (constraint_lists (constraint.Soft at name body)) (named_in_constraint (constraint.Soft at name body)) before
      ≡ more (constraint_lists body) (named_in_constraint body) (more [] (named_at at name) before)
  unfolding constraint_lists constraint_uses named_in_constraint trees_compute
  constraint-Soft at name body = sym (more-both [] (constraint_lists body) (named_at at name) (named_in_constraint body) before)

  pub action-parts : (action : Action) → more (action_lists action) (named_in_goal action.pre.body) before
      ≡ more (effect_lists action.effect.body) [] (more (goal_lists action.pre.body) (named_in_goal action.pre.body) (more (types_of action.params) [] before))
  unfolding action_lists goal_lists effect_lists
  action-parts action =
      (λ i. more (types_of action.params ++ (lists_of-append (goal_uses action.pre.body (scope_of action.params)) (effect_uses action.effect.body (scope_of action.params))
      ∙ (λ j. goal-any action.pre.body (scope_of action.params) [] j ++ effect-any action.effect.body (scope_of action.params) [] j)) i) (sym (append-nil (named_in_goal action.pre.body)) i) before)
      ∙ sym (more-both (types_of action.params) (goal_lists action.pre.body ++ effect_lists action.effect.body) [] (named_in_goal action.pre.body ++ []) before)
      ∙ sym (more-both (goal_lists action.pre.body) (effect_lists action.effect.body) (named_in_goal action.pre.body) [] (more (types_of action.params) [] before))

pub ruleset formula_laws = (formula-Atom, formula-Equal, formula-And, formula-Or, formula-Not, formula-Imply, formula-Exists, formula-Forall)

pub ruleset effect_laws = (effect-Add, effect-Del, effect-All, effect-Each, effect-If, effect-Cost)

pub ruleset goal_laws = (goal-Plain, goal-Both, goal-Each, goal-Soft)

pub ruleset modal_laws = (modal-One, modal-Two)

pub ruleset constraint_laws = (constraint-Both, constraint-Each, constraint-Single, constraint-Soft)

pub ruleset action_laws = (action-parts)

-- ---- parts

joined-more : {A B : Type 0} (f : A → List B) (xs : List A) (i : ℕ) (x : A) → i < length xs → x ≡ get_or xs i x → flat_map f (take i xs) ++ f x ≡ flat_map f (take (i + 1) xs)
joined-more f xs i x within read = ap (λ rest. flat_map f (take i xs) ++ rest) (sym (append-nil (f x))) ∙ sym (flat_map-append f (take i xs) (x ∷ []))
    ∙ ap (flat_map f) (sym (take_more xs i x within ∙ ap (λ item. take i xs ++ item ∷ []) (sym read)))

module _ {A : Type 0} (lists : A → List (List Ref)) where
  -- one part more, with its names
  pub named-more : (names : A → List Named) (old now next : Gathering) (xs : List A) (i : ℕ) (x : A) → i < length xs → x ≡ get_or xs i x
      → now ≡ more (flat_map lists (take i xs)) (flat_map names (take i xs)) old → next ≡ more (lists x) (names x) now
      → next ≡ more (flat_map lists (take (i + 1) xs)) (flat_map names (take (i + 1) xs)) old
  named-more names old now next xs i x within read so_far is =
      is ∙ ap (more (lists x) (names x)) so_far ∙ more-both (flat_map lists (take i xs)) (lists x) (flat_map names (take i xs)) (names x) old
      ∙ (λ j. more (joined-more lists xs i x within read j) (joined-more names xs i x within read j) old)

  -- one part more, without names
  pub list-more : (old now next : Gathering) (xs : List A) (i : ℕ) (x : A) → i < length xs → x ≡ get_or xs i x
      → now ≡ more (flat_map lists (take i xs)) [] old → next ≡ more (lists x) [] now → next ≡ more (flat_map lists (take (i + 1) xs)) [] old
  list-more old now next xs i x within read so_far is =
      is ∙ ap (more (lists x) []) so_far ∙ more-both (flat_map lists (take i xs)) (lists x) [] [] old ∙ (λ j. more (joined-more lists xs i x within read j) [] old)

pub ruleset more_laws = (more-none)

pub ruleset append_laws = (append-nil)

-- ---- from the beginning

pub first-more : (lists : List (List Ref)) (named : List Named) → more lists named nothing ≡ record { lists = lists; named = named }
unfolding more
first-more lists named = refl

pub then-more : (lists others : List (List Ref)) (named names : List Named) → more others names (more lists named nothing) ≡ record { lists = lists ++ others; named = named ++ names }
unfolding more
then-more lists others named names = refl

pub ruleset whole_laws = (first-more, then-more)
