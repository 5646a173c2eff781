-- What a walk over trees has come to, form by form.
use Rattle.std.proofs.Common.{◌≡◌, ◌∙◌, ℕ, ◌+◌, ◌-◌, ◌<◌, length, take, get_or, List, [], ◌∷◌, ◌++◌, Option, Some, None, refl, sym, ap, arith, length-append}
use Rattle.std.specs.Prelude.{fold, flat_map}
use Rattle.std.proofs.lemmas.List.{take_more, append-nil, drop_at, length-map}
use Rattle.std.proofs.lemmas.List.Concat.{flat_map-append}
use Rattle.p3_task.proofs.Computes.{trees_compute}
use Rattle.p3_task.proofs.FoldLemmas.{fold_num-Product}
use Rattle.std.proofs.lemmas.List.Folds.{flat_map-map}
use Rattle.p3_task.proofs.ShapeLemmas.{formula_uses-And, formula_uses-Or, effect_uses-All, goal_uses-Both, constraint_uses-Both}
use Rattle.p3_task.specs.Names.{total_cost}
use Rattle.p3_task.specs.Slots.{words_of}
use Rattle.p3_task.specs.Types.{type_names}
use Rattle.p3_task.specs.Uses.{Use, Scope, scope_of, Variables, AtomUse, FunctionUse, SideUse, formula_uses, effect_uses, amount_uses, goal_uses, modal_uses, constraint_uses, num_layer, num_uses, NameUse}
use Rattle.p3_task.specs.declared.metric.Metric.{Metric}
use Rattle.p3_task.specs.declared.metric.Num.{Num}
use Rattle.p3_task.specs.declared.metric.Num.TheVariants as num
use Rattle.p3_task.specs.declared.term.Ref.{Ref}
use Rattle.p3_task.specs.declared.term.Term.{Term}
use Rattle.p3_task.specs.declared.term.Typed.{Typed}
use Rattle.p3_task.specs.declared.formula.Formula.{Formula}
use Rattle.p3_task.specs.declared.formula.Formula.TheVariants as formula
use Rattle.p3_task.specs.declared.effect.Amount.{Amount}
use Rattle.p3_task.specs.declared.effect.Amount.TheVariants as amount
use Rattle.p3_task.specs.declared.effect.Numeral.{Numeral}
use Rattle.p3_task.specs.declared.effect.Effect.{Effect}
use Rattle.p3_task.specs.declared.effect.Effect.TheVariants as effect
use Rattle.p3_task.specs.declared.goal.Pref.{Pref}
use Rattle.p3_task.specs.declared.goal.PreGoal.{PreGoal}
use Rattle.p3_task.specs.declared.goal.PreGoal.TheVariants as goal
use Rattle.p3_task.specs.Modal.{Modal}
use Rattle.p3_base.proofs.OperatorLaws.{joined_binary, joined_unary}
use Rattle.p3_base.specs.Operators.{binary, unary}
use Rattle.p3_base.specs.declared.operator.Binary.{Binary}
use Rattle.p3_base.specs.declared.operator.Unary.{Unary}
use Rattle.p3_task.specs.declared.constraint.Constraint.{Constraint}
use Rattle.p3_task.specs.declared.constraint.Constraint.TheVariants as constraint
use Rattle.p3_task.specs.declared.task.Action.{Action}
use Rattle.p3_task.specs.declared.task.Task.{Task}
use Rattle.p3_numbers.proofs.ScopeLemmas.{take_whole}
use Rattle.p3_resolve.proofs.WalkLemmas.{fold-append}
use Rattle.p3_resolve.specs.Spots.{use_step}
use Rattle.p3_resolve.specs.Walk.{Walked, with_tree, with_variables, behind, uses_of_each, uses_of_action, uses_of_num, uses_of_metric}

-- ---- trees

-- nothing more
pub tree-none : (T : Task) (walk : Walked) → with_tree T (λ scope. []) walk ≡ walk
unfolding with_tree
tree-none T walk = refl

-- a tree behind another
tree-both : (uses others : Scope → List Use) (T : Task) (walk : Walked) → with_tree T others (with_tree T uses walk) ≡ with_tree T (λ scope. uses scope ++ others scope) walk
unfolding with_tree
tree-both uses others T walk = λ i. record { words = walk.words; scope = walk.scope; found = sym (fold-append (use_step T) walk.found (uses walk.scope) (others walk.scope)) i }

-- a tree that variables are bound in
tree-bound : (variables : List Typed) (uses : Scope → List Use) (T : Task) (walk : Walked)
    → behind (length variables) (with_tree T uses (with_variables T variables walk)) ≡ with_tree T (λ scope. Variables variables ∷ uses (scope_of variables ++ scope)) walk
unfolding with_tree with_variables behind
tree-bound variables uses T walk = λ i. record {
  words = ((λ j. take (left j) (walk.words ++ words_of variables)) ∙ take_whole walk.words (words_of variables)) i;
  scope = drop_at (scope_of variables) walk.scope (length variables) (length-map variables (λ (variable : Typed). (variable.name.name, type_names variable.types))) i;
  found = fold (use_step T) (use_step T walk.found (Variables variables)) (uses (scope_of variables ++ walk.scope));
}
  where
    left : length (walk.words ++ words_of variables) - length variables ≡ length walk.words
    left = omega (arith, length-append walk.words (words_of variables), length-map variables (λ (variable : Typed). variable.name.name))

-- what a tree leaves as it is
pub words-kept : (T : Task) (uses : Scope → List Use) (walk : Walked) → (with_tree T uses walk).words ≡ walk.words
unfolding with_tree
words-kept T uses walk = refl

pub words-more : (T : Task) (variables : List Typed) (walk : Walked) → (with_variables T variables walk).words ≡ walk.words ++ words_of variables
unfolding with_variables
words-more T variables walk = refl

pub scope-kept : (T : Task) (uses : Scope → List Use) (walk : Walked) → (with_tree T uses walk).scope ≡ walk.scope
unfolding with_tree
scope-kept T uses walk = refl

pub ruleset word_laws = (words-kept, scope-kept, words-more)

-- ---- form by form

module _ (T : Task) (walk : Walked) where
  pub formula-Atom : (pred : Ref) (args : List Term) → with_tree T (formula_uses (formula.Atom pred args)) walk ≡ with_tree T (λ scope. AtomUse pred args scope ∷ []) walk
  unfolding formula_uses
  formula-Atom pred args = refl

  pub formula-Equal : (left right : Term) → with_tree T (formula_uses (formula.Equal left right)) walk ≡ with_tree T (λ scope. SideUse right scope ∷ []) (with_tree T (λ scope. SideUse left scope ∷ []) walk)
  unfolding formula_uses
  formula-Equal left right = sym (tree-both (λ scope. SideUse left scope ∷ []) (λ scope. SideUse right scope ∷ []) T walk)

  pub formula-And : (parts : List Formula) → with_tree T (formula_uses (formula.And parts)) walk ≡ with_tree T (uses_of_each formula_uses parts) walk
  unfolding uses_of_each
  formula-And parts = λ i. with_tree T (λ scope. formula_uses-And parts scope i) walk

  pub formula-Or : (parts : List Formula) → with_tree T (formula_uses (formula.Or parts)) walk ≡ with_tree T (uses_of_each formula_uses parts) walk
  unfolding uses_of_each
  formula-Or parts = λ i. with_tree T (λ scope. formula_uses-Or parts scope i) walk

  pub formula-Not : (part : Formula) → with_tree T (formula_uses (formula.Not part)) walk ≡ with_tree T (formula_uses part) walk
  unfolding formula_uses trees_compute
  formula-Not part = refl

  pub formula-Imply : (first second : Formula) → with_tree T (formula_uses (formula.Imply first second)) walk ≡ with_tree T (formula_uses second) (with_tree T (formula_uses first) walk)
  unfolding formula_uses trees_compute
  formula-Imply first second = sym (tree-both (formula_uses first) (formula_uses second) T walk)

  pub formula-Exists : (variables : List Typed) (body : Formula) → with_tree T (formula_uses (formula.Exists variables body)) walk ≡ behind (length variables) (with_tree T (formula_uses body) (with_variables T variables walk))
  unfolding formula_uses trees_compute
  formula-Exists variables body = sym (tree-bound variables (formula_uses body) T walk)

  pub formula-Forall : (variables : List Typed) (body : Formula) → with_tree T (formula_uses (formula.Forall variables body)) walk ≡ behind (length variables) (with_tree T (formula_uses body) (with_variables T variables walk))
  unfolding formula_uses trees_compute
  formula-Forall variables body = sym (tree-bound variables (formula_uses body) T walk)

  pub effect-Add : (pred : Ref) (args : List Term) → with_tree T (effect_uses (effect.Add pred args)) walk ≡ with_tree T (λ scope. AtomUse pred args scope ∷ []) walk
  unfolding effect_uses
  effect-Add pred args = refl

  pub effect-Del : (pred : Ref) (args : List Term) → with_tree T (effect_uses (effect.Del pred args)) walk ≡ with_tree T (λ scope. AtomUse pred args scope ∷ []) walk
  unfolding effect_uses
  effect-Del pred args = refl

  pub effect-All : (parts : List Effect) → with_tree T (effect_uses (effect.All parts)) walk ≡ with_tree T (uses_of_each effect_uses parts) walk
  unfolding uses_of_each
  effect-All parts = λ i. with_tree T (λ scope. effect_uses-All parts scope i) walk

  pub effect-Each : (variables : List Typed) (body : Effect) → with_tree T (effect_uses (effect.Each variables body)) walk ≡ behind (length variables) (with_tree T (effect_uses body) (with_variables T variables walk))
  unfolding effect_uses trees_compute
  effect-Each variables body = sym (tree-bound variables (effect_uses body) T walk)

  pub effect-If : (condition : Formula) (body : Effect) → with_tree T (effect_uses (effect.If condition body)) walk ≡ with_tree T (effect_uses body) (with_tree T (formula_uses condition) walk)
  unfolding effect_uses trees_compute
  effect-If condition body = sym (tree-both (formula_uses condition) (effect_uses body) T walk)

  pub effect-Cost : (at : ℕ) (increase : Amount) → with_tree T (effect_uses (effect.Cost at increase)) walk ≡ with_tree T (amount_uses increase) (with_tree T (λ scope. FunctionUse (record { name = total_cost; at = at }) [] scope ∷ []) walk)
  unfolding effect_uses
  effect-Cost at increase = sym (tree-both (λ scope. FunctionUse (record { name = total_cost; at = at }) [] scope ∷ []) (amount_uses increase) T walk)

  pub amount-Number : (numeral : Numeral) → with_tree T (amount_uses (amount.Number numeral)) walk ≡ walk
  amount-Number numeral = tree-none T walk

  pub amount-Value : (function : Ref) (args : List Term) → with_tree T (amount_uses (amount.Value function args)) walk ≡ with_tree T (λ scope. FunctionUse function args scope ∷ []) walk
  amount-Value function args = refl

  pub goal-Plain : (body : Formula) → with_tree T (goal_uses (goal.Plain body)) walk ≡ with_tree T (formula_uses body) walk
  unfolding goal_uses
  goal-Plain body = refl

  pub goal-Both : (parts : List PreGoal) → with_tree T (goal_uses (goal.Both parts)) walk ≡ with_tree T (uses_of_each goal_uses parts) walk
  unfolding uses_of_each
  goal-Both parts = λ i. with_tree T (λ scope. goal_uses-Both parts scope i) walk

  pub goal-Each : (variables : List Typed) (body : PreGoal) → with_tree T (goal_uses (goal.Each variables body)) walk ≡ behind (length variables) (with_tree T (goal_uses body) (with_variables T variables walk))
  unfolding goal_uses trees_compute
  goal-Each variables body = sym (tree-bound variables (goal_uses body) T walk)

  pub goal-Soft : (pref : Pref) → with_tree T (goal_uses (goal.Soft pref)) walk ≡ with_tree T (formula_uses pref.body) walk
  unfolding goal_uses
  goal-Soft pref = refl

  pub modal-One : (kind : Unary) (body : Formula) → with_tree T (modal_uses (unary kind body)) walk ≡ with_tree T (formula_uses body) walk
  modal-One kind body = λ i. with_tree T (λ scope. joined_unary ◌++◌ (λ formula. formula_uses formula scope) kind body i) walk

  pub modal-Two : (kind : Binary) (first second : Formula) → with_tree T (modal_uses (binary kind first second)) walk ≡ with_tree T (formula_uses second) (with_tree T (formula_uses first) walk)
  modal-Two kind first second =
      (λ i. with_tree T (λ scope. joined_binary ◌++◌ (λ formula. formula_uses formula scope) kind first second i) walk)
      ∙ sym (tree-both (formula_uses first) (formula_uses second) T walk)

  pub constraint-Both : (parts : List Constraint) → with_tree T (constraint_uses (constraint.Both parts)) walk ≡ with_tree T (uses_of_each constraint_uses parts) walk
  unfolding uses_of_each
  constraint-Both parts = λ i. with_tree T (λ scope. constraint_uses-Both parts scope i) walk

  pub constraint-Each : (variables : List Typed) (body : Constraint) → with_tree T (constraint_uses (constraint.Each variables body)) walk ≡ behind (length variables) (with_tree T (constraint_uses body) (with_variables T variables walk))
  unfolding constraint_uses trees_compute
  constraint-Each variables body = sym (tree-bound variables (constraint_uses body) T walk)

  pub constraint-Single : (operator : Modal) → with_tree T (constraint_uses (constraint.Single operator)) walk ≡ with_tree T (modal_uses operator) walk
  unfolding constraint_uses
  constraint-Single operator = refl

  pub constraint-Soft : (at : ℕ) (name : Option Ref) (body : Constraint) → with_tree T (constraint_uses (constraint.Soft at name body)) walk ≡ with_tree T (constraint_uses body) walk
  unfolding constraint_uses trees_compute
  constraint-Soft at name body = refl

  pub num-Number : (numeral : Numeral) → with_tree T (uses_of_num (num.Number numeral)) walk ≡ walk
  unfolding num_uses uses_of_num
  num-Number numeral = tree-none T walk

  pub num-TotalCost : (at : ℕ) → with_tree T (uses_of_num (num.TotalCost at)) walk ≡ with_tree T (λ scope. FunctionUse (record { name = total_cost; at = at }) [] [] ∷ []) walk
  unfolding num_uses uses_of_num
  num-TotalCost at = refl

  pub num-Violated : (name : Ref) → with_tree T (uses_of_num (num.Violated name)) walk ≡ with_tree T (λ scope. NameUse name ∷ []) walk
  unfolding num_uses uses_of_num
  num-Violated name = refl

  pub num-Neg : (at : ℕ) (part : Num) → with_tree T (uses_of_num (num.Neg at part)) walk ≡ with_tree T (uses_of_num part) walk
  unfolding num_uses uses_of_num trees_compute
  num-Neg at part = refl

  pub num-Sub : (at : ℕ) (first second : Num) → with_tree T (uses_of_num (num.Sub at first second)) walk ≡ with_tree T (uses_of_num second) (with_tree T (uses_of_num first) walk)
  unfolding num_uses uses_of_num trees_compute
  num-Sub at first second = sym (tree-both (uses_of_num first) (uses_of_num second) T walk)

  pub num-Product : (at : ℕ) (parts : List Num) → with_tree T (uses_of_num (num.Product at parts)) walk ≡ with_tree T (uses_of_each uses_of_num parts) walk
  unfolding num_uses uses_of_num uses_of_each
  num-Product at parts = λ i. with_tree T (λ scope. (fold_num-Product num_layer at parts ∙ flat_map-map (λ part. part) num_uses parts) i) walk

  pub num-Sum : (at : ℕ) (parts : List Num) → with_tree T (uses_of_num (num.Sum at parts)) walk ≡ with_tree T (uses_of_each uses_of_num parts) walk
  unfolding num_uses uses_of_num uses_of_each
  num-Sum at parts = num-Product at parts

  pub metric-None : with_tree T (uses_of_metric None) walk ≡ walk
  unfolding uses_of_metric
  metric-None = tree-none T walk

  pub metric-Some : (metric : Metric) → with_tree T (uses_of_metric (Some metric)) walk ≡ with_tree T (uses_of_num metric.body) walk
  unfolding uses_of_metric uses_of_num
  metric-Some metric = refl

  pub action-parts : (action : Action) → with_tree T (uses_of_action action) walk
      ≡ behind (length action.params) (with_tree T (effect_uses action.effect.body) (with_tree T (goal_uses action.pre.body) (with_variables T action.params walk)))
  unfolding uses_of_action
  action-parts action =
      sym (tree-bound action.params (λ scope. goal_uses action.pre.body scope ++ effect_uses action.effect.body scope) T walk)
      ∙ (λ i. behind (length action.params) (sym (tree-both (goal_uses action.pre.body) (effect_uses action.effect.body) T (with_variables T action.params walk)) i))

pub ruleset formula_laws = (formula-Atom, formula-Equal, formula-And, formula-Or, formula-Not, formula-Imply, formula-Exists, formula-Forall)

pub ruleset effect_laws = (effect-Add, effect-Del, effect-All, effect-Each, effect-If, effect-Cost)

pub ruleset amount_laws = (amount-Value)

pub ruleset goal_laws = (goal-Plain, goal-Both, goal-Each, goal-Soft)

pub ruleset modal_laws = (modal-One, modal-Two)

pub ruleset constraint_laws = (constraint-Both, constraint-Each, constraint-Single, constraint-Soft)

pub ruleset num_laws = (num-Number, num-TotalCost, num-Violated, num-Neg, num-Sub, num-Product, num-Sum)

pub ruleset metric_laws = (metric-None, metric-Some)

pub ruleset action_laws = (action-parts)

-- ---- parts

module _ {A : Type 0} (uses : A → Scope → List Use) where
  pub joined : {B : Type 0} (f : A → List B) (xs : List A) (i : ℕ) (x : A) → i < length xs → x ≡ get_or xs i x → flat_map f (take i xs) ++ f x ≡ flat_map f (take (i + 1) xs)
  joined f xs i x within read = ap (λ rest. flat_map f (take i xs) ++ rest) (sym (append-nil (f x))) ∙ sym (flat_map-append f (take i xs) (x ∷ []))
      ∙ ap (flat_map f) (sym (take_more xs i x within ∙ ap (λ item. take i xs ++ item ∷ []) (sym read)))

  pub each-none : (T : Task) (walk : Walked) → with_tree T (uses_of_each uses []) walk ≡ walk
  unfolding uses_of_each
  each-none T walk = tree-none T walk

  -- one part more
  pub tree-more : (T : Task) (old now next : Walked) (xs : List A) (i : ℕ) (x : A) → i < length xs → x ≡ get_or xs i x
      → now ≡ with_tree T (uses_of_each uses (take i xs)) old → next ≡ with_tree T (uses x) now → next ≡ with_tree T (uses_of_each uses (take (i + 1) xs)) old
  unfolding uses_of_each
  tree-more T old now next xs i x within read so_far is =
      is ∙ ap (with_tree T (uses x)) so_far ∙ tree-both (uses_of_each uses (take i xs)) (uses x) T old
      ∙ (λ j. with_tree T (λ scope. joined (λ part. uses part scope) xs i x within read j) old)

pub ruleset more_laws = (each-none)
