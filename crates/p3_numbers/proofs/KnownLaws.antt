-- All in the trees of a well-formed task is known.
use Rattle.std.proofs.Common.{◌≡◌, ◌∙◌, ℕ, Bool, true, ◌&&◌, ◌||◌, List, [], ◌∷◌, ◌++◌, map, Option, Some, None, refl, sym, ap}
use Rattle.std.specs.Prelude.{flat_map}
use Rattle.std.specs.List.{list_all}
use Rattle.std.proofs.Math.Bool.{and-true, or-true}
use Rattle.std.proofs.lemmas.Bool.{and_parts}
use Rattle.std.proofs.lemmas.List.Folds.{list_all-append}
use Rattle.std.proofs.lemmas.List.Concat.{flat_map-append}
use Rattle.std.proofs.lemmas.Slice.Eq.{bytes_eq-Decides}
use mathlib.Core.Former.{Count}
use Rattle.p3_task.specs.Folds.{fold_formulas, fold_effects, fold_goals, fold_constraints}
use Rattle.p3_task.specs.Names.{Name, same_name, has_name, total_cost}
use Rattle.p3_task.specs.Offences.{WellFormed, unknown_words, domain_unknowns, problem_unknowns}
use Rattle.p3_task.specs.PreferenceNames.{Named, named_at, goal_names_layer, named_in_goal, constraint_names_layer, named_in_constraint, named_in_domain, named_in_problem, preference_names}
use Rattle.p3_task.specs.Uses as uses
use Rattle.p3_task.specs.Uses.{Scope, scope_of, Use, Objects, formula_uses, amount_uses, effect_uses, goal_uses, modal_uses, constraint_uses, metric_uses, init_uses, action_uses, header_uses, domain_uses, problem_uses}
use Rattle.p3_task.proofs.OnceLemmas.{nil_left, nil_right}
use Rattle.p3_task.specs.declared.term.Ref.{Ref}
use Rattle.p3_task.specs.declared.formula.Formula.{Formula, Row_of-Formula, end_of-Formula, more_of-Formula}
use Rattle.p3_task.specs.declared.formula.Formula.TheVariants as formula
use Rattle.p3_task.specs.declared.effect.Amount.{Amount}
use Rattle.p3_task.specs.declared.effect.Amount.TheVariants as amount
use Rattle.p3_task.specs.declared.effect.Effect.{Effect, Row_of-Effect, end_of-Effect, more_of-Effect}
use Rattle.p3_task.specs.declared.effect.Effect.TheVariants as effect
use Rattle.p3_task.specs.declared.goal.PreGoal.{PreGoal, Row_of-PreGoal, end_of-PreGoal, more_of-PreGoal}
use Rattle.p3_task.specs.declared.goal.PreGoal.TheVariants as goal
use Rattle.p3_task.specs.Modal.{Modal}
use Rattle.p3_base.proofs.OperatorLaws.{joined_image}
use Rattle.p3_task.specs.declared.constraint.Constraint.{Constraint, Row_of-Constraint, end_of-Constraint, more_of-Constraint}
use Rattle.p3_task.specs.declared.constraint.Constraint.TheVariants as constraint
use Rattle.p3_task.specs.declared.task.Action.{Action}
use Rattle.p3_task.specs.declared.task.Init.{Init}
use Rattle.p3_task.specs.declared.task.Init.TheVariants as init
use Rattle.p3_task.specs.declared.task.Task.{Task}
use Rattle.p3_numbers.specs.Places.{Variables, words_of, are_known_types}
use Rattle.p3_numbers.specs.Conditions.{known_formula_layer, is_known_formula}
use Rattle.p3_numbers.specs.Goals.{is_known_name, known_goal_layer, is_known_goal}
use Rattle.p3_numbers.specs.Effects.{is_known_amount, known_effect_layer, is_known_effect}
use Rattle.p3_numbers.specs.Constraints.{is_known_modal, known_constraint_layer, is_known_constraint}
use Rattle.p3_numbers.specs.Known.{has_use_types, Covers, is_known_action, IsKnownTask}
use Rattle.p3_numbers.specs.Starts.{is_known_entry}
use Rattle.p3_numbers.specs.declared.numbers.Numbers.{Numbers}
use Rattle.p3_numbers.proofs.UseLemmas.{knows_term, knows, uses_known, Agrees, agrees-first, agrees-more, term-agrees, terms-agree}

split : {A : Type 0} (test : A → Bool) (xs ys : List A) → list_all test (xs ++ ys) ≡ true → (list_all test xs ≡ true) × (list_all test ys ≡ true)
split test xs ys all = and_parts (list_all test xs) (list_all test ys) (sym (list_all-append test xs ys) ∙ all)

ends_empty : {A B : Type 0} (f : A → List B) (first : A) (before middle last : List A) → flat_map f (first ∷ before ++ middle ++ last) ≡ [] → flat_map f (middle ++ last) ≡ []
ends_empty f first before middle last none =
    let rest = nil_right (f first) (flat_map f (before ++ middle ++ last)) none in
    let parts : flat_map f (before ++ middle) ++ flat_map f last ≡ [] = sym (flat_map-append f (before ++ middle) last) ∙ rest in
    let most : flat_map f before ++ flat_map f middle ≡ [] = sym (flat_map-append f before middle) ∙ nil_left (flat_map f (before ++ middle)) (flat_map f last) parts in
    flat_map-append f middle last
    ∙ (λ i. nil_right (flat_map f before) (flat_map f middle) most i ++ nil_right (flat_map f (before ++ middle)) (flat_map f last) parts i)

module _ (N : Numbers) where
  abbrev all_known : List Use → Bool
  all_known found = list_all (knows N) found

  abbrev is_named : Named → Bool
  is_named named = has_name N.preferences named.name

  -- ---- formulas

  mutual
    unfolding formula_uses is_known_formula

    formula-known : (tree : Formula) (scope : Scope) (words : Variables) → Agrees scope words → all_known (formula_uses tree scope) ≡ is_known_formula N tree words
    formula-known (formula.Atom pred args) scope words agrees = and-true (has_name N.predicates pred.name && list_all (knows_term N scope) args) ∙ ap (λ known. has_name N.predicates pred.name && known) (terms-agree N scope words agrees args)
    formula-known (formula.Equal left right) scope words agrees = λ i. term-agrees N scope words agrees left i && (and-true (knows_term N scope right) ∙ term-agrees N scope words agrees right) i
    formula-known (formula.And' _ parts) scope words agrees = formulas-known parts scope words agrees
    formula-known (formula.Or' _ parts) scope words agrees = formulas-known parts scope words agrees
    formula-known (formula.Not' _ (more_of-Formula part _)) scope words agrees = formula-known part scope words agrees
    formula-known (formula.Imply' _ (more_of-Formula first _) _ (more_of-Formula second _)) scope words agrees =
        list_all-append (knows N) (formula_uses first scope) (formula_uses second scope) ∙ (λ i. formula-known first scope words agrees i && formula-known second scope words agrees i)
    formula-known (formula.Exists' variables _ (more_of-Formula body _)) scope words agrees =
        ap (λ known. are_known_types N variables && known) (formula-known body (scope_of variables ++ scope) (words ++ words_of variables) (agrees-more scope words variables agrees))
    formula-known (formula.Forall' variables _ (more_of-Formula body _)) scope words agrees =
        ap (λ known. are_known_types N variables && known) (formula-known body (scope_of variables ++ scope) (words ++ words_of variables) (agrees-more scope words variables agrees))

    formulas-known : {n : Count} (parts : Row_of-Formula n) (scope : Scope) (words : Variables) → Agrees scope words
        → all_known (flat_map (λ part. part scope) (fold_formulas uses.formula_layer parts)) ≡ list_all (λ part. part words) (fold_formulas (known_formula_layer N) parts)
    formulas-known end_of-Formula scope words agrees = refl
    formulas-known (more_of-Formula part rest) scope words agrees =
        list_all-append (knows N) (formula_uses part scope) (flat_map (λ part. part scope) (fold_formulas uses.formula_layer rest))
        ∙ (λ i. formula-known part scope words agrees i && formulas-known rest scope words agrees i)

  -- ---- effects

  known-so : (known : Bool) (other : Bool) → known ≡ other → (known && true) ≡ true → other ≡ true
  known-so known other same all = sym (and-true known ∙ same) ∙ all

  amount-known : (increase : Amount) (scope : Scope) (words : Variables) → Agrees scope words → all_known (amount_uses increase scope) ≡ true → is_known_amount N increase words ≡ true
  amount-known (amount.Number numeral) scope words agrees all = refl
  amount-known (amount.Value function args) scope words agrees all =
      known-so _ _ (ap (λ known. has_name N.functions function.name && known) (terms-agree N scope words agrees args)) all

  mutual
    unfolding effect_uses is_known_effect

    effect-known : (tree : Effect) (scope : Scope) (words : Variables) → Agrees scope words → all_known (effect_uses tree scope) ≡ true → is_known_effect N tree words ≡ true
    effect-known (effect.Add pred args) scope words agrees all = known-so _ _ (ap (λ known. has_name N.predicates pred.name && known) (terms-agree N scope words agrees args)) all
    effect-known (effect.Del pred args) scope words agrees all = known-so _ _ (ap (λ known. has_name N.predicates pred.name && known) (terms-agree N scope words agrees args)) all
    effect-known (effect.All' _ parts) scope words agrees all = effects-known parts scope words agrees all
    effect-known (effect.Each' variables _ (more_of-Effect body _)) scope words agrees all =
        let parts = and_parts (are_known_types N variables) (all_known (effect_uses body (scope_of variables ++ scope))) all in
        λ i. parts.0 i && effect-known body (scope_of variables ++ scope) (words ++ words_of variables) (agrees-more scope words variables agrees) parts.1 i
    effect-known (effect.If' condition _ (more_of-Effect body _)) scope words agrees all =
        let parts = split (knows N) (formula_uses condition scope) (effect_uses body scope) all in
        λ i. (sym (formula-known condition scope words agrees) ∙ parts.0) i && effect-known body scope words agrees parts.1 i
    effect-known (effect.Cost at increase) scope words agrees all = amount-known increase scope words agrees (and_parts (has_name N.functions total_cost && true) (all_known (amount_uses increase scope)) all).1

    effects-known : {n : Count} (parts : Row_of-Effect n) (scope : Scope) (words : Variables) → Agrees scope words
        → all_known (flat_map (λ part. part scope) (fold_effects uses.effect_layer parts)) ≡ true → list_all (λ part. part words) (fold_effects (known_effect_layer N) parts) ≡ true
    effects-known end_of-Effect scope words agrees all = refl
    effects-known (more_of-Effect part rest) scope words agrees all =
        let parts = split (knows N) (effect_uses part scope) (flat_map (λ part. part scope) (fold_effects uses.effect_layer rest)) all in
        λ i. effect-known part scope words agrees parts.0 i && effects-known rest scope words agrees parts.1 i

  -- ---- goals

  name-known : (at : ℕ) (name : Option Ref) → list_all is_named (named_at at name) ≡ true → is_known_name N name ≡ true
  name-known at None all = refl
  name-known at (Some name) all = sym (and-true (has_name N.preferences name.name)) ∙ all

  mutual
    unfolding goal_uses named_in_goal is_known_goal

    goal-known : (tree : PreGoal) (scope : Scope) (words : Variables) → Agrees scope words → all_known (goal_uses tree scope) ≡ true → list_all is_named (named_in_goal tree) ≡ true → is_known_goal N tree words ≡ true
    goal-known (goal.Plain body) scope words agrees all names = sym (formula-known body scope words agrees) ∙ all
    goal-known (goal.Both' _ parts) scope words agrees all names = goals-known parts scope words agrees all names
    goal-known (goal.Each' variables _ (more_of-PreGoal body _)) scope words agrees all names =
        let parts = and_parts (are_known_types N variables) (all_known (goal_uses body (scope_of variables ++ scope))) all in
        λ i. parts.0 i && goal-known body (scope_of variables ++ scope) (words ++ words_of variables) (agrees-more scope words variables agrees) parts.1 names i
    goal-known (goal.Soft pref) scope words agrees all names = λ i. name-known pref.at pref.name names i && (sym (formula-known pref.body scope words agrees) ∙ all) i

    goals-known : {n : Count} (parts : Row_of-PreGoal n) (scope : Scope) (words : Variables) → Agrees scope words
        → all_known (flat_map (λ part. part scope) (fold_goals uses.goal_layer parts)) ≡ true → list_all is_named (flat_map (λ part. part) (fold_goals goal_names_layer parts)) ≡ true
        → list_all (λ part. part words) (fold_goals (known_goal_layer N) parts) ≡ true
    goals-known end_of-PreGoal scope words agrees all names = refl
    goals-known (more_of-PreGoal part rest) scope words agrees all names =
        let parts = split (knows N) (goal_uses part scope) (flat_map (λ part. part scope) (fold_goals uses.goal_layer rest)) all in
        let named = split is_named (named_in_goal part) (flat_map (λ part. part) (fold_goals goal_names_layer rest)) names in
        λ i. goal-known part scope words agrees parts.0 named.0 i && goals-known rest scope words agrees parts.1 named.1 i

  -- ---- constraints

  modal-known : (operator : Modal) (scope : Scope) (words : Variables) → Agrees scope words → all_known (modal_uses operator scope) ≡ is_known_modal N operator words
  modal-known operator scope words agrees = sym (joined_image all_known ◌++◌ ◌&&◌ (λ first second. sym (list_all-append (knows N) first second)) (λ formula. is_known_formula N formula words) (λ formula. formula_uses formula scope) (λ formula. sym (formula-known formula scope words agrees)) operator)

  mutual
    unfolding constraint_uses named_in_constraint is_known_constraint

    constraint-known : (tree : Constraint) (scope : Scope) (words : Variables) → Agrees scope words → all_known (constraint_uses tree scope) ≡ true → list_all is_named (named_in_constraint tree) ≡ true → is_known_constraint N tree words ≡ true
    constraint-known (constraint.Both' _ parts) scope words agrees all names = constraints-known parts scope words agrees all names
    constraint-known (constraint.Each' variables _ (more_of-Constraint body _)) scope words agrees all names =
        let parts = and_parts (are_known_types N variables) (all_known (constraint_uses body (scope_of variables ++ scope))) all in
        λ i. parts.0 i && constraint-known body (scope_of variables ++ scope) (words ++ words_of variables) (agrees-more scope words variables agrees) parts.1 names i
    constraint-known (constraint.Single operator) scope words agrees all names = sym (modal-known operator scope words agrees) ∙ all
    constraint-known (constraint.Soft' at name _ (more_of-Constraint body _)) scope words agrees all names =
        let named = split is_named (named_at at name) (named_in_constraint body) names in
        λ i. name-known at name named.0 i && constraint-known body scope words agrees all named.1 i

    constraints-known : {n : Count} (parts : Row_of-Constraint n) (scope : Scope) (words : Variables) → Agrees scope words
        → all_known (flat_map (λ part. part scope) (fold_constraints uses.constraint_layer parts)) ≡ true → list_all is_named (flat_map (λ part. part) (fold_constraints constraint_names_layer parts)) ≡ true
        → list_all (λ part. part words) (fold_constraints (known_constraint_layer N) parts) ≡ true
    constraints-known end_of-Constraint scope words agrees all names = refl
    constraints-known (more_of-Constraint part rest) scope words agrees all names =
        let parts = split (knows N) (constraint_uses part scope) (flat_map (λ part. part scope) (fold_constraints uses.constraint_layer rest)) all in
        let named = split is_named (named_in_constraint part) (flat_map (λ part. part) (fold_constraints constraint_names_layer rest)) names in
        λ i. constraint-known part scope words agrees parts.0 named.0 i && constraints-known rest scope words agrees parts.1 named.1 i

  -- ---- the task

  action-known : (action : Action) → all_known (action_uses action) ≡ true → list_all is_named (named_in_goal action.pre.body) ≡ true → is_known_action N action ≡ true
  action-known action all names =
      let scope = scope_of action.params in
      let words = words_of action.params in
      let types = and_parts (are_known_types N action.params) (all_known (goal_uses action.pre.body scope ++ effect_uses action.effect.body scope)) all in
      let parts = split (knows N) (goal_uses action.pre.body scope) (effect_uses action.effect.body scope) types.1 in
      λ i. types.0 i && goal-known action.pre.body scope words (agrees-first action.params) parts.0 names i && effect-known action.effect.body scope words (agrees-first action.params) parts.1 i

  actions-known : (actions : List Action) → all_known (flat_map action_uses actions) ≡ true → list_all is_named (flat_map (λ action. named_in_goal action.pre.body) actions) ≡ true → list_all (is_known_action N) actions ≡ true
  actions-known [] all names = refl
  actions-known (action ∷ actions) all names =
      let parts = split (knows N) (action_uses action) (flat_map action_uses actions) all in
      let named = split is_named (named_in_goal action.pre.body) (flat_map (λ action. named_in_goal action.pre.body) actions) names in
      λ i. action-known action parts.0 named.0 i && actions-known actions parts.1 named.1 i

  entry-known : (entry : Init) → all_known (init_uses entry) ≡ true → is_known_entry N entry ≡ true
  entry-known (init.True pred args) all = known-so _ _ (ap (λ known. has_name N.predicates pred.name && known) (terms-agree N [] [] (λ name. refl) args)) all
  entry-known (init.False pred args) all = known-so _ _ (ap (λ known. has_name N.predicates pred.name && known) (terms-agree N [] [] (λ name. refl) args)) all
  entry-known (init.Value function args number) all = known-so _ _ (ap (λ known. has_name N.functions function.name && known) (terms-agree N [] [] (λ name. refl) args)) all

  entries-known : (entries : List Init) → all_known (flat_map init_uses entries) ≡ true → list_all (is_known_entry N) entries ≡ true
  entries-known [] all = refl
  entries-known (entry ∷ entries) all =
      let parts = split (knows N) (init_uses entry) (flat_map init_uses entries) all in
      λ i. entry-known entry parts.0 i && entries-known entries parts.1 i

  each_named : (list : List Named) → ((name : Name) → has_name (map (λ (named : Named). named.name) list) name ≡ true → has_name N.preferences name ≡ true) → list_all is_named list ≡ true
  each_named [] known = refl
  each_named (named ∷ list) known =
      let rest = map (λ (named : Named). named.name) list in
      λ i. known named.name (ap (λ here. here || has_name rest named.name) ((bytes_eq-Decides named.name named.name).1 refl)) i
      && each_named list (λ name later. known name (ap (λ found. same_name named.name name || found) later ∙ or-true (same_name named.name name))) i

module _ (T : Task) (N : Numbers) (well : WellFormed T) (covers : Covers T N) where
  -- no word behind the headers is unknown
  behind_headers : flat_map (unknown_words T) (constraint_uses T.domain.constraints.body [] ++ flat_map action_uses T.domain.actions) ≡ []
  unfolding domain_unknowns problem_unknowns domain_uses
  behind_headers =
      let D = T.domain in
      ends_empty (unknown_words T) (Objects D.constants) (flat_map header_uses D.predicates ++ flat_map header_uses D.functions) (constraint_uses D.constraints.body []) (flat_map action_uses D.actions)
      (nil_left (domain_unknowns T) (problem_unknowns T) well.unknowns)

  domain-parts : (all_known N (constraint_uses T.domain.constraints.body []) ≡ true) × (all_known N (flat_map action_uses T.domain.actions) ≡ true)
  unfolding domain_unknowns problem_unknowns domain_uses
  domain-parts =
      let D = T.domain in
      let constraints = constraint_uses D.constraints.body [] in
      let actions = flat_map action_uses D.actions in
      let types = split (has_use_types N) (constraints ++ actions) (problem_uses T.problem) covers.types in
      let last = split (knows N) constraints actions (uses_known T N covers (constraints ++ actions) behind_headers types.0) in
      (last.0, last.1)

  problem-parts : (all_known N (flat_map init_uses T.problem.init) ≡ true) × (all_known N (goal_uses T.problem.goal.body []) ≡ true) × (all_known N (constraint_uses T.problem.constraints.body []) ≡ true)
  unfolding domain_unknowns problem_unknowns problem_uses
  problem-parts =
      let P = T.problem in
      let types = split (has_use_types N) (constraint_uses T.domain.constraints.body [] ++ flat_map action_uses T.domain.actions) (problem_uses P) covers.types in
      let all = uses_known T N covers (problem_uses P) (nil_right (domain_unknowns T) (problem_unknowns T) well.unknowns) types.1 in
      let most = split (knows N) (flat_map init_uses P.init ++ goal_uses P.goal.body [] ++ constraint_uses P.constraints.body []) (metric_uses P.metric) all in
      let more = split (knows N) (flat_map init_uses P.init ++ goal_uses P.goal.body []) (constraint_uses P.constraints.body []) most.0 in
      let first = split (knows N) (flat_map init_uses P.init) (goal_uses P.goal.body []) more.0 in
      (first.0, first.1, more.1)

  names-known : list_all (is_named N) (named_in_domain T.domain ++ named_in_problem T.problem) ≡ true
  unfolding preference_names
  names-known = each_named N (named_in_domain T.domain ++ named_in_problem T.problem) covers.preferences

  pub task-known : IsKnownTask T N
  task-known =
      let halves = split (is_named N) (named_in_domain T.domain) (named_in_problem T.problem) names-known in
      let domain_names = split (is_named N) (named_in_constraint T.domain.constraints.body) (flat_map (λ action. named_in_goal action.pre.body) T.domain.actions) halves.0 in
      let problem_names = split (is_named N) (named_in_constraint T.problem.constraints.body) (named_in_goal T.problem.goal.body) halves.1 in
      record {
        actions = actions-known N T.domain.actions domain-parts.1 domain_names.1;
        domain = constraint-known N T.domain.constraints.body [] [] (λ name. refl) domain-parts.0 domain_names.0;
        problem = constraint-known N T.problem.constraints.body [] [] (λ name. refl) problem-parts.2 problem_names.0;
        goal = goal-known N T.problem.goal.body [] [] (λ name. refl) problem-parts.1 problem_names.1;
        initial = entries-known N T.problem.init problem-parts.0;
      }
