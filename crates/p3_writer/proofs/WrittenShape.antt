-- The task that a target is is well-formed, plain and without variables.
use Rattle.std.proofs.Common.{◌≡◌, ◌∙◌, ℕ, zero, suc, nat_lt, refl, sym, ap, subst, Bool, true, false, not, ◌&&◌, ◌||◌, List, [], ◌∷◌, ◌++◌, length, map, Option, Some, None}
use Rattle.std.specs.Prelude.{◌==◌, slice_index_or, slice_get, flat_map, filter_map, zip, if◌then◌else◌}
use Rattle.std.specs.List.{list_any, list_all}
use Rattle.std.proofs.lemmas.Bool.{and_parts, ltb-true, true≢false, or_from, not-true, false_from_ne_true}
use Rattle.std.proofs.lemmas.Option.{slice_get-get_or}
use Rattle.std.proofs.lemmas.Slice.Eq.{bytes_eq-Decides}
use mathlib.Core.Former.{Count}
use Rattle.p3_base.specs.Words.{are_different, total_cost}
use Rattle.p3_task.specs.Names.{Name, same_name, has_name, is_empty}
use Rattle.p3_task.specs.Uses.{Use, Objects, formula_uses, effect_uses, goal_uses, constraint_uses, num_uses, header_uses, action_uses, init_uses, domain_uses, problem_uses}
use Rattle.p3_task.specs.Offences.{WellFormed, unless, repeated_after, repeated, repeated_variables, repeated_values, header_words, action_words, header_named, unknown_words, miscounted, clashing, domain_duplicates, problem_duplicates, domain_unknowns, problem_unknowns, domain_miscounts, problem_miscounts, domain_clashes, problem_clashes}
use Rattle.p3_task.specs.Lifting.{Plain, IsVariableFree, is_plain, is_variable_free, prefers, is_formula_variable_free, is_effect_variable_free, is_goal_variable_free, is_action_variable_free}
use Rattle.p3_task.proofs.Computes.{trees_compute}
use Rattle.p3_task.proofs.ShapeLemmas.{formula_uses-And, formula_uses-Or, effect_uses-All, goal_uses-Both, constraint_uses-Both, constrains-Both, prefers-Both, is_formula_variable_free-And, is_formula_variable_free-Or, is_effect_variable_free-All, is_goal_variable_free-Both, is_constraint_variable_free-Both}
use Rattle.p3_task.specs.declared.term.Ref.{Ref}
use Rattle.p3_task.specs.declared.effect.Effect.{Effect}
use Rattle.p3_task.specs.declared.effect.Effect.TheVariants as effect
use Rattle.p3_task.specs.declared.effect.Amount.TheVariants as amount
use Rattle.p3_task.specs.declared.goal.PreGoal.TheVariants as goal
use Rattle.p3_task.specs.declared.constraint.Constraint.TheVariants as constraint
use Rattle.p3_task.specs.declared.metric.Num.TheVariants as num
use Rattle.p3_task.specs.declared.task.Init.TheVariants as init
use Rattle.p3_task.specs.declared.task.Action.{Action}
use Rattle.p3_task.specs.declared.task.Header.{Header}
use Rattle.p3_task.specs.declared.task.Init.{Init}
use Rattle.p3_task.specs.declared.task.Task.{Task}
use Rattle.p3_formula.specs.Folds.{fold_forms}
use Rattle.p3_formula.specs.Forms.{has_atoms, within_layer}
use Rattle.p3_formula.specs.Targets.{IsSized, IsWellNamed, is_sized_action}
use Rattle.p3_formula.specs.declared.form.Change.{Change}
use Rattle.p3_formula.specs.declared.form.Form.{Form, Row_of-Form, end_of-Form, more_of-Form}
use Rattle.p3_formula.specs.declared.form.Form.TheVariants as form
use Rattle.p3_formula.specs.declared.target.Target.{Target}
use Rattle.p3_formula.specs.declared.target.TargetAction.{TargetAction}
use Rattle.p3_writer.specs.TaskOf as written
use Rattle.p3_writer.specs.TaskOf.{Trees, task_of, trees_of, trees_layer, word, header, literal, under, change_of, increase_of, true_entry}
use Rattle.p3_writer.specs.Written.{IsWritten}
use Rattle.p3_task.proofs.OnceLemmas.{map_at}
use Rattle.p3_task.proofs.FineUses.{declares, IsFine, AllFine, fine_append, no_offence, right_count, no_clash}
use Rattle.p3_task.proofs.FineUses.{NoObjects, NoVariables, IsAtom, IsCost}
use Rattle.p3_writer.proofs.WrittenForms.{are_below}
use Rattle.p3_writer.proofs.WrittenSteps.{is_change_below}
use Rattle.p3_writer.proofs.WrittenPlans.{has_where, no_initial, whole, valid_is, value_is, bare_steps}

module _ (names : List Name) where
  mutual
    unfolding trees_compute trees_of is_formula_variable_free

    formula_free : (tree : Form) → is_formula_variable_free (trees_of names tree).formula ≡ true
    formula_free form.True = is_formula_variable_free-And []
    formula_free form.False = is_formula_variable_free-Or []
    formula_free (form.Atom a) = refl
    formula_free (form.Not' _ (more_of-Form part rest)) = formula_free part
    formula_free (form.And' _ parts) = is_formula_variable_free-And (map (λ (t : Trees). t.formula) (fold_forms (trees_layer names) parts)) ∙ formulas_free parts
    formula_free (form.Or' _ parts) = is_formula_variable_free-Or (map (λ (t : Trees). t.formula) (fold_forms (trees_layer names) parts)) ∙ formulas_free parts

    formulas_free : {n : Count} (row : Row_of-Form n) → list_all is_formula_variable_free (map (λ (t : Trees). t.formula) (fold_forms (trees_layer names) row)) ≡ true
    formulas_free end_of-Form = refl
    formulas_free (more_of-Form part rest) = λ i. formula_free part i && formulas_free rest i

  mutual
    unfolding trees_compute trees_of is_goal_variable_free

    goal_free : (tree : Form) → is_goal_variable_free (trees_of names tree).goal ≡ true
    goal_free form.True = is_goal_variable_free-Both []
    goal_free form.False = formula_free form.False
    goal_free (form.Atom a) = formula_free (form.Atom a)
    goal_free (form.Not' shape (more_of-Form part rest)) = formula_free (form.Not' shape (more_of-Form part rest))
    goal_free (form.And' _ parts) = is_goal_variable_free-Both (map (λ (t : Trees). t.goal) (fold_forms (trees_layer names) parts)) ∙ goals_free parts
    goal_free (form.Or' shape parts) = formula_free (form.Or' shape parts)

    goals_free : {n : Count} (row : Row_of-Form n) → list_all is_goal_variable_free (map (λ (t : Trees). t.goal) (fold_forms (trees_layer names) row)) ≡ true
    goals_free end_of-Form = refl
    goals_free (more_of-Form part rest) = λ i. goal_free part i && goals_free rest i

  mutual
    unfolding trees_compute trees_of prefers

    no_wish : (tree : Form) → prefers (trees_of names tree).goal ≡ false
    no_wish form.True = prefers-Both []
    no_wish form.False = refl
    no_wish (form.Atom a) = refl
    no_wish (form.Not' shape (more_of-Form part rest)) = refl
    no_wish (form.And' _ parts) = prefers-Both (map (λ (t : Trees). t.goal) (fold_forms (trees_layer names) parts)) ∙ no_wishes parts
    no_wish (form.Or' shape parts) = refl

    no_wishes : {n : Count} (row : Row_of-Form n) → list_any prefers (map (λ (t : Trees). t.goal) (fold_forms (trees_layer names) row)) ≡ false
    no_wishes end_of-Form = refl
    no_wishes (more_of-Form part rest) = λ i. no_wish part i || no_wishes rest i

  literal_free : (add : Bool) (name : Name) → is_effect_variable_free (literal add name) ≡ true
  unfolding trees_compute is_effect_variable_free
  literal_free true name = refl
  literal_free false name = refl

  if_free : (tree : Form) (e : Effect) → is_effect_variable_free e ≡ true → is_effect_variable_free (effect.If (trees_of names tree).formula e) ≡ true
  unfolding trees_compute is_effect_variable_free
  if_free tree e h = (λ i. formula_free tree i && h i)

  under_free : (tree : Form) (e : Effect) → is_effect_variable_free e ≡ true → is_effect_variable_free (under names tree e) ≡ true
  under_free form.True e h = h
  under_free form.False e h = if_free form.False e h
  under_free (form.Atom a) e h = if_free (form.Atom a) e h
  under_free (form.Not' shape part) e h = if_free (form.Not' shape part) e h
  under_free (form.And' shape parts) e h = if_free (form.And' shape parts) e h
  under_free (form.Or' shape parts) e h = if_free (form.Or' shape parts) e h

  increase_free : (cost : ℕ) → list_all is_effect_variable_free (increase_of cost) ≡ true
  unfolding trees_compute is_effect_variable_free
  increase_free cost = by (cost == 0)
    where
      by : (t : Bool) → list_all is_effect_variable_free (if t then [] else effect.Cost 0 (amount.Number (record { at = 0; len = 0; digits = cost; places = 0 })) ∷ []) ≡ true
      by true = refl
      by false = refl

  changes_free : (changes : List Change) (cost : ℕ) → list_all is_effect_variable_free (map (change_of names) changes ++ increase_of cost) ≡ true
  changes_free [] cost = increase_free cost
  changes_free (change ∷ changes) cost = λ i. under_free change.cond (literal change.add (slice_index_or names change.atom [])) (literal_free change.add _) i && changes_free changes cost i

  actions_free : (actions : List TargetAction) → list_all is_action_variable_free (map (written.action_of names) actions) ≡ true
  actions_free [] = refl
  actions_free (action ∷ actions) = λ i. (goal_free action.pre i && (is_effect_variable_free-All (map (change_of names) action.effects ++ increase_of action.cost) ∙ changes_free action.effects action.cost) i) && actions_free actions i

  no_action_wishes : (actions : List TargetAction) → list_any (λ (action : Action). prefers action.pre.body) (map (written.action_of names) actions) ≡ false
  no_action_wishes [] = refl
  no_action_wishes (action ∷ actions) = λ i. no_wish action.pre i || no_action_wishes actions i

  -- ---- uses

  abbrev heads : List Header
  heads = map header names

  declared_at : (k : ℕ) (name : Name) (list : List Name) → slice_get list k ≡ Some name → declares (map header list) name ≡ true
  declared_at k name [] e = absurd (cc)
  declared_at zero name (first ∷ list) e = ap (λ t. t || declares (map header list) name) ((bytes_eq-Decides first name).1 (λ i. get first (e i)))
    where
      get : Name → Option Name → Name
      get d None = d
      get d (Some x) = x
  declared_at (suc k) name (first ∷ list) e = ap (λ t. same_name first name || t) (declared_at k name list e) ∙ or_true (same_name first name)
    where
      or_true : (t : Bool) → (t || true) ≡ true
      or_true true = refl
      or_true false = refl

  declared : (a : ℕ) → nat_lt a (length names) ≡ true → declares heads (slice_index_or names a []) ≡ true
  declared a h = declared_at a _ names (slice_get-get_or names a [] (ltb-true a (length names) h))

  mutual
    unfolding trees_compute trees_of has_atoms formula_uses

    formula_fine : (tree : Form) → are_below (length names) tree ≡ true → AllFine heads (formula_uses (trees_of names tree).formula [])
    formula_fine form.True h = subst (AllFine heads) (sym (formula_uses-And [] [])) tt
    formula_fine form.False h = subst (AllFine heads) (sym (formula_uses-Or [] [])) tt
    formula_fine (form.Atom a) h = (IsAtom _ _ (declared a h), tt)
    formula_fine (form.Not' _ (more_of-Form part rest)) h = (formula_fine part h)
    formula_fine (form.And' _ parts) h = subst (AllFine heads) (sym (formula_uses-And (map (λ (t : Trees). t.formula) (fold_forms (trees_layer names) parts)) [])) (formulas_fine parts h)
    formula_fine (form.Or' _ parts) h = subst (AllFine heads) (sym (formula_uses-Or (map (λ (t : Trees). t.formula) (fold_forms (trees_layer names) parts)) [])) (formulas_fine parts h)

    formulas_fine : {n : Count} (row : Row_of-Form n) → list_all (λ part. part) (fold_forms (within_layer (λ atom. nat_lt atom (length names))) row) ≡ true
        → AllFine heads (flat_map (λ part. formula_uses part []) (map (λ (t : Trees). t.formula) (fold_forms (trees_layer names) row)))
    formulas_fine end_of-Form h = tt
    formulas_fine (more_of-Form part rest) h = let e = and_parts (are_below (length names) part) _ h in fine_append heads (formula_uses (trees_of names part).formula []) _ (formula_fine part e.0) (formulas_fine rest e.1)

  plain_fine : (tree : Form) → are_below (length names) tree ≡ true → AllFine heads (goal_uses (goal.Plain (trees_of names tree).formula) [])
  unfolding trees_compute goal_uses
  plain_fine tree h = (formula_fine tree h)

  mutual
    unfolding trees_compute trees_of has_atoms goal_uses

    goal_fine : (tree : Form) → are_below (length names) tree ≡ true → AllFine heads (goal_uses (trees_of names tree).goal [])
    goal_fine form.True h = subst (AllFine heads) (sym (goal_uses-Both [] [])) tt
    goal_fine form.False h = plain_fine form.False h
    goal_fine (form.Atom a) h = plain_fine (form.Atom a) h
    goal_fine (form.Not' shape (more_of-Form part rest)) h = plain_fine (form.Not' shape (more_of-Form part rest)) h
    goal_fine (form.And' _ parts) h = subst (AllFine heads) (sym (goal_uses-Both (map (λ (t : Trees). t.goal) (fold_forms (trees_layer names) parts)) [])) (goals_fine parts h)
    goal_fine (form.Or' shape parts) h = plain_fine (form.Or' shape parts) h

    goals_fine : {n : Count} (row : Row_of-Form n) → list_all (λ part. part) (fold_forms (within_layer (λ atom. nat_lt atom (length names))) row) ≡ true
        → AllFine heads (flat_map (λ part. goal_uses part []) (map (λ (t : Trees). t.goal) (fold_forms (trees_layer names) row)))
    goals_fine end_of-Form h = tt
    goals_fine (more_of-Form part rest) h = let e = and_parts (are_below (length names) part) _ h in fine_append heads (goal_uses (trees_of names part).goal []) _ (goal_fine part e.0) (goals_fine rest e.1)

  literal_fine : (add : Bool) (a : ℕ) → nat_lt a (length names) ≡ true → AllFine heads (effect_uses (literal add (slice_index_or names a [])) [])
  unfolding trees_compute effect_uses
  literal_fine true a h = (IsAtom _ _ (declared a h), tt)
  literal_fine false a h = (IsAtom _ _ (declared a h), tt)

  if_fine : (tree : Form) (e : Effect) → are_below (length names) tree ≡ true → AllFine heads (effect_uses e []) → AllFine heads (effect_uses (effect.If (trees_of names tree).formula e) [])
  unfolding trees_compute effect_uses
  if_fine tree e h fine = (fine_append heads (formula_uses (trees_of names tree).formula []) _ (formula_fine tree h) fine)

  under_fine : (tree : Form) (e : Effect) → are_below (length names) tree ≡ true → AllFine heads (effect_uses e []) → AllFine heads (effect_uses (under names tree e) [])
  under_fine form.True e h fine = fine
  under_fine form.False e h fine = if_fine form.False e h fine
  under_fine (form.Atom a) e h fine = if_fine (form.Atom a) e h fine
  under_fine (form.Not' shape part) e h fine = if_fine (form.Not' shape part) e h fine
  under_fine (form.And' shape parts) e h fine = if_fine (form.And' shape parts) e h fine
  under_fine (form.Or' shape parts) e h fine = if_fine (form.Or' shape parts) e h fine

  increase_fine : (cost : ℕ) → AllFine heads (flat_map (λ part. effect_uses part []) (increase_of cost))
  unfolding trees_compute effect_uses
  increase_fine cost = by (cost == 0)
    where
      by : (t : Bool) → AllFine heads (flat_map (λ part. effect_uses part []) (if t then [] else effect.Cost 0 (amount.Number (record { at = 0; len = 0; digits = cost; places = 0 })) ∷ []))
      by true = tt
      by false = (IsCost _ _ refl, tt)

  changes_fine : (changes : List Change) (cost : ℕ) → list_all (is_change_below (length names)) changes ≡ true → AllFine heads (flat_map (λ part. effect_uses part []) (map (change_of names) changes ++ increase_of cost))
  changes_fine [] cost h = increase_fine cost
  changes_fine (change ∷ changes) cost h =
      let parts = and_parts (is_change_below (length names) change) _ h in
      let own = and_parts (nat_lt change.atom (length names)) _ parts.0 in
      fine_append heads (effect_uses (change_of names change) []) _ (under_fine change.cond (literal change.add (slice_index_or names change.atom [])) own.1 (literal_fine change.add change.atom own.0)) (changes_fine changes cost parts.1)

  actions_fine : (actions : List TargetAction) → list_all (is_sized_action (length names)) actions ≡ true → AllFine heads (flat_map action_uses (map (written.action_of names) actions))
  actions_fine [] h = tt
  actions_fine (action ∷ actions) h =
      let parts = and_parts (is_sized_action (length names) action) _ h in
      let own = and_parts (are_below (length names) action.pre) _ parts.0 in
      fine_append heads (action_uses (written.action_of names action)) _ (
        NoVariables,
        fine_append heads (goal_uses (trees_of names action.pre).goal []) _ (goal_fine action.pre own.0)
            (subst (AllFine heads) (sym (effect_uses-All (map (change_of names) action.effects ++ increase_of action.cost) [])) (changes_fine action.effects action.cost own.1)),
      )
      (actions_fine actions parts.1)

  heads_fine : (list : List Name) → AllFine heads (flat_map header_uses (map header list))
  heads_fine [] = tt
  heads_fine (name ∷ list) = (NoVariables, heads_fine list)

  heads_bare : (list : List Name) → list_all (λ (header : Header). is_empty header.params) (map header list) ≡ true
  heads_bare [] = refl
  heads_bare (name ∷ list) = heads_bare list

  entries_fine : (bits : List Bool) (list : List Name) → ((k : ℕ) (name : Name) → slice_get list k ≡ Some name → declares heads name ≡ true) → AllFine heads (flat_map init_uses (filter_map true_entry (zip bits list)))
  entries_fine [] list all = tt
  entries_fine (bit ∷ bits) [] all = tt
  entries_fine (true ∷ bits) (name ∷ list) all = (IsAtom _ _ (all 0 name refl), entries_fine bits list (λ k other e. all (suc k) other e))
  entries_fine (false ∷ bits) (name ∷ list) all = entries_fine bits list (λ k other e. all (suc k) other e)

  -- ---- no word stands twice

  entries_once : (seen : List Init) (bits : List Bool) (list : List Name) → repeated_values seen (filter_map true_entry (zip bits list)) ≡ []
  entries_once seen [] list = refl
  entries_once seen (bit ∷ bits) [] = refl
  entries_once seen (true ∷ bits) (name ∷ list) = entries_once _ bits list
  entries_once seen (false ∷ bits) (name ∷ list) = entries_once seen bits list

words_once : (seen : List Name) (words : List Ref) → are_different (map (λ (w : Ref). w.name) words) ≡ true → ((k : ℕ) (w : Ref) → slice_get words k ≡ Some w → has_name seen w.name ≡ false) → repeated_after seen words ≡ []
words_once seen [] differ fresh = refl
words_once seen (w ∷ words) differ fresh =
    let h = and_parts (not (has_name (map (λ (w : Ref). w.name) words) w.name)) _ differ in
    (λ i. unless (not (fresh 0 w refl i)) w ++ words_once (w.name ∷ seen) words h.1 (λ k other at. or_from (same_name w.name other.name) (has_name seen other.name)
    (false_from_ne_true (same_name w.name other.name) (λ e.
    true≢false (sym (has_where (map (λ (w : Ref). w.name) words) w.name k (map_at (λ (w : Ref). w.name) words k other at ∙ ap Some (sym ((bytes_eq-Decides w.name other.name).0 e)))) ∙ not-true _ h.0)))
    (fresh (suc k) other at)) i)

module _ (X : Target) (sized : IsSized X) (named : IsWellNamed X) where
  abbrev U : Task
  U = task_of X

  abbrev top : List Header
  top = map header X.predicates

  header_names : (list : List Name) → map (λ (w : Ref). w.name) (header_words (map header list)) ≡ list
  header_names [] = refl
  header_names (name ∷ list) = λ i. name ∷ header_names list i

  names_of_actions : (actions : List TargetAction) → map (λ (w : Ref). w.name) (action_words (map (written.action_of X.predicates) actions)) ≡ map (λ (action : TargetAction). action.name) actions
  names_of_actions [] = refl
  names_of_actions (action ∷ actions) = λ i. action.name ∷ names_of_actions actions i

  predicates_once : repeated (header_words top) ≡ []
  predicates_once = words_once [] (header_words top) (ap are_different (header_names X.predicates) ∙ named.predicates_differ) (λ k w at. refl)

  actions_once : repeated (action_words (map (written.action_of X.predicates) X.actions)) ≡ []
  actions_once = words_once [] (action_words (map (written.action_of X.predicates) X.actions)) (ap are_different (names_of_actions X.actions) ∙ named.actions_differ) (λ k w at. refl)

  domain_fine : AllFine top (domain_uses U.domain)
  unfolding domain_uses task_of
  domain_fine = fine_append top (Objects [] ∷ flat_map header_uses top ++ flat_map header_uses (header total_cost ∷ []) ++ constraint_uses (constraint.Both []) []) (flat_map action_uses (map (written.action_of X.predicates) X.actions))
      (fine_append top (Objects [] ∷ flat_map header_uses top ++ flat_map header_uses (header total_cost ∷ [])) (constraint_uses (constraint.Both []) [])
      (fine_append top (Objects [] ∷ flat_map header_uses top) (flat_map header_uses (header total_cost ∷ [])) (NoObjects, heads_fine X.predicates X.predicates) (NoVariables, tt))
      (subst (AllFine top) (sym (constraint_uses-Both [] [])) tt))
      (actions_fine X.predicates X.actions sized.actions)

  abbrev no_cost : Init
  no_cost = init.Value (word total_cost) [] (record { at = 0; len = 0; digits = 0; places = 0 })

  abbrev entries : List Init
  entries = filter_map true_entry (zip X.initial X.predicates)

  problem_fine : AllFine top (problem_uses U.problem)
  unfolding trees_compute problem_uses num_uses task_of
  problem_fine = fine_append top (Objects [] ∷ flat_map init_uses (no_cost ∷ entries) ++ goal_uses (trees_of X.predicates X.goal).goal [] ++ constraint_uses (constraint.Both []) []) (num_uses (num.TotalCost 0))
      (fine_append top (Objects [] ∷ flat_map init_uses (no_cost ∷ entries) ++ goal_uses (trees_of X.predicates X.goal).goal []) (constraint_uses (constraint.Both []) [])
      (fine_append top (Objects [] ∷ flat_map init_uses (no_cost ∷ entries)) (goal_uses (trees_of X.predicates X.goal).goal [])
      (NoObjects, (IsCost _ _ refl, entries_fine X.predicates X.initial X.predicates (λ k name e. declared_at X.predicates k name X.predicates e)))
      (goal_fine X.predicates X.goal sized.goal))
      (subst (AllFine top) (sym (constraint_uses-Both [] [])) tt))
      ((IsCost _ _ refl, tt))

  no_repeat : (item : Use) → IsFine top item → repeated_variables item ≡ []
  no_repeat _ NoObjects = refl
  no_repeat _ NoVariables = refl
  no_repeat _ (IsAtom pred scope declared) = refl
  no_repeat _ (IsCost word scope same) = refl

  no_unknown : (item : Use) → IsFine top item → unknown_words U item ≡ []
  unfolding task_of
  no_unknown _ NoObjects = refl
  no_unknown _ NoVariables = refl
  no_unknown _ (IsAtom pred scope declared) = ap (λ test. unless test pred ++ []) declared
  no_unknown _ (IsCost word scope same) = ap (λ test. unless (test || false) word ++ []) same

  no_miscount : (item : Use) → IsFine top item → miscounted U item ≡ []
  unfolding task_of
  no_miscount _ NoObjects = refl
  no_miscount _ NoVariables = refl
  no_miscount _ (IsAtom pred scope declared) = right_count (λ header. same_name header.name.name pred.name) top pred (heads_bare X.predicates X.predicates)
  no_miscount _ (IsCost word scope same) = right_count (λ header. same_name header.name.name word.name) (header total_cost ∷ []) word refl

  no_clashing : (item : Use) → IsFine top item → clashing U item ≡ []
  unfolding task_of
  no_clashing _ NoObjects = refl
  no_clashing _ NoVariables = refl
  no_clashing _ (IsAtom pred scope declared) = no_clash U scope (header_named top pred.name)
  no_clashing _ (IsCost word scope same) = no_clash U scope (header_named (header total_cost ∷ []) word.name)

  well_formed : WellFormed U
  unfolding domain_duplicates problem_duplicates domain_unknowns problem_unknowns domain_miscounts problem_miscounts domain_clashes problem_clashes task_of
  well_formed = record {
    duplicates = λ i. (predicates_once i ++ [] ++ actions_once i ++ no_offence top repeated_variables no_repeat (domain_uses U.domain) domain_fine i)
        ++ (entries_once X.predicates (no_cost ∷ []) X.initial X.predicates i ++ no_offence top repeated_variables no_repeat (problem_uses U.problem) problem_fine i);
    unknowns = λ i. no_offence top (unknown_words U) no_unknown (domain_uses U.domain) domain_fine i ++ no_offence top (unknown_words U) no_unknown (problem_uses U.problem) problem_fine i;
    miscounts = λ i. ([] ++ no_offence top (miscounted U) no_miscount (domain_uses U.domain) domain_fine i) ++ no_offence top (miscounted U) no_miscount (problem_uses U.problem) problem_fine i;
    clashes = λ i. no_offence top (clashing U) no_clashing (domain_uses U.domain) domain_fine i ++ no_offence top (clashing U) no_clashing (problem_uses U.problem) problem_fine i;
  }

  plain : Plain U
  unfolding is_plain task_of
  plain = λ i. not (constrains-Both [] i) && not (constrains-Both [] i) && not (no_action_wishes X.predicates X.actions i) && not (no_wish X.predicates X.goal i) && (no_initial X sized named i == 0) && true

  variable_free : IsVariableFree U
  unfolding is_variable_free task_of
  variable_free = λ i. true && heads_bare X.predicates X.predicates i && true && actions_free X.predicates X.actions i && is_constraint_variable_free-Both [] i && goal_free X.predicates X.goal i && is_constraint_variable_free-Both [] i

  -- the law of the writer
  pub is_written : IsWritten X
  is_written = record { well_formed = well_formed; plain = plain; variable_free = variable_free; whole = whole X sized named; bare_steps = bare_steps X sized named; valid = valid_is X sized named; value = value_is X sized named }
