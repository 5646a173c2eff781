-- The words of offences are the same without offsets, and so are well-formed tasks.
use Rattle.std.proofs.Common.{◌≡◌, ◌∙◌, ◌↔◌, ℕ, refl, sym, ap, Bool, true, false, not, ◌&&◌, List, [], ◌∷◌, ◌++◌, map, length, Option, None, Some, eqb}
use Rattle.std.specs.Prelude.{flat_map, find, option_map, zip}
use Rattle.std.specs.List.{list_any, list_all}
use Rattle.std.proofs.lemmas.List.{map-append, length-map}
use Rattle.p3_task.specs.Names.{Name, same_name, same_names, has_name, object_type, total_cost}
use Rattle.p3_task.specs.Types.{declared_objects}
use Rattle.p3_task.specs.States.{meanings}
use Rattle.p3_task.specs.Uses.{Scope, Use, Objects, Variables, AtomUse, FunctionUse, SideUse, NameUse, domain_uses, problem_uses}
use Rattle.p3_task.specs.Offences.{unless, repeated_after, repeated, repeated_variables, is_given_by, repeated_value, repeated_values, header_words, action_words, domain_duplicates, problem_duplicates, kind_names, declared_types, header_named, is_declared, unknown_types, unknown_term, unknown_header, unknown_words, domain_unknowns, problem_unknowns, wrong_count, miscounted, total_cost_with_parameters, domain_miscounts, problem_miscounts, variable_fits, term_fits, word_of, clashes, clashing, domain_clashes, problem_clashes, WellFormed}
use Rattle.p3_task.specs.PreferenceNames.{Named, named_at, goal_names_layer, named_in_goal, constraint_names_layer, named_in_constraint, named_in_domain, named_in_problem, preference_names}
use Rattle.p3_task.specs.Erased.{erased_ref, erased_term, erased_terms, erased_typed, erased_all_typed, erased_goal, erased_constraint, erased_kind, erased_header, erased_action, erased_init, erased_domain, erased_problem, erased, erased_named, erased_use}
use Rattle.p3_task.proofs.Erased.Along.{any_along, map_along, find_along, flat_map_along, flat_map_into}
use Rattle.p3_task.proofs.Erased.Folds.{erased_goal_layer, fold_goal-erased, erased_constraint_layer, fold_constraint-erased}
use Rattle.p3_task.proofs.Erased.Words.{meanings-erased, is_below_some-erased, is_object_of-erased, declared_objects-erased}
use Rattle.p3_task.proofs.Erased.Uses.{domain_uses-erased, problem_uses-erased}
use Rattle.p3_task.specs.declared.term.Ref.{Ref}
use Rattle.p3_task.specs.declared.term.Term.{Term}
use Rattle.p3_task.specs.declared.term.Term.TheVariants.{Var, Const}
use Rattle.p3_task.specs.declared.term.Typed.{Typed}
use Rattle.p3_task.specs.declared.goal.PreGoal.{PreGoal, PreGoal-F}
use Rattle.p3_task.specs.declared.goal.PreGoal.TheOpen as goal
use Rattle.p3_task.specs.declared.constraint.Constraint.{Constraint, Constraint-F}
use Rattle.p3_task.specs.declared.constraint.Constraint.TheOpen as constraint
use Rattle.p3_task.specs.declared.task.Header.{Header}
use Rattle.p3_task.specs.declared.task.Init.{Init}
use Rattle.p3_task.specs.declared.task.Init.TheVariants.{True, False, Value}
use Rattle.p3_task.specs.declared.task.Domain.{Domain}
use Rattle.p3_task.specs.declared.task.Problem.{Problem}
use Rattle.p3_task.specs.declared.task.Task.{Task}

unless-erased : (passes : Bool) (word : Ref) → unless passes (erased_ref word) ≡ map erased_ref (unless passes word)
unless-erased true word = refl
unless-erased false word = refl

-- a list of words that is put together from two
two_lists : (first second others more : List Ref) → first ≡ map erased_ref others → second ≡ map erased_ref more → first ++ second ≡ map erased_ref (others ++ more)
two_lists first second others more e f = (λ i. e i ++ f i) ∙ sym (map-append erased_ref others more)

-- ---- a second declaration

repeated_after-erased : (seen : List Name) (words : List Ref) → repeated_after seen (map erased_ref words) ≡ map erased_ref (repeated_after seen words)
repeated_after-erased seen [] = refl
repeated_after-erased seen (word ∷ words) = two_lists _ _ (unless (not (has_name seen word.name)) word) (repeated_after (word.name ∷ seen) words) (unless-erased (not (has_name seen word.name)) word) (repeated_after-erased (word.name ∷ seen) words)

-- the names of erased items are their erased names
repeated_among : {A : Type 0} (erase : A → A) (word : A → Ref) → ((item : A) → word (erase item) ≡ erased_ref (word item)) → (items : List A) → repeated (map word (map erase items)) ≡ map erased_ref (repeated (map word items))
repeated_among erase word same items =
    ap repeated (map_along erase word (λ item. erased_ref (word item)) same items ∙ sym (map_along word erased_ref (λ item. erased_ref (word item)) (λ item. refl) items))
    ∙ repeated_after-erased [] (map word items)

repeated_variables-erased : (item : Use) → repeated_variables (erased_use item) ≡ map erased_ref (repeated_variables item)
repeated_variables-erased (Variables variables) = repeated_among erased_typed (λ variable. variable.name) (λ variable. refl) variables
repeated_variables-erased _ = refl

is_given_by-erased : (function : Name) (objects : List Name) (entry : Init) → is_given_by function objects (erased_init entry) ≡ is_given_by function objects entry
is_given_by-erased function objects (Value other args number) = λ i. same_name other.name function && same_names (meanings-erased [] args i) objects
is_given_by-erased function objects _ = refl

repeated_value-erased : (seen : List Init) (entry : Init) → repeated_value (map erased_init seen) (erased_init entry) ≡ map erased_ref (repeated_value seen entry)
repeated_value-erased seen (True pred args) = refl
repeated_value-erased seen (False pred args) = refl
repeated_value-erased seen (Value function args number) =
    (λ i. unless (not (any_along erased_init (is_given_by function.name (meanings-erased [] args i)) (is_given_by function.name (meanings-erased [] args i)) (is_given_by-erased function.name (meanings-erased [] args i)) seen i)) (erased_ref function))
    ∙ unless-erased (not (list_any (is_given_by function.name (meanings [] args)) seen)) function

repeated_values-erased : (seen entries : List Init) → repeated_values (map erased_init seen) (map erased_init entries) ≡ map erased_ref (repeated_values seen entries)
repeated_values-erased seen [] = refl
repeated_values-erased seen (entry ∷ entries) = two_lists _ _ (repeated_value seen entry) (repeated_values (entry ∷ seen) entries) (repeated_value-erased seen entry) (repeated_values-erased (entry ∷ seen) entries)

-- what each use gives
of_uses : (p q : Use → List Ref) → ((item : Use) → p (erased_use item) ≡ map erased_ref (q item)) → (uses : List Use) → flat_map p (map erased_use uses) ≡ map erased_ref (flat_map q uses)
of_uses p q same uses = flat_map_into erased_use erased_ref p q same uses

domain_duplicates-erased : (D : Domain) → domain_duplicates (erased_domain D) ≡ map erased_ref (domain_duplicates D)
unfolding domain_duplicates
domain_duplicates-erased D =
    two_lists _ _ (repeated (header_words D.predicates) ++ repeated (header_words D.functions) ++ repeated (action_words D.actions)) (flat_map repeated_variables (domain_uses D))
    (two_lists _ _ (repeated (header_words D.predicates) ++ repeated (header_words D.functions)) (repeated (action_words D.actions))
    (two_lists _ _ (repeated (header_words D.predicates)) (repeated (header_words D.functions)) (repeated_among erased_header (λ header. header.name) (λ header. refl) D.predicates) (repeated_among erased_header (λ header. header.name) (λ header. refl) D.functions))
    (repeated_among erased_action (λ action. action.name) (λ action. refl) D.actions))
    (ap (flat_map repeated_variables) (domain_uses-erased D) ∙ of_uses repeated_variables repeated_variables repeated_variables-erased (domain_uses D))

problem_duplicates-erased : (P : Problem) → problem_duplicates (erased_problem P) ≡ map erased_ref (problem_duplicates P)
unfolding problem_duplicates
problem_duplicates-erased P =
    two_lists _ _ (repeated_values [] P.init) (flat_map repeated_variables (problem_uses P)) (repeated_values-erased [] P.init)
    (ap (flat_map repeated_variables) (problem_uses-erased P) ∙ of_uses repeated_variables repeated_variables repeated_variables-erased (problem_uses P))

-- ---- a name that is not declared

named_at-erased : (at : ℕ) (name : Option Ref) → named_at 0 (option_map erased_ref name) ≡ map erased_named (named_at at name)
named_at-erased at None = refl
named_at-erased at (Some name) = refl

goal_names_layer-erased : (x : PreGoal-F (List Named)) → goal_names_layer (erased_goal_layer (map erased_named) x) ≡ map erased_named (goal_names_layer x)
goal_names_layer-erased (goal.Plain body) = refl
goal_names_layer-erased (goal.Both parts) = flat_map_into (map erased_named) erased_named (λ part. part) (λ part. part) (λ part. refl) parts
goal_names_layer-erased (goal.Each variables body) = refl
goal_names_layer-erased (goal.Soft pref) = named_at-erased pref.at pref.name

named_in_goal-erased : (g : PreGoal) → named_in_goal (erased_goal g) ≡ map erased_named (named_in_goal g)
unfolding named_in_goal
named_in_goal-erased g = fold_goal-erased goal_names_layer goal_names_layer (map erased_named) goal_names_layer-erased g

constraint_names_layer-erased : (x : Constraint-F (List Named)) → constraint_names_layer (erased_constraint_layer (map erased_named) x) ≡ map erased_named (constraint_names_layer x)
constraint_names_layer-erased (constraint.Both parts) = flat_map_into (map erased_named) erased_named (λ part. part) (λ part. part) (λ part. refl) parts
constraint_names_layer-erased (constraint.Each variables body) = refl
constraint_names_layer-erased (constraint.Single modal) = refl
constraint_names_layer-erased (constraint.Soft at name body) = ap (λ names. names ++ map erased_named body) (named_at-erased at name) ∙ sym (map-append erased_named (named_at at name) body)

named_in_constraint-erased : (c : Constraint) → named_in_constraint (erased_constraint c) ≡ map erased_named (named_in_constraint c)
unfolding named_in_constraint
named_in_constraint-erased c = fold_constraint-erased constraint_names_layer constraint_names_layer (map erased_named) constraint_names_layer-erased c

named_in_domain-erased : (D : Domain) → named_in_domain (erased_domain D) ≡ map erased_named (named_in_domain D)
named_in_domain-erased D =
    (λ i. named_in_constraint-erased D.constraints.body i ++ flat_map_into erased_action erased_named (λ action. named_in_goal action.pre.body) (λ action. named_in_goal action.pre.body) (λ action. named_in_goal-erased action.pre.body) D.actions i)
    ∙ sym (map-append erased_named (named_in_constraint D.constraints.body) (flat_map (λ action. named_in_goal action.pre.body) D.actions))

named_in_problem-erased : (P : Problem) → named_in_problem (erased_problem P) ≡ map erased_named (named_in_problem P)
named_in_problem-erased P =
    (λ i. named_in_constraint-erased P.constraints.body i ++ named_in_goal-erased P.goal.body i)
    ∙ sym (map-append erased_named (named_in_constraint P.constraints.body) (named_in_goal P.goal.body))

header_named-erased : (headers : List Header) (name : Name) → header_named (map erased_header headers) name ≡ option_map erased_header (header_named headers name)
header_named-erased headers name = find_along erased_header _ _ (λ header. refl) headers

unknown_header-erased : (headers : List Header) (word : Ref) → unknown_header (map erased_header headers) (erased_ref word) ≡ map erased_ref (unknown_header headers word)
unknown_header-erased headers word = (λ i. unless (any_along erased_header (λ header. same_name header.name.name word.name) (λ header. same_name header.name.name word.name) (λ header. refl) headers i) (erased_ref word)) ∙ unless-erased (list_any (λ header. same_name header.name.name word.name) headers) word

module _ (T : Task) where
  pub preference_names-erased : preference_names (erased T) ≡ preference_names T
  unfolding preference_names
  preference_names-erased =
      ap (map (λ (named : Named). named.name)) ((λ i. named_in_domain-erased T.domain i ++ named_in_problem-erased T.problem i) ∙ sym (map-append erased_named (named_in_domain T.domain) (named_in_problem T.problem)))
      ∙ map_along erased_named _ _ (λ named. refl) (named_in_domain T.domain ++ named_in_problem T.problem)

  kind_names-erased : (name : Ref) (parent : Option Ref) → kind_names (erased_kind (record { name = name; parent = parent })) ≡ kind_names (record { name = name; parent = parent })
  kind_names-erased name None = refl
  kind_names-erased name (Some parent) = refl

  declared_types-erased : declared_types (erased T) ≡ declared_types T
  declared_types-erased = ap (λ names. object_type ∷ names) (flat_map_along erased_kind kind_names kind_names (λ kind. kind_names-erased kind.name kind.parent) T.domain.kinds)

  unknown_types-erased : (items : List Typed) → unknown_types (erased T) (erased_all_typed items) ≡ map erased_ref (unknown_types T items)
  unknown_types-erased items = flat_map_into erased_typed erased_ref _ _ (λ item. flat_map_into erased_ref erased_ref _ _ (λ kind. (λ i. unless (has_name (declared_types-erased i) kind.name) (erased_ref kind)) ∙ unless-erased (has_name (declared_types T) kind.name) kind) item.types) items

  is_declared-erased : (name : Name) → is_declared (declared_objects (erased T)) name ≡ is_declared (declared_objects T) name
  is_declared-erased name = ap (λ declared. is_declared declared name) (declared_objects-erased T) ∙ any_along erased_typed _ _ (λ item. refl) (declared_objects T)

  unknown_term-erased : (scope : Scope) (term : Term) → unknown_term (erased T) scope (erased_term term) ≡ map erased_ref (unknown_term T scope term)
  unknown_term-erased scope (Var variable) = unless-erased (list_any (λ (entry : Name × List Name). same_name entry.0 variable.name) scope) variable
  unknown_term-erased scope (Const object) = (λ i. unless (is_declared-erased object.name i) (erased_ref object)) ∙ unless-erased (is_declared (declared_objects T) object.name) object

  unknown_terms-erased : (scope : Scope) (args : List Term) → flat_map (unknown_term (erased T) scope) (erased_terms args) ≡ map erased_ref (flat_map (unknown_term T scope) args)
  unknown_terms-erased scope args = flat_map_into erased_term erased_ref (unknown_term (erased T) scope) (unknown_term T scope) (unknown_term-erased scope) args

  unknown_words-erased : (item : Use) → unknown_words (erased T) (erased_use item) ≡ map erased_ref (unknown_words T item)
  unknown_words-erased (Objects objects) = unknown_types-erased objects
  unknown_words-erased (Variables variables) = unknown_types-erased variables
  unknown_words-erased (AtomUse pred args scope) = two_lists _ _ (unknown_header T.domain.predicates pred) (flat_map (unknown_term T scope) args) (unknown_header-erased T.domain.predicates pred) (unknown_terms-erased scope args)
  unknown_words-erased (FunctionUse function args scope) = two_lists _ _ (unknown_header T.domain.functions function) (flat_map (unknown_term T scope) args) (unknown_header-erased T.domain.functions function) (unknown_terms-erased scope args)
  unknown_words-erased (SideUse side scope) = unknown_term-erased scope side
  unknown_words-erased (NameUse name) = (λ i. unless (has_name (preference_names-erased i) name.name) (erased_ref name)) ∙ unless-erased (has_name (preference_names T) name.name) name

  -- ---- a wrong number of arguments

  wrong_count-erased : (header : Option Header) (word : Ref) (args : List Term) → wrong_count (option_map erased_header header) (erased_ref word) (erased_terms args) ≡ map erased_ref (wrong_count header word args)
  wrong_count-erased None word args = refl
  wrong_count-erased (Some header) word args = (λ i. unless (eqb (length-map header.params erased_typed i) (length-map args erased_term i)) (erased_ref word)) ∙ unless-erased (eqb (length header.params) (length args)) word

  miscounted-erased : (item : Use) → miscounted (erased T) (erased_use item) ≡ map erased_ref (miscounted T item)
  miscounted-erased (AtomUse pred args scope) = ap (λ header. wrong_count header (erased_ref pred) (erased_terms args)) (header_named-erased T.domain.predicates pred.name) ∙ wrong_count-erased (header_named T.domain.predicates pred.name) pred args
  miscounted-erased (FunctionUse function args scope) = ap (λ header. wrong_count header (erased_ref function) (erased_terms args)) (header_named-erased T.domain.functions function.name) ∙ wrong_count-erased (header_named T.domain.functions function.name) function args
  miscounted-erased _ = refl

  with_parameters-erased : (header : Header) → total_cost_with_parameters (erased_header header) ≡ map erased_ref (total_cost_with_parameters header)
  with_parameters-erased header = (λ i. unless (not (same_name header.name.name total_cost && not (eqb (length-map header.params erased_typed i) 0))) (erased_ref header.name)) ∙ unless-erased (not (same_name header.name.name total_cost && not (eqb (length header.params) 0))) header.name

  -- ---- an argument whose types do not fit

  variable_fits-erased : (highs : List Ref) (entry : Option (Name × List Name)) → variable_fits (erased T) (map erased_ref highs) entry ≡ variable_fits T highs entry
  variable_fits-erased highs None = refl
  variable_fits-erased highs (Some entry) = λ i. list_all (λ low. is_below_some-erased T highs low i) entry.1

  term_fits-erased : (scope : Scope) (parameter : Typed) (term : Term) → term_fits (erased T) scope (erased_typed parameter) (erased_term term) ≡ term_fits T scope parameter term
  term_fits-erased scope parameter (Var variable) = variable_fits-erased parameter.types (find (λ (entry : Name × List Name). same_name entry.0 variable.name) scope)
  term_fits-erased scope parameter (Const object) = is_object_of-erased T parameter.types object.name

  word_of-erased : (term : Term) → word_of (erased_term term) ≡ erased_ref (word_of term)
  word_of-erased (Var variable) = refl
  word_of-erased (Const object) = refl

  clash_of-erased : (scope : Scope) (pair : Typed × Term) → unless (term_fits (erased T) scope (erased_typed pair.0) (erased_term pair.1)) (word_of (erased_term pair.1)) ≡ map erased_ref (unless (term_fits T scope pair.0 pair.1) (word_of pair.1))
  clash_of-erased scope pair = (λ i. unless (term_fits-erased scope pair.0 pair.1 i) (word_of-erased pair.1 i)) ∙ unless-erased (term_fits T scope pair.0 pair.1) (word_of pair.1)

  pairs-erased : (scope : Scope) (params : List Typed) (args : List Term) → flat_map (λ (pair : Typed × Term). unless (term_fits (erased T) scope pair.0 pair.1) (word_of pair.1)) (zip (erased_all_typed params) (erased_terms args)) ≡ map erased_ref (flat_map (λ (pair : Typed × Term). unless (term_fits T scope pair.0 pair.1) (word_of pair.1)) (zip params args))
  pairs-erased scope [] args = refl
  pairs-erased scope (param ∷ params) [] = refl
  pairs-erased scope (param ∷ params) (arg ∷ args) = two_lists _ _ (unless (term_fits T scope param arg) (word_of arg)) (flat_map (λ (pair : Typed × Term). unless (term_fits T scope pair.0 pair.1) (word_of pair.1)) (zip params args)) (clash_of-erased scope (param, arg)) (pairs-erased scope params args)

  clashes-erased : (scope : Scope) (header : Option Header) (args : List Term) → clashes (erased T) scope (option_map erased_header header) (erased_terms args) ≡ map erased_ref (clashes T scope header args)
  clashes-erased scope None args = refl
  clashes-erased scope (Some header) args = pairs-erased scope header.params args

  clashing-erased : (item : Use) → clashing (erased T) (erased_use item) ≡ map erased_ref (clashing T item)
  clashing-erased (AtomUse pred args scope) = ap (λ header. clashes (erased T) scope header (erased_terms args)) (header_named-erased T.domain.predicates pred.name) ∙ clashes-erased scope (header_named T.domain.predicates pred.name) args
  clashing-erased (FunctionUse function args scope) = ap (λ header. clashes (erased T) scope header (erased_terms args)) (header_named-erased T.domain.functions function.name) ∙ clashes-erased scope (header_named T.domain.functions function.name) args
  clashing-erased _ = refl

  -- ---- in both halves

  in_domain : (p q : Use → List Ref) → ((item : Use) → p (erased_use item) ≡ map erased_ref (q item)) → flat_map p (domain_uses (erased T).domain) ≡ map erased_ref (flat_map q (domain_uses T.domain))
  in_domain p q same = ap (flat_map p) (domain_uses-erased T.domain) ∙ of_uses p q same (domain_uses T.domain)

  in_problem : (p q : Use → List Ref) → ((item : Use) → p (erased_use item) ≡ map erased_ref (q item)) → flat_map p (problem_uses (erased T).problem) ≡ map erased_ref (flat_map q (problem_uses T.problem))
  in_problem p q same = ap (flat_map p) (problem_uses-erased T.problem) ∙ of_uses p q same (problem_uses T.problem)

  pub duplicates-erased : domain_duplicates (erased T).domain ++ problem_duplicates (erased T).problem ≡ map erased_ref (domain_duplicates T.domain ++ problem_duplicates T.problem)
  duplicates-erased = two_lists _ _ (domain_duplicates T.domain) (problem_duplicates T.problem) (domain_duplicates-erased T.domain) (problem_duplicates-erased T.problem)

  pub unknowns-erased : domain_unknowns (erased T) ++ problem_unknowns (erased T) ≡ map erased_ref (domain_unknowns T ++ problem_unknowns T)
  unfolding domain_unknowns problem_unknowns
  unknowns-erased = two_lists _ _ (domain_unknowns T) (problem_unknowns T) (in_domain (unknown_words (erased T)) (unknown_words T) unknown_words-erased) (in_problem (unknown_words (erased T)) (unknown_words T) unknown_words-erased)

  pub miscounts-erased : domain_miscounts (erased T) ++ problem_miscounts (erased T) ≡ map erased_ref (domain_miscounts T ++ problem_miscounts T)
  unfolding domain_miscounts problem_miscounts
  miscounts-erased = two_lists _ _ (domain_miscounts T) (problem_miscounts T)
      (two_lists _ _ (flat_map total_cost_with_parameters T.domain.functions) (flat_map (miscounted T) (domain_uses T.domain)) (flat_map_into erased_header erased_ref total_cost_with_parameters total_cost_with_parameters with_parameters-erased T.domain.functions) (in_domain (miscounted (erased T)) (miscounted T) miscounted-erased))
      (in_problem (miscounted (erased T)) (miscounted T) miscounted-erased)

  pub clashes_both-erased : domain_clashes (erased T) ++ problem_clashes (erased T) ≡ map erased_ref (domain_clashes T ++ problem_clashes T)
  unfolding domain_clashes problem_clashes
  clashes_both-erased = two_lists _ _ (domain_clashes T) (problem_clashes T) (in_domain (clashing (erased T)) (clashing T) clashing-erased) (in_problem (clashing (erased T)) (clashing T) clashing-erased)

  pub WellFormed-erased : WellFormed (erased T) ↔ WellFormed T
  WellFormed-erased = (
    λ well. record {
      duplicates = none_before _ (sym duplicates-erased ∙ well.duplicates);
      unknowns = none_before _ (sym unknowns-erased ∙ well.unknowns);
      miscounts = none_before _ (sym miscounts-erased ∙ well.miscounts);
      clashes = none_before _ (sym clashes_both-erased ∙ well.clashes);
    },
    λ well. record {
      duplicates = duplicates-erased ∙ ap (map erased_ref) well.duplicates;
      unknowns = unknowns-erased ∙ ap (map erased_ref) well.unknowns;
      miscounts = miscounts-erased ∙ ap (map erased_ref) well.miscounts;
      clashes = clashes_both-erased ∙ ap (map erased_ref) well.clashes;
    },
  )
    where
      none_before : (words : List Ref) → map erased_ref words ≡ [] → words ≡ []
      none_before [] e = refl
      none_before (word ∷ words) e = cc
