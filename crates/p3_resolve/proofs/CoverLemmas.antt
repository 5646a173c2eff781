-- The numbers cover what is declared, and the lists of types of all variables that are bound.
use Rattle.std.proofs.Common.{◌≡◌, ◌∙◌, Bool, true, false, ◌||◌, ◌&&◌, if◌then◌else◌, List, [], ◌∷◌, ◌++◌, map, refl, sym, ap, subst}
use Rattle.std.specs.Prelude.{fold}
use Rattle.std.specs.List.{list_any, list_all}
use Rattle.std.specs.Cmp.Lexicographic.{nat_list_eq_equiv, lists_equiv}
use Rattle.std.proofs.lemmas.List.Folds.{list_any-append, list_all-append, list_all-map}
use Rattle.p3_numbers.specs.Names.{with_list}
use Rattle.p3_resolve.proofs.HavingLemmas.{numbering-from}
use Rattle.p3_resolve.proofs.ListedLemmas.{all-lists}
use Rattle.p3_resolve.proofs.NameLemmas.{has-once, ordered-preferences}
use Rattle.p3_resolve.specs.Listed.{types_of, lists_of, task_lists}
use Rattle.p3_resolve.specs.Ranges.{AreNumbers}
use Rattle.p3_numbers.specs.Known.{has_use_types, declares, tree_uses, Covers}
use Rattle.p3_numbers.specs.Constraints.{constraint_of}
use Rattle.p3_numbers.specs.Goals.{goal_of}
use Rattle.p3_numbers.specs.Places.{IsNumbering, has_types}
use Rattle.p3_numbers.specs.Starts.{start_of, initial_values_of}
use Rattle.p3_numbers.specs.Tasks.{HasNames, IsNumberedTask, header_names, numbered_action, object_words}
use Rattle.p3_numbers.specs.declared.task.NumberedTask.{NumberedTask}
use Rattle.p3_numbers.specs.declared.numbers.Numbers.{Numbers}
use Rattle.p3_task.proofs.MeaningLemmas.{list_any-map}
use Rattle.p3_task.specs.Names.{Name, same_name, same_names, has_name}
use Rattle.p3_task.specs.Offences.{is_declared}
use Rattle.p3_task.specs.PreferenceNames.{in_text_order, named_in_domain, named_in_problem, preference_names, ordered_names}
use Rattle.p3_task.specs.Types.{names_of, once_each, declared_objects}
use Rattle.p3_task.specs.Uses.{Use, Objects, Variables, AtomUse, FunctionUse, SideUse, NameUse}
use Rattle.p3_task.specs.declared.task.Header.{Header}
use Rattle.p3_task.specs.declared.task.Task.{Task}
use Rattle.p3_task.specs.declared.term.Ref.{Ref}
use Rattle.p3_task.specs.declared.term.Typed.{Typed}

-- ---- names

-- a name that is there has a number
numbered-name : (made names : List Name) (name : Name) → made ≡ once_each names → has_name names name ≡ true → has_name made name ≡ true
numbered-name made names name is has = ap (λ all. has_name all name) is ∙ has-once names name ∙ has

has-preference : (T : Task) (name : Name) → has_name (preference_names T) name ≡ true → has_name (in_text_order (named_in_domain T.domain) ++ in_text_order (named_in_problem T.problem)) name ≡ true
has-preference T name has = ordered-preferences T name ∙ has

has-header : (headers : List Header) (name : Name) → declares headers name ≡ true → has_name (header_names headers) name ≡ true
has-header headers name has = list_any-map (λ other. same_name other name) (λ (header : Header). header.name.name) headers ∙ has

has-object : (T : Task) (name : Name) → is_declared (declared_objects T) name ≡ true → has_name (object_words T) name ≡ true
has-object T name has = list_any-map (λ other. same_name other name) (λ (declared : Typed). declared.name.name) (declared_objects T) ∙ has

-- ---- lists of types

uses-covered : (N : Numbers) (uses : List Use) → list_all (has_use_types N) uses ≡ list_all (has_types N) (lists_of uses)
uses-covered N [] = refl
uses-covered N (Objects objects ∷ uses) = uses-covered N uses
uses-covered N (Variables variables ∷ uses) =
    (λ i. sym (list_all-map (has_types N) (λ (variable : Typed). variable.types) variables) i && uses-covered N uses i) ∙ sym (list_all-append (has_types N) (types_of variables) (lists_of uses))
uses-covered N (AtomUse pred args scope ∷ uses) = uses-covered N uses
uses-covered N (FunctionUse function args scope ∷ uses) = uses-covered N uses
uses-covered N (SideUse side scope ∷ uses) = uses-covered N uses
uses-covered N (NameUse name ∷ uses) = uses-covered N uses

abbrev has : List (List Name) → List Name → Bool
has lists names = list_any (λ other. same_names other names) lists

same-itself : (names : List Name) → same_names names names ≡ true
same-itself names = (lists_equiv nat_list_eq_equiv).refl names

or-true : (a : Bool) → (a || true) ≡ true
or-true true = refl
or-true false = refl

has-with : (lists : List (List Name)) (names : List Name) → has (with_list lists names) names ≡ true
has-with lists names = by (has lists names) refl
  where
    by : (found : Bool) → has lists names ≡ found → has (if found then lists else lists ++ names ∷ []) names ≡ true
    by true is = is
    by false is =
        list_any-append (λ other. same_names other names) lists (names ∷ []) ∙ (λ i. has lists names || (same-itself names i || false)) ∙ or-true (has lists names)

has-kept : (lists : List (List Name)) (names other : List Name) → has lists other ≡ true → has (with_list lists names) other ≡ true
has-kept lists names other known = by (has lists names)
  where
    by : (found : Bool) → has (if found then lists else lists ++ names ∷ []) other ≡ true
    by true = known
    by false = list_any-append (λ one. same_names one other) lists (names ∷ []) ∙ ap (λ found. found || has (names ∷ []) other) known

has-all-kept : (lists more : List (List Name)) (other : List Name) → has lists other ≡ true → has (fold with_list lists more) other ≡ true
has-all-kept lists [] other known = known
has-all-kept lists (names ∷ more) other known = has-all-kept (with_list lists names) more other (has-kept lists names other known)

each-has : (before : List (List Name)) (lists : List (List Ref)) → list_all (λ types. has (fold with_list before (map names_of lists)) (names_of types)) lists ≡ true
each-has before [] = refl
each-has before (types ∷ lists) =
    λ i. has-all-kept (with_list before (names_of types)) (map names_of lists) (names_of types) (has-with before (names_of types)) i && each-has (with_list before (names_of types)) lists i

-- ---- the task

pub covers-from : (T : Task) (N : Numbers) → AreNumbers T N → Covers T N
unfolding ordered_names
covers-from T N are = record {
  predicates = λ name has. numbered-name N.predicates (header_names T.domain.predicates) name are.names.predicates (has-header T.domain.predicates name has);
  functions = λ name has. numbered-name N.functions (header_names T.domain.functions) name are.names.functions (has-header T.domain.functions name has);
  objects = λ name has. numbered-name N.objects (object_words T) name are.names.objects (has-object T name has);
  preferences = λ name has. numbered-name N.preferences (in_text_order (named_in_domain T.domain) ++ in_text_order (named_in_problem T.problem)) name are.names.preferences (has-preference T name has);
  types = uses-covered N (tree_uses T) ∙ all-lists (has_types N) T ∙ (λ i. list_all (λ types. list_any (λ other. same_names other (names_of types)) (are.types i)) (task_lists T)) ∙ each-has [] (task_lists T);
}

pub task-from : (T : Task) (N : Numbers) (X : NumberedTask) → X.numbers ≡ N → AreNumbers T N → X.actions ≡ map (numbered_action N) T.domain.actions
    → X.domain_constraints ≡ constraint_of N T.domain.constraints.body [] → X.problem_constraints ≡ constraint_of N T.problem.constraints.body []
    → X.goal ≡ goal_of N T.problem.goal.body [] → X.start ≡ start_of N T → X.values ≡ initial_values_of N T → IsNumberedTask T X
task-from T N X same are actions domain problem goal start values =
    let at = sym same in
    record {
      names = subst (HasNames T) at are.names;
      numbering = subst (IsNumbering T) at (numbering-from T N are);
      covers = subst (Covers T) at (covers-from T N are);
      actions = actions ∙ ap (λ (M : Numbers). map (numbered_action M) T.domain.actions) at;
      domain = domain ∙ ap (λ (M : Numbers). constraint_of M T.domain.constraints.body []) at;
      problem = problem ∙ ap (λ (M : Numbers). constraint_of M T.problem.constraints.body []) at;
      goal = goal ∙ ap (λ (M : Numbers). goal_of M T.problem.goal.body []) at;
      start = start ∙ ap (λ (M : Numbers). start_of M T) at;
      values = values ∙ ap (λ (M : Numbers). initial_values_of M T) at;
    }
