-- Well-formed tasks: what may not stand in a task is told by the words at which it stands.
use Rattle.std.specs.Prelude.{◌≡◌, ◌==◌, Bool, true, false, not, ◌&&◌, List, [], ◌∷◌, ◌++◌, map, flat_map, length, zip, find, if◌then◌else◌, Option, Some, None}
use Rattle.std.specs.List.{list_any, list_all}
use Rattle.p3_task.specs.Names.{Name, same_name, same_names, has_name, object_type, total_cost}
use Rattle.p3_task.specs.Types.{is_below_some, is_object_of, declared_objects}
use Rattle.p3_task.specs.States.{meanings}
use Rattle.p3_task.specs.PreferenceNames.{preference_names}
use Rattle.p3_task.specs.Uses.{Scope, Use, Objects, Variables, AtomUse, FunctionUse, SideUse, NameUse, domain_uses, problem_uses}
use Rattle.p3_task.specs.declared.term.Ref.{Ref}
use Rattle.p3_task.specs.declared.term.Term.{Term}
use Rattle.p3_task.specs.declared.term.Term.TheVariants.{Var, Const}
use Rattle.p3_task.specs.declared.term.Typed.{Typed}
use Rattle.p3_task.specs.declared.task.Action.{Action}
use Rattle.p3_task.specs.declared.task.Header.{Header}
use Rattle.p3_task.specs.declared.task.Kind.{Kind}
use Rattle.p3_task.specs.declared.task.Init.{Init}
use Rattle.p3_task.specs.declared.task.Init.TheVariants.{True, False, Value}
use Rattle.p3_task.specs.declared.task.Domain.{Domain}
use Rattle.p3_task.specs.declared.task.Problem.{Problem}
use Rattle.p3_task.specs.declared.task.Task.{Task}

-- the word, where the test does not pass
abbrev pub unless : Bool → Ref → List Ref
unless passes word = if passes then [] else word ∷ []

-- ---- a second declaration

-- the words whose name was seen, or stands further ahead
abbrev pub repeated_after : List Name → List Ref → List Ref
repeated_after seen [] = []
repeated_after seen (word ∷ words) = unless (not (has_name seen word.name)) word ++ repeated_after (word.name ∷ seen) words

abbrev pub repeated : List Ref → List Ref
repeated words = repeated_after [] words

abbrev pub variable_words : List Typed → List Ref
variable_words variables = map (λ variable. variable.name) variables

abbrev pub repeated_variables : Use → List Ref
repeated_variables (Objects objects) = []
repeated_variables (Variables variables) = repeated (variable_words variables)
repeated_variables (AtomUse pred args scope) = []
repeated_variables (FunctionUse function args scope) = []
repeated_variables (SideUse side scope) = []
repeated_variables (NameUse name) = []

-- whether an earlier entry gives a value to the function at the same arguments
abbrev pub is_given_by : Name → List Name → Init → Bool
is_given_by function objects (True pred args) = false
is_given_by function objects (False pred args) = false
is_given_by function objects (Value other args number) = same_name other.name function && same_names (meanings [] args) objects

abbrev pub repeated_value : List Init → Init → List Ref
repeated_value seen (True pred args) = []
repeated_value seen (False pred args) = []
repeated_value seen (Value function args number) = unless (not (list_any (is_given_by function.name (meanings [] args)) seen)) function

abbrev pub repeated_values : List Init → List Init → List Ref
repeated_values seen [] = []
repeated_values seen (entry ∷ entries) = repeated_value seen entry ++ repeated_values (entry ∷ seen) entries

abbrev pub header_words : List Header → List Ref
header_words headers = map (λ header. header.name) headers

abbrev pub action_words : List Action → List Ref
action_words actions = map (λ action. action.name) actions

-- a predicate, function or action is declared twice, or a variable stands twice in one list: the second word
unfoldable pub domain_duplicates : Domain → List Ref
domain_duplicates D = repeated (header_words D.predicates) ++ repeated (header_words D.functions) ++ repeated (action_words D.actions) ++ flat_map repeated_variables (domain_uses D)

-- a variable stands twice in one list, or a value is given twice: the second word
unfoldable pub problem_duplicates : Problem → List Ref
problem_duplicates P = repeated_values [] P.init ++ flat_map repeated_variables (problem_uses P)

-- ---- a name that is not declared

-- the names on either side in the declared types, and `object`
abbrev pub kind_names : Kind → List Name
kind_names kind = kind.name.name ∷ parent_names kind.parent
  where
    parent_names : Option Ref → List Name
    parent_names None = []
    parent_names (Some parent) = parent.name ∷ []

abbrev pub declared_types : Task → List Name
declared_types T = object_type ∷ flat_map kind_names T.domain.kinds

abbrev pub header_named : List Header → Name → Option Header
header_named headers name = find (λ header. same_name header.name.name name) headers

abbrev pub is_declared : List Typed → Name → Bool
is_declared declared name = list_any (λ item. same_name item.name.name name) declared

abbrev pub unknown_types : Task → List Typed → List Ref
unknown_types T items = flat_map (λ item. flat_map (λ kind. unless (has_name (declared_types T) kind.name) kind) item.types) items

abbrev pub unknown_term : Task → Scope → Term → List Ref
unknown_term T scope (Var variable) = unless (list_any (λ (entry : Name × List Name). same_name entry.0 variable.name) scope) variable
unknown_term T scope (Const object) = unless (is_declared (declared_objects T) object.name) object

abbrev pub unknown_header : List Header → Ref → List Ref
unknown_header headers word = unless (list_any (λ header. same_name header.name.name word.name) headers) word

abbrev pub unknown_words : Task → Use → List Ref
unknown_words T (Objects objects) = unknown_types T objects
unknown_words T (Variables variables) = unknown_types T variables
unknown_words T (AtomUse pred args scope) = unknown_header T.domain.predicates pred ++ flat_map (unknown_term T scope) args
unknown_words T (FunctionUse function args scope) = unknown_header T.domain.functions function ++ flat_map (unknown_term T scope) args
unknown_words T (SideUse side scope) = unknown_term T scope side
unknown_words T (NameUse name) = unless (has_name (preference_names T) name.name) name

-- a type, predicate, function, object, variable or preference name is used and not declared: its word
unfoldable pub domain_unknowns : Task → List Ref
domain_unknowns T = flat_map (unknown_words T) (domain_uses T.domain)

unfoldable pub problem_unknowns : Task → List Ref
problem_unknowns T = flat_map (unknown_words T) (problem_uses T.problem)

-- ---- a wrong number of arguments

abbrev pub wrong_count : Option Header → Ref → List Term → List Ref
wrong_count None word args = []
wrong_count (Some header) word args = unless (length header.params == length args) word

abbrev pub miscounted : Task → Use → List Ref
miscounted T (Objects objects) = []
miscounted T (Variables variables) = []
miscounted T (AtomUse pred args scope) = wrong_count (header_named T.domain.predicates pred.name) pred args
miscounted T (FunctionUse function args scope) = wrong_count (header_named T.domain.functions function.name) function args
miscounted T (SideUse side scope) = []
miscounted T (NameUse name) = []

-- `total-cost` has no parameters
abbrev pub total_cost_with_parameters : Header → List Ref
total_cost_with_parameters header = unless (not (same_name header.name.name total_cost && not (length header.params == 0))) header.name

-- an atom, cost or value has another number of arguments than declared: its predicate or function word
unfoldable pub domain_miscounts : Task → List Ref
domain_miscounts T = flat_map total_cost_with_parameters T.domain.functions ++ flat_map (miscounted T) (domain_uses T.domain)

unfoldable pub problem_miscounts : Task → List Ref
problem_miscounts T = flat_map (miscounted T) (problem_uses T.problem)

-- ---- an argument whose types do not fit

-- each type of a variable is below one of the parameter's
abbrev pub variable_fits : Task → List Ref → Option (Name × List Name) → Bool
variable_fits T highs None = true
variable_fits T highs (Some entry) = list_all (is_below_some T highs) entry.1

abbrev pub term_fits : Task → Scope → Typed → Term → Bool
term_fits T scope parameter (Var variable) = variable_fits T parameter.types (find (λ (entry : Name × List Name). same_name entry.0 variable.name) scope)
term_fits T scope parameter (Const object) = is_object_of T parameter.types object.name

abbrev pub word_of : Term → Ref
word_of (Var variable) = variable
word_of (Const object) = object

abbrev pub clashes : Task → Scope → Option Header → List Term → List Ref
clashes T scope None args = []
clashes T scope (Some header) args = flat_map (λ (pair : Typed × Term). unless (term_fits T scope pair.0 pair.1) (word_of pair.1)) (zip header.params args)

abbrev pub clashing : Task → Use → List Ref
clashing T (Objects objects) = []
clashing T (Variables variables) = []
clashing T (AtomUse pred args scope) = clashes T scope (header_named T.domain.predicates pred.name) args
clashing T (FunctionUse function args scope) = clashes T scope (header_named T.domain.functions function.name) args
clashing T (SideUse side scope) = []
clashing T (NameUse name) = []

-- an argument does not fit its parameter (an object by some of its types, a variable by all of them): the argument's word
unfoldable pub domain_clashes : Task → List Ref
domain_clashes T = flat_map (clashing T) (domain_uses T.domain)

unfoldable pub problem_clashes : Task → List Ref
problem_clashes T = flat_map (clashing T) (problem_uses T.problem)

-- ---- well-formed tasks

pub record WellFormed (T : Task) : Type 0 where
  pub duplicates : domain_duplicates T.domain ++ problem_duplicates T.problem ≡ []
  pub unknowns : domain_unknowns T ++ problem_unknowns T ≡ []
  pub miscounts : domain_miscounts T ++ problem_miscounts T ≡ []
  pub clashes : domain_clashes T ++ problem_clashes T ≡ []
