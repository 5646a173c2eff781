-- The numbers of names and the slots of variables.
use Rattle.std.specs.Prelude.{◌≡◌, ℕ, ◌<◌, Bool, true, List, [], ◌∷◌, map, length, Option, Some, None, is_some}
use Rattle.std.specs.List.{list_any, list_all, position_or_len, All}
use Rattle.p3_task.specs.Names.{Name, same_name, same_names, has_name}
use Rattle.p3_task.specs.Types.{names_of, objects}
use Rattle.p3_task.specs.States.{Environment}
use Rattle.p3_task.specs.Bindings.{tuples, extended}
use Rattle.p3_task.specs.declared.term.Ref.{Ref}
use Rattle.p3_task.specs.declared.term.Term.{Term}
use Rattle.p3_task.specs.declared.term.Term.TheVariants.{Var, Const}
use Rattle.p3_task.specs.declared.term.Typed.{Typed}
use Rattle.p3_task.specs.declared.task.Task.{Task}
pub use Rattle.p3_task.specs.Slots.{place_after, slot_of, words_of}
use Rattle.p3_numbers.specs.Slots.{Slots, name_at, object_names, range_at, tuples_of}
use Rattle.p3_numbers.specs.declared.condition.NumberedArgument.{NumberedArgument}
use Rattle.p3_numbers.specs.declared.condition.NumberedArgument.TheVariants.{Slot, Object}
use Rattle.p3_numbers.specs.declared.numbers.Numbers.{Numbers}

-- ---- the place of a name or a variable; what has none gets one all the same

abbrev pub number_in : List Name → Name → ℕ
number_in names name = position_or_len (λ other. same_name other name) names

-- the variables in scope, the outermost first
abbrev pub Variables : Type 0
Variables = List Name

abbrev pub slot_or_first : Option ℕ → NumberedArgument
slot_or_first None = Slot 0
slot_or_first (Some place) = Slot place

abbrev pub numbered_term : Numbers → Variables → Term → NumberedArgument
numbered_term N scope (Var variable) = slot_or_first (slot_of scope variable.name)
numbered_term N scope (Const object) = Object (number_in N.objects object.name)

abbrev pub numbered_terms : Numbers → Variables → List Term → List NumberedArgument
numbered_terms N scope args = map (numbered_term N scope) args

-- a range for each list of types
abbrev pub range_of : Numbers → List Ref → ℕ
range_of N types = position_or_len (λ other. same_names other (names_of types)) N.types

abbrev pub ranges_of : Numbers → List Typed → List ℕ
ranges_of N variables = map (λ variable. range_of N variable.types) variables

-- ---- whether it has one

abbrev pub is_known_term : Numbers → Variables → Term → Bool
is_known_term N scope (Var variable) = is_some (slot_of scope variable.name)
is_known_term N scope (Const object) = has_name N.objects object.name

abbrev pub are_known_terms : Numbers → Variables → List Term → Bool
are_known_terms N scope args = list_all (is_known_term N scope) args

abbrev pub has_types : Numbers → List Ref → Bool
has_types N types = list_any (λ other. same_names other (names_of types)) N.types

abbrev pub are_known_types : Numbers → List Typed → Bool
are_known_types N variables = list_all (λ variable. has_types N variable.types) variables

-- ---- what the numbers are to a task

abbrev pub AreObjects : Numbers → List ℕ → Type 0
AreObjects N numbers = All (λ number. number < length N.objects) numbers

pub record IsNumbering (T : Task) (N : Numbers) : Type 0 where
  -- no object has two numbers
  pub distinct : (i j : ℕ) → i < length N.objects → j < length N.objects → name_at N.objects i ≡ name_at N.objects j → i ≡ j
  -- a range has the objects of its types
  pub named : (types : List Ref) → has_types N types ≡ true → object_names N (range_at N (range_of N types)) ≡ objects T types
  pub within : (range : ℕ) → AreObjects N (range_at N range)

-- as many objects as variables, each with a name
pub record Fills (N : Numbers) (scope : Variables) (slots : Slots) : Type 0 where
  pub lengths : length scope ≡ length slots
  pub objects : AreObjects N slots

-- the variables bound in turn, the last one the newest
abbrev pub paired : Environment → Variables → List Name → Environment
paired env [] objects = env
paired env (variable ∷ scope) [] = env
paired env (variable ∷ scope) (object ∷ objects) = paired (record { variable = variable; object = object } ∷ env) scope objects

-- the environment that the objects in the slots make of the variables in scope
abbrev pub environment_of : Numbers → Variables → Slots → Environment
environment_of N scope slots = paired [] scope (object_names N slots)

-- ---- the arguments of a step

-- the choices of objects are the tuples of the parameters, in the same order
abbrev pub TuplesAreKept : Task → Numbers → Type 0
TuplesAreKept T N = (parameters : List Typed) → are_known_types N parameters ≡ true → map (object_names N) (tuples_of N (ranges_of N parameters)) ≡ tuples T parameters

-- each of them fills the slots of the parameters
abbrev pub TuplesFill : Numbers → Type 0
TuplesFill N = (parameters : List Typed) → All (Fills N (words_of parameters)) (tuples_of N (ranges_of N parameters))

-- and binds them as the names of its objects do
abbrev pub ArgumentsAreKept : Numbers → Type 0
ArgumentsAreKept N = (parameters : List Typed) (slots : Slots) → environment_of N (words_of parameters) slots ≡ extended [] parameters (object_names N slots)
