-- Why the arguments of a step are none of its action's.
use Rattle.std.specs.Prelude.{◌≡◌, ℕ, ◌+◌, ◌==◌, Bool, not, List, [], ◌∷◌, length, if◌then◌else◌, Option, Some, None, is_some}
use Rattle.p3_task.specs.Bindings.{are_arguments}
use Rattle.p3_task.specs.Names.{Name, has_name}
use Rattle.p3_task.specs.Slots.{words_of}
use Rattle.p3_task.specs.Types.{declared_objects, objects}
use Rattle.p3_task.specs.declared.task.Task.{Task}
use Rattle.p3_task.specs.declared.term.Typed.{Typed}
use Rattle.p3_numbers.specs.Slots.{object_names, range_at}
use Rattle.p3_numbers.specs.declared.numbers.Numbers.{Numbers}
use Rattle.p3_accounts.specs.declared.subject.StepFault.{StepFault}
use Rattle.p3_accounts.specs.declared.subject.StepFault.TheVariants.{Count, NoObject, NoType}

-- ---- by name

-- some object, of whatever type, has the name
abbrev pub is_object : Task → Name → Bool
is_object T name = has_name (words_of (declared_objects T)) name

-- of an argument that is no object of the parameter's types: either it is an object, or it is none
abbrev pub fault_at : Bool → ℕ → Typed → StepFault
fault_at is_one number parameter = if is_one then NoType number parameter.name.name else NoObject number

-- the first such argument, counted from a number
unfoldable pub first_other : Task → ℕ → List Typed → List Name → Option StepFault
first_other T number [] names = None
first_other T number (parameter ∷ parameters) [] = None
first_other T number (parameter ∷ parameters) (name ∷ names) =
    if has_name (objects T parameter.types) name then first_other T (number + 1) parameters names else Some (fault_at (is_object T name) number parameter)

-- their number, or else the first of them that is none of its parameter's; arguments are counted from 1
unfoldable pub argument_fault : Task → List Typed → List Name → Option StepFault
argument_fault T parameters names = if length parameters == length names then first_other T 1 parameters names else Some (Count (length parameters))

-- there is a fault exactly where they are not the action's arguments
abbrev pub FaultyWhereNoArguments : Type 0
FaultyWhereNoArguments = (T : Task) (parameters : List Typed) (names : List Name) → is_some (argument_fault T parameters names) ≡ not (are_arguments T parameters names)

-- ---- by number, where the parameters have these ranges

abbrev pub first_other_by : Numbers → ℕ → List Typed → List ℕ → List Name → Option StepFault
first_other_by N number (parameter ∷ parameters) (range ∷ ranges) (name ∷ names) =
    if has_name (object_names N (range_at N range)) name then first_other_by N (number + 1) parameters ranges names else Some (fault_at (has_name N.objects name) number parameter)
first_other_by N number _ _ _ = None

abbrev pub fault_by : Numbers → List Typed → List ℕ → List Name → Option StepFault
fault_by N parameters ranges names = if length parameters == length names then first_other_by N 1 parameters ranges names else Some (Count (length parameters))
