-- What `find` answers, and how a choice of objects is found by their names.
use Rattle.std.specs.Prelude.{◌≡◌, ℕ, ◌+◌, ◌*◌, ◌/◌, ◌<◌, ◌≤◌, Bool, true, false, ◌&&◌, List, [], ◌∷◌, ◌++◌, take, drop, length, slice_get, slice_index_or, MatchOption, Option, Some, None}
use Rattle.std.specs.List.{All}
use Rattle.p3_task.specs.Bindings.{are_arguments}
use Rattle.p3_task.specs.Names.{Name, has_name}
use Rattle.p3_task.specs.Plans.{action_named}
use Rattle.p3_task.specs.StepNumbers.{HasNumber}
use Rattle.p3_task.specs.declared.task.Action.{Action}
use Rattle.p3_task.specs.declared.task.Step.{Step}
use Rattle.p3_task.specs.declared.task.Task.{Task}
use Rattle.p3_numbers.specs.Places.{Fills, words_of}
use Rattle.p3_numbers.specs.Slots.{name_at, object_names, range_at}
use Rattle.p3_numbers.specs.declared.numbers.Numbers.{Numbers}
use Rattle.p3_numbers.specs.Choices.{choice_count, choice}
use Rattle.p3_types.specs.FirstSteps.{too_many}
use Rattle.p3_types.specs.declared.finding.Found.{Found}
use Rattle.p3_types.specs.declared.finding.Found.TheVariants.{Number, UnknownAction, Arguments}
use Rattle.p3_types.specs.declared.finding.Block.{Block}
use Rattle.p3_types.specs.declared.finding.Stretch.{Stretch}

-- the step's action exists, and its arguments are not objects of the parameters' types
pub record HasOtherArguments (T : Task) (step : Step) : Type 0 where
  pub action : Action
  pub named : action_named T step.action ≡ Some action
  pub args : are_arguments T action.params step.args ≡ false

-- as what a step is found
abbrev pub IsFound : Task → Step → Found → Type 0
IsFound T step (Number number) = HasNumber T step number
IsFound T step UnknownAction = action_named T step.action ≡ None
IsFound T step Arguments = HasOtherArguments T step

-- the step of a number by numbers: the place of its action, and objects that fill the parameters
pub record IsStepAt (T : Task) (N : Numbers) (number : ℕ) (place : ℕ) (objects : List ℕ) : Type 0 where
  pub action : Action
  pub at : slice_get T.domain.actions place ≡ Some action
  pub named : action_named T action.name.name ≡ Some action
  pub fills : Fills N (words_of action.params) objects
  pub step : HasNumber T (record { action = action.name.name; args = object_names N objects }) number

-- ---- a choice, object by object

-- whether the names are those of one object of each range
unfoldable pub are_among : Numbers → List ℕ → List Name → Bool
are_among N [] [] = true
are_among N [] (name ∷ names) = false
are_among N (range ∷ ranges) [] = false
are_among N (range ∷ ranges) (name ∷ names) = has_name (object_names N (range_at N range)) name && are_among N ranges names

-- no two numbers have one name
abbrev pub AreDistinct : List Name → Type 0
AreDistinct names = (i j : ℕ) → i < length names → j < length names → name_at names i ≡ name_at names j → i ≡ j

-- numbers of names, each once and rising
pub record IsRange (names : List Name) (objects : List ℕ) : Type 0 where
  pub within : All (λ object. object < length names) objects
  pub rising : (i j : ℕ) → i ≤ j → j < length objects → slice_index_or objects i 0 ≤ slice_index_or objects j 0

-- the place in a range of the object with that name
pub record IsPlaceOf (names : List Name) (objects : List ℕ) (name : Name) (place : ℕ) : Type 0 where
  pub within : place < length objects
  pub named : name_at names (slice_index_or objects place 0) ≡ name

-- the choices of a stretch whose next object has that name
pub record IsNarrowed (names : List Name) (objects : List ℕ) (stretch : Stretch) (name : Name) (inner : Stretch) : Type 0 where
  pub place : ℕ
  pub is : IsPlaceOf names objects name place
  pub first : inner.first ≡ stretch.first + place * (stretch.count / length objects)
  pub count : inner.count ≡ stretch.count / length objects

-- the stretch is that of the choices whose first objects have the first names
pub record IsStretch (N : Numbers) (ranges : List ℕ) (args : List Name) (place : ℕ) (stretch : Stretch) : Type 0 where
  pub some : 0 < stretch.count
  pub count : stretch.count ≡ choice_count N (drop place ranges)
  pub within : stretch.first + stretch.count ≤ choice_count N ranges
  pub names : (rest : ℕ) → rest < stretch.count → object_names N (choice N ranges (stretch.first + rest)) ≡ take place args ++ object_names N (choice N (drop place ranges) rest)
  pub left : are_among N ranges args ≡ are_among N (drop place ranges) (drop place args)

-- the number of the choice of the objects with these names
pub record IsChoice (N : Numbers) (ranges : List ℕ) (args : List Name) (number : ℕ) : Type 0 where
  pub within : number < choice_count N ranges
  pub names : object_names N (choice N ranges number) ≡ args

-- the number of their choice, where they are among the ranges' objects
abbrev pub IsChoiceOf : Numbers → List ℕ → List Name → Option ℕ → Type 0
IsChoiceOf N ranges args found = MatchOption found (are_among N ranges args ≡ false) (IsChoice N ranges args)

-- the number of the step of the action at a place with these arguments
abbrev pub IsNumberAt : Task → ℕ → List Name → Option ℕ → Type 0
IsNumberAt T place args found = (action : Action) → slice_get T.domain.actions place ≡ Some action
    → MatchOption found (are_arguments T action.params args ≡ false) (HasNumber T (record { action = action.name.name; args = args }))

-- the steps of the action at a place are those of its choices, in order
pub record IsBlockAt (T : Task) (N : Numbers) (place : ℕ) (block : Block) : Type 0 where
  pub ranges : All (λ range. IsRange N.objects (range_at N range)) block.ranges.now
  pub count : block.count ≡ choice_count N block.ranges.now
  pub small : (number : ℕ) → number < block.count → block.first + number < too_many
  pub number : (args : List Name) (number : ℕ) → IsChoice N block.ranges.now args number → IsNumberAt T place args (Some (block.first + number))
  pub none : (args : List Name) → are_among N block.ranges.now args ≡ false → IsNumberAt T place args None
