-- Steps, atoms and values as words in parentheses, the way a plan has them.
use Rattle.std.specs.Prelude.{◌≡◌, ℕ, ◌-◌, List, [], ◌∷◌, ◌++◌, codes, flat_map, slice_get, Option, Some, None}
use Rattle.p3_task.specs.Names.{Name}
use Rattle.p3_task.specs.declared.state.Fact.{Fact}
use Rattle.p3_task.specs.declared.task.Action.{Action}
use Rattle.p3_task.specs.declared.task.Step.{Step}
use Rattle.p3_numbers.specs.Slots.{name_at, object_names}
use Rattle.p3_numbers.specs.declared.numbers.Numbers.{Numbers}
use Rattle.p3_expansion.specs.Atoms.{fact_of}
use Rattle.p3_reasons.specs.declared.visited.PlacedStep.{PlacedStep}
use Rattle.p3_accounts.specs.Vocabularies.{Vocabulary}

abbrev pub argument_text : Name → List ℕ
argument_text name = codes " " ++ name

abbrev pub words_text : Name → List Name → List ℕ
words_text name args = codes "(" ++ name ++ flat_map argument_text args ++ codes ")"

abbrev pub step_text : Step → List ℕ
step_text step = words_text step.action step.args

abbrev pub fact_text : Fact → List ℕ
fact_text fact = words_text fact.name fact.args

-- ---- by number

-- what has one of the names, at objects: its number, and then theirs
abbrev pub named_text : Numbers → List Name → List ℕ → List ℕ
named_text N names [] = words_text [] []
named_text N names (number ∷ objects) = words_text (name_at names number) (object_names N objects)

-- a predicate at objects, and a function
abbrev pub atom_text : Numbers → List ℕ → List ℕ
atom_text N atom = named_text N N.predicates atom

abbrev pub value_text : Numbers → List ℕ → List ℕ
value_text N value = named_text N N.functions value

-- an atom is printed as the fact that it stands for
abbrev pub AtomsAreFacts : Type 0
AtomsAreFacts = (N : Numbers) (atom : List ℕ) → atom_text N atom ≡ fact_text (fact_of N atom)

abbrev pub action_word : Option Action → Name
action_word None = []
action_word (Some action) = action.name.name

-- an action at objects
abbrev pub placed_text : Vocabulary → PlacedStep → List ℕ
placed_text V placed = words_text (action_word (slice_get V.actions placed.action)) (object_names V.numbers placed.objects)

abbrev pub placed_by : Vocabulary → Option PlacedStep → List ℕ
placed_by V None = []
placed_by V (Some placed) = placed_text V placed

-- the step of a number, counted from 1
abbrev pub numbered_step_text : Vocabulary → ℕ → List ℕ
numbered_step_text V number = placed_by V (slice_get V.steps (number - 1))
