-- What the headings of an account are of, and what they say of it.
use Rattle.std.specs.Prelude.{ℕ, ◌-◌, ◌==◌, if◌then◌else◌, List, ◌++◌, codes, flat_map, length, slice_index_or, [], Option, option_map}
use Rattle.std.specs.Fmt.{decimal}
use Rattle.p3_numbers.specs.Slots.{name_at}
use Rattle.p3_task.specs.Names.{Name}
use Rattle.p3_task.specs.declared.task.Step.{Step}
use Rattle.p3_tree.specs.Reports.Explanations.{shown_name}
use Rattle.p3_accounts.specs.Operators.{operator_word}
use Rattle.p3_accounts.specs.Vocabularies.{Vocabulary}
use Rattle.p3_accounts.specs.Words.{numbered_step_text, step_text, value_text}
use Rattle.p3_accounts.specs.declared.subject.Binding.{Binding}
use Rattle.p3_accounts.specs.declared.subject.StepFault.{StepFault}
use Rattle.p3_accounts.specs.declared.subject.StepFault.TheVariants as fault
use Rattle.p3_accounts.specs.declared.subject.Subject.{Subject}
use Rattle.p3_accounts.specs.declared.subject.Subject.TheVariants as subject

-- ---- bindings

abbrev pub equation_text : Name → Name → List ℕ
equation_text variable object = codes ", " ++ variable ++ codes " = " ++ object

-- a variable, and the object that it means
abbrev pub binding_text : Vocabulary → Binding → List ℕ
binding_text V binding = equation_text binding.variable (name_at V.numbers.objects binding.object)

abbrev pub bindings_text : Vocabulary → List Binding → List ℕ
bindings_text V bindings = flat_map (binding_text V) bindings

-- the name of a preference by its number, or `-` for an unnamed one
abbrev pub preference_text : Vocabulary → Option ℕ → List ℕ
preference_text V name = shown_name (option_map (name_at V.numbers.preferences) name)

-- ---- what it is of

abbrev pub subject_text : Vocabulary → Subject → List ℕ
subject_text V (subject.Step number words of) = codes "step " ++ decimal number ++ codes " " ++ step_text words
subject_text V subject.Goal = codes "the goal"
subject_text V (subject.Constraint number operator bindings) = codes "constraint " ++ decimal number ++ codes ", " ++ operator_word operator ++ bindings_text V bindings
subject_text V (subject.Preference name operator bindings) = codes "preference " ++ preference_text V name ++ codes ", " ++ operator_word operator ++ bindings_text V bindings
subject_text V (subject.StepPreference name step bindings) =
    codes "preference " ++ preference_text V name ++ codes " of step " ++ decimal step ++ codes " " ++ numbered_step_text V step ++ bindings_text V bindings

-- ---- what is said of it

-- the argument of a number, counted from 1
abbrev pub argument_of : Step → ℕ → Name
argument_of words number = slice_index_or words.args (number - 1) []

-- so many of what the word names
abbrev pub plural : ℕ → List ℕ
plural count = if count == 1 then codes "" else codes "s"

abbrev pub counted : ℕ → List ℕ → List ℕ
counted count word = decimal count ++ codes " " ++ word ++ plural count

abbrev pub fault_text : Vocabulary → Step → StepFault → List ℕ
fault_text V words fault.UnknownAction = codes ": no action is called " ++ words.action
fault_text V words (fault.Count parameters) = codes ": " ++ counted (length words.args) (codes "argument") ++ codes " for " ++ counted parameters (codes "parameter")
fault_text V words (fault.NoObject argument) = codes ": argument " ++ decimal argument ++ codes ", " ++ argument_of words argument ++ codes ": no object has this name"
fault_text V words (fault.NoType argument parameter) =
    codes ": argument " ++ decimal argument ++ codes ", " ++ argument_of words argument ++ codes ": of none of the types of " ++ parameter
fault_text V words (fault.NoValue value) = codes ": " ++ value_text V.numbers value ++ codes " has no value"
fault_text V words fault.Precondition = codes ": the precondition does not hold"

abbrev pub said_text : Vocabulary → Subject → List ℕ
said_text V (subject.Step number words of) = fault_text V words of
said_text V subject.Goal = codes " does not hold"
said_text V (subject.Constraint number operator bindings) = codes ": not satisfied"
said_text V (subject.Preference name operator bindings) = codes ": not satisfied"
said_text V (subject.StepPreference name step bindings) = codes ": not satisfied"
