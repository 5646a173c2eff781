-- What is answered to a line of a plan that is followed.
use Rattle.std.specs.Prelude.{◌≡◌, ℕ, ◌+◌, ◌≤◌, List, length, Option, None, Some}
use Rattle.std.specs.List.{All, Contains}
use Rattle.p3_task.specs.Plans.{Plan}
use Rattle.p3_task.specs.Validity.{AtStep}
use Rattle.p3_task.specs.StepNumbers.{HasNumber}
use Rattle.p3_task.specs.Watching.{Answer, Blank, Taken, Unfit, Refused, LineText, Offends, Empty, OneStep, Piece, answer_by, answer_to, line_text, taken_after}
use Rattle.p3_task.specs.declared.task.Step.{Step}
use Rattle.p3_task.specs.declared.task.Task.{Task}
use Rattle.p3_types.specs.declared.finding.Found.{Found}
use Rattle.p3_types.specs.declared.finding.Found.TheVariants.{Number, UnknownAction, Arguments}
use Rattle.p3_formula.specs.declared.task.GroundTask.{GroundTask}
use Rattle.p3_ground.specs.PlansByNumber.{AreNumbers}
use Rattle.p3_ground.specs.StandsFor.{LeftOutAt}
use Rattle.p3_run.specs.Runs.{Ran}
use Rattle.p3_eval.specs.Judged.{fault_in}
use Rattle.p3_eval.specs.Runs.{OfRun}
use Rattle.p3_watch.specs.declared.watch.Line.{Line}
use Rattle.p3_watch.specs.declared.watch.Line.TheVariants as line

-- behind the plan the code's answer is that of the definitions
abbrev pub Says : Plan → Answer → Line → Type 0
Says plan Blank line.Blank = Unit {0}
Says plan (Taken step) line.Done = Unit {0}
Says plan (Unfit kind) (line.Invalid fault) = fault_in fault ≡ AtStep (length plan + 1) kind
Says plan (Refused offence) (line.Refused refusal) = refusal ≡ offence
Says plan _ _ = ⊥

-- so it is answered, and then the run has done the steps taken
pub record Answers (T : Task) (plan : Plan) (answer : Answer) (new : Ran) (told : Line) : Type 0 where
  pub says : Says plan answer told
  pub done : AreNumbers T (taken_after plan answer) new.plan

-- where the step of the line has a number, it is there or can begin in no reached state
abbrev pub IsAskedBy : Task → GroundTask → LineText → Type 0
IsAskedBy T G (Offends offence) = Unit {0}
IsAskedBy T G Empty = Unit {0}
IsAskedBy T G (OneStep at step) = (number : ℕ) → HasNumber T step number → LeftOutAt T G number

-- the answer to a line, for the plan of the steps done
abbrev pub IsAnswered : Task → List ℕ → Ran → Ran → Line → Type 0
IsAnswered T text old new told = IsAskedBy T old.task (line_text text) → OfRun T old (λ plan. Answers T plan (answer_to T plan text) new told)

-- the answer to a step whose `(` stands there
abbrev pub IsTried : Task → ℕ → Step → Ran → Ran → Line → Type 0
IsTried T at step old new told = IsAskedBy T old.task (OneStep at step) → OfRun T old (λ plan. Answers T plan (answer_by T plan (OneStep at step)) new told)

-- so may the steps of all lines of the text be asked
abbrev pub AreLinesAsked : Task → GroundTask → List Piece → Type 0
AreLinesAsked T G pieces = All (λ (piece : Piece). IsAskedBy T G (line_text piece.bytes)) pieces

-- the step of the line has one of the numbers, if it has a number
abbrev pub IsNumberedBy : Task → List ℕ → LineText → Type 0
IsNumberedBy T numbers (Offends offence) = Unit {0}
IsNumberedBy T numbers Empty = Unit {0}
IsNumberedBy T numbers (OneStep at step) = (number : ℕ) → HasNumber T step number → Contains numbers number

-- so it is of each line
abbrev pub AreLinesNumbered : Task → List ℕ → List Piece → Type 0
AreLinesNumbered T numbers pieces = All (λ (piece : Piece). IsNumberedBy T numbers (line_text piece.bytes)) pieces

-- but for a step that is done nothing has changed
abbrev pub IsUnchanged : Ran → Ran → Line → Type 0
IsUnchanged old new line.Done = Unit {0}
IsUnchanged old new _ = new ≡ old

-- a refusal stands within the line
abbrev pub IsWithin : ℕ → Line → Type 0
IsWithin size (line.Refused refusal) = refusal.pos.offset ≤ size
IsWithin size _ = Unit {0}

-- it is so of each plan and answer that were answered so
abbrev pub OfAnswer : Task → Ran → Line → (Plan → Answer → Type 0) → Type 0
OfAnswer T new told Holds = (plan : Plan) (answer : Answer) → Answers T plan answer new told → Holds plan answer

-- ---- the numbers of lines

-- the number that is found
abbrev pub number_in : Found → Option ℕ
number_in (Number number) = Some number
number_in UnknownAction = None
number_in Arguments = None

-- the step of the line has that number, if it has one
abbrev pub IsNumberOfLine : Task → LineText → Option ℕ → Type 0
IsNumberOfLine T (Offends offence) found = Unit {0}
IsNumberOfLine T Empty found = Unit {0}
IsNumberOfLine T (OneStep at step) found = (number : ℕ) → HasNumber T step number → found ≡ Some number
