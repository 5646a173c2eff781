-- A whole run: when each ending comes.
use Rattle.std.specs.Prelude.{ℕ, ◌≡◌, ◌⊎◌, Bool, List, Option, Some, None, IfSome, ⊤}
use Rattle.p3_base.specs.Outside.{FilesSeen, SinkSeen, Rose, Store}
use Rattle.p3_base.specs.declared.refusal.Side.TheVariants.{Source}
use Rattle.p3_reports.specs.declared.refusal.Rejection.{Rejection}
use Rattle.p3_task.specs.Refusals.First.{Given, given_task}
use Rattle.p3_cli.specs.Ending as unanswered
use Rattle.p3_cli.specs.Evaluation.{given_plan}
use Rattle.p3_cli.specs.Refusing.{IsRefusal}
use Rattle.p3_cli.specs.Run.{AnyFaultRose}
use Rattle.p3_cli.specs.Status as status
use Rattle.p3_cli.specs.Store.{AreStored, IsUnreadAt, Texts, TooLong, reading}
use Rattle.p3_cli.specs.Texts.{AllTexts}
use Rattle.p3_why.specs.Accounts.{IsToldOfPlan}
use Rattle.p3_why.specs.Asked.{Asking, inputs_of}
use Rattle.p3_why.specs.Ending.{Ending, Answered, CutShort, Unanswered, Usage, Tells}
use Rattle.p3_why.specs.Names.{AreToldNames}
use Rattle.p3_why.specs.declared.question.Question.{Question}
use Rattle.p3_why.specs.declared.question.Question.TheVariants.{Plan, Names}

-- the texts of what is asked
abbrev pub given : Question → AllTexts → Given
given Plan texts = given_plan texts
given Names texts = given_task Source texts.domain texts.problem

-- the ending says the first refusal of the texts
abbrev pub Refuses : Question → AllTexts → unanswered.Ending → Type 0
Refuses question texts how = IsRefusal (given question texts) texts how

-- the lines answer the question of the texts, and the plan is valid or not
abbrev pub AnswersBy : Question → List (List ℕ) → AllTexts → List ℕ → Bool → Type 0
AnswersBy Plan names texts lines is_valid = IsToldOfPlan names texts lines is_valid
AnswersBy Names names texts lines is_valid = AreToldNames names texts lines is_valid

abbrev pub Answers : Asking → AllTexts → List ℕ → Bool → Type 0
Answers asking texts lines is_valid = AnswersBy asking.question asking.names texts lines is_valid

-- where it is told what the files hold, it is so of the texts that are read of it
abbrev pub OfReading : Asking → Option Store → (AllTexts → Type 0) → Type 0
OfReading asking told Says = IfSome told (λ store. (texts : AllTexts) × (reading store (inputs_of asking) ≡ Texts texts) × Says texts)

-- why nothing is answered: the first refusal of what was read, or a file that was not; want of memory may come at any time
abbrev pub IsUnanswered : Asking → FilesSeen → FilesSeen → unanswered.Ending → Type 0
IsUnanswered asking old new (unanswered.Refused rejection) = OfReading asking old.held (λ texts. Refuses asking.question texts (unanswered.Refused rejection))
IsUnanswered asking old new (unanswered.TooLong role) = IfSome old.held (λ store. reading store (inputs_of asking) ≡ TooLong role)
IsUnanswered asking old new (unanswered.ReadFailed role) = IsUnreadAt old.held (inputs_of asking) role × Rose old.read_faults new.read_faults
IsUnanswered asking old new unanswered.OutOfMemory = ⊤
IsUnanswered asking old new (unanswered.Done lines) = ⊥
IsUnanswered asking old new (unanswered.Invalid fault) = ⊥
IsUnanswered asking old new (unanswered.WriteFailed role) = ⊥
IsUnanswered asking old new unanswered.Usage = ⊥

-- when an ending comes
abbrev pub Comes : Asking → FilesSeen → FilesSeen → Ending → Type 0
Comes asking old new (Answered lines is_valid) = OfReading asking old.held (λ texts. Answers asking texts lines is_valid)
Comes asking old new (CutShort lines) = (asking.question ≡ Names) × OfReading asking old.held (λ texts. (is_valid : Bool) × Answers asking texts lines is_valid)
Comes asking old new (Unanswered how) = IsUnanswered asking old new how
Comes asking old new Usage = ⊥

abbrev pub ComesOf : Option Asking → FilesSeen → FilesSeen → Ending → Type 0
ComesOf None old new how = how ≡ Usage
ComesOf (Some asking) old new how = Comes asking old new how

-- it is told that each file that is read is held
abbrev pub AreHeld : Option Asking → Option Store → Type 0
AreHeld None told = ⊤
AreHeld (Some asking) told = AreStored told (inputs_of asking)

-- how a run ends
pub record Ends (asked : Option Asking) (old new : FilesSeen) (before after : SinkSeen) (status : ℕ) (how : Ending) : Type 0 where
  pub comes : ComesOf asked old new how
  pub tells : Tells before after status how

-- ---- what must be answered

-- the store holds the texts that are asked for, and nothing is refused of them
pub record IsAccepted (asking : Asking) (store : Store) : Type 0 where
  pub texts : AllTexts
  pub read : reading store (inputs_of asking) ≡ Texts texts
  pub unrefused : (rejection : Rejection) → Refuses asking.question texts (unanswered.Refused rejection) → ⊥

abbrev pub IsAcceptedIn : Option Asking → Store → Type 0
IsAcceptedIn None store = ⊥
IsAcceptedIn (Some asking) store = IsAccepted asking store

-- the status of an answer, or that memory was wanting for it
abbrev pub IsAnswerOrWant : ℕ → Type 0
IsAnswerOrWant answered = (answered ≡ status.done) ⊎ ((answered ≡ status.invalid) ⊎ (answered ≡ status.out_of_memory))

-- where the store tells, and what it holds is accepted, it is answered, but for faults of the outside and want of memory
abbrev pub MustAnswer : Option Asking → FilesSeen → FilesSeen → SinkSeen → SinkSeen → ℕ → Type 0
MustAnswer asked old new before after answered =
    IfSome old.held (λ store. IsAcceptedIn asked store → AnyFaultRose old new before after ⊎ IsAnswerOrWant answered)
