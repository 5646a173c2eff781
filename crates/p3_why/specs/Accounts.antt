-- What is told of a plan.
use Rattle.std.specs.Prelude.{◌≡◌, ℕ, Bool, List, [], ◌++◌, slice_index_or, is_none}
use Rattle.std.specs.List.{AllZip}
use Rattle.p3_base.specs.declared.refusal.Side.TheVariants.{Source}
use Rattle.p3_task.specs.Plans.{Plan}
use Rattle.p3_task.specs.declared.task.Task.{Task}
use Rattle.p3_numbers.specs.Tasks.{IsNumberedTask}
use Rattle.p3_numbers.specs.declared.task.NumberedTask.{NumberedTask}
use Rattle.p3_reasons.specs.Visits.{IsPlaced}
use Rattle.p3_accounts.specs.Accounts.{account_text}
use Rattle.p3_accounts.specs.Vocabularies.{Vocabulary}
use Rattle.p3_accounts.specs.declared.account.Account.{Account}
use Rattle.p3_cli.specs.Evaluation.{AreOfPlan}
use Rattle.p3_cli.specs.Refusing.{AreAcceptedFor}
use Rattle.p3_cli.specs.Texts.{AllTexts}
use Rattle.p3_eval.specs.declared.steps.Steps.{Steps}
use Rattle.p3_findings.specs.Accounts.{HasSteps, IsAccount}
use Rattle.p3_findings.specs.Texts.{Read}

-- the texts of the task and of the plan
abbrev pub read_of : AllTexts → Read
read_of texts = record { domain = texts.domain; problem = texts.problem; plan = texts.plan }

-- nothing is refused of the texts, and these are the steps of the plan
pub record AreGiven (T : Task) (texts : AllTexts) (steps : Steps) : Type 0 where
  pub accepted : AreAcceptedFor Source texts T
  pub has : HasSteps T texts.plan steps

-- ---- what the numbers of an account stand for

abbrev pub name_of : List (List ℕ) → ℕ → List ℕ
name_of names place = slice_index_or names place []

-- the files as they were given, the task's actions and numbers, and the steps of the plan up to one that has no number
pub record IsVocabulary (names : List (List ℕ)) (T : Task) (X : NumberedTask) (read : Plan) (words : Vocabulary) : Type 0 where
  pub domain : words.domain ≡ name_of names 0
  pub problem : words.problem ≡ name_of names 1
  pub plan : words.plan ≡ name_of names 2
  pub actions : words.actions ≡ T.domain.actions
  pub numbers : words.numbers ≡ X.numbers
  pub front : Plan
  pub rest : Plan
  pub parts : read ≡ front ++ rest
  pub steps : AllZip (IsPlaced T X) front words.steps

-- ---- what is put

-- nothing is refused of the texts; the lines are the account of the plan, which is valid or not
pub record IsToldOfPlan (names : List (List ℕ)) (texts : AllTexts) (lines : List ℕ) (is_valid : Bool) : Type 0 where
  pub task : Task
  pub plan : Plan
  pub of : AreOfPlan texts.domain texts.problem texts.plan task plan
  pub numbered : NumberedTask
  pub is_numbered : IsNumberedTask task numbered
  pub words : Vocabulary
  pub vocabulary : IsVocabulary names task numbered plan words
  pub account : Account
  pub is : IsAccount task numbered (read_of texts) plan account
  pub told : lines ≡ account_text words account
  pub says : is_valid ≡ is_none account.verdict
