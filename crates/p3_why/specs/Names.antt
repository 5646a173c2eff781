-- What is told of the names of a written task.
use Rattle.std.specs.Prelude.{◌≡◌, ℕ, Bool, true, List, Result, Ok, Err}
use Rattle.p3_base.specs.declared.refusal.Side.TheVariants.{Source}
use Rattle.p3_task.specs.declared.task.Task.{Task}
use Rattle.p3_numbers.specs.Tasks.{IsNumberedTask}
use Rattle.p3_numbers.specs.declared.task.NumberedTask.{NumberedTask}
use Rattle.p3_formula.specs.declared.task.GroundTask.{GroundTask}
use Rattle.p3_ground.specs.Sparse.{IsGroundingOf}
use Rattle.p3_expansion.specs.Atoms.{GroundAtom}
use Rattle.p3_accounts.specs.Vocabularies.{Vocabulary}
use Rattle.p3_unmet.specs.Sources as sources
use Rattle.p3_meanings.specs.Atoms.{AreAtomsOf}
use Rattle.p3_meanings.specs.Names.{AreWordsOf, names_text}
use Rattle.p3_meanings.specs.declared.error.NamesFail.{NamesFail}
use Rattle.p3_meanings.specs.declared.error.NamesFail.TheVariants.{NoMemory, SinkFailed}
use Rattle.p3_cli.specs.Refusing.{AreAcceptedFor}
use Rattle.p3_cli.specs.Status as status
use Rattle.p3_cli.specs.Texts.{AllTexts}
use Rattle.p3_why.specs.Accounts.{name_of}

-- the texts of the task
abbrev pub halves_of : AllTexts → sources.Texts
halves_of texts = record { domain = texts.domain; problem = texts.problem }

-- nothing is refused of the texts, and the lines say what the names of the written task stand for: the steps that are kept, the ground atoms, and those that watch operators and settle preferences
pub record AreToldNames (names : List (List ℕ)) (texts : AllTexts) (lines : List ℕ) (is_valid : Bool) : Type 0 where
  pub task : Task
  pub accepted : AreAcceptedFor Source texts task
  pub numbered : NumberedTask
  pub is_numbered : IsNumberedTask task numbered
  pub ground : GroundTask
  pub grounding : IsGroundingOf task ground
  pub atoms : List GroundAtom
  pub are_atoms : AreAtomsOf task numbered.numbers atoms
  pub words : Vocabulary
  pub domain : words.domain ≡ name_of names 0
  pub problem : words.problem ≡ name_of names 1
  pub are_words : AreWordsOf task numbered words
  pub told : lines ≡ names_text words (halves_of texts) task ground atoms
  pub says : is_valid ≡ true

-- the status of what was put
abbrev pub put_status : {A : Type 0} → Result A NamesFail → ℕ
put_status (Ok all) = status.done
put_status (Err SinkFailed) = status.unput
put_status (Err NoMemory) = status.out_of_memory
