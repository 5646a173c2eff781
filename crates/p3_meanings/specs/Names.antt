-- What the names of a written task stand for, line by line.
use Rattle.std.specs.Prelude.{◌≡◌, ℕ, List, ◌++◌}
use Rattle.p3_task.specs.declared.task.Task.{Task}
use Rattle.p3_formula.specs.declared.task.GroundTask.{GroundTask}
use Rattle.p3_numbers.specs.declared.task.NumberedTask.{NumberedTask}
use Rattle.p3_expansion.specs.Atoms.{GroundAtom}
use Rattle.p3_accounts.specs.Vocabularies.{Vocabulary}
use Rattle.p3_unmet.specs.Sources.{Texts}
use Rattle.p3_meanings.specs.Atoms.{atoms_said}
use Rattle.p3_meanings.specs.Chains.{settling_said}
use Rattle.p3_meanings.specs.Monitors.{monitors_said}
use Rattle.p3_meanings.specs.Said.{said_lines}
use Rattle.p3_meanings.specs.Steps.{step_lines}
use Rattle.p3_meanings.specs.declared.error.NamesFail.{NamesFail}
use Rattle.p3_meanings.specs.declared.error.NamesFail.TheVariants.{NoMemory, SinkFailed}
use Rattle.p3_base.specs.Outside.{Rose}

-- the words are those of the task
pub record AreWordsOf (T : Task) (X : NumberedTask) (V : Vocabulary) : Type 0 where
  pub actions : V.actions ≡ T.domain.actions
  pub numbers : V.numbers ≡ X.numbers

-- those of monitors, and then of the chain
abbrev pub constraint_lines : Vocabulary → Texts → Task → List ℕ
constraint_lines V texts T = said_lines V 0 (monitors_said texts T) ++ said_lines V 0 (settling_said texts T)

-- the kept steps by their numbers, the atoms, those that watch operators, and those of the chain
abbrev pub names_text : Vocabulary → Texts → Task → GroundTask → List GroundAtom → List ℕ
names_text V texts T G atoms = step_lines V texts T G.steps ++ said_lines V 0 (atoms_said V.numbers atoms) ++ constraint_lines V texts T

-- where the sink failed, its faults have risen
abbrev pub IsFailOf : ℕ → ℕ → NamesFail → Type 0
IsFailOf before after NoMemory = Unit {0}
IsFailOf before after SinkFailed = Rose before after
