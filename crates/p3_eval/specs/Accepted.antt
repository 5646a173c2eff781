-- What accepting a task answers.
use Rattle.std.specs.Prelude.{◌≡◌, Bool, is_none, Some}
use Rattle.p3_base.specs.declared.refusal.Side.{Side}
use Rattle.p3_task.specs.Refusals.First.{task_refusal}
use Rattle.p3_task.specs.declared.task.Task.{Task}
use Rattle.p3_eval.specs.declared.error.WholeFail.{WholeFail}
use Rattle.p3_eval.specs.declared.error.WholeFail.TheVariants.{Refused, NoMemory}

abbrev pub is_accepted : Side → Task → Bool
is_accepted side T = is_none (task_refusal side T)

-- a refused task has this first refusal
abbrev pub IsFailOf : Side → Task → WholeFail → Type 0
IsFailOf side T (Refused refusal) = task_refusal side T ≡ Some refusal
IsFailOf side T NoMemory = Unit {0}
