-- What `check` answers.
use Rattle.std.specs.Prelude.{◌≡◌, Option, Some, option_map}
use Rattle.p3_base.specs.declared.refusal.Refusal.{Refusal}
use Rattle.p3_base.specs.declared.refusal.Side.{Side}
use Rattle.p3_task.specs.FirstOffence.{first_offence}
use Rattle.p3_task.specs.Refusals.First.{refusal_of}
use Rattle.p3_task.specs.declared.task.Task.{Task}
use Rattle.p3_types.specs.declared.error.CheckFail.{CheckFail}
use Rattle.p3_types.specs.declared.error.CheckFail.TheVariants.{Refused, NoMemory}

-- the refusal of the task's first offence
abbrev pub offence_refusal : Side → Task → Option Refusal
offence_refusal side T = option_map (refusal_of side) (first_offence T)

-- a refused task has this first offence
abbrev pub IsFailOf : Side → Task → CheckFail → Type 0
IsFailOf side T (Refused refusal) = offence_refusal side T ≡ Some refusal
IsFailOf side T NoMemory = Unit {0}
