-- What the resolver answers.
use Rattle.std.specs.Prelude.{◌≡◌, Some, option_map, All}
use Rattle.std.specs.List.Sorted.{IsStrictlyIncreasing}
use Rattle.p3_base.specs.declared.refusal.Side.{Side}
use Rattle.p3_numbers.specs.Tasks.{IsNumberedTask}
use Rattle.p3_numbers.specs.declared.task.NumberedTask.{NumberedTask}
use Rattle.p3_resolve.specs.declared.resolving.Resolved.{Resolved}
use Rattle.p3_resolve.specs.declared.resolving.Resolved.TheVariants.{Numbered, Refused}
use Rattle.p3_task.specs.FirstOffence.{first_offence}
use Rattle.p3_task.specs.Offences.{WellFormed}
use Rattle.p3_task.specs.Refusals.First.{refusal_of}
use Rattle.p3_task.specs.declared.task.Task.{Task}

-- a well-formed task with numbers, those of each range rising
pub record IsResolvedTask (T : Task) (X : NumberedTask) : Type 0 where
  pub well_formed : WellFormed T
  pub numbered : IsNumberedTask T X
  pub rising : All IsStrictlyIncreasing X.numbers.ranges

-- the numbered task, or the refusal of the first offence
abbrev pub IsResolved : Side → Task → Resolved → Type 0
IsResolved side T (Numbered X) = IsResolvedTask T X
IsResolved side T (Refused refusal) = option_map (refusal_of side) (first_offence T) ≡ Some refusal
