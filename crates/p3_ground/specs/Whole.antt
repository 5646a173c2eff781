-- What grounding answers, and what it makes before the steps that never fit are left out.
use Rattle.std.specs.Prelude.{◌≡◌, ℕ, ◌≤◌, List, [], length, Option, None, Some}
use Rattle.std.specs.List.{All}
use Rattle.p3_base.specs.declared.refusal.Side.{Side}
use Rattle.p3_task.specs.Refusals.Counts.{size_refusals}
use Rattle.p3_task.specs.Refusals.Places.{first_some}
use Rattle.p3_task.specs.declared.task.Task.{Task}
use Rattle.p3_task.specs.Sides.{step_count_limit}
use Rattle.p3_formula.specs.declared.task.GroundStep.{GroundStep}
use Rattle.p3_formula.specs.declared.task.GroundTask.{GroundTask}
use Rattle.p3_numbers.specs.declared.task.NumberedTask.{NumberedTask}
use Rattle.p3_steps.specs.Steps.{StepsAreMade, count_of_steps}
use Rattle.p3_expansion.specs.Atoms.{GroundAtom}
use Rattle.p3_expansion.specs.Expansions.{Stands}
use Rattle.p3_expansion.specs.Hard.{hard_meaning}
use Rattle.p3_expansion.specs.Instances.{InstancesStand}
use Rattle.p3_expansion.specs.Operators.{OperatorsStand}
use Rattle.p3_expansion.specs.TaskConstraints.{task_operators, task_instances}
use Rattle.p3_expansion.specs.declared.statics.Statics.{Statics}
use Rattle.p3_ground.specs.Expanded.{AreExpanded, IsPutTogether}
use Rattle.p3_ground.specs.Grounding.{MayBegin}
use Rattle.p3_ground.specs.Planned.{IsWanted, wanted_steps}
use Rattle.p3_ground.specs.StandsFor.{LeftOutAt}
use Rattle.p3_ground.specs.declared.error.GroundFail.{GroundFail}
use Rattle.p3_ground.specs.declared.error.GroundFail.TheVariants.{Refused, NoMemory}
use Rattle.p3_ground.specs.declared.parts.ExpandedParts.{ExpandedParts}

-- no limit is passed by the sizes of the task
abbrev pub IsWithinLimits : Side → Task → Type 0
IsWithinLimits side T = first_some (size_refusals side T) ≡ None

-- a refused task passes this limit first
abbrev pub IsFailOf : Side → Task → GroundFail → Type 0
IsFailOf side T (Refused refusal) = first_some (size_refusals side T) ≡ Some refusal
IsFailOf side T NoMemory = Unit {0}

-- the steps of the task can be numbered
abbrev pub HasFewSteps : NumberedTask → Type 0
HasFewSteps X = count_of_steps X.numbers X.actions ≤ step_count_limit

-- the expanded parts of a task stand for those of its numbered trees, with the wanted steps
pub record ArePartsOf (T : Task) (X : NumberedTask) (S : Statics) (places : ℕ) (atoms : List GroundAtom) (wanted : Option (List ℕ)) (parts : ExpandedParts) : Type 0 where
  pub expanded : AreExpanded T X S atoms
  pub count : parts.atoms ≡ length atoms
  pub steps : StepsAreMade X S places atoms (wanted_steps X S wanted) parts.steps
  pub goal : Stands X.numbers S atoms (hard_meaning X.numbers [] X.goal) parts.goal
  pub hard : OperatorsStand X.numbers S atoms (task_operators X) parts.hard
  pub soft : InstancesStand X.numbers S atoms (task_instances X) parts.soft

-- the ground task is put together of all wanted steps that may begin
pub record IsWhole (T : Task) (X : NumberedTask) (wanted : Option (List ℕ)) (G : GroundTask) : Type 0 where
  pub statics : Statics
  pub atoms : List GroundAtom
  pub expanded : AreExpanded T X statics atoms
  pub together : IsPutTogether T X statics atoms G
  pub left_out : (number : ℕ) → IsWanted wanted number → LeftOutAt T G number
  pub only : All (λ (step : GroundStep). IsWanted wanted step.number) G.steps
  pub may : All (MayBegin T X statics) G.steps
