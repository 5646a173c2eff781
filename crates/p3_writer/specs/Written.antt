-- What the task of a target is: the law of the writer.
use Rattle.std.specs.Prelude.{◌≡◌, pos, [], map}
use Rattle.p3_task.specs.Plans.{Plan}
use Rattle.p3_task.specs.Validity.{Valid, is_valid}
use Rattle.p3_task.specs.Offences.{WellFormed}
use Rattle.p3_task.specs.Lifting.{Plain, IsVariableFree}
use Rattle.p3_task.specs.declared.task.Step.{Step}
use Rattle.p3_formula.specs.Targets.{TargetPlan, reaches_goal, target_cost}
use Rattle.p3_formula.specs.declared.target.Target.{Target}
use Rattle.p3_base.specs.Words.{Name}
use Rattle.p3_task.specs.Costs.{cost_places}
use Rattle.p3_task.specs.Metrics.{value}
use Rattle.p3_writer.specs.TaskOf.{task_of}

-- the step that does the action of that name
abbrev pub bare : Name → Step
bare name = record { action = name; args = [] }

abbrev pub names_in : Plan → TargetPlan
names_in plan = map (λ (step : Step). step.action) plan

-- the task is well-formed, plain and without variables; its valid plans and their costs are those of the target
pub record IsWritten (X : Target) : Type 0 where
  pub well_formed : WellFormed (task_of X)
  pub plain : Plain (task_of X)
  pub variable_free : IsVariableFree (task_of X)
  pub whole : cost_places (task_of X) ≡ 0
  -- no step of a valid plan has an argument
  pub bare_steps : (q : Plan) → Valid (task_of X) q → q ≡ map bare (names_in q)
  pub valid : (names : TargetPlan) → is_valid (task_of X) (map bare names) ≡ reaches_goal X X.initial names
  pub value : (names : TargetPlan) → value (task_of X) (map bare names) ≡ pos (target_cost X names)
