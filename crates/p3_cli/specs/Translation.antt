-- What `compile` makes of a task, and of the texts of its two halves.
use Rattle.std.specs.Prelude.{ℕ, ◌≡◌, List}
use Rattle.p3_base.specs.declared.refusal.Side.TheVariants.{Source}
use Rattle.p3_task.specs.Offences.{WellFormed}
use Rattle.p3_task.specs.Refusals.First.{AreAccepted}
use Rattle.p3_tree.specs.Reports.Tasks.{compiled_lines}
use Rattle.p3_task.specs.declared.task.Task.{Task}
use Rattle.p3_formula.specs.Conditions.{IsReady}
use Rattle.p3_formula.specs.declared.target.Target.{Target}
use Rattle.p3_formula.specs.declared.target.Weights.{Weights}
use Rattle.p3_formula.specs.declared.task.GroundTask.{GroundTask}
use Rattle.p3_ground.specs.Sparse.{IsGroundingOf}
use Rattle.p3_metric.specs.Weighed.{HasWeights, IsLinearMetric}
use Rattle.p3_compile.specs.Compiling.{IsCompiledTo}
use Rattle.p3_writer.specs.Layout.{domain_layout, problem_layout}
use Rattle.p3_writer.specs.TaskOf.{task_of}
use Rattle.p3_writer.specs.Texts.{IsDomainTextOf, IsProblemTextOf}
use Rattle.p3_cli.specs.WrittenText.{HasFaithfulText}

-- the texts are the layout of the target, and texts of its task
pub record AreTextsOf (target : Target) (od op : List ℕ) : Type 0 where
  pub domain : od ≡ domain_layout target
  pub problem : op ≡ problem_layout target
  pub domain_text : IsDomainTextOf od (task_of target).domain
  pub problem_text : IsProblemTextOf op (task_of target).problem

-- a well-formed task with a ground task and weights that can be compiled
pub record CanBeCompiled (T : Task) (G : GroundTask) (w : Weights) : Type 0 where
  pub well_formed : WellFormed T
  pub linear : IsLinearMetric T
  pub grounding : IsGroundingOf T G
  pub weighed : HasWeights T w
  pub ready : IsReady G w

-- a ground task that stands for the task, compiled with the task's weights
pub record IsTargetOf (task : Task) (target : Target) : Type 0 where
  pub ground : GroundTask
  pub weights : Weights
  pub grounding : IsGroundingOf task ground
  pub weighed : HasWeights task weights
  pub is : IsCompiledTo ground weights target

-- the texts are the layout of such a target
pub record IsLaidOut (task : Task) (od op : List ℕ) : Type 0 where
  pub target : Target
  pub of : IsTargetOf task target
  pub domain : od ≡ domain_layout target
  pub problem : op ≡ problem_layout target

-- nothing is refused of d and p, and the texts od and op are laid out for the task that they spell
pub record HasLayout (d p od op : List ℕ) : Type 0 where
  pub task : Task
  pub accepted : AreAccepted Source d p task
  pub laid_out : IsLaidOut task od op

-- nothing is refused of d and p, the grammar reads od and op as a faithful translation of the task that they spell, and the report is the task's
pub record IsTranslation (d p od op report : List ℕ) : Type 0 where
  pub task : Task
  pub accepted : AreAccepted Source d p task
  pub text : HasFaithfulText od op task
  pub told : report ≡ compiled_lines task
