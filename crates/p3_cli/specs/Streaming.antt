-- The texts of the target to which a ground task is compiled, written while its actions are made.
use Rattle.std.specs.Prelude.{◌≡◌, ℕ, List, IsTrue}
use Rattle.std.specs.List.{list_all}
use Rattle.p3_formula.specs.Conditions.{IsReady}
use Rattle.p3_formula.specs.declared.target.Target.{Target}
use Rattle.p3_formula.specs.declared.target.TargetAction.{TargetAction}
use Rattle.p3_formula.specs.declared.target.Weights.{Weights}
use Rattle.p3_formula.specs.declared.task.GroundStep.{GroundStep}
use Rattle.p3_formula.specs.declared.task.GroundTask.{GroundTask}
use Rattle.p3_compile.specs.Compiling.{AreEnds, IsBegun, IsCompiledTo}
use Rattle.p3_compile.specs.Stepping.{AreMade, HasNextActions, HasStepActions}
use Rattle.p3_compile.specs.declared.begun.BegunTarget.{BegunTarget}
use Rattle.p3_writer.specs.DomainText.{BegunDomain, with_actions}
use Rattle.p3_writer.specs.Layout.{domain_layout, is_small}
use Rattle.p3_writer.specs.TaskOf.{task_of}
use Rattle.p3_writer.specs.Texts.{CanBeWritten, HasProblem, IsDomainTextOf}
use Rattle.p3_cli.specs.Translation.{AreTextsOf}

-- the target is begun for the task, whose steps these are
pub record IsBegunFor (G : GroundTask) (weights : Weights) (begun : BegunTarget) (steps : List GroundStep) : Type 0 where
  pub ready : IsReady G weights
  pub is : IsBegun G weights begun
  pub all : steps ≡ G.steps

-- the texts of a target to which the ground task is compiled
pub record AreCompiledTexts (G : GroundTask) (weights : Weights) (od op : List ℕ) : Type 0 where
  pub target : Target
  pub is : IsCompiledTo G weights target
  pub texts : AreTextsOf target od op

-- the domain of such a target, which has the atoms, the initial state and the goal of the begun one
pub record HasDomainText (G : GroundTask) (weights : Weights) (begun : BegunTarget) (od : List ℕ) : Type 0 where
  pub target : Target
  pub is : IsCompiledTo G weights target
  pub can : CanBeWritten target
  pub problem : HasProblem target begun.names begun.initial begun.goal
  pub layout : od ≡ domain_layout target
  pub text : IsDomainTextOf od (task_of target).domain

-- the actions stand behind what was written
pub record HasWritten (actions : List TargetAction) (old new : BegunDomain) : Type 0 where
  pub written : new ≡ with_actions old actions
  pub small : IsTrue (list_all is_small actions)

-- those with which the end phase begins, and of the first so many of its instances
pub record HasWrittenEnds (begun : BegunTarget) (count : ℕ) (old new : BegunDomain) : Type 0 where
  pub actions : List TargetAction
  pub made : AreEnds begun count actions
  pub are : HasWritten actions old new

-- those of the next step
pub record HasWrittenStep (begun : BegunTarget) (weights : Weights) (step : GroundStep) (current next : ℕ) (old new : BegunDomain) : Type 0 where
  pub actions : List TargetAction
  pub made : HasNextActions begun weights step current next actions
  pub are : HasWritten actions old new

-- those of some steps
pub record HasWrittenSteps (begun : BegunTarget) (weights : Weights) (steps : List GroundStep) (current : ℕ) (old new : BegunDomain) : Type 0 where
  pub actions : List TargetAction
  pub made : AreMade begun.frame weights steps begun.current current actions
  pub are : HasWritten actions old new

-- those of all steps
pub record HasWrittenAll (G : GroundTask) (weights : Weights) (begun : BegunTarget) (old new : BegunDomain) : Type 0 where
  pub actions : List TargetAction
  pub made : HasStepActions begun.frame weights G.steps actions
  pub are : HasWritten actions old new
