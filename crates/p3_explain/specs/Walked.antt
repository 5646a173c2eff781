-- A run whose states were marked: what is known of the marks and of the false preferences of its steps.
use Rattle.std.specs.Prelude.{◌≡◌, List, Option, None}
use Rattle.p3_base.specs.declared.showing.Reason.{Reason}
use Rattle.p3_formula.specs.GroundPlans.{ground_visited, step_of}
use Rattle.p3_formula.specs.declared.task.GroundStep.{GroundStep}
use Rattle.p3_formula.specs.declared.task.GroundTask.{GroundTask}
use Rattle.p3_types.specs.declared.finding.Found.{Found}
use Rattle.p3_types.specs.declared.finding.Found.TheVariants.{Number, UnknownAction, Arguments}
use Rattle.p3_marks.specs.Marked.{AreMarks, Marked}
use Rattle.p3_marks.specs.Reasons.{steps_reasons}
use Rattle.p3_run.specs.Runs.{Ran}

-- the marks are right of the states visited, and the reasons are those of the false preferences of the steps done
pub record IsMarked (ran : Ran) (marks : Marked) (prefs : List Reason) : Type 0 where
  pub right : AreMarks ran.task (ground_visited ran.task ran.plan) marks
  pub told : prefs ≡ steps_reasons ran.task ran.plan

-- the step that is found so, where it is kept
abbrev pub kept_of : GroundTask → Found → Option GroundStep
kept_of G (Number number) = step_of G number
kept_of G UnknownAction = None
kept_of G Arguments = None
