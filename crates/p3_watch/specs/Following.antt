-- How far a text is followed.
use Rattle.std.specs.Prelude.{◌≡◌, ℕ, List, ◌++◌, drop, Option}
use Rattle.p3_base.specs.Outside.{IsPut}
use Rattle.p3_task.specs.Plans.{Plan}
use Rattle.p3_tree.specs.Reports.Watching.{blocks, watch_lines}
use Rattle.p3_task.specs.Watching.{lines_from}
use Rattle.p3_task.specs.declared.task.Task.{Task}
use Rattle.p3_ground.specs.PlansByNumber.{AreNumbers}
use Rattle.p3_run.specs.Runs.{Ran}

-- the run has done the steps of a plan, and the bytes that are put and the blocks of the lines from an offset on make up all lines
pub record IsFollowed (T : Task) (text : List ℕ) (old now : Option (List ℕ)) (ran : Ran) (at : ℕ) : Type 0 where
  pub plan : Plan
  pub numbers : AreNumbers T plan ran.plan
  pub bytes : List ℕ
  pub put : IsPut bytes old now
  pub all : bytes ++ blocks T text plan (lines_from at (drop at text)) ≡ watch_lines T text
