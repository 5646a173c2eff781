-- What `watch` makes of the texts of a task and of what is to be a plan for it.
use Rattle.std.specs.Prelude.{ℕ, ◌≡◌, List}
use Rattle.p3_base.specs.Outside.{SinkSeen}
use Rattle.p3_base.specs.declared.refusal.Side.TheVariants.{Source}
use Rattle.p3_task.specs.Refusals.First.{AreAccepted}
use Rattle.p3_tree.specs.Reports.Watching.{watch_lines}
use Rattle.p3_task.specs.declared.task.Task.{Task}
use Rattle.p3_cli.specs.Ending.{Done, Tells}

-- nothing is refused of d and p, and the report follows what q says, line by line
pub record IsFollowing (d p q report : List ℕ) : Type 0 where
  pub task : Task
  pub accepted : AreAccepted Source d p task
  pub told : report ≡ watch_lines task q

-- its lines are put, and the status says that this is done; or the sink failed, a first part of them is put, and the status says so
pub record IsFollowed (d p q : List ℕ) (before after : SinkSeen) (status : ℕ) : Type 0 where
  pub report : List ℕ
  pub is : IsFollowing d p q report
  pub tells : Tells before after status (Done report)
