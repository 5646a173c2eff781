-- What is asked of a run before its metric is taken apart, and the parts by numbers.
use Rattle.std.specs.Prelude.{◌≡◌, ℕ, ◌^◌, ◌<◌, ◌≤◌, ℤ, pos, ◌+ℤ◌, length, slice_index_or, IsTrue}
use Rattle.std.specs.List.{All, AllZip, range_with_len}
use Rattle.p3_task.specs.Costs.{cost_places}
use Rattle.p3_task.specs.Metrics.{metric_places}
use Rattle.p3_task.specs.Plans.{Plan, steps_fit}
use Rattle.p3_task.specs.declared.task.Task.{Task}
use Rattle.p3_formula.specs.GroundPlans.{ground_cost, ground_loss, ground_violated}
use Rattle.p3_run.specs.Runs.{Ran, begun, ground_metric, most_steps}
use Rattle.p3_eval.specs.Judged.{HasDone}
use Rattle.p3_eval.specs.declared.grounded.Grounded.{Grounded}
use Rattle.p3_accounts.specs.declared.share.CostShare.{CostShare}
use Rattle.p3_accounts.specs.declared.share.NameShare.{NameShare}
use Rattle.p3_accounts.specs.declared.share.Shares.{Shares}
use Rattle.p3_reports.specs.Contents.{IsQuantity}

-- from there on the run has done the steps of a plan of the task, all of which fit
pub record IsRunOfPlan (T : Task) (before now : Ran) : Type 0 where
  pub plan : Plan
  pub done : HasDone T plan before now
  pub fit : IsTrue (steps_fit T plan)

-- and what else keeps sums small
pub record CanShare (grounded : Grounded) (ran : Ran) : Type 0 where
  pub done : IsRunOfPlan grounded.checked.now.task (begun grounded.ground_task.now grounded.weights.now) ran
  pub few : length ran.plan ≤ most_steps
  pub small : All (λ weight. weight < 2 ^ 64) ran.weights.by_name

-- ---- by numbers

-- the weight of the name of that number, and how often it is violated
pub record IsShareAt (ran : Ran) (number : ℕ) (share : NameShare) : Type 0 where
  pub name : share.name ≡ number
  pub added : share.weight ≡ slice_index_or ran.weights.by_name number 0
  pub count : share.count ≡ ground_violated ran.task ran.plan number

pub record IsCostShare (ran : Ran) (share : CostShare) : Type 0 where
  pub added : share.weight ≡ ran.weights.total_cost
  pub grown : share.growth ≡ ground_cost ran.task ran.plan

-- the loss is that at the start, with what the steps add
abbrev pub loss_by : Ran → ℤ
loss_by ran = ran.weights.base +ℤ pos (ground_loss ran.task ran.weights ran.plan)

-- each part is that of the run
pub record AreFound (T : Task) (ran : Ran) (shares : Shares) : Type 0 where
  pub places : shares.places ≡ metric_places T
  pub places_of_costs : shares.cost_places ≡ cost_places T
  pub its_base : IsQuantity shares.base (metric_places T) ran.weights.base
  pub names : AllZip (IsShareAt ran) (range_with_len 0 (length ran.weights.by_name)) shares.names
  pub its_cost : IsCostShare ran shares.cost
  pub its_loss : IsQuantity shares.loss (metric_places T) (loss_by ran)
  pub its_value : IsQuantity shares.metric (metric_places T) (ground_metric ran.task ran.weights ran.plan)
