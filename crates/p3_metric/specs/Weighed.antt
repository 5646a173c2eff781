-- What it is that numbers are the weights of a task's metric.
use Rattle.std.specs.Prelude.{◌≡◌, ℕ, ◌+◌, ◌*◌, pos, ◌+ℤ◌, List, [], length, slice_index_or, slice_get, sum_by, Some}
use Rattle.std.specs.List.{range_with_len}
use Rattle.p3_formula.specs.declared.target.Weights.{Weights}
pub use Rattle.p3_limits.specs.Weights.{HasWeightsOf, HasWeights}
use Rattle.p3_task.specs.Names.{Name}
use Rattle.p3_task.specs.Costs.{initial_cost}
use Rattle.p3_task.specs.Metrics.{direction, loss_at, base_loss}
use Rattle.p3_task.specs.PreferenceNames.{ordered_names}
use Rattle.p3_task.specs.Refusals.Metric.{nonlinear}
use Rattle.p3_task.specs.declared.metric.Metric.{Metric}
use Rattle.p3_task.specs.declared.task.Task.{Task}

-- the counts of the names, each times its weight
abbrev pub weighed : List ℕ → List Name → (Name → ℕ) → ℕ
weighed by_name names counts = sum_by (λ place. slice_index_or by_name place 0 * counts (slice_index_or names place [])) (range_with_len 0 (length by_name))

-- for all counts, and a total cost that has grown by so many units, the loss is the base with both times their weights
abbrev pub IsWeighedLoss : Task → Weights → (Name → ℕ) → ℕ → Type 0
IsWeighedLoss T w counts more = loss_at T counts (initial_cost T + more) ≡ base_loss T +ℤ pos (w.total_cost * more + weighed w.by_name (ordered_names T) counts)

pub record IsWeights (T : Task) (w : Weights) : Type 0 where
  -- one for each preference name
  pub count : length w.by_name ≡ length (ordered_names T)
  pub linear : (counts : Name → ℕ) (more : ℕ) → IsWeighedLoss T w counts more
  pub base : w.base ≡ base_loss T
  pub direction : w.direction ≡ direction T

-- no product of two quantities stands in the metric
abbrev pub IsLinearMetric : Task → Type 0
IsLinearMetric T = (metric : Metric) → T.problem.metric ≡ Some metric → nonlinear metric.body ≡ []

-- the loss reads no counts but those of the preference names
abbrev pub CountsNames : Task → Type 0
CountsNames T = (first second : Name → ℕ) (cost : ℕ) → ((place : ℕ) (name : Name) → slice_get (ordered_names T) place ≡ Some name → first name ≡ second name) → loss_at T first cost ≡ loss_at T second cost
