-- What it is that numbers are the weights of a task's metric.
use Rattle.std.specs.Prelude.{◌≡◌, ℕ, pos, List, length, slice_index_or, slice_get, Some}
use Rattle.p3_formula.specs.declared.target.Weights.{Weights}
use Rattle.p3_task.specs.Names.{Name}
use Rattle.p3_task.specs.Metrics.{direction, base_loss, weight, cost_weight}
use Rattle.p3_task.specs.PreferenceNames.{ordered_names}
use Rattle.p3_task.specs.declared.task.Task.{Task}

-- the weights by their definitions: what one count of each of the names, or one unit of the total cost, adds to the loss
pub record HasWeightsOf (names : List Name) (T : Task) (w : Weights) : Type 0 where
  -- one for each of them, in their order
  pub count : length w.by_name ≡ length names
  pub by_name : (place : ℕ) (name : Name) → slice_get names place ≡ Some name → pos (slice_index_or w.by_name place 0) ≡ weight T name
  pub total_cost : pos w.total_cost ≡ cost_weight T
  pub base : w.base ≡ base_loss T
  pub direction : w.direction ≡ direction T

-- one for each preference name, in the order of their numbers
abbrev pub HasWeights : Task → Weights → Type 0
HasWeights T = HasWeightsOf (ordered_names T) T
