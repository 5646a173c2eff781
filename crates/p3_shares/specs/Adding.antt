-- That what a metric is made of adds up to its value.
use Rattle.std.specs.Prelude.{◌≡◌, ℕ, ◌+◌, ◌*◌, pos, ◌+ℤ◌, List, sum_by}
use Rattle.p3_task.specs.Metrics.{direction, signed}
use Rattle.p3_task.specs.declared.task.Task.{Task}
use Rattle.p3_accounts.specs.declared.share.NameShare.{NameShare}
use Rattle.p3_accounts.specs.declared.share.Shares.{Shares}

-- each weight as often as it counts
abbrev pub names_add : List NameShare → ℕ
names_add shares = sum_by (λ (share : NameShare). share.weight * share.count) shares

abbrev pub cost_adds : Shares → ℕ
cost_adds shares = shares.cost.weight * shares.cost.growth

-- the loss is what it was at the start, with what the cost and the names add; and it is the value, or that with its sign turned
pub record AddsUp (T : Task) (shares : Shares) : Type 0 where
  pub sum : shares.loss.units ≡ shares.base.units +ℤ pos (cost_adds shares + names_add shares.names)
  pub value : shares.loss.units ≡ signed (direction T) shares.metric.units
