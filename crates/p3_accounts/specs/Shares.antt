-- What a metric is made of: the loss of no violation, what each preference name and the cost add to it, and what that comes to.
use Rattle.std.specs.Prelude.{◌≡◌, ℕ, ◌-◌, ◌*◌, pos, ◌*ℤ◌, List, ◌++◌, codes, flat_map}
use Rattle.std.specs.Fmt.{decimal}
use Rattle.std.specs.List.{AllZip}
use Rattle.p3_numbers.specs.Slots.{name_at}
use Rattle.p3_numbers.specs.declared.numbers.Numbers.{Numbers}
use Rattle.p3_task.specs.Costs.{cost_places, initial_cost}
use Rattle.p3_task.specs.Metrics.{base_loss, cost, cost_weight, loss, metric_places, violated, weight}
use Rattle.p3_task.specs.Names.{Name}
use Rattle.p3_task.specs.Plans.{Plan}
use Rattle.p3_task.specs.PreferenceNames.{ordered_names}
use Rattle.p3_task.specs.declared.task.Task.{Task}
use Rattle.p3_tree.specs.Reports.Lines.{entry, line}
use Rattle.p3_tree.specs.Reports.Plans.{metric_line}
use Rattle.p3_tree.specs.Reports.Quantities.{shown_quantity}
use Rattle.p3_reports.specs.Contents.{IsMetric, IsQuantity}
use Rattle.p3_reports.specs.Parts.{quantity_text}
use Rattle.p3_reports.specs.declared.quantity.Quantity.{Quantity}
use Rattle.p3_accounts.specs.declared.share.CostShare.{CostShare}
use Rattle.p3_accounts.specs.declared.share.NameShare.{NameShare}
use Rattle.p3_accounts.specs.declared.share.Shares.{Shares}

-- a weight, how often or how much it counts, and their product
abbrev pub share_line : List ℕ → List ℕ → List ℕ → List ℕ → List ℕ
share_line name weight count product = line (name ++ codes ": " ++ weight ++ codes " * " ++ count ++ codes " = " ++ product)

-- ---- of a plan

-- the growth of the total cost, in units of the costs
abbrev pub growth : Task → Plan → ℕ
growth T plan = cost T plan - initial_cost T

-- a weight that adds units of the metric for each count
abbrev pub name_line : Task → Plan → Name → List ℕ
name_line T plan name =
    share_line name (shown_quantity (metric_places T) (weight T name)) (decimal (violated T plan name))
    (shown_quantity (metric_places T) (weight T name *ℤ pos (violated T plan name)))

-- a weight that adds units of the metric for each unit of the costs: as many places as the metric has more than the costs
abbrev pub cost_line : Task → Plan → List ℕ
cost_line T plan =
    share_line (codes "cost") (shown_quantity (metric_places T - cost_places T) (cost_weight T)) (shown_quantity (cost_places T) (pos (growth T plan)))
    (shown_quantity (metric_places T) (cost_weight T *ℤ pos (growth T plan)))

abbrev pub metric_lines : Task → Plan → List ℕ
metric_lines T plan =
    entry (codes "base") (shown_quantity (metric_places T) (base_loss T)) ++ flat_map (name_line T plan) (ordered_names T)
    ++ cost_line T plan ++ (entry (codes "loss") (shown_quantity (metric_places T) (loss T plan)) ++ metric_line T plan)

-- ---- by what is found

abbrev pub name_share_line : Numbers → ℕ → NameShare → List ℕ
name_share_line N places share =
    share_line (name_at N.preferences share.name) (shown_quantity places (pos share.weight)) (decimal share.count) (shown_quantity places (pos (share.weight * share.count)))

abbrev pub cost_share_line : ℕ → ℕ → CostShare → List ℕ
cost_share_line places cost_places share =
    share_line (codes "cost") (shown_quantity (places - cost_places) (pos share.weight)) (shown_quantity cost_places (pos share.growth))
    (shown_quantity places (pos (share.weight * share.growth)))

abbrev pub quantity_line : List ℕ → Quantity → List ℕ
quantity_line word quantity = entry word (quantity_text quantity)

abbrev pub name_shares_text : Numbers → ℕ → List NameShare → List ℕ
name_shares_text N places shares = flat_map (name_share_line N places) shares

-- what they come to
abbrev pub ends_text : Shares → List ℕ
ends_text shares = quantity_line (codes "loss") shares.loss ++ quantity_line (codes "metric") shares.metric

abbrev pub shares_text : Numbers → Shares → List ℕ
shares_text N shares =
    quantity_line (codes "base") shares.base ++ name_shares_text N shares.places shares.names
    ++ cost_share_line shares.places shares.cost_places shares.cost ++ ends_text shares

-- ---- that they are those of a plan

pub record IsNameShare (N : Numbers) (T : Task) (plan : Plan) (word : Name) (share : NameShare) : Type 0 where
  pub name : name_at N.preferences share.name ≡ word
  pub added : pos share.weight ≡ weight T word
  pub count : share.count ≡ violated T plan word

pub record AreShares (N : Numbers) (T : Task) (plan : Plan) (shares : Shares) : Type 0 where
  pub places : shares.places ≡ metric_places T
  pub places_of_costs : shares.cost_places ≡ cost_places T
  pub its_base : IsQuantity shares.base (metric_places T) (base_loss T)
  pub names : AllZip (IsNameShare N T plan) (ordered_names T) shares.names
  pub added : pos shares.cost.weight ≡ cost_weight T
  pub grown : shares.cost.growth ≡ growth T plan
  pub its_loss : IsQuantity shares.loss (metric_places T) (loss T plan)
  pub its_value : IsMetric T plan shares.metric

-- then they are printed as what the metric of the plan is made of
abbrev pub SharesAreOfPlans : Type 0
SharesAreOfPlans = (N : Numbers) (T : Task) (plan : Plan) (shares : Shares) → AreShares N T plan shares → shares_text N shares ≡ metric_lines T plan
