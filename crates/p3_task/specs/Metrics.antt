-- Counts of violated preferences, the total cost, and the metric (the PDDL3 report). A quantity with decimal places is a number of units, each of them 1 divided by 10 to the power of its places.
use Rattle.std.specs.Prelude.{ℕ, ◌+◌, ◌-◌, ◌^◌, Bool, false, not, ◌&&◌, ℤ, pos, ◌+ℤ◌, ◌-ℤ◌, ◌*ℤ◌, neg_ℤ, List, [], ◌∷◌, map, fold, sum, sum_by, count_by, if◌then◌else◌, Option, Some, None, unwrap_or}
use Rattle.p3_base.specs.declared.refusal.Direction.{Direction}
use Rattle.p3_base.specs.declared.refusal.Direction.TheVariants.{Minimize, Maximize}
use Rattle.p3_task.specs.Folds.{fold_num}
use Rattle.p3_task.specs.Names.{Name, same_name}
use Rattle.p3_task.specs.States.{State}
use Rattle.p3_task.specs.Formulas.{holds}
use Rattle.p3_task.specs.Goals.{StatePref, prefs}
use Rattle.p3_task.specs.Costs.{initial_cost, cost_places, most_places}
use Rattle.p3_task.specs.Plans.{Plan, action_named, arguments, step_cost, visited, Move, moves}
use Rattle.p3_task.specs.Constraints.{Instance, instances, sat}
use Rattle.p3_task.specs.declared.task.Action.{Action}
use Rattle.p3_task.specs.declared.task.Step.{Step}
use Rattle.p3_task.specs.declared.task.Task.{Task}
use Rattle.p3_task.specs.declared.metric.Metric.{Metric}
use Rattle.p3_task.specs.declared.metric.Num.{Num}
use Rattle.p3_task.specs.declared.metric.Num.TheOpen.{Num-F, Number, TotalCost, Violated, Neg, Sub, Sum, Product}

-- ---- counts

-- an unnamed preference enters no count
abbrev pub is_called : Name → Option Name → Bool
is_called name None = false
is_called name (Some other) = same_name other name

-- how many of the instances have the name and are not satisfied over the visited states
abbrev pub unsatisfied : Task → List State → Name → List Instance → ℕ
unsatisfied T W name list = count_by (λ (instance : Instance). is_called name instance.name && not (sat T W instance.env instance.body)) list

-- how many of the preferences have the name and are false in the state
abbrev pub false_in : Task → State → Name → List StatePref → ℕ
false_in T s name list = count_by (λ (pref : StatePref). is_called name pref.name && not (holds T s pref.env pref.body)) list

-- the precondition preferences of a step
abbrev pub prefs_by : Task → Step → Option Action → List StatePref
prefs_by T step None = []
prefs_by T step (Some action) = prefs T (arguments action step) action.pre.body

unfoldable pub step_prefs : Task → Step → List StatePref
step_prefs T step = prefs_by T step (action_named T step.action)

-- the unsatisfied instances of the name, and for each step its preferences of the name that are false in the state before it
unfoldable pub violated : Task → Plan → Name → ℕ
violated T plan name = unsatisfied T (visited T plan) name (instances T) + sum_by (λ (move : Move). false_in T move.state name (step_prefs T move.step)) (moves T plan)

-- ---- costs

-- the total cost after the last step, in units of the costs
unfoldable pub cost : Task → Plan → ℕ
cost T plan = initial_cost T + sum_by (λ step. unwrap_or (step_cost T step) 0) plan

-- ---- the metric

pub record Quantity : Type 0 where
  pub places : ℕ
  pub units : ℤ

-- how many units of so many places the quantity has
abbrev pub in_units : ℕ → Quantity → ℤ
in_units places quantity = quantity.units *ℤ pos (10 ^ (places - quantity.places))

abbrev pub places_of_sum : List Quantity → ℕ
places_of_sum parts = most_places (map (λ (part : Quantity). part.places) parts)

-- a sum has the most places of its parts
abbrev pub sum_of : List Quantity → Quantity
sum_of parts = record { places = places_of_sum parts; units = fold (λ total part. total +ℤ in_units (places_of_sum parts) part) (pos 0) parts }

-- a product has the places of all its parts
abbrev pub product_of : List Quantity → Quantity
product_of parts = record { places = sum (map (λ (part : Quantity). part.places) parts); units = fold (λ product part. product *ℤ part.units) (pos 1) parts }

abbrev pub negated : Quantity → Quantity
negated part = record { places = part.places; units = neg_ℤ part.units }

abbrev pub quantity_layer : (Name → ℕ) → Quantity → Num-F Quantity → Quantity
quantity_layer counts cost (Number numeral) = record { places = numeral.places; units = pos numeral.digits }
quantity_layer counts cost (TotalCost at) = cost
quantity_layer counts cost (Violated name) = record { places = 0; units = pos (counts name.name) }
quantity_layer counts cost (Neg at part) = negated part
quantity_layer counts cost (Sub at first second) = sum_of (first ∷ negated second ∷ [])
quantity_layer counts cost (Sum at parts) = sum_of parts
quantity_layer counts cost (Product at parts) = product_of parts

-- an expression at counts, and at a total cost of so many units
unfoldable pub quantity : Task → (Name → ℕ) → ℕ → Num → Quantity
quantity T counts total num = fold_num (quantity_layer counts (record { places = cost_places T; units = pos total })) num

-- without a metric every plan has the value 0
abbrev pub quantity_by : Task → (Name → ℕ) → ℕ → Option Metric → Quantity
quantity_by T counts total None = record { places = 0; units = pos 0 }
quantity_by T counts total (Some metric) = quantity T counts total metric.body

abbrev pub metric_quantity : Task → (Name → ℕ) → ℕ → Quantity
metric_quantity T counts total = quantity_by T counts total T.problem.metric

abbrev pub no_counts : Name → ℕ
no_counts name = 0

-- the decimal places of the metric, which are the same at all counts and costs
unfoldable pub metric_places : Task → ℕ
metric_places T = (metric_quantity T no_counts 0).places

-- value and loss are counted in units of 1 divided by the scale
abbrev pub scale : Task → ℕ
scale T = 10 ^ metric_places T

abbrev pub direction_by : Option Metric → Direction
direction_by None = Minimize
direction_by (Some metric) = metric.direction

abbrev pub direction : Task → Direction
direction T = direction_by T.problem.metric

-- what is to be small
abbrev pub signed : Direction → ℤ → ℤ
signed Minimize value = value
signed Maximize value = neg_ℤ value

abbrev pub loss_at : Task → (Name → ℕ) → ℕ → ℤ
loss_at T counts total = signed (direction T) (metric_quantity T counts total).units

unfoldable pub value : Task → Plan → ℤ
value T plan = (metric_quantity T (violated T plan) (cost T plan)).units

unfoldable pub loss : Task → Plan → ℤ
loss T plan = loss_at T (violated T plan) (cost T plan)

-- the loss where no preference is violated and no step is done
unfoldable pub base_loss : Task → ℤ
base_loss T = loss_at T no_counts (initial_cost T)

abbrev pub one_count : Name → Name → ℕ
one_count name other = if same_name other name then 1 else 0

-- what one violation of a name adds to the loss
unfoldable pub weight : Task → Name → ℤ
weight T name = loss_at T (one_count name) (initial_cost T) -ℤ base_loss T

-- what one unit more of the total cost adds to the loss
unfoldable pub cost_weight : Task → ℤ
cost_weight T = loss_at T no_counts (initial_cost T + 1) -ℤ base_loss T
