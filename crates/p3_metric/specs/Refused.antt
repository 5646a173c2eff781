-- What a metric is refused for, case by case.
use Rattle.std.specs.Prelude.{◌≡◌, ◌<◌, ◌^◌, List, [], ◌∷◌, Option, Some}
use Rattle.std.specs.Option.{option_and_then}
use Rattle.p3_base.specs.declared.refusal.Refusal.{Refusal}
use Rattle.p3_base.specs.declared.refusal.Side.{Side}
use Rattle.p3_base.specs.declared.refusal.Side.TheVariants.{Written}
use Rattle.p3_task.specs.Costs.{amount_numerals, initial_cost, value_numerals}
use Rattle.p3_task.specs.Sides.{InDomain, InProblem}
use Rattle.p3_task.specs.Refusals.Metric.{dear_at, large_at, metric_body, negative_at, nonlinear_at, too_many_places_at}
use Rattle.p3_task.specs.declared.task.Task.{Task}
use Rattle.p3_metric.specs.declared.error.MetricFail.{MetricFail}
use Rattle.p3_metric.specs.declared.error.MetricFail.TheVariants.{Refused, NoMemory}

abbrev pub nonlinear_of : Side → Task → Option Refusal
nonlinear_of side T = option_and_then (nonlinear_at side) (metric_body T)

abbrev pub too_many_places_of : Side → Task → Option Refusal
too_many_places_of side T = option_and_then (too_many_places_at side T) (metric_body T)

abbrev pub dear_amount_of : Side → Task → Option Refusal
dear_amount_of side T = dear_at side T InDomain (amount_numerals T)

abbrev pub dear_value_of : Side → Task → Option Refusal
dear_value_of side T = dear_at side T InProblem (value_numerals T)

abbrev pub large_of : Side → Task → Option Refusal
large_of side T = option_and_then (large_at side T) (metric_body T)

abbrev pub negative_of : Side → Task → Option Refusal
negative_of side T = option_and_then (negative_at side T) (metric_body T)

-- what is looked for before the metric is evaluated
abbrev pub early_refusals : Side → Task → List (Option Refusal)
early_refusals side T = nonlinear_of side T ∷ too_many_places_of side T ∷ dear_amount_of side T ∷ dear_value_of side T ∷ []

-- the failure is this refusal, or want of memory
abbrev pub IsRefusal : Option Refusal → MetricFail → Type 0
IsRefusal found (Refused refusal) = found ≡ Some refusal
IsRefusal found NoMemory = Unit {0}

-- in a written task, whose costs have no bound, the total cost starts below 2 ^ 64 units
abbrev pub HasShortStart : Side → Task → Type 0
HasShortStart side T = side ≡ Written → initial_cost T < 2 ^ 64
