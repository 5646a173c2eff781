-- Worked cases on numbers with a point: in costs, in the metric, and as words.
use Rattle.std.specs.Prelude.{◌≡◌, [], ◌∷◌, pos, negsuc, codes, Option, Some, None, option_and_then}
use Prim.Native.String.{String}
use Rattle.p3_base.specs.declared.refusal.Direction.TheVariants.{Minimize}
use Rattle.p3_task.specs.Costs.{cost_places}
use Rattle.p3_task.specs.Validity.{first_fault}
use Rattle.p3_task.specs.Metrics.{cost, metric_places, scale, value, base_loss, weight, cost_weight}
use Rattle.p3_task.specs.Limits.{cost_bound, constant, coefficient, cost_coefficient}
use Rattle.p3_task.specs.Expressions.{expression_of_text}
use Rattle.p3_task.specs.Grammar.Words.{numeral_place}
use Rattle.p3_task.specs.Worked.Build.{decimal_numeral, metric, count, weighted_by}
use Rattle.p3_task.specs.Worked.FirstExample.{read_by}
use Rattle.p3_task.specs.Worked.Trucks.{trucks_domain, trucks_problem_by, drive, delivery}
use Rattle.p3_task.specs.declared.effect.Numeral.{Numeral}
use Rattle.p3_task.specs.declared.metric.Num.{Num}
use Rattle.p3_task.specs.declared.metric.Num.TheVariants as num
use Rattle.p3_task.specs.declared.task.Task.{Task}

-- (= (road-length a b) 4.25)
unfoldable pub long_trucks : Task
long_trucks = record { domain = trucks_domain; problem = trucks_problem_by (decimal_numeral 425 2) }

-- (:metric minimize (* 0.5 (is-violated g)))
unfoldable pub weighted_by_half : Task
weighted_by_half = read_by (decimal_numeral 5 1)

-- (* 0.0005 0.0005 (is-violated g))
abbrev pub small_product : Num
small_product = num.Product 0 (num.Number (decimal_numeral 5 4) ∷ num.Number (decimal_numeral 5 4) ∷ count "g" ∷ [])

unfoldable pub weighted_by_product : Task
weighted_by_product = record weighted_by_half { problem = record weighted_by_half.problem { metric = metric Minimize small_product } }

-- (- (* 1.5 (total-cost)) (* 0.25 (is-violated late))), of the task where costs have two places
abbrev pub difference : Num
difference = num.Sub 0 (num.Product 0 (num.Number (decimal_numeral 15 1) ∷ num.TotalCost 0 ∷ [])) (weighted_by (decimal_numeral 25 2) "late")

-- the number that the text is
unfoldable pub number_of : String → Option Numeral
number_of text = option_and_then numeral_place (expression_of_text 1 (codes text))

pub record NumbersWithAPoint : Type 0 where
  pub long_valid : first_fault long_trucks delivery ≡ None
  pub long_cost_places : cost_places long_trucks ≡ 2
  pub long_cost : cost long_trucks delivery ≡ 1125
  pub long_metric_places : metric_places long_trucks ≡ 2
  pub long_scale : scale long_trucks ≡ 100
  pub long_value : value long_trucks delivery ≡ pos 3725
  pub long_base : base_loss long_trucks ≡ pos 0
  pub long_weight : weight long_trucks (codes "back") ≡ pos 2000
  pub long_cost_weight : cost_weight long_trucks ≡ pos 1
  pub long_bound : cost_bound long_trucks drive ≡ pos 700
  pub half_places : metric_places weighted_by_half ≡ 1
  pub half_scale : scale weighted_by_half ≡ 10
  pub half_base : base_loss weighted_by_half ≡ pos 0
  pub half_weight : weight weighted_by_half (codes "g") ≡ pos 5
  pub small_places : metric_places weighted_by_product ≡ 8
  pub difference_constant : constant long_trucks difference ≡ pos 0
  pub difference_cost : cost_coefficient long_trucks difference ≡ pos 15
  pub difference_late : coefficient long_trucks difference (codes "late") ≡ negsuc 249
  pub one_half : number_of "01.50" ≡ Some (record { at = 0; len = 5; digits = 150; places = 2 })
  pub no_point : number_of "007" ≡ Some (record { at = 0; len = 3; digits = 7; places = 0 })
  pub first_point : number_of ".5" ≡ None
  pub last_point : number_of "5." ≡ None
  pub two_points : number_of "1.2.3" ≡ None
