-- The condition on texts: what a task is read from, and that its numbers are short.
use Rattle.std.specs.Prelude.{ℕ, ◌≤◌, ◌^◌, nat_lt, nat_le, Bool, ◌&&◌, List, [], ◌∷◌, ◌++◌, flat_map, length, Option, Some, None, unwrap_or}
use Rattle.std.specs.List.{list_all}
use Rattle.p3_base.specs.declared.refusal.Side.{Side}
use Rattle.p3_task.specs.Costs.{amount_numerals, value_numerals}
use Rattle.p3_task.specs.Folds.{fold_num}
use Rattle.p3_task.specs.Grammar.Texts.{Reads}
use Rattle.p3_task.specs.Refusals.First.{halves, AreReadable}
use Rattle.p3_task.specs.Sides.{byte_limit, digit_limit, place_limit}
use Rattle.p3_task.specs.declared.effect.Numeral.{Numeral}
use Rattle.p3_task.specs.declared.metric.Metric.{Metric}
use Rattle.p3_task.specs.declared.metric.Num.{Num}
use Rattle.p3_task.specs.declared.metric.Num.TheOpen as num
use Rattle.p3_task.specs.declared.task.Task.{Task}

-- texts within the side's limits that show no refusal by themselves, and whose task this is
pub record HasTexts (side : Side) (T : Task) : Type 0 where
  pub domain : List ℕ
  pub problem : List ℕ
  pub short_domain : length domain ≤ byte_limit side
  pub short_problem : length problem ≤ byte_limit side
  pub readable : AreReadable (halves (record { side = side; domain = domain; problem = problem }))
  pub reads : Reads domain problem T

-- ---- short numbers

abbrev pub num_numerals_layer : num.Num-F (List Numeral) → List Numeral
num_numerals_layer (num.Number numeral) = numeral ∷ []
num_numerals_layer (num.TotalCost at) = []
num_numerals_layer (num.Violated name) = []
num_numerals_layer (num.Neg at part) = part
num_numerals_layer (num.Sub at first second) = first ++ second
num_numerals_layer (num.Sum at parts) = flat_map (λ part. part) parts
num_numerals_layer (num.Product at parts) = flat_map (λ part. part) parts

unfoldable pub num_numerals : Num → List Numeral
num_numerals tree = fold_num num_numerals_layer tree

abbrev pub metric_numerals : Option Metric → List Numeral
metric_numerals None = []
metric_numerals (Some metric) = num_numerals metric.body

-- the numbers of a task: amounts, values of the initial state, and those of the metric
abbrev pub numerals : Task → List Numeral
numerals T = amount_numerals T ++ value_numerals T ++ metric_numerals T.problem.metric

-- it has no more digits, and no more places, than the side's numbers may have
abbrev pub is_short : Side → Numeral → Bool
is_short side numeral = nat_lt numeral.digits (10 ^ digit_limit side) && nat_le numeral.places (unwrap_or (place_limit side) 0)

unfoldable pub has_short_numbers : Side → Task → Bool
has_short_numbers side T = list_all (is_short side) (numerals T)
