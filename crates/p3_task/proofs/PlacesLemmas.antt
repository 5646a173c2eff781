-- The decimal places of an expression are the same at all counts and costs.
use Rattle.std.proofs.Common.{◌≡◌, ℕ, refl, [], ◌∷◌, map, sum, Option, None, Some}
use mathlib.Core.Former.{Count, one_more}
use Rattle.p3_task.specs.Folds.{fold_num, fold_nums, fold_one_num}
use Rattle.p3_task.specs.Names.{Name}
use Rattle.p3_task.specs.Costs.{most_places}
use Rattle.p3_task.specs.Metrics.{Quantity, quantity_layer, quantity, quantity_by, metric_quantity, metric_places, no_counts}
use Rattle.p3_task.specs.declared.metric.Metric.{Metric}
use Rattle.p3_task.specs.declared.metric.Num.{Num, Row_of-Num, end_of-Num, more_of-Num}
use Rattle.p3_task.specs.declared.metric.Num.TheVariants as num
use Rattle.p3_task.specs.declared.task.Task.{Task}

abbrev places_of : Quantity → ℕ
places_of quantity = quantity.places

module _ (counts others : Name → ℕ) (cost total : Quantity) (alike : cost.places ≡ total.places) where
  mutual
    same_places : (tree : Num) → (fold_num (quantity_layer counts cost) tree).places ≡ (fold_num (quantity_layer others total) tree).places
    same_places (num.Number numeral) = refl
    same_places (num.TotalCost at) = alike
    same_places (num.Violated name) = refl
    same_places (num.Neg' at _ part) = one_place part
    same_places (num.Sub' at _ first _ second) = λ i. most_places (one_place first i ∷ one_place second i ∷ [])
    same_places (num.Sum' at _ parts) = λ i. most_places (all_places parts i)
    same_places (num.Product' at _ parts) = λ i. sum (all_places parts i)

    all_places : {n : Count} (row : Row_of-Num n) → map places_of (fold_nums (quantity_layer counts cost) row) ≡ map places_of (fold_nums (quantity_layer others total) row)
    all_places end_of-Num = refl
    all_places (more_of-Num part rest) = λ i. same_places part i ∷ all_places rest i

    one_place : {n : Count} (row : Row_of-Num (one_more n)) → (fold_one_num (quantity_layer counts cost) row).places ≡ (fold_one_num (quantity_layer others total) row).places
    one_place (more_of-Num part rest) = same_places part

by_metric : (T : Task) (counts : Name → ℕ) (total : ℕ) (metric : Option Metric) → (quantity_by T counts total metric).places ≡ (quantity_by T no_counts 0 metric).places
unfolding quantity
by_metric T counts total None = refl
by_metric T counts total (Some metric) = same_places counts no_counts _ _ refl metric.body

pub metric_places-fixed : (T : Task) (counts : Name → ℕ) (total : ℕ) → (metric_quantity T counts total).places ≡ metric_places T
unfolding metric_places
metric_places-fixed T counts total = by_metric T counts total T.problem.metric
