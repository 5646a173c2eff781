-- Which expressions mention a count or the total cost, and where products of two of them stand.
use Rattle.std.specs.Prelude.{ℕ, nat_lt, Bool, List, count_by, flat_map, slice_get, Option}
use Rattle.p3_task.specs.Folds.{fold_num}
use Rattle.p3_task.specs.Refusals.Metric.{factors_layer, nonlinear}
use Rattle.p3_task.specs.declared.metric.Num.{Num}

-- whether a count or the total cost stands in the expression
unfoldable pub has_mention : Num → Bool
has_mention tree = (fold_num factors_layer tree).mention

-- whether that is so of two of the factors
abbrev pub have_two_mentions : List Num → Bool
have_two_mentions factors = nat_lt 1 (count_by has_mention factors)

abbrev pub first_product : Num → Option ℕ
first_product tree = slice_get (nonlinear tree) 0

abbrev pub first_product_in : List Num → Option ℕ
first_product_in parts = slice_get (flat_map nonlinear parts) 0
