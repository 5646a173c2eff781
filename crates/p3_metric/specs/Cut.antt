-- The decimal places of expressions, cut at the greatest number of 32 bits.
use Rattle.std.specs.Prelude.{ℕ, min, List, map}
use Rattle.p3_task.specs.Metrics.{no_counts, quantity, product_of, sum_of}
use Rattle.p3_task.specs.declared.metric.Num.{Num}
use Rattle.p3_task.specs.declared.task.Task.{Task}

abbrev pub cut : ℕ → ℕ
cut places = min places 4294967295

unfoldable pub cut_places : Task → Num → ℕ
cut_places T tree = cut (quantity T no_counts 0 tree).places

-- of a sum of the parts, and of a product of them
unfoldable pub cut_most : Task → List Num → ℕ
cut_most T parts = cut (sum_of (map (quantity T no_counts 0) parts)).places

unfoldable pub cut_total : Task → List Num → ℕ
cut_total T parts = cut (product_of (map (quantity T no_counts 0) parts)).places
