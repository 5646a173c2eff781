-- What is printed of the task read, with status 0.
use Rattle.std.specs.Prelude.{ℕ, ◌==◌, List, [], ◌++◌, codes, if◌then◌else◌}
use Rattle.std.specs.Fmt.{decimal}
use Rattle.p3_base.specs.declared.refusal.Direction.{Direction}
use Rattle.p3_base.specs.declared.refusal.Direction.TheVariants.{Minimize, Maximize}
use Rattle.p3_task.specs.Limits.{step_count, instance_count}
use Rattle.p3_task.specs.Metrics.{metric_places, scale, base_loss, direction}
use Rattle.p3_tree.specs.Reports.Lines.{entry}
use Rattle.p3_tree.specs.Reports.Quantities.{shown_quantity}
use Rattle.p3_task.specs.declared.task.Task.{Task}

abbrev pub direction_name : Direction → List ℕ
direction_name Minimize = codes "minimize"
direction_name Maximize = codes "maximize"

abbrev pub scale_line : ℕ → List ℕ
scale_line scale = if scale == 1 then [] else entry (codes "scale") (decimal scale)

-- the number of steps, that of preference instances, the loss of no violation, the direction, and the scale where it is not 1
abbrev pub compiled_lines : Task → List ℕ
compiled_lines T =
    entry (codes "steps") (decimal (step_count T))
    ++ entry (codes "preferences") (decimal (instance_count T))
    ++ entry (codes "base") (shown_quantity (metric_places T) (base_loss T))
    ++ entry (codes "direction") (direction_name (direction T))
    ++ scale_line (scale T)
