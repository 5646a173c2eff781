-- How often the preferences of the names of a task are violated, as lines say it.
use Rattle.std.specs.Prelude.{ℕ, List, ◌++◌, codes, flat_map}
use Rattle.std.specs.Fmt.{decimal}
use Rattle.p3_task.specs.Metrics.{violated}
use Rattle.p3_task.specs.Names.{Name}
use Rattle.p3_task.specs.Plans.{Plan}
use Rattle.p3_task.specs.PreferenceNames.{ordered_names}
use Rattle.p3_tree.specs.Reports.Lines.{entry}
use Rattle.p3_task.specs.declared.task.Task.{Task}

abbrev pub violated_entry : Task → Plan → Name → List ℕ
violated_entry T plan name = entry (codes "violated " ++ name) (decimal (violated T plan name))

abbrev pub violated_lines : Task → Plan → List ℕ
violated_lines T plan = flat_map (violated_entry T plan) (ordered_names T)
