-- What is printed of a plan: its value, with status 0, or why it is not valid, with status 1.
use Rattle.std.specs.Prelude.{ℕ, pos, List, ◌++◌, flat_map, length, codes}
use Rattle.std.specs.Fmt.{decimal, signed_decimal}
use Rattle.std.specs.Prelude.{ℤ}
use Rattle.p3_task.specs.PreferenceNames.{ordered_names}
use Rattle.p3_task.specs.Costs.{cost_places}
use Rattle.p3_task.specs.Plans.{Plan}
use Rattle.p3_task.specs.Validity.{Misfit, UnknownAction, Arguments, Precondition, NoCost, Fault, AtStep, AtGoal, AtConstraint}
use Rattle.p3_task.specs.Metrics.{violated, cost, metric_places, value}
use Rattle.p3_task.specs.Limits.{step_count, instance_count}
use Rattle.p3_tree.specs.Reports.Lines.{line, entry}
use Rattle.p3_tree.specs.Reports.Quantities.{shown_quantity}
use Rattle.p3_tree.specs.Reports.Tasks.{compiled_lines}
use Rattle.p3_task.specs.declared.task.Task.{Task}

abbrev pub steps_line : ℕ → List ℕ
steps_line count = entry (codes "steps") (decimal count)

abbrev pub metric_line : Task → Plan → List ℕ
metric_line T plan = entry (codes "metric") (shown_quantity (metric_places T) (value T plan))

-- ---- status 0

-- `evaluate`: the plan's length, its cost, the count of each preference name, and the metric
abbrev pub evaluated_lines : Task → Plan → List ℕ
evaluated_lines T plan =
    line (codes "valid") ++ steps_line (length plan)
    ++ entry (codes "cost") (shown_quantity (cost_places T) (pos (cost T plan)))
    ++ flat_map (λ name. entry (codes "violated " ++ name) (decimal (violated T plan name))) (ordered_names T)
    ++ metric_line T plan

-- `embed`: what `compile` prints, and of the plan written its length and its cost in the task written
abbrev pub embedded_lines : Task → ℕ → ℤ → List ℕ
embedded_lines T len cost = compiled_lines T ++ entry (codes "embedded") (decimal len) ++ entry (codes "cost") (signed_decimal cost)

-- `lift`: the length of the lifted plan, the cost of the plan in the task written, and the metric of the lifted plan
abbrev pub lifted_lines : Task → Plan → ℤ → List ℕ
lifted_lines T plan cost = steps_line (length plan) ++ entry (codes "cost") (signed_decimal cost) ++ metric_line T plan

-- `generate`: of the sample its steps and instances, the length of its plan, and that plan embedded and evaluated
abbrev pub generated_lines : Task → Plan → ℕ → ℤ → List ℕ
generated_lines T plan len cost =
    steps_line (step_count T) ++ entry (codes "preferences") (decimal (instance_count T)) ++ entry (codes "plan") (decimal (length plan))
    ++ entry (codes "embedded") (decimal len) ++ entry (codes "cost") (signed_decimal cost) ++ metric_line T plan

-- ---- status 1

abbrev pub misfit_name : Misfit → List ℕ
misfit_name UnknownAction = codes "unknown action"
misfit_name Arguments = codes "arguments"
misfit_name Precondition = codes "precondition"
misfit_name NoCost = codes "no cost"

-- the first fault of a plan
abbrev pub fault_line : Fault → List ℕ
fault_line (AtStep number kind) = line (codes "invalid step " ++ decimal number ++ codes ": " ++ misfit_name kind)
fault_line AtGoal = line (codes "invalid: goal")
fault_line (AtConstraint number) = entry (codes "invalid: constraint") (decimal number)
