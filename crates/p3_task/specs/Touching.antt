-- How many conditions a step may have where its translation has no conditional effects: those of its literals, and two for each operator that it can touch.
use Rattle.std.specs.Prelude.{ℕ, ◌+◌, ◌*◌, Bool, false, if◌then◌else◌, ◌++◌, List, flat_map, count_by}
use Rattle.std.specs.List.{list_any}
use Rattle.p3_task.specs.States.{has_fact}
use Rattle.p3_task.specs.Constraints.{HardModal, Instance, hard_list, instances, operators}
use Rattle.p3_task.specs.Literals.{Literal}
use Rattle.p3_base.specs.Operators.{is_at_end}
use Rattle.p3_task.specs.declared.task.Step.{Step}
use Rattle.p3_task.specs.declared.task.Task.{Task}
use Rattle.p3_task.specs.Mentions.{operator_atoms, step_literals, is_under_when}

-- the operators of the hard constraints, and those of each instance
abbrev pub all_operators : Task → List HardModal
all_operators T = hard_list T ++ flat_map (λ (instance : Instance). operators T instance.env instance.body) (instances T)

-- the step has a literal of one of its atoms
abbrev pub has_literal_of : Task → Step → HardModal → Bool
has_literal_of T step operator = list_any (λ (literal : Literal). has_fact (operator_atoms T operator) literal.fact) (step_literals T step)

abbrev pub can_touch : Task → Step → HardModal → Bool
can_touch T step operator = if is_at_end operator.modal then false else has_literal_of T step operator

-- the literals under `when`, and two for each operator that the step can touch
unfoldable pub conds : Task → Step → ℕ
conds T step = count_by is_under_when (step_literals T step) + 2 * count_by (can_touch T step) (all_operators T)
