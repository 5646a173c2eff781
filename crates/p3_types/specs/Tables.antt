-- What a checked task keeps beside its trees.
use Rattle.std.specs.Prelude.{ℕ, max, Bool, List, [], map, filter_map, fold, is_none}
use Rattle.p3_task.specs.FirstOffence.{first_offence}
use Rattle.p3_task.specs.Limits.{value_of_entry}
use Rattle.p3_task.specs.Names.{Name}
use Rattle.p3_task.specs.declared.task.Task.{Task}
use Rattle.p3_numbers.specs.Constraints.{constraint_of}
use Rattle.p3_numbers.specs.Goals.{goal_of}
use Rattle.p3_numbers.specs.Starts.{start_of, initial_values_of}
use Rattle.p3_numbers.specs.Tasks.{numbered_action}
use Rattle.p3_numbers.specs.declared.numbers.Numbers.{Numbers}
use Rattle.p3_numbers.specs.declared.task.NumberedTask.{NumberedTask}

abbrev pub is_well_formed : Task → Bool
is_well_formed T = is_none (first_offence T)

-- the numbered trees of a task
abbrev pub task_over : Numbers → Task → NumberedTask
task_over N T = record {
  numbers = N;
  actions = map (numbered_action N) T.domain.actions;
  domain_constraints = constraint_of N T.domain.constraints.body [];
  problem_constraints = constraint_of N T.problem.constraints.body [];
  goal = goal_of N T.problem.goal.body [];
  start = start_of N T;
  values = initial_values_of N T;
}

-- the greatest value that the initial state gives to a function, 0 where it gives none
abbrev pub greatest_value_of : Task → Name → ℕ
greatest_value_of T function = fold max 0 (filter_map (value_of_entry T function) T.problem.init)

abbrev pub greatest_values : Task → List Name → List ℕ
greatest_values T functions = map (greatest_value_of T) functions
