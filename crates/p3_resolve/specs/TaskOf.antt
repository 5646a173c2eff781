-- The numbered task of numbers and trees.
use Rattle.p3_numbers.specs.declared.numbers.Numbers.{Numbers}
use Rattle.p3_numbers.specs.declared.task.NumberedTask.{NumberedTask}
use Rattle.p3_resolve.specs.declared.resolving.Trees.{Trees}

abbrev pub task_of : Numbers → Trees → NumberedTask
task_of numbers trees = record {
  numbers = numbers;
  actions = trees.domain.actions;
  domain_constraints = trees.domain.constraints;
  problem_constraints = trees.problem.trees.constraints;
  goal = trees.problem.trees.goal;
  start = trees.problem.start.facts;
  values = trees.problem.start.values;
}
