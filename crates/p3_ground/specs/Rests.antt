-- A ground task of its steps and the rest.
use Rattle.std.specs.Prelude.{List}
use Rattle.p3_formula.specs.declared.task.GroundStep.{GroundStep}
use Rattle.p3_formula.specs.declared.task.GroundTask.{GroundTask}
use Rattle.p3_ground.specs.declared.rest.Rest.{Rest}

abbrev pub joined_of : Rest → List GroundStep → GroundTask
joined_of rest steps = record {
  atoms = rest.atoms;
  initial = rest.initial;
  initial_cost = rest.initial_cost;
  step_count = rest.step_count;
  steps = steps;
  goal = rest.goal;
  hard = rest.hard;
  soft = rest.soft;
  names = rest.names;
}
