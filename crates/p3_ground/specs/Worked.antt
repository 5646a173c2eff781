-- The ground task of the smallest useful task: one step that sets an atom, and a preference on it at the end.
use Rattle.std.specs.Prelude.{false, [], ◌∷◌, Some}
use Rattle.p3_formula.specs.Constructors.{sets}
use Rattle.p3_formula.specs.declared.form.Form.TheVariants.{True, Atom}
use Rattle.p3_base.specs.declared.operator.Operator.TheVariants.{AtEnd}
use Rattle.p3_formula.specs.declared.task.GroundStep.{GroundStep}
use Rattle.p3_formula.specs.declared.task.GroundTask.{GroundTask}

abbrev pub only_step : GroundStep
only_step = record { number = 0; pre = True; prefs = []; effects = sets 0 ∷ []; cost = Some 0 }

abbrev pub smallest : GroundTask
smallest = record {
  atoms = 1;
  initial = false ∷ [];
  initial_cost = 0;
  step_count = 1;
  steps = only_step ∷ [];
  goal = True;
  hard = [];
  soft = record { name = Some 0; parts = AtEnd (Atom 0) ∷ [] } ∷ [];
  names = 1;
}
