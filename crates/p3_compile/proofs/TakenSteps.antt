-- What is made of a step whose precondition and changes are taken is made of the step.
use Rattle.std.specs.Prelude.{ℕ, List}
use Rattle.p3_formula.specs.declared.form.Change.{Change}
use Rattle.p3_formula.specs.declared.form.Form.{Form}
use Rattle.p3_formula.specs.declared.target.TargetAction.{TargetAction}
use Rattle.p3_formula.specs.declared.target.Weights.{Weights}
use Rattle.p3_formula.specs.declared.task.GroundStep.{GroundStep}
use Rattle.p3_simulation.specs.Assembled.{IsSplit}
use Rattle.p3_compile.specs.Stepping.{bare}

pub split_of_bare : (go : ℕ) (weights : Weights) (step : GroundStep) (pre : Form) (effects : List Change) (actions : List TargetAction) → IsSplit go weights (bare step) pre effects actions → IsSplit go weights step pre effects actions
split_of_bare go weights step pre effects actions split = record {
  copies = split.copies;
  one_copy = λ state holds. let one = split.one_copy state holds in record { copy = one.copy; only = one.only; shows = one.shows; costs = one.costs };
  no_copy = split.no_copy;
  shown = split.shown;
  atoms = split.atoms;
  are = split.are;
}
