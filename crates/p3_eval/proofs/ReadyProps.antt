-- What is asked of a ground task before it is compiled has one proof at most.
use Rattle.std.specs.Prelude.{ℕ, Option, None, Some}
use Rattle.std.proofs.Props.{props}
use Rattle.p3_formula.specs.Conditions.{IsReady}
use Rattle.p3_formula.specs.Weighted.{HasNameBelow}
use Rattle.p3_formula.specs.declared.target.Weights.{Weights}
use Rattle.p3_formula.specs.declared.task.GroundTask.{GroundTask}

name-prop : (count : ℕ) (name : Option ℕ) → IsProp (HasNameBelow count name)
name-prop count None = Prim.hlevel props
name-prop count (Some name) = Prim.hlevel props

pub ready-prop : (G : GroundTask) (weights : Weights) → IsProp (IsReady G weights)
ready-prop G weights = Prim.hlevel (props, name-prop)
