-- A ground task without the steps that cannot fit over a set of atoms.
use Rattle.std.specs.Prelude.{List}
use Rattle.std.specs.List.{filter}
use Rattle.p3_formula.specs.Forms.{State}
use Rattle.p3_formula.specs.declared.task.GroundStep.{GroundStep}
use Rattle.p3_formula.specs.declared.task.GroundTask.{GroundTask}
use Rattle.p3_reach.specs.May.{may_hold}

-- the steps whose precondition may hold over the set
abbrev pub steps_over : State → List GroundStep → List GroundStep
steps_over set steps = filter (λ (made : GroundStep). may_hold set made.pre) steps

abbrev pub pruned : State → GroundTask → GroundTask
pruned set G = record G { steps = steps_over set G.steps }
