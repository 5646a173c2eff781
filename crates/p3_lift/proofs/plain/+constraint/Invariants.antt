use Rattle.std.proofs.Common.{◌≡◌, drop}
use Rattle.std.specs.List.{list_any}
use Rattle.p3_task.specs.Lifting.{constrains}
use Rattle.p3_lift.proofs.plain.+constraint.Given as goal

-- those that are left decide
abbrev pub invariant-some_constrains-loop-constraint : goal.invariant-some_constrains-loop-constraint
invariant-some_constrains-loop-constraint l = list_any constrains (drop l.constraint-index l.constraints) ≡ list_any constrains l.constraints
