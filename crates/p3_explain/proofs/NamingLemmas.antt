-- Of an accepted task: its steps stand by rising number, and names are a set.
use Rattle.std.proofs.Common.{◌≡◌, Option, true}
use Rattle.std.proofs.Props.{props}
use Rattle.std.proofs.Math.Bool.{Bool-set}
use Rattle.std.proofs.Math.Logic.{∥∥₁_elim}
use Rattle.p3_task.specs.Names.{Name}
use Rattle.p3_formula.specs.Conditions.{rises}
use Rattle.p3_run.specs.Steps.{IsByNumber}
use Rattle.p3_run.proofs.FindLaws.{by_number}
use Rattle.p3_eval.specs.declared.grounded.Grounded.{Grounded}

pub names-set : IsSet (Option Name)
names-set = Prim.hlevel props

rising : (grounded : Grounded) → rises 0 grounded.ground_task.now.step_count grounded.ground_task.now.steps ≡ true
rising grounded = ∥∥₁_elim grounded.standing (Bool-set _ _) (λ stands. stands.stands.rising)

pub steps_by_number : (grounded : Grounded) → IsByNumber grounded.ground_task.now.steps
steps_by_number grounded = by_number grounded.ground_task.now.step_count 0 grounded.ground_task.now.steps (rising grounded)
