-- The parts of a task of which nothing is refused belong together.
use Rattle.std.proofs.Math.Logic.{∥∥₁_elim, ∥∥₁_map}
use Rattle.std.proofs.Math.Bool.{Bool-set}
use Rattle.p3_formula.specs.Conditions.{IsReady}
use Rattle.p3_ground.specs.StandsFor.{LeavesOutOnlyUnfit}
use Rattle.p3_eval.specs.Runs.{BelongTogether}
use Rattle.p3_eval.specs.declared.grounded.Grounded.{Grounded}
use Rattle.p3_eval.specs.declared.whole.Whole.{Whole}
use Rattle.p3_eval.proofs.ReadyLaws.{grounding_is_ready}
use Rattle.p3_eval.proofs.ReadyProps.{ready-prop}
use Rattle.p3_eval.proofs.RefusalLaws.{accepted_from, well_formed_from}

-- what its ground task leaves out can begin in no reached state
pub whole_leaves_out : (whole : Whole) → LeavesOutOnlyUnfit whole.checked.task whole.ground_task
whole_leaves_out whole number step has out s reached = ∥∥₁_elim whole.grounding (Bool-set _ _) (λ grounding. grounding.left_out number step has out s reached)

pub grounded_together : (grounded : Grounded) → BelongTogether grounded.checked.now.task grounded.ground_task.now grounded.weights.now
grounded_together grounded = let checked = grounded.checked.now in record {
  side = checked.side;
  well = well_formed_from checked.task checked.well_formed;
  short = checked.short;
  accepted = accepted_from checked.side checked.task grounded.accepted;
  stands = grounded.standing;
  weights = grounded.weighing;
}

pub belong_together : (whole : Whole) → BelongTogether whole.checked.task whole.ground_task whole.weights
belong_together whole = record {
  side = whole.checked.side;
  well = well_formed_from whole.checked.task whole.checked.well_formed;
  short = whole.checked.short;
  accepted = accepted_from whole.checked.side whole.checked.task whole.accepted;
  stands = ∥∥₁_map whole.grounding (λ grounding. record { atoms = grounding.atoms; stands = grounding.stands });
  weights = whole.weighing;
}

-- its ground task can be compiled by its weights
pub whole_is_ready : (whole : Whole) → IsReady whole.ground_task whole.weights
whole_is_ready whole =
    let T = whole.checked.task in
    let side = whole.checked.side in
    let once = ready-prop whole.ground_task whole.weights in
    ∥∥₁_elim whole.grounding once (λ grounding. ∥∥₁_elim whole.weighing once (λ weighing.
    grounding_is_ready side T whole.ground_task whole.weights (well_formed_from T whole.checked.well_formed) grounding weighing (accepted_from side T whole.accepted)))
