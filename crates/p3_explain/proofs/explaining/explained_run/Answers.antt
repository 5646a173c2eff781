use Rattle.std.proofs.Common.{◌≡◌, ◌∙◌, ◌≤◌, length, sym, ap, subst}
use Rattle.std.specs.List.{All}
use Rattle.p3_base.specs.Limits.{instance_limit}
use Rattle.p3_formula.specs.Conditions.{HasAtomsBelow}
use Rattle.p3_formula.specs.declared.task.GroundTask.{GroundTask}
use Rattle.p3_ground.specs.StandsFor.{LeftOutAt}
use Rattle.p3_run.specs.Runs.{CanBeRun, Ran}
use Rattle.p3_eval.specs.Judged.{HasDone}
use Rattle.p3_eval.specs.Runs.{BelongTogether}
use Rattle.p3_eval.proofs.RunKept.{can_be_run}
use Rattle.p3_eval.proofs.WholeRuns.{grounded_together}
use Rattle.p3_explain.proofs.ExplainLaws.{walked_explains, walked_faults, walked_fit}
use Rattle.p3_explain.proofs.WalkLaws.{begun_marked}
use Rattle.p3_explain.proofs.explaining.explained_run.Goals as goal

pub open-requires-clause-below : goal.open-requires-clause-below
open-requires-clause-below c =
    let grounded = c.args.grounded.now in
    let can = can_be_run grounded.ground_task.now grounded.weights.now (record { task = grounded.checked.now.task; together = grounded_together grounded }) in
    subst HasAtomsBelow (sym c.ground_task-task.ensures) can.ready.atoms

pub open-requires-clause-bits : goal.open-requires-clause-bits
open-requires-clause-bits c =
    let grounded = c.args.grounded.now in
    let can = can_be_run grounded.ground_task.now grounded.weights.now (record { task = grounded.checked.now.task; together = grounded_together grounded }) in
    subst (λ (G : GroundTask). length G.initial ≡ G.atoms) (sym c.ground_task-task.ensures) can.ready.bits

pub open-requires-clause-few : goal.open-requires-clause-few
open-requires-clause-few c =
    let grounded = c.args.grounded.now in
    let can = can_be_run grounded.ground_task.now grounded.weights.now (record { task = grounded.checked.now.task; together = grounded_together grounded }) in
    subst (λ (G : GroundTask). length G.soft ≤ instance_limit) (sym c.ground_task-task.ensures) can.ready.few

pub walk-requires-clause-task : goal.walk-requires-clause-task
walk-requires-clause-task c = c.ground_task-task.ensures ∙ sym (ap (λ (ran : Ran). ran.task) c.in_ok-run.ensures.begun)

pub walk-requires-clause-can : goal.walk-requires-clause-can
walk-requires-clause-can c =
    let grounded = c.args.grounded.now in
    subst (λ (ran : Ran). CanBeRun ran.task ran.weights) (sym c.in_ok-run.ensures.begun)
    (can_be_run grounded.ground_task.now grounded.weights.now (record { task = grounded.checked.now.task; together = grounded_together grounded }))

pub walk-requires-clause-begun : goal.walk-requires-clause-begun
walk-requires-clause-begun c = ap (λ (ran : Ran). ran.plan) c.in_ok-run.ensures.begun

pub walk-requires-clause-marked : goal.walk-requires-clause-marked
walk-requires-clause-marked c =
    let grounded = c.args.grounded.now in
    begun_marked grounded.ground_task.now grounded.weights.now c.in_ok-run.run' c.in_ok-run.ensures.begun c.ground_task-task.result.now c.ground_task-task.ensures c.in_ok-marks.marks c.in_ok-marks.ensures c.new-prefs.result c.new-prefs.ensures

pub returns-in-Ok-clause-reasons : goal.returns-in-Ok-clause-reasons
returns-in-Ok-clause-reasons c plan first =
    let grounded = c.args.grounded.now in
    let T = grounded.checked.now.task in
    let run = c.in_ok-run.run' in
    let now = c.walk.new.run in
    let begins = sym c.in_ok-run.ensures.begun in
    let all : BelongTogether T run.task run.weights = subst (λ (ran : Ran). BelongTogether T ran.task ran.weights) begins (grounded_together grounded) in
    let left : All (LeftOutAt T run.task) c.args.steps.now.numbers.items = subst (λ (ran : Ran). All (LeftOutAt T ran.task) c.args.steps.now.numbers.items) begins c.requires.asked in
    walked_explains T plan run now all (c.in-Ok.ensures.done T all left plan first) c.in_ok-reasons-in-Ok.ensures.fit c.walk.new.marks c.walk.new.prefs c.in-Ok.ensures.marked c.in_ok-reasons-in-Ok.reasons c.in_ok-reasons-in-Ok.ensures.found

pub returns-in-Ok-clause-fault : goal.returns-in-Ok-clause-fault
returns-in-Ok-clause-fault c plan first =
    let grounded = c.args.grounded.now in
    let T = grounded.checked.now.task in
    let run = c.in_ok-run.run' in
    let now = c.walk.new.run in
    let begins = sym c.in_ok-run.ensures.begun in
    let all : BelongTogether T run.task run.weights = subst (λ (ran : Ran). BelongTogether T ran.task ran.weights) begins (grounded_together grounded) in
    let left : All (LeftOutAt T run.task) c.args.steps.now.numbers.items = subst (λ (ran : Ran). All (LeftOutAt T ran.task) c.args.steps.now.numbers.items) begins c.requires.asked in
    walked_faults T plan run now all (c.in-Ok.ensures.done T all left plan first) c.in_ok-reasons-in-Ok.ensures.fit c.judge-fault.result c.judge-fault.ensures.fault

pub returns-in-Ok-clause-fit : goal.returns-in-Ok-clause-fit
returns-in-Ok-clause-fit c plan first =
    let grounded = c.args.grounded.now in
    let T = grounded.checked.now.task in
    let run = c.in_ok-run.run' in
    let now = c.walk.new.run in
    let begins = sym c.in_ok-run.ensures.begun in
    let all : BelongTogether T run.task run.weights = subst (λ (ran : Ran). BelongTogether T ran.task ran.weights) begins (grounded_together grounded) in
    let left : All (LeftOutAt T run.task) c.args.steps.now.numbers.items = subst (λ (ran : Ran). All (LeftOutAt T ran.task) c.args.steps.now.numbers.items) begins c.requires.asked in
    walked_fit T plan run now all (c.in-Ok.ensures.done T all left plan first) c.in_ok-reasons-in-Ok.ensures.fit

pub returns-in-Ok-clause-task : goal.returns-in-Ok-clause-task
returns-in-Ok-clause-task c = sym c.in-Ok.ensures.task ∙ c.ground_task-task.ensures

pub returns-in-Ok-clause-weights : goal.returns-in-Ok-clause-weights
returns-in-Ok-clause-weights c = c.in-Ok.ensures.weights ∙ ap (λ (ran : Ran). ran.weights) c.in_ok-run.ensures.begun

pub returns-in-Ok-clause-done : goal.returns-in-Ok-clause-done
returns-in-Ok-clause-done c plan first =
    let grounded = c.args.grounded.now in
    let T = grounded.checked.now.task in
    let run = c.in_ok-run.run' in
    let begins = sym c.in_ok-run.ensures.begun in
    let all : BelongTogether T run.task run.weights = subst (λ (ran : Ran). BelongTogether T ran.task ran.weights) begins (grounded_together grounded) in
    let left : All (LeftOutAt T run.task) c.args.steps.now.numbers.items = subst (λ (ran : Ran). All (LeftOutAt T ran.task) c.args.steps.now.numbers.items) begins c.requires.asked in
    subst (λ (ran : Ran). HasDone T plan ran c.walk.new.run) c.in_ok-run.ensures.begun (c.in-Ok.ensures.done T all left plan first)

pub returns-clause-fail : goal.returns-clause-fail
returns-clause-fail c plan first =
    let grounded = c.args.grounded.now in
    let T = grounded.checked.now.task in
    let run = c.in_ok-run.run' in
    let begins = sym c.in_ok-run.ensures.begun in
    let all : BelongTogether T run.task run.weights = subst (λ (ran : Ran). BelongTogether T ran.task ran.weights) begins (grounded_together grounded) in
    let left : All (LeftOutAt T run.task) c.args.steps.now.numbers.items = subst (λ (ran : Ran). All (LeftOutAt T ran.task) c.args.steps.now.numbers.items) begins c.requires.asked in
    c.in-Err.ensures.fail T all left plan first
