use Rattle.std.proofs.Common.{◌≡◌, ap, arith, subst}
use Rattle.p3_task.specs.Limits.{step_count}
use Rattle.p3_types.specs.declared.checked.Checked.{Checked}
use Rattle.p3_ground.specs.Sparse.{IsGroundingAmong}
use Rattle.p3_eval.proofs.AmongLemmas.{grounding_of_all}
use Rattle.p3_eval.proofs.accepted.Accepted.ground_steps.Goals as goal

pub returns : goal.returns
returns c =
    let T = c.args.self.now.checked.task in
    let G = c.in_ok-ground_task.ground_task in
    let rising = c.in_ok-rising.rising.items in
    let same = ap (λ (checked : Checked). step_count checked.task) c.checked-checked.ensures.checked in
    let few = c.checked-checked.ensures.few in
    let least = c.step_count.ensures in
    let count : c.step_count.result ≡ step_count T = omega (arith, same, few, least) in
    grounding_of_all T G c.args.numbers.now rising c.step_count.result count c.in_ok-rising.ensures.keeps c.in_ok-rising.ensures.only
    (subst (λ (checked : Checked). IsGroundingAmong checked.task rising G) c.checked-checked.ensures.checked
    (subst (λ list. IsGroundingAmong c.checked-checked.result.now.task list G) c.as_slice.ensures.value c.in_ok-ground_task.ensures))
