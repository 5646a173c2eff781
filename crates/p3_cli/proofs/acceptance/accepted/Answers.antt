use Rattle.std.proofs.Common.{◌≡◌, None, Some, sym, subst}
use Rattle.p3_task.specs.Refusals.First.{task_refusal}
use Rattle.p3_types.specs.declared.checked.Checked.{Checked}
use Rattle.p3_eval.specs.Accepted.{IsFailOf}
use Rattle.p3_cli.specs.Refusing.{AreAcceptedFor}
use Rattle.p3_cli.specs.Texts.{all_texts}
use Rattle.p3_cli.proofs.SpelledLemmas.{short_domain, short_problem, spelled_accepted, task_refused}
use Rattle.p3_cli.proofs.acceptance.accepted.Goals as goal

pub returns-in-Ok-clause-accepted : goal.returns-in-Ok-clause-accepted
returns-in-Ok-clause-accepted c =
    let texts = all_texts c.args.texts.now in
    let checked = c.in_ok-checked.checked in
    subst (λ (one : Checked). AreAcceptedFor c.args.side texts one.task) (sym c.in-Ok.ensures.task)
    (spelled_accepted c.args.side texts checked.task c.in_ok-checked.ensures.spelled (short_domain c.args.side c.args.texts.now) (short_problem c.args.side c.args.texts.now)
    (subst (λ side. task_refusal side checked.task ≡ None) c.in_ok-checked.ensures.side c.in-Ok.ensures.accepted))

pub returns-in-Err-Refused-clause-err : goal.returns-in-Err-Refused-clause-err
returns-in-Err-Refused-clause-err c =
    let checked = c.in_ok-checked.checked in
    let refusal = c.in-Err-Refused.refusal in
    task_refused c.args.side (all_texts c.args.texts.now) checked.task refusal c.refused.result c.in_ok-checked.ensures.spelled
    (subst (λ side. task_refusal side checked.task ≡ Some refusal) c.in_ok-checked.ensures.side
    (subst (IsFailOf checked.side checked.task) c.in-Err-Refused.field-0-is c.in-Err-Refused.ensures.refused))
    c.refused.ensures
