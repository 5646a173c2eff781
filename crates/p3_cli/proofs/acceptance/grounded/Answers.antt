use Rattle.std.proofs.Common.{◌≡◌, None, Some, sym, subst}
use Rattle.p3_task.specs.Refusals.First.{task_refusal}
use Rattle.p3_types.specs.declared.checked.Checked.{Checked}
use Rattle.p3_metric.proofs.AcceptedLaws.{linear_where_accepted}
use Rattle.p3_eval.specs.Accepted.{IsFailOf}
use Rattle.p3_eval.proofs.RefusalLaws.{no_metric}
use Rattle.p3_cli.specs.Refusing.{AreAcceptedFor}
use Rattle.p3_cli.specs.Texts.{all_texts}
use Rattle.p3_cli.specs.Translation.{CanBeCompiled}
use Rattle.p3_cli.proofs.SpelledLemmas.{short_domain, short_problem, spelled_accepted, task_refused}
use Rattle.p3_cli.proofs.acceptance.grounded.Goals as goal

pub returns-in-Ok-clause-accepted : goal.returns-in-Ok-clause-accepted
returns-in-Ok-clause-accepted c =
    let texts = all_texts c.args.texts.now in
    let checked = c.in_ok-checked.checked in
    subst (λ (one : Checked). AreAcceptedFor c.args.side texts one.task) (sym c.in-Ok.ensures.task)
    (spelled_accepted c.args.side texts checked.task c.in_ok-checked.ensures.spelled (short_domain c.args.side c.args.texts.now) (short_problem c.args.side c.args.texts.now)
    (subst (λ side. task_refusal side checked.task ≡ None) c.in_ok-checked.ensures.side c.in-Ok.ensures.accepted))

pub returns-in-Err-Refused-clause-err : goal.returns-in-Err-Refused-clause-err
returns-in-Err-Refused-clause-err c =
    let checked = c.in_ok-checked.checked in
    let refusal = c.in-Err-Refused.refusal in
    task_refused c.args.side (all_texts c.args.texts.now) checked.task refusal c.refused.result c.in_ok-checked.ensures.spelled
    (subst (λ side. task_refusal side checked.task ≡ Some refusal) c.in_ok-checked.ensures.side
    (subst (IsFailOf checked.side checked.task) c.in-Err-Refused.field-0-is c.in-Err-Refused.ensures.refused))
    c.refused.ensures

pub returns-in-Ok-clause-ready : goal.returns-in-Ok-clause-ready
returns-in-Ok-clause-ready c =
    let checked = c.in_ok-checked.checked in
    let whole = c.in-Ok.whole in
    let well = c.in_ok-checked.ensures.well_formed in
    let can : CanBeCompiled checked.task whole.ground_task whole.weights = record {
      well_formed = well;
      linear = linear_where_accepted checked.side checked.task (no_metric checked.side checked.task well c.in-Ok.ensures.accepted);
      grounding = c.in-Ok.ensures.grounding;
      weighed = c.in-Ok.ensures.weights;
      ready = c.in-Ok.ensures.ready;
    } in
    subst (λ (one : Checked). CanBeCompiled one.task whole.ground_task whole.weights) (sym c.in-Ok.ensures.task) can
