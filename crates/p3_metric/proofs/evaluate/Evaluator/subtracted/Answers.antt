use Rattle.std.proofs.Common.{◌∙◌, refl, sym, subst}
use Rattle.p3_task.specs.Refusals.Metric.{operations}
use Rattle.p3_task.specs.declared.metric.Num.{Num}
use Rattle.p3_task.specs.declared.metric.Num.TheVariants as num
use Rattle.p3_metric.specs.Evaluation.{IsEvaluated, IsFailure}
use Rattle.p3_metric.specs.declared.error.MetricFail.{MetricFail}
use Rattle.p3_metric.specs.declared.error.MetricFail.TheVariants.{Refused}
use Rattle.p3_metric.proofs.WordLaws.{refused-Sub}
use Rattle.p3_metric.proofs.StepLemmas.{accepted_form, accepted_fails, difference_evaluated, difference_fails}
use Rattle.p3_metric.proofs.evaluate.Evaluator.subtracted.Goals as goal

pub returns-clause-form : goal.returns-clause-form
returns-clause-form c =
    let m = c.in_ok-measured.measured in
    let T = c.args.self.now.task.now in
    accepted_form c.accepted.result (λ form. (first second : Num) → IsEvaluated T first c.args.minuend → IsEvaluated T second c.args.subtrahend → IsEvaluated T (num.Sub c.args.at first second) form) m.form m.small c.accepted.ensures.form c.accepted.ensures.small
    (λ e first second is other. difference_evaluated T c.args.at first second c.args.minuend c.args.subtrahend m.form is other c.in_ok-measured.ensures.difference (c.in_ok-measured.ensures.small e))

pub returns-clause-fails : goal.returns-clause-fails
returns-clause-fails c =
    let m = c.in_ok-measured.measured in
    let T = c.args.self.now.task.now in
    let role = c.args.self.now.role in
    let fails : MetricFail → Num → Num → Type 0 = λ fail first second. IsFailure T role (operations (num.Sub c.args.at first second)) fail in
    accepted_fails c.accepted.result (λ fail. (first second : Num) → IsEvaluated T first c.args.minuend → IsEvaluated T second c.args.subtrahend → fails fail first second) c.too_large.result c.too_large.result m.small c.accepted.ensures.refusal c.accepted.ensures.large refl
    (λ e first second is other. subst (λ refusal. fails (Refused refusal) first second) (sym (c.too_large.ensures ∙ sym (refused-Sub role c.args.at first second)))
    (difference_fails T c.args.at first second c.args.minuend c.args.subtrahend m.form is other c.in_ok-measured.ensures.difference role (c.in_ok-measured.ensures.large e)))
