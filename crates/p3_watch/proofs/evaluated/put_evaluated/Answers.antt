use Rattle.std.proofs.Common.{◌∙◌, rules, subst}
use Rattle.std.proofs.lemmas.Int.{to_z-of_z}
use Rattle.std.proofs.lemmas.Result.{on_err_weaker, on_ok_weaker}
use Rattle.std.proofs.lemmas.Slice.Zip.{AllZip-long}
use mir.Syntax.{w128}
use mir.Val.{SFits}
use Rattle.p3_base.specs.Outside.{IsPartlyPut, IsPut}
use Rattle.p3_task.specs.StepNumbers.{HasNumber}
use Rattle.p3_reports.proofs.PutLemmas.{on_err}
use Rattle.p3_watch.proofs.EvaluatedLemmas.{first_partly, lines_put, metric_is, metric_partly, names_partly}
use Rattle.p3_watch.proofs.evaluated.put_evaluated.Goals as goal

pub returns-in_err-put_parts-clause-partly : goal.returns-in_err-put_parts-clause-partly
returns-in_err-put_parts-clause-partly g c =
    let T = c.args.checked.now.task in
    on_err c.from_residual.result (λ plan are.
    first_partly T plan c.steps.result c.cost_of.result (c.steps.ensures.count ∙ AllZip-long (HasNumber T) plan c.args.run.now.plan are) (c.cost_of.ensures plan are) _ _ c.in_err-put_parts.ensures.partly)

pub returns-in_err-put_violations-clause-partly : goal.returns-in_err-put_violations-clause-partly
returns-in_err-put_violations-clause-partly g c =
    let T = c.args.checked.now.task in
    on_err c.from_residual-in_err-put_violations.result (λ plan are.
    names_partly T plan c.steps.result c.cost_of.result (c.steps.ensures.count ∙ AllZip-long (HasNumber T) plan c.args.run.now.plan are) (c.cost_of.ensures plan are) _ _
    c.in_ok-put_parts.ensures.ok _ (c.in_err-put_violations.ensures.partly plan are))

pub returns-clause-ok : goal.returns-clause-ok
returns-clause-ok g c =
    let T = c.args.checked.now.task in
    let fits : SFits w128 c.metric.result = search rules in
    on_ok_weaker c.put_part.result (λ put plan are.
    lines_put T plan c.steps.result c.cost_of.result (c.steps.ensures.count ∙ AllZip-long (HasNumber T) plan c.args.run.now.plan are) (c.cost_of.ensures plan are) _ _
    c.in_ok-put_parts.ensures.ok _ (c.in_ok-put_violations.ensures.ok plan are) _
    (subst (λ text. IsPut text (g.S.Sink.seen c.put_violations.new.out).written (g.S.Sink.seen c.put_part.new.out).written)
    (metric_is T plan c.metric_of.result (record { places = c.metric_of.ensures.places; units = c.metric_of.ensures.units ∙ to_z-of_z w128 c.metric.result fits ∙ c.metric.ensures T c.requires.together plan are }))
    put))
    c.put_part.ensures.ok

pub returns-clause-partly : goal.returns-clause-partly
returns-clause-partly g c =
    let T = c.args.checked.now.task in
    let fits : SFits w128 c.metric.result = search rules in
    on_err_weaker c.put_part.result (λ put plan are.
    metric_partly T plan c.steps.result c.cost_of.result (c.steps.ensures.count ∙ AllZip-long (HasNumber T) plan c.args.run.now.plan are) (c.cost_of.ensures plan are) _ _
    c.in_ok-put_parts.ensures.ok _ (c.in_ok-put_violations.ensures.ok plan are) _
    (subst (λ text. IsPartlyPut text (g.S.Sink.seen c.put_violations.new.out).written (g.S.Sink.seen c.put_part.new.out).written)
    (metric_is T plan c.metric_of.result (record { places = c.metric_of.ensures.places; units = c.metric_of.ensures.units ∙ to_z-of_z w128 c.metric.result fits ∙ c.metric.ensures T c.requires.together plan are }))
    put))
    c.put_part.ensures.partly
