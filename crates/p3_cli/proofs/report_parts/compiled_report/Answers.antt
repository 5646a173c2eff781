use Rattle.std.proofs.Common.{◌≡◌, ◌∙◌, None, of_z, rules, sym, subst, to_z}
use Rattle.std.proofs.lemmas.Int.{to_z-of_z}
use Rattle.std.proofs.lemmas.Slice.Zip.{AllZip-long}
use mir.Syntax.{w128}
use mir.Val.{SFits}
use Rattle.p3_task.specs.Constraints.{instances}
use Rattle.p3_task.specs.Metrics.{metric_places}
use Rattle.p3_task.specs.Refusals.Metric.{metric_refusals}
use Rattle.p3_task.specs.Refusals.Places.{first_some}
use Rattle.p3_reports.specs.declared.report.CompileReport.{CompileReport}
use Rattle.p3_reports.proofs.ContentsLaws.{compile_report_is}
use Rattle.p3_types.specs.declared.checked.Checked.{Checked}
use Rattle.p3_ground.specs.StandsFor.{SoftStands}
use Rattle.p3_eval.proofs.RefusalLaws.{no_metric, well_formed_from}
use Rattle.p3_cli.specs.Translation.{CanBeCompiled}
use Rattle.p3_cli.proofs.report_parts.compiled_report.Goals as goal

pub metric_places-requires : goal.metric_places-requires
metric_places-requires c =
    let checked = c.args.whole.now.checked in
    subst (λ (one : Checked). first_some (metric_refusals one.side one.task) ≡ None) (sym c.checked.ensures.checked)
    (no_metric checked.side checked.task (well_formed_from checked.task checked.well_formed) c.checked.ensures.accepted)

pub returns : goal.returns
returns c =
    let whole = c.args.whole.now in
    let T = whole.checked.task in
    let G = c.ground_task-task.result.now in
    let w = c.weights-weights.result.now in
    let can : CanBeCompiled T G w =
    subst (λ ground. CanBeCompiled T ground w) (sym c.ground_task-task.ensures) (subst (λ weights. CanBeCompiled T whole.ground_task weights) (sym c.weights-weights.ensures.weights) c.requires) in
    let fits : SFits w128 w.base = search rules in
    let report : CompileReport = record {
      steps = G.step_count;
      preferences = c.len.result;
      base = record { places = c.metric_places.result; units = to_z w128 (of_z w128 w.base); few = c.metric_places.ensures.few };
      direction = w.direction;
    } in
    compile_report_is T report (record {
      steps = can.grounding.stands.step_count;
      preferences = c.len.ensures ∙ AllZip-long (SoftStands T can.grounding.atoms) (instances T) G.soft can.grounding.stands.soft;
      base = record { places = c.metric_places.ensures.places ∙ (λ i. metric_places (c.checked.ensures.checked i).task); units = to_z-of_z w128 w.base fits ∙ can.weighed.base };
      direction = can.weighed.direction;
    })
