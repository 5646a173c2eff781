use Rattle.std.proofs.Common.{◌≡◌, ◌∙◌, length, of_z, rules, sym, subst, to_z, vec_len}
use Rattle.std.proofs.lemmas.Int.{to_z-of_z}
use Rattle.std.proofs.lemmas.Slice.Zip.{AllZip-long}
use mir.Syntax.{w128}
use mir.Val.{SFits}
use Rattle.p3_task.specs.Constraints.{instances}
use Rattle.p3_task.specs.Metrics.{metric_places}
use Rattle.p3_task.specs.StepNumbers.{HasNumber}
use Rattle.p3_reports.specs.declared.report.GenerateReport.{GenerateReport}
use Rattle.p3_reports.proofs.ContentsLaws.{generate_report_is}
use Rattle.p3_ground.specs.StandsFor.{SoftStands}
use Rattle.p3_cli.specs.Translation.{CanBeCompiled}
use Rattle.p3_cli.proofs.report_parts.sampled_report.Goals as goal

pub returns : goal.returns
returns c = λ plan are worth.
    let whole = c.args.whole.now in
    let T = whole.checked.task in
    let G = c.ground_task-task.result.now in
    let source = c.args.source.now in
    let can : CanBeCompiled T G whole.weights = subst (λ ground. CanBeCompiled T ground whole.weights) (sym c.ground_task-task.ensures) c.requires.can in
    let numbers = c.args.steps.now.numbers in
    let long : vec_len numbers ≡ length numbers.items = search rules in
    let counted : vec_len source.places ≡ length source.places.items = search rules in
    let fits : SFits w128 source.cost = search rules in
    let report : GenerateReport = record {
      steps = G.step_count;
      preferences = c.len.result;
      plan = c.len-2.result;
      embedded = c.len-3.result;
      cost = to_z w128 (of_z w128 source.cost);
      metric = c.metric_of.result;
    } in
    generate_report_is T plan (length source.places.items) source.cost report (record {
      steps = can.grounding.stands.step_count;
      preferences = c.len.ensures ∙ AllZip-long (SoftStands T can.grounding.atoms) (instances T) G.soft can.grounding.stands.soft;
      of_plan = c.len-2.ensures ∙ long ∙ AllZip-long (HasNumber T) plan numbers.items are;
      embedded = c.len-3.ensures ∙ counted;
      units = to_z-of_z w128 source.cost fits;
      metric = record {
        places = c.metric_of.ensures.places ∙ (λ i. metric_places (c.checked.ensures.checked i).task);
        units = c.metric_of.ensures.units ∙ to_z-of_z w128 c.args.metric c.ranges.metric ∙ worth;
      };
    })
