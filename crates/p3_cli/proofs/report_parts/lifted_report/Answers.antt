use Rattle.std.proofs.Common.{◌≡◌, ◌∙◌, length, of_z, rules, sym, to_z, vec_len}
use Rattle.std.proofs.lemmas.Int.{to_z-of_z}
use mir.Syntax.{w128}
use mir.Val.{SFits}
use Rattle.p3_reports.proofs.ContentsLaws.{lift_report_is}
use Rattle.p3_lift.specs.Lifting.{numbered_steps}
use Rattle.p3_lift.proofs.NumberLaws.{steps_counted}
use Rattle.p3_cli.proofs.report_parts.lifted_report.Goals as goal

pub returns : goal.returns
returns c =
    let T = c.args.checked.now.task in
    let lifted = c.args.lifted.now in
    let numbers = lifted.numbers.items in
    let long : vec_len lifted.numbers ≡ length numbers = search rules in
    let fits : SFits w128 lifted.cost = search rules in
    let also : SFits w128 lifted.metric = search rules in
    lift_report_is T (numbered_steps T numbers) lifted.cost (record { steps = c.len.result; cost = to_z w128 (of_z w128 lifted.cost); metric = c.metric_of.result }) (record {
      steps = c.len.ensures ∙ long ∙ sym (steps_counted T numbers c.requires.within);
      units = to_z-of_z w128 lifted.cost fits;
      metric = record { places = c.metric_of.ensures.places; units = c.metric_of.ensures.units ∙ to_z-of_z w128 lifted.metric also ∙ c.requires.metric };
    })
