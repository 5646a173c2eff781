use Rattle.std.proofs.Common.{◌∙◌, ap, rules, subst, sym}
use Rattle.std.proofs.lemmas.Int.{to_z-of_z}
use mir.Syntax.{w128}
use mir.Val.{SFits}
use Rattle.p3_task.proofs.StepNumberLaws.{steps_have_numbers}
use Rattle.p3_tree.specs.Reports.Plans.{generated_lines}
use Rattle.p3_formula.specs.Targets.{Compiled}
use Rattle.p3_reports.specs.Reports.{generate_text}
use Rattle.p3_ground.proofs.PlanNumbers.{has_numbers, valid_fits}
use Rattle.p3_embed.specs.Plans.{steps_at}
use Rattle.p3_eval.proofs.StepsLemmas.{all_numbered}
use Rattle.p3_cli.specs.Texts.{all_texts}
use Rattle.p3_cli.proofs.EmbeddingLemmas.{is_sampled, steps_counted}
use Rattle.p3_cli.proofs.ProductLemmas.{its_texts, rejected_plan, the_plan, the_steps}
use Rattle.p3_cli.proofs.sampling.report_of.Goals as goal

pub returns-in-Err-clause-err : goal.returns-in-Err-clause-err
returns-in-Err-clause-err c =
    let whole = c.in_ok-whole in
    rejected_plan (all_texts c.args.texts.now) whole.whole.checked.task whole.ensures.accepted whole.ensures.free whole.steps
    whole.ensures.are c.in-Err.ending c.in-Err.ensures.err

pub returns-clause-means : goal.returns-clause-means
returns-clause-means c =
    let whole = c.in_ok-whole in
    let T = whole.whole.checked.task in
    let G = whole.whole.ground_task in
    let w = whole.whole.weights in
    let X = c.in_ok-target.target in
    let texts = all_texts c.args.texts.now in
    let are = whole.ensures.are in
    let plan = (the_plan texts T whole.ensures.accepted whole.ensures.free whole.steps are).plan in
    let has = the_steps texts T whole.ensures.accepted whole.ensures.free whole.steps are in
    let source = c.in-Ok in
    let valid = source.ensures.valid plan has in
    let compiled = subst (λ ground. Compiled ground w X) c.ground_task.ensures (subst (λ weights. Compiled c.ground_task.result.now weights X) c.weights.ensures.weights c.in_ok-target.ensures.compiled) in
    let K = steps_have_numbers T whole.ensures.ready.well_formed in
    let known = has_numbers T K plan (valid_fits T plan valid) in
    let numbers = all_numbered T K plan known.0 known.1 whole.steps.numbers.items whole.steps.rest has in
    let fits : SFits w128 c.in_ok-metric.metric = search rules in
    record {
      task = T;
      plan = plan;
      of = its_texts texts T whole.ensures.accepted whole.ensures.free whole.steps are;
      valid = valid;
      sampled =
          is_sampled T G w X whole.ensures.ready compiled plan (steps_at X source.source.places.items) source.source.cost (source.ensures.plan plan has) source.ensures.cost (generate_text c.sampled_report-report.result)
          (c.sampled_report-report.ensures plan numbers (to_z-of_z w128 c.in_ok-metric.metric fits ∙ c.in_ok-metric.ensures plan has)
          ∙ ap (λ count. generated_lines T plan count source.source.cost) (sym (steps_counted X source.source.places.items)));
    }
