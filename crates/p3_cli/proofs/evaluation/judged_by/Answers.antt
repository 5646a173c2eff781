use Rattle.std.proofs.Common.{◌≡◌, ◌∙◌, ap, sym, subst}
use Rattle.std.specs.Prelude.{option_map}
use Rattle.p3_tree.specs.Reports.Plans.{evaluated_lines}
use Rattle.p3_reports.specs.Faults.{fault_named}
use Rattle.p3_reports.specs.Reports.{evaluate_text}
use Rattle.p3_types.specs.declared.checked.Checked.{Checked}
use Rattle.p3_ground.specs.PlansByNumber.{AreNumbers}
use Rattle.p3_eval.specs.Judged.{fault_in}
use Rattle.p3_eval.specs.Runs.{BelongTogether}
use Rattle.p3_eval.specs.Steps.{OfSteps}
use Rattle.p3_cli.specs.Ending.{Invalid}
use Rattle.p3_cli.specs.Evaluation.{IsFaultOf}
use Rattle.p3_cli.proofs.EvaluationLemmas.{plan_judged, still_together, valid_plan}
use Rattle.p3_cli.proofs.SpelledLemmas.{says_more}
use Rattle.p3_cli.proofs.evaluation.judged_by.Goals as goal

pub evaluated_report-requires-clause-together : goal.evaluated_report-requires-clause-together
evaluated_report-requires-clause-together c =
    let grounded = c.args.grounded.now in
    let run = c.in_ok-run in
    let new = c.judge_steps.new.self in
    let some = c.requires.some in
    subst (λ (checked : Checked). BelongTogether checked.task new.task new.weights) (sym c.checked.ensures.checked)
    (still_together grounded.checked.now.task grounded.ground_task.now grounded.weights.now c.args.steps.now run.run' new c.judge_steps.result run.ensures.task c.requires.asked run.ensures.begun c.judge_steps.ensures.judged
    some.plan some.are c.in-None.is)

pub returns-in-None-clause-report : goal.returns-in-None-clause-report
returns-in-None-clause-report c = λ plan are.
    let grounded = c.args.grounded.now in
    let T = grounded.checked.now.task in
    let G = grounded.ground_task.now in
    let w = grounded.weights.now in
    let steps = c.args.steps.now in
    let run = c.in_ok-run in
    let new = c.judge_steps.new.self in
    let judged = plan_judged T G w steps run.run' new c.judge_steps.result run.ensures.task c.requires.asked run.ensures.begun c.judge_steps.ensures.judged plan are in
    let numbers = subst (λ (checked : Checked). AreNumbers checked.task plan new.plan) (sym c.checked.ensures.checked) (judged.done c.in-None.is).numbers in
    record {
      valid = valid_plan T G w steps run.run' new c.judge_steps.result run.ensures.task c.requires.asked run.ensures.begun c.judge_steps.ensures.judged plan are c.in-None.is;
      told =
          subst (λ (checked : Checked). evaluate_text c.in_ok-evaluated_report-in-None.field-0 ≡ evaluated_lines checked.task plan) c.checked.ensures.checked
          (c.in_ok-evaluated_report-in-None.ensures plan numbers);
    }

pub returns-clause-err : goal.returns-clause-err
returns-clause-err c =
    let grounded = c.args.grounded.now in
    let T = grounded.checked.now.task in
    let steps = c.args.steps.now in
    let run = c.in_ok-run in
    let fault = fault_in c.in-Some.fault in
    says_more (λ how. how ≡ Invalid (fault_named fault)) (λ how. OfSteps T steps (IsFaultOf T how))
    (λ how says plan are. record {
      fault = fault;
      first =
          (plan_judged T grounded.ground_task.now grounded.weights.now steps run.run' c.judge_steps.new.self c.judge_steps.result run.ensures.task c.requires.asked run.ensures.begun c.judge_steps.ensures.judged plan are).fault
          ∙ ap (option_map fault_in) c.in-Some.is;
      says = says;
    })
    c.invalid.result c.invalid.ensures
