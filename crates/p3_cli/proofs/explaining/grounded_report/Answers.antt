use Rattle.p3_eval.specs.Steps.{OfSteps}
use Rattle.p3_eval.proofs.RunLaws.{no_step_fault}
use Rattle.p3_cli.specs.Explaining.{IsUnfit, TellsFail}
use Rattle.p3_cli.proofs.EvaluationLemmas.{unfit}
use Rattle.p3_cli.proofs.SpelledLemmas.{says_more}
use Rattle.p3_cli.proofs.explaining.grounded_report.Goals as goal

pub returns-in-Err-clause-err : goal.returns-in-Err-clause-err
returns-in-Err-clause-err c =
    let T = c.args.grounded.now.checked.now.task in
    let steps = c.args.steps.now in
    says_more (TellsFail c.in-Err.fail) (λ how. OfSteps T steps (IsUnfit T how)) (unfit T steps c.in-Err.fail c.in-Err.ensures.fail) c.unexplained.result c.unexplained.ensures

pub returns-clause-report : goal.returns-clause-report
returns-clause-report c = λ plan are. record { fit = no_step_fault c.args.grounded.now.checked.now.task plan (c.in-Ok.ensures.fit plan are); told = c.in_ok-report.ensures plan are }
