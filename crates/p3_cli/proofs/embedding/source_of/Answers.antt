use Rattle.std.proofs.Common.{◌≡◌, subst}
use Rattle.p3_reports.specs.Faults.{fault_named}
use Rattle.p3_task.proofs.ValidityLemmas.{valid_where_no_fault}
use Rattle.p3_embed.specs.Plans.{IsFailOf}
use Rattle.p3_embed.specs.declared.error.EmbedFail.{EmbedFail}
use Rattle.p3_eval.specs.Judged.{fault_in}
use Rattle.p3_eval.specs.Steps.{OfSteps}
use Rattle.p3_cli.specs.Ending.{Invalid}
use Rattle.p3_cli.specs.Evaluation.{IsFaultOf}
use Rattle.p3_cli.proofs.SpelledLemmas.{says_more}
use Rattle.p3_cli.proofs.embedding.source_of.Goals as goal

pub returns-in-Ok-clause-valid : goal.returns-in-Ok-clause-valid
returns-in-Ok-clause-valid c = λ plan are. (valid_where_no_fault c.args.whole.now.checked.task plan).1 (c.in-Ok.ensures.valid plan are)

pub returns-in-Err-Invalid-clause-err : goal.returns-in-Err-Invalid-clause-err
returns-in-Err-Invalid-clause-err c =
    let T = c.args.whole.now.checked.task in
    let steps = c.args.steps.now in
    let fault = c.in-Err-Invalid.fault in
    let fails = subst (λ (fail : EmbedFail). OfSteps T steps (λ plan. IsFailOf T plan fail)) c.in-Err-Invalid.field-0-is c.in-Err-Invalid.ensures.invalid in
    says_more (λ how. how ≡ Invalid (fault_named (fault_in fault))) (λ how. OfSteps T steps (IsFaultOf T how))
    (λ how says plan are. record { fault = fault_in fault; first = (fails plan are).0; says = says }) c.invalid.result c.invalid.ensures
