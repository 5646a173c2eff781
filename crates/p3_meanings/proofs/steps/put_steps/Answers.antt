use Rattle.std.proofs.Common.{ℕ, List, arith}
use Rattle.p3_formula.specs.declared.task.GroundStep.{GroundStep}
use Rattle.p3_accounts.specs.Vocabularies.{vocabulary}
use Rattle.p3_reports.proofs.PutLemmas.{all_put, on_err, one_more_put, partly_put}
use Rattle.p3_unmet.specs.Sources.{texts}
use Rattle.p3_meanings.specs.Steps.{step_line}
use Rattle.p3_meanings.proofs.steps.put_steps.Goals as goal

pub returns-in_err-put_step-clause-partly : goal.returns-in_err-put_step-clause-partly
returns-in_err-put_step-clause-partly g c =
    let said : GroundStep → List ℕ = λ step. step_line (vocabulary c.args.telling.now.terms.now) (texts c.args.telling.now.sources.now) c.args.checked.now.task step.number in
    on_err c.from_residual.result
    (partly_put said c.args.steps.now c.loop-step.step-index c.step-item.result _ _ _ c.loop-step-test.true c.step-item.is c.loop-step.invariant.put c.in_err-put_step.ensures.partly)

pub returns-clause-ok : goal.returns-clause-ok
returns-clause-ok g c =
    let said : GroundStep → List ℕ = λ step. step_line (vocabulary c.args.telling.now.terms.now) (texts c.args.telling.now.sources.now) c.args.checked.now.task step.number in
    all_put said c.args.steps.now c.loop-step.step-index _ _ c.loop-step-test.false c.loop-step.invariant.put

pub loop-step-preserved : goal.loop-step-preserved
loop-step-preserved g c =
    let said : GroundStep → List ℕ = λ step. step_line (vocabulary c.args.telling.now.terms.now) (texts c.args.telling.now.sources.now) c.args.checked.now.task step.number in
    record {
      put = one_more_put said c.args.steps.now c.loop-step.step-index c.step-item.result _ _ _ c.loop-step-test.true c.step-item.is c.loop-step.invariant.put c.in_ok-put_step.ensures.ok;
      faults_grow = omega (arith, c.loop-step.invariant.faults_grow, c.put_step.ensures.faults_grow);
    }
