use Rattle.std.proofs.Common.{◌∙◌, ◌++◌, [], ◌∷◌, take, sym, ap, append_assoc}
use Rattle.p3_compile.specs.Stepping.{current_names}
use Rattle.p3_compile.proofs.WideSteps.{current_next}
use Rattle.p3_compile.proofs.begun.push_currents.Goals as goal

pub loop-step-preserved : goal.loop-step-preserved
loop-step-preserved c =
    let by_name = c.args.by_name.now in
    let passed = take c.loop-step.step-index c.args.steps.now in
    c.in_ok-push_current.ensures
    ∙ ap (λ names. names ++ current_names by_name (c.step-item.result ∷ [])) c.loop-step.invariant
    ∙ append_assoc c.args.names.now (current_names by_name passed) (current_names by_name (c.step-item.result ∷ []))
    ∙ ap (λ names. c.args.names.now ++ names) (sym (current_next c.args.steps.now c.loop-step.step-index c.step-item.result c.loop-step-test.true c.step-item.is by_name))
