use Rattle.std.proofs.Common.{◌∙◌, ap, subst}
use Rattle.std.proofs.lemmas.Result.{on_err_weaker, on_ok_weaker}
use Rattle.p3_base.specs.Outside.{IsPartlyPut, IsPut}
use Rattle.p3_tree.specs.Reports.Plans.{fault_line}
use Rattle.p3_reports.specs.Faults.{fault_of}
use Rattle.p3_reports.proofs.FaultLemmas.{fault_is}
use Rattle.p3_eval.specs.Judged.{fault_in}
use Rattle.p3_watch.proofs.EvaluatedLemmas.{judged_invalid, judged_valid}
use Rattle.p3_watch.proofs.evaluated.put_judged.Goals as goal

pub returns-in-None-clause-ok : goal.returns-in-None-clause-ok
returns-in-None-clause-ok g c =
    let T = c.args.checked.now.task in
    on_ok_weaker c.put_evaluated.result (λ put plan are.
    subst (λ text. IsPut text (g.S.Sink.seen c.args.out.now).written (g.S.Sink.seen c.put_evaluated.new.out).written)
    (judged_valid T plan (c.in-None.ensures.fault T c.requires.together plan are)) (put plan are))
    c.put_evaluated.ensures.ok

pub returns-in-None-clause-partly : goal.returns-in-None-clause-partly
returns-in-None-clause-partly g c =
    let T = c.args.checked.now.task in
    on_err_weaker c.put_evaluated.result (λ put plan are.
    subst (λ text. IsPartlyPut text (g.S.Sink.seen c.args.out.now).written (g.S.Sink.seen c.put_evaluated.new.out).written)
    (judged_valid T plan (c.in-None.ensures.fault T c.requires.together plan are)) (put plan are))
    c.put_evaluated.ensures.partly

pub returns-in-Some-clause-ok : goal.returns-in-Some-clause-ok
returns-in-Some-clause-ok g c =
    let T = c.args.checked.now.task in
    let fault = fault_in c.in-Some.fault in
    on_ok_weaker c.put_fault.result (λ put plan are.
    subst (λ text. IsPut text (g.S.Sink.seen c.args.out.now).written (g.S.Sink.seen c.put_fault.new.out).written)
    (ap (λ named. fault_line (fault_of named)) c.named_fault.ensures ∙ ap fault_line (fault_is fault) ∙ judged_invalid T plan fault (c.in-Some.ensures.fault T c.requires.together plan are)) put)
    c.put_fault.ensures.ok

pub returns-in-Some-clause-partly : goal.returns-in-Some-clause-partly
returns-in-Some-clause-partly g c =
    let T = c.args.checked.now.task in
    let fault = fault_in c.in-Some.fault in
    on_err_weaker c.put_fault.result (λ put plan are.
    subst (λ text. IsPartlyPut text (g.S.Sink.seen c.args.out.now).written (g.S.Sink.seen c.put_fault.new.out).written)
    (ap (λ named. fault_line (fault_of named)) c.named_fault.ensures ∙ ap fault_line (fault_is fault) ∙ judged_invalid T plan fault (c.in-Some.ensures.fault T c.requires.together plan are)) put)
    c.put_fault.ensures.partly
