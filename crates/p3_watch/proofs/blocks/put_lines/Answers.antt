use Rattle.std.proofs.Common.{◌≡◌, List, ℕ, ap, subst}
use Rattle.std.proofs.lemmas.Result.{on_err_weaker, on_ok_weaker}
use Rattle.p3_base.specs.Outside.{IsPartlyPut, IsPut}
use Rattle.p3_tree.specs.Reports.Plans.{fault_line}
use Rattle.p3_tree.specs.Reports.Watching.{judged_lines}
use Rattle.p3_task.specs.declared.task.Task.{Task}
use Rattle.p3_reports.specs.Faults.{fault_of}
use Rattle.p3_types.specs.declared.checked.Checked.{Checked}
use Rattle.p3_run.specs.Runs.{Ran}
use Rattle.p3_eval.specs.Runs.{OfRun}
use Rattle.p3_watch.proofs.BlockLemmas.{done_block, invalid_block, refused_block}
use Rattle.p3_watch.proofs.blocks.put_lines.Goals as goal

pub returns-in-Done-clause-partly : goal.returns-in-Done-clause-partly
returns-in-Done-clause-partly g c =
    let T = c.args.watch.now.checked.now.task in
    let ran = c.args.watch.now.run in
    let same : c.checked.result.now.task ≡ T = ap (λ (checked : Checked). checked.task) c.checked.ensures.checked in
    let Holds : List ℕ → Type 0 = λ bytes. IsPartlyPut bytes (g.S.Sink.seen c.args.out.now).written (g.S.Sink.seen c.put_judged.new.out).written in
    rw c.in-Done.is (on_err_weaker c.put_judged.result (λ put.
    done_block T c.args.text.now c.args.start.offset ran Holds
    (subst (λ (task : Task). OfRun task ran (λ plan. Holds (judged_lines task plan))) same
    (subst (λ (one : Ran). OfRun c.checked.result.now.task one (λ plan. Holds (judged_lines c.checked.result.now.task plan))) c.run.ensures put)))
    c.put_judged.ensures.partly)

pub returns-in-Invalid-clause-ok : goal.returns-in-Invalid-clause-ok
returns-in-Invalid-clause-ok g c =
    let Holds : List ℕ → Type 0 = λ bytes. IsPut bytes (g.S.Sink.seen c.args.out.now).written (g.S.Sink.seen c.put_fault.new.out).written in
    rw c.in-Invalid.is (on_ok_weaker c.put_fault.result (λ put.
    invalid_block c.args.watch.now.checked.now.task c.args.text.now c.args.start.offset c.args.watch.now.run Holds c.in-Invalid.fault
    (subst (λ named. Holds (fault_line (fault_of named))) c.named_fault.ensures put))
    c.put_fault.ensures.ok)

pub returns-in-Invalid-clause-partly : goal.returns-in-Invalid-clause-partly
returns-in-Invalid-clause-partly g c =
    let Holds : List ℕ → Type 0 = λ bytes. IsPartlyPut bytes (g.S.Sink.seen c.args.out.now).written (g.S.Sink.seen c.put_fault.new.out).written in
    rw c.in-Invalid.is (on_err_weaker c.put_fault.result (λ put.
    invalid_block c.args.watch.now.checked.now.task c.args.text.now c.args.start.offset c.args.watch.now.run Holds c.in-Invalid.fault
    (subst (λ named. Holds (fault_line (fault_of named))) c.named_fault.ensures put))
    c.put_fault.ensures.partly)

pub returns-in-Refused-clause-partly : goal.returns-in-Refused-clause-partly
returns-in-Refused-clause-partly g c =
    let Holds : List ℕ → Type 0 = λ bytes. IsPartlyPut bytes (g.S.Sink.seen c.args.out.now).written (g.S.Sink.seen c.put_refused.new.out).written in
    rw c.in-Refused.is (on_err_weaker c.put_refused.result (λ put.
    refused_block c.args.watch.now.checked.now.task c.args.text.now c.args.start.offset c.args.watch.now.run Holds c.in-Refused.refusal put)
    c.put_refused.ensures.partly)
