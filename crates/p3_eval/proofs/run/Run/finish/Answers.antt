use Rattle.std.proofs.Common.{◌≡◌, subst}
use Rattle.p3_task.specs.Validity.{first_fault}
use Rattle.p3_run.specs.Runs.{Ran}
use Rattle.p3_eval.specs.Runs.{OfItsPlan, fault_of}
use Rattle.p3_eval.proofs.RunKept.{told_verdict}
use Rattle.p3_eval.proofs.run.Run.finish.Goals as goal

pub returns : goal.returns
returns c =
    subst (λ (ran : Ran). OfItsPlan ran (λ T plan. first_fault T plan ≡ fault_of c.finish.result)) c.self.view_is
    (told_verdict c.self.inside.ground_run c.self.invariant c.finish.result c.finish.ensures.verdict)
