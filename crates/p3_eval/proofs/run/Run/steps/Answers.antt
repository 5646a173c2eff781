use Rattle.std.proofs.Common.{subst}
use Rattle.std.specs.Prelude.{IsTrue}
use Rattle.p3_task.specs.Plans.{steps_fit}
use Rattle.p3_run.specs.Runs.{Ran}
use Rattle.p3_eval.specs.Runs.{OfItsPlan}
use Rattle.p3_eval.proofs.RunKept.{fit}
use Rattle.p3_eval.proofs.run.Run.steps.Goals as goal

pub returns-clause-fit : goal.returns-clause-fit
returns-clause-fit c = subst (λ (ran : Ran). OfItsPlan ran (λ T plan. IsTrue (steps_fit T plan))) c.self.view_is (fit c.self.inside.ground_run c.self.invariant)
