use Rattle.std.proofs.Common.{sym, subst}
use Rattle.p3_run.specs.Runs.{Ran}
use Rattle.p3_eval.specs.Runs.{IsFaultOfAll, IsRun, IsStepped, OfItsStep}
use Rattle.p3_eval.proofs.RunKept.{stepped_is_run, told_misfit, told_step_fault}
use Rattle.p3_eval.proofs.run.Run.step.Goals as goal

pub invariant_of-self : goal.invariant_of-self
invariant_of-self c = subst IsRun (sym c.step.ensures.run) (stepped_is_run c.self.inside.ground_run c.args.number c.step.result c.self.invariant c.step.ensures.answer)

pub returns-clause-misfit : goal.returns-clause-misfit
returns-clause-misfit c =
    subst (λ (ran : Ran). OfItsStep ran c.args.number (IsStepped c.step.result)) c.self.view_is (told_misfit c.self.inside.ground_run c.self.invariant c.args.number c.step.result c.step.ensures.answer)

pub returns-clause-fault : goal.returns-clause-fault
returns-clause-fault c =
    subst (λ (ran : Ran). OfItsStep ran c.args.number (IsFaultOfAll c.step.result)) c.self.view_is (told_step_fault c.self.inside.ground_run c.self.invariant c.args.number c.step.result c.step.ensures.answer)
