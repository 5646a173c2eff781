use Rattle.std.proofs.Common.{◌≡◌, Some, subst}
use Rattle.std.specs.Prelude.{slice_get}
use Rattle.p3_task.specs.Metrics.{violated}
use Rattle.p3_task.specs.Names.{Name}
use Rattle.p3_task.specs.PreferenceNames.{ordered_names}
use Rattle.p3_run.specs.Runs.{Ran}
use Rattle.p3_eval.specs.Runs.{OfItsPlan}
use Rattle.p3_eval.proofs.RunKept.{told_count}
use Rattle.p3_eval.proofs.run.Run.violations.Goals as goal

pub returns : goal.returns
returns c =
    subst (λ (ran : Ran). OfItsPlan ran (λ T plan. (word : Name) → slice_get (ordered_names T) c.args.name ≡ Some word → c.violations.result ≡ violated T plan word)) c.self.view_is
    (told_count c.self.inside.ground_run c.self.invariant c.args.name c.violations.result c.violations.ensures)
