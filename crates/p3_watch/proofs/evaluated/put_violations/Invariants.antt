use Rattle.std.proofs.Common.{◌≤◌, take}
use Rattle.std.specs.Prelude.{flat_map}
use Rattle.p3_base.specs.Outside.{IsPut}
use Rattle.p3_task.specs.PreferenceNames.{ordered_names}
use Rattle.p3_eval.specs.Runs.{OfRun}
use Rattle.p3_watch.specs.Violations.{violated_entry}
use Rattle.p3_watch.proofs.evaluated.put_violations.Given as goal

-- the lines of the names before it are put
abbrev pub invariant-loop-number : goal.invariant-loop-number
invariant-loop-number g l = record {
  put : OfRun l.checked.task l.run (λ plan. IsPut (flat_map (violated_entry l.checked.task plan) (take l.number (ordered_names l.checked.task))) (g.S.Sink.seen l.fn.out).written (g.S.Sink.seen l.out).written);
  faults_grow : (g.S.Sink.seen l.fn.out).faults ≤ (g.S.Sink.seen l.out).faults;
}
