use Rattle.std.proofs.Common.{◌≡◌, map, take}
use Rattle.p3_task.specs.PreferenceNames.{ordered_names}
use Rattle.p3_reports.specs.Contents.{count_of}
use Rattle.p3_eval.specs.Runs.{OfRun}
use Rattle.p3_cli.proofs.report_parts.violations_of.Given as goal

abbrev pub invariant-loop-number : goal.invariant-loop-number
invariant-loop-number l =
    OfRun l.checked.task l.run (λ plan. l.found ≡ map (count_of l.checked.task plan) (take l.number (ordered_names l.checked.task)))
