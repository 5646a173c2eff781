use Rattle.std.proofs.Common.{take}
use Rattle.std.specs.List.{All}
use Rattle.p3_run.specs.Kept.{HasChangesUpTo}
use Rattle.p3_run.proofs.running.most_changes.Given as goal

abbrev pub invariant-loop-step : goal.invariant-loop-step
invariant-loop-step l = All (HasChangesUpTo l.most) (take l.step-index l.steps)
