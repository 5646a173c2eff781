use Rattle.std.proofs.Common.{take}
use Rattle.std.specs.List.{All}
use Rattle.p3_run.specs.Pending.{IsPending}
use Rattle.p3_run.proofs.pending.Pending.name_all.Given as goal

abbrev pub invariant-loop-change : goal.invariant-loop-change
invariant-loop-change l = All (IsPending l.self) (take l.change-index l.effects)
