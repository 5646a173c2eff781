use Rattle.std.proofs.Common.{◌≡◌, take}
use Rattle.std.specs.Prelude.{fold, flat_map}
use Rattle.p3_task.specs.Uses.{header_uses}
use Rattle.p3_resolve.specs.Spots.{use_step}
use Rattle.p3_resolve.proofs.whole.headers_walked.Given as goal

abbrev pub invariant-loop-header : goal.invariant-loop-header
invariant-loop-header l = l.after ≡ fold (use_step l.tables.task.now) l.fn.found (flat_map header_uses (take l.header-index l.headers))
