use Rattle.std.proofs.Common.{◌≡◌, take}
use Rattle.p3_run.specs.Groups.{renewed_all, CanRenew}
use Rattle.p3_run.proofs.groups.renew_all.Given as goal

abbrev pub invariant-loop-reader : goal.invariant-loop-reader
invariant-loop-reader l = record {
  groups : l.groups.items ≡ renewed_all l.task l.state l.fn.groups.items (take l.reader-index l.readers);
  can : CanRenew l.task l.by_name l.state l.groups.items l.tally;
}
