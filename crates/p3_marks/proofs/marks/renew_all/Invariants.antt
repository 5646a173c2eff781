use Rattle.std.proofs.Common.{◌≡◌, take}
use Rattle.p3_marks.specs.Marked.{CanMark, renewed_all}
use Rattle.p3_marks.proofs.marks.renew_all.Given as goal

abbrev pub invariant-loop-reader : goal.invariant-loop-reader
invariant-loop-reader l = record {
  groups : l.groups.items ≡ renewed_all l.task l.next l.state l.fn.groups.items (take l.reader-index l.readers);
  can : CanMark l.task l.groups.items;
}
