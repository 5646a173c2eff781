use Rattle.std.proofs.Common.{◌≡◌, take}
use Rattle.p3_run.specs.Pending.{AreTakenOf}
use Rattle.p3_marks.specs.Marked.{CanMark, named_by, renewed_all}
use Rattle.p3_marks.proofs.marks.follow_all.Given as goal

abbrev pub invariant-loop-place : goal.invariant-loop-place
invariant-loop-place l = record {
  groups : l.groups.items ≡ renewed_all l.task l.next l.state l.fn.groups.items (named_by l.readers (take l.place l.effects));
  can : CanMark l.task l.groups.items;
  taken : AreTakenOf l.effects l.place l.pending;
}
