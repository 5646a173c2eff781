use Rattle.std.proofs.Common.{◌≡◌, map, take}
use Rattle.p3_marks.specs.Marked.{begun}
use Rattle.p3_marks.proofs.group.Group.begin.Given as goal

abbrev pub invariant-loop-modal : goal.invariant-loop-modal
invariant-loop-modal l = l.marks.items ≡ map (begun l.state) (take l.modal-index l.modals)
