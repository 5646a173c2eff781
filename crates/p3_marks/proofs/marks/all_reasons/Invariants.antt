use Rattle.std.proofs.Common.{◌≡◌, ◌++◌, take}
use Rattle.std.specs.List.{enumerate_from, flat_map}
use Rattle.p3_marks.specs.Marked.{group_at, shown_reasons, shown_soft, subject_by}
use Rattle.p3_marks.specs.declared.reasons.Owner.TheVariants as owner
use Rattle.p3_marks.proofs.marks.all_reasons.Given as goal

abbrev pub invariant-loop-instance : goal.invariant-loop-instance
invariant-loop-instance l =
    l.reasons ≡ shown_reasons l.count (group_at l.groups 0) (subject_by owner.Hard) l.task.hard ++ flat_map (shown_soft l.count l.groups) (enumerate_from 0 (take l.instance l.task.soft))
