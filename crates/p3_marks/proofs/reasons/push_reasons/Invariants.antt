use Rattle.std.proofs.Common.{◌≡◌, ◌++◌, take}
use Rattle.p3_marks.specs.Marked.{shown_reasons, subject_by}
use Rattle.p3_marks.proofs.reasons.push_reasons.Given as goal

abbrev pub invariant-loop-place : goal.invariant-loop-place
invariant-loop-place l = l.reasons ≡ l.fn.reasons ++ shown_reasons l.count l.group (subject_by l.owner) (take l.place l.modals)
