use Rattle.std.proofs.Common.{◌≡◌, ◌+◌, drop}
use Rattle.std.specs.List.{prefix_len}
use Rattle.p3_outline.specs.Numbers.{is_no_point}
use Rattle.p3_outline.proofs.numbers.point_place.Given as goal

-- no byte passed is a point
abbrev pub invariant-loop-place : goal.invariant-loop-place
invariant-loop-place l = l.place + prefix_len is_no_point (drop l.place l.word) ≡ prefix_len is_no_point l.word
