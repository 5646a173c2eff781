use Rattle.std.proofs.Common.{take}
use Rattle.std.specs.List.{All}
use Rattle.p3_steps.specs.Late.{MayAlwaysBegin}
use Rattle.p3_steps.proofs.late.+certain_goals.Given as goal

abbrev pub invariant-all_may_always_begin-loop-part : goal.invariant-all_may_always_begin-loop-part
invariant-all_may_always_begin-loop-part l = All (MayAlwaysBegin l.numbers l.statics) (take l.part-index l.parts)
