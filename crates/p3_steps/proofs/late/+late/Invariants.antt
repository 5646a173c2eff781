use Rattle.std.proofs.Common.{take}
use Rattle.p3_steps.specs.Late.{JoinsAllLate}
use Rattle.p3_steps.proofs.late.+late.Given as goal

-- the parts passed are joined
abbrev pub invariant-push_all_late-loop-part : goal.invariant-push_all_late-loop-part
invariant-push_all_late-loop-part l = JoinsAllLate l.numbers l.statics (take l.part-index l.parts) l.fn.found.items l.found.items
