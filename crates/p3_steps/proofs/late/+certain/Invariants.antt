use Rattle.std.proofs.Common.{drop}
use Rattle.p3_steps.specs.Late.{PartsMayAlways}
use Rattle.p3_steps.proofs.late.+certain.Given as goal

-- the parts that are left decide
abbrev pub invariant-parts_may_always-loop-part : goal.invariant-parts_may_always-loop-part
invariant-parts_may_always-loop-part l = PartsMayAlways l.numbers l.statics l.every (drop l.part-index l.parts) l.wish → PartsMayAlways l.numbers l.statics l.every l.parts l.wish
