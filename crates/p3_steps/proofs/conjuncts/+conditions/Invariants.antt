use Rattle.std.proofs.Common.{take}
use Rattle.p3_steps.specs.Conjuncts.{JoinsAll}
use Rattle.p3_steps.proofs.conjuncts.+conditions.Given as goal

-- the parts passed are joined
abbrev pub invariant-push_all_joined-loop-part : goal.invariant-push_all_joined-loop-part
invariant-push_all_joined-loop-part l = JoinsAll (take l.part-index l.parts) l.fn.found.items l.found.items
