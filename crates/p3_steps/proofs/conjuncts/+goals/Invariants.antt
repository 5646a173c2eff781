use Rattle.std.proofs.Common.{take}
use Rattle.p3_steps.specs.Conjuncts.{JoinsAllGoals}
use Rattle.p3_steps.proofs.conjuncts.+goals.Given as goal

-- the parts passed are joined
abbrev pub invariant-push_all_conjuncts-loop-part : goal.invariant-push_all_conjuncts-loop-part
invariant-push_all_conjuncts-loop-part l = JoinsAllGoals (take l.part-index l.parts) l.fn.found.items l.found.items
