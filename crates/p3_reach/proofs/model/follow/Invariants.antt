use Rattle.std.proofs.Common.{take}
use Rattle.p3_reach.specs.Derived.{Follows}
use Rattle.p3_reach.proofs.model.follow.Given as goal

-- the rules passed were followed
abbrev pub invariant-loop-rule : goal.invariant-loop-rule
invariant-loop-rule l = Follows (take l.rule-index l.rules) l.fn.found l.found
