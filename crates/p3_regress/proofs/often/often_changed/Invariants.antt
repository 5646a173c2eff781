use Rattle.p3_regress.specs.Often.{AreNoted}
use Rattle.p3_regress.specs.Sorted.{lent}
use Rattle.p3_regress.proofs.often.often_changed.Given as goal

-- what is noted so far is right
abbrev pub invariant-loop-last : goal.invariant-loop-last
invariant-loop-last l = AreNoted (lent l.changes) l.noted.items
