use Rattle.std.proofs.Common.{◌≡◌, drop}
use Rattle.std.specs.List.{list_any}
use Rattle.p3_regress.specs.Sorted.{lent}
use Rattle.p3_regress.specs.Turned.{may_turn}
use Rattle.p3_regress.proofs.turning.+turning.Given as goal

-- the parts that are left decide
abbrev pub invariant-may_turn_some-loop-part : goal.invariant-may_turn_some-loop-part
invariant-may_turn_some-loop-part l = list_any (may_turn (lent l.changes) l.up) (drop l.part-index l.parts) ≡ list_any (may_turn (lent l.changes) l.up) l.parts
