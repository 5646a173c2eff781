use Rattle.std.proofs.Common.{◌≡◌, drop}
use Rattle.std.specs.List.{list_any, list_all}
use Rattle.p3_reach.specs.May.{may_be}
use Rattle.p3_reach.proofs.may.+may.Given as goal

-- the parts that are left decide
abbrev pub invariant-all_may_be-loop-part : goal.invariant-all_may_be-loop-part
invariant-all_may_be-loop-part l = list_all (may_be l.holds l.marks) (drop l.part-index l.parts) ≡ list_all (may_be l.holds l.marks) l.parts

abbrev pub invariant-some_may_be-loop-part : goal.invariant-some_may_be-loop-part
invariant-some_may_be-loop-part l = list_any (may_be l.holds l.marks) (drop l.part-index l.parts) ≡ list_any (may_be l.holds l.marks) l.parts
