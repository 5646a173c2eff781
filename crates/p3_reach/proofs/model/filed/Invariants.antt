use Rattle.std.proofs.Common.{◌≡◌, length, take}
use Rattle.p3_reach.specs.Derived.{AreFiled}
use Rattle.p3_reach.proofs.model.filed.Given as goal

-- the rules passed are filed
abbrev pub invariant-loop-rule : goal.invariant-loop-rule
invariant-loop-rule l = record {
  size : length l.files.items ≡ length l.theory.facts;
  filed : AreFiled (take l.rule-index l.theory.rules) l.files.items;
}
