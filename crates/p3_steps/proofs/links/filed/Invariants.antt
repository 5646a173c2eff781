use Rattle.std.proofs.Common.{take}
use Rattle.p3_steps.specs.Links.{AreFiled}
use Rattle.p3_steps.proofs.links.filed.Given as goal

-- the facts passed are filed
abbrev pub invariant-loop-number : goal.invariant-loop-number
invariant-loop-number l = AreFiled l.predicate l.key l.place (take l.number l.facts) l.files.items
