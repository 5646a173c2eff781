use Rattle.std.specs.Prelude.{IfSome}
use Rattle.p3_steps.specs.Candidates.{RulesOut}
use Rattle.p3_steps.proofs.links.shortest_row.Given as goal

abbrev pub invariant-loop-links : goal.invariant-loop-links
invariant-loop-links l = IfSome l.shortest (λ objects. RulesOut l.test.numbers.now l.test.statics.now l.test.goal.now l.slots objects.now)
