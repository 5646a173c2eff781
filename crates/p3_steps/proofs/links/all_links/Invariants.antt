use Rattle.std.specs.List.{All}
use Rattle.p3_steps.specs.Links.{Tells}
use Rattle.p3_steps.proofs.links.all_links.Given as goal

abbrev pub invariant-loop-condition : goal.invariant-loop-condition
invariant-loop-condition l = All (Tells l.test.numbers.now l.test.statics.now l.test.goal.now l.count) l.all.items
