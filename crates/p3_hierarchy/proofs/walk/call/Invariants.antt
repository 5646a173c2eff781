use Rattle.std.specs.Prelude.{List, All}
use Rattle.p3_task.specs.Names.{Name}
use Rattle.p3_hierarchy.specs.Walks.{IsNext}
use Rattle.p3_hierarchy.specs.Nexts.{AreNext}
use Rattle.p3_hierarchy.proofs.walk.call.Given as goal

abbrev pub invariant-loop-kind : goal.invariant-loop-kind
invariant-loop-kind l = (pairs : List (Name × Name)) (names : List Name) → All (λ kind. IsNext pairs names kind.now l.from) l.kinds → AreNext pairs names l.fn.next.items → AreNext pairs names l.next.items
