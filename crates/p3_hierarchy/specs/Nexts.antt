-- Types that are to be visited.
use Rattle.std.specs.Prelude.{List, All}
use Rattle.p3_task.specs.Names.{Name}
use Rattle.p3_hierarchy.specs.Walks.{IsNext}
use Rattle.p3_hierarchy.specs.declared.walk.Next.{Next}

abbrev pub AreNext : List (Name × Name) → List Name → List Next → Type 0
AreNext pairs names next = All (λ (one : Next). IsNext pairs names one.kind.now one.from) next
