use Rattle.std.proofs.Common.{take}
use Rattle.std.specs.Prelude.{bytes_eq}
use Rattle.std.specs.HashMap.{get}
use Rattle.p3_hierarchy.specs.Typings.{AreNumbered, typings_of}
use Rattle.p3_hierarchy.proofs.declarations.filed.Given as goal

abbrev pub invariant-loop-entry : goal.invariant-loop-entry
invariant-loop-entry l = AreNumbered (typings_of (take l.entry-index l.entries)) (get (λ x y. bytes_eq x.now y.now) l.table)
