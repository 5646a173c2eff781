use Rattle.std.proofs.Common.{◌≡◌, take}
use Rattle.std.specs.Prelude.{flat_map}
use Rattle.p3_hierarchy.specs.Typings.{number_where_fit}
use Rattle.p3_hierarchy.proofs.kinds.Below.numbers_passing.Given as goal

abbrev pub invariant-loop-entry : goal.invariant-loop-entry
invariant-loop-entry l = l.numbers.items ≡ flat_map (number_where_fit l.self.task.now l.self.types.now) (take l.entry-index l.entries)
