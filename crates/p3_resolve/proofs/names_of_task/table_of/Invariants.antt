use Rattle.std.proofs.Common.{◌≡◌, take}
use Rattle.p3_task.specs.Types.{once_each}
use Rattle.p3_resolve.specs.Words.{names_in}
use Rattle.p3_resolve.proofs.names_of_task.table_of.Given as goal

abbrev pub invariant-loop-word : goal.invariant-loop-word
invariant-loop-word l = record {
  same : l.found ≡ l.names;
  names : l.names ≡ once_each (names_in (take l.word-index l.words));
}
