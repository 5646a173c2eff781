use Rattle.std.proofs.Common.{◌≡◌, ◌++◌, length, map}
use Rattle.std.specs.Vec.Iter.{into_iter_items, into_iter_len}
use Rattle.p3_compile.specs.Parts.{copied_action}
use Rattle.p3_compile.proofs.parts.copied_actions.Given as goal

-- the copies passed have their actions, and they and those that are left are all
abbrev pub invariant-loop-copy : goal.invariant-loop-copy
invariant-loop-copy l = record {
  whole : l.yielded ++ into_iter_items l.copy-iterator ≡ into_iter_items l.initial.copy-iterator;
  made : l.actions ≡ map (copied_action l.number l.go) l.yielded;
  counted : into_iter_len l.copy-iterator ≡ length (into_iter_items l.copy-iterator);
}
