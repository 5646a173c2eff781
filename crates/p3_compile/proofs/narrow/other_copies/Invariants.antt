use Rattle.std.proofs.Common.{◌≡◌, ◌++◌, length}
use Rattle.std.specs.Vec.Iter.{into_iter_items, into_iter_len}
use Rattle.p3_compile.specs.Parts.{AreCopied}
use Rattle.p3_compile.proofs.narrow.other_copies.Given as goal

-- the copies passed are made, and they and those that are left are all
abbrev pub invariant-loop-copy : goal.invariant-loop-copy
invariant-loop-copy l = record {
  whole : l.yielded ++ into_iter_items l.copy-iterator ≡ into_iter_items l.initial.copy-iterator;
  copied : AreCopied l.effects l.yielded l.made.items;
  counted : into_iter_len l.copy-iterator ≡ length (into_iter_items l.copy-iterator);
}
