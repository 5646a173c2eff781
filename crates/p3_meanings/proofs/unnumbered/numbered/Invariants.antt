use Rattle.std.proofs.Common.{◌≡◌, ◌++◌, length}
use Rattle.std.specs.Vec.Iter.{into_iter_items, into_iter_len}
use Rattle.p3_meanings.specs.Heard.{numbered_from}
use Rattle.p3_meanings.proofs.unnumbered.numbered.Given as goal

-- those passed are numbered, and they and those that are left are all
abbrev pub invariant-loop-item : goal.invariant-loop-item
invariant-loop-item l = record {
  whole : l.yielded ++ into_iter_items l.item-iterator ≡ into_iter_items l.initial.item-iterator;
  meanings : l.meanings ≡ numbered_from 0 l.yielded;
  counted : into_iter_len l.item-iterator ≡ length (into_iter_items l.item-iterator);
}
