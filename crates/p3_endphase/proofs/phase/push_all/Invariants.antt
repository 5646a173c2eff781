use Rattle.std.proofs.Common.{◌≡◌, ◌++◌, length}
use Rattle.std.specs.Vec.Iter.{into_iter_items, into_iter_len}
use Rattle.p3_endphase.proofs.phase.push_all.Given as goal

-- the actions passed stand there, and they and those that are left are all
abbrev pub invariant-loop-action : goal.invariant-loop-action
invariant-loop-action l = record {
  whole : l.yielded ++ into_iter_items l.action-iterator ≡ into_iter_items l.initial.action-iterator;
  pushed : l.actions ≡ l.fn.actions ++ l.yielded;
  counted : into_iter_len l.action-iterator ≡ length (into_iter_items l.action-iterator);
}
