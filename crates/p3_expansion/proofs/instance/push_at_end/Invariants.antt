use Rattle.std.proofs.Common.{◌≡◌, ◌++◌, length, map}
use Rattle.std.specs.Vec.Iter.{into_iter_items, into_iter_len}
use Rattle.p3_expansion.specs.Instances.{made_at_end}
use Rattle.p3_expansion.proofs.instance.push_at_end.Given as goal

-- those passed stand there, and they and those that are left are all
abbrev pub invariant-loop-preference : goal.invariant-loop-preference
invariant-loop-preference l = record {
  whole : l.yielded ++ into_iter_items l.preference-iterator ≡ into_iter_items l.initial.preference-iterator;
  pushed : l.made ≡ l.fn.made ++ map made_at_end l.yielded;
  counted : into_iter_len l.preference-iterator ≡ length (into_iter_items l.preference-iterator);
}
