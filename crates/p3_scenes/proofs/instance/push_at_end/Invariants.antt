use Rattle.std.proofs.Common.{◌≡◌, ◌++◌, length, map}
use Rattle.std.specs.Vec.Iter.{into_iter_items, into_iter_len}
use Rattle.p3_scenes.specs.Scenes.{at_end}
use Rattle.p3_scenes.specs.Seen.{seen_pref, seen_soft}
use Rattle.p3_scenes.proofs.instance.push_at_end.Given as goal

-- those passed stand there, and they and those that are left are all
abbrev pub invariant-loop-preference : goal.invariant-loop-preference
invariant-loop-preference l = record {
  whole : l.yielded ++ into_iter_items l.preference-iterator ≡ into_iter_items l.initial.preference-iterator;
  pushed : map seen_soft l.found ≡ map seen_soft l.fn.found ++ map at_end (map seen_pref l.yielded);
  counted : into_iter_len l.preference-iterator ≡ length (into_iter_items l.preference-iterator);
}
