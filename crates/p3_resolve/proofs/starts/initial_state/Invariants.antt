use Rattle.std.proofs.Common.{◌≡◌, take}
use Rattle.std.specs.Prelude.{filter_map}
use Rattle.p3_numbers.specs.Starts.{entry_fact, entry_value}
use Rattle.p3_resolve.specs.NumbersOf.{numbers_of}
use Rattle.p3_resolve.specs.Walk.{uses_of_each, uses_of_entry, with_tree}
use Rattle.p3_resolve.proofs.starts.initial_state.Given as goal

abbrev pub invariant-loop-one : goal.invariant-loop-one
invariant-loop-one l = record {
  walk : l.walk ≡ with_tree l.tables.task.now (uses_of_each uses_of_entry (take l.one-index l.entries)) l.fn.walk;
  facts : l.made.facts ≡ filter_map (entry_fact (numbers_of l.tables)) (take l.one-index l.entries);
  values : l.made.values ≡ filter_map (entry_value (numbers_of l.tables)) (take l.one-index l.entries);
}
