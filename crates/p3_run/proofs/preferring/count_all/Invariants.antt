use Rattle.std.proofs.Common.{◌≡◌, ◌-◌, length, take}
use Rattle.std.specs.Prelude.{fold}
use Rattle.p3_run.specs.Steps.{added_if, HasRoom}
use Rattle.p3_run.proofs.preferring.count_all.Given as goal

abbrev pub invariant-loop-pref : goal.invariant-loop-pref
invariant-loop-pref l = record {
  are : l.tally ≡ fold (added_if l.state l.by_name) l.fn.tally (take l.pref-index l.prefs);
  room : HasRoom l.by_name (length l.prefs - l.pref-index) l.tally;
}
