use Rattle.std.proofs.Common.{◌≡◌, ◌≤◌, length, take}
use Rattle.p3_formula.specs.Weighted.{weighted}
use Rattle.p3_compile.proofs.weighing.width.Given as goal

-- the preferences passed are counted
abbrev pub invariant-loop-pref : goal.invariant-loop-pref
invariant-loop-pref l = record {
  counted : l.count ≡ length (weighted l.by_name (take l.pref-index l.step.prefs));
  few : l.count ≤ l.pref-index;
}
