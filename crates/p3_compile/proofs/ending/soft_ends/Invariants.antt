use Rattle.std.proofs.Common.{◌≡◌, ◌++◌, drop}
use Rattle.p3_compile.specs.Ending.{soft_ends}
use Rattle.p3_compile.specs.Monitored.{soft_modals}
use Rattle.p3_simulation.specs.Monitoring.{modals}
use Rattle.p3_compile.proofs.ending.soft_ends.Given as goal

-- the instances passed, and those that are left with the other monitors, are all
abbrev pub invariant-loop-one : goal.invariant-loop-one
invariant-loop-one l = record {
  whole : l.ends ++ soft_ends l.by_name (drop l.one-index l.soft) l.rest ≡ soft_ends l.by_name l.soft l.monitors;
  left : modals l.rest ≡ soft_modals (drop l.one-index l.soft);
}
