use Rattle.std.proofs.Common.{◌≤◌, take}
use Rattle.std.specs.List.{flat_map}
use Rattle.p3_base.specs.Outside.{IsPut}
use Rattle.p3_reports.specs.Parts.{count_text}
use Rattle.p3_reports.proofs.part.put_violations.Given as goal

-- what comes before it is put
abbrev pub invariant-loop-entry : goal.invariant-loop-entry
invariant-loop-entry g l = record {
  put : IsPut (flat_map count_text (take l.entry-index l.counts)) (g.S.Sink.seen l.fn.out).written (g.S.Sink.seen l.out).written;
  faults_grow : (g.S.Sink.seen l.fn.out).faults ≤ (g.S.Sink.seen l.out).faults;
}
