use Rattle.std.proofs.Common.{◌≤◌, take}
use Rattle.std.specs.List.{flat_map}
use Rattle.p3_base.specs.Outside.{IsPut}
use Rattle.p3_reports.specs.Explained.{reason_text}
use Rattle.p3_reports.proofs.explanation.put_reasons.Given as goal

-- what comes before it is put
abbrev pub invariant-loop-reason : goal.invariant-loop-reason
invariant-loop-reason g l = record {
  put : IsPut (flat_map reason_text (take l.reason-index l.reasons)) (g.S.Sink.seen l.fn.out).written (g.S.Sink.seen l.out).written;
  faults_grow : (g.S.Sink.seen l.fn.out).faults ≤ (g.S.Sink.seen l.out).faults;
}
