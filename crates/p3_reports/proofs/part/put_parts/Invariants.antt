use Rattle.std.proofs.Common.{◌≤◌, take}
use Rattle.std.specs.List.{flat_map}
use Rattle.p3_base.specs.Outside.{IsPut}
use Rattle.p3_reports.specs.Parts.{part_text}
use Rattle.p3_reports.proofs.part.put_parts.Given as goal

-- what comes before it is put
abbrev pub invariant-loop-part : goal.invariant-loop-part
invariant-loop-part g l = record {
  put : IsPut (flat_map part_text (take l.part-index l.parts)) (g.S.Sink.seen l.fn.out).written (g.S.Sink.seen l.out).written;
  faults_grow : (g.S.Sink.seen l.fn.out).faults ≤ (g.S.Sink.seen l.out).faults;
}
