use Rattle.std.proofs.Common.{◌≤◌, take}
use Rattle.std.specs.List.{flat_map}
use Rattle.p3_base.specs.Outside.{IsPut}
use Rattle.p3_reports.specs.Pieces.{piece_text}
use Rattle.p3_reports.proofs.piece.put_each.Given as goal

-- what comes before it is put
abbrev pub invariant-loop-piece : goal.invariant-loop-piece
invariant-loop-piece g l = record {
  put : IsPut (flat_map piece_text (take l.piece-index l.pieces)) (g.S.Sink.seen l.fn.out).written (g.S.Sink.seen l.out).written;
  faults_grow : (g.S.Sink.seen l.fn.out).faults ≤ (g.S.Sink.seen l.out).faults;
}
