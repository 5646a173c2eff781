use Rattle.std.proofs.Common.{arith}
use Rattle.p3_gen.specs.Pieces.{piece_text}
use Rattle.p3_gen.proofs.PieceLemmas.{piece_more}
use Rattle.p3_gen.proofs.piece.push_pieces.Goals as goal

pub loop-number-preserved : goal.loop-number-preserved
loop-number-preserved c =
    rw (c.in_ok-push_piece.ensures, c.loop-number.invariant) (piece_more (piece_text c.args.piece) _ c.args.first c.loop-number.number (omega arith))
