use Rattle.p3_reports.specs.Pieces.{piece_text}
use Rattle.p3_reports.proofs.PutLemmas.{all_joined, partly_joined, on_err}
use Rattle.p3_reports.proofs.piece.put_each.Goals as goal

pub returns-in_err-put_piece-clause-partly : goal.returns-in_err-put_piece-clause-partly
returns-in_err-put_piece-clause-partly g c =
    on_err c.from_residual.result
    (partly_joined piece_text c.args.pieces.now c.loop-piece.piece-index c.piece-item.result _ _ _ c.loop-piece-test.true c.piece-item.is c.loop-piece.invariant.put c.in_err-put_piece.ensures.partly)

pub returns-clause-ok : goal.returns-clause-ok
returns-clause-ok g c = all_joined piece_text c.args.pieces.now c.loop-piece.piece-index _ _ c.loop-piece-test.false c.loop-piece.invariant.put
