use Rattle.std.proofs.Common.{◌++◌, [], ◌∷◌}
use Rattle.std.proofs.lemmas.Result.{on_err_weaker}
use Rattle.p3_reports.specs.Pieces.{pieces_text}
use Rattle.p3_reports.proofs.PutLemmas.{both_put, on_err, partly_first, partly_second}
use Rattle.p3_reports.proofs.piece.put_both.Goals as goal

pub returns-in_err-put_each-clause-partly : goal.returns-in_err-put_each-clause-partly
returns-in_err-put_each-clause-partly g c =
    let first = pieces_text c.args.first.now in
    let second = pieces_text c.args.second.now in
    on_err c.from_residual.result
    (partly_first (first ++ second) (10 ∷ []) _ _ (partly_first first second _ _ c.in_err-put_each.ensures.partly))

pub returns-in_err-put_each-2-clause-partly : goal.returns-in_err-put_each-2-clause-partly
returns-in_err-put_each-2-clause-partly g c =
    let first = pieces_text c.args.first.now in
    let second = pieces_text c.args.second.now in
    on_err c.from_residual-in_err-put_each-2.result
    (partly_first (first ++ second) (10 ∷ []) _ _ (partly_second first second _ _ _ c.in_ok-put_each.ensures.ok c.in_err-put_each-2.ensures.partly))

pub returns-clause-partly : goal.returns-clause-partly
returns-clause-partly g c =
    let first = pieces_text c.args.first.now in
    let second = pieces_text c.args.second.now in
    on_err_weaker c.put_text.result
    (partly_second (first ++ second) (10 ∷ []) _ _ _ (both_put first second _ _ _ c.in_ok-put_each.ensures.ok c.in_ok-put_each-2.ensures.ok)) c.put_text.ensures.partly
