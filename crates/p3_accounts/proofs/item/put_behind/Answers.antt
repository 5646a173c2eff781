use Rattle.std.proofs.Common.{◌++◌}
use Rattle.std.specs.Prelude.{codes}
use Rattle.std.specs.Fmt.{decimal}
use Rattle.std.proofs.lemmas.Result.{on_err_weaker, on_ok_weaker}
use Rattle.p3_reports.proofs.PutLemmas.{both_put, on_err, partly_first, partly_second}
use Rattle.p3_accounts.specs.Vocabularies.{vocabulary}
use Rattle.p3_accounts.specs.Words.{numbered_step_text}
use Rattle.p3_accounts.proofs.item.put_behind.Goals as goal

pub returns-in_err-put_pieces-clause-partly : goal.returns-in_err-put_pieces-clause-partly
returns-in_err-put_pieces-clause-partly g c =
    let number = codes "behind step " ++ decimal c.args.number ++ codes " " in
    let words = numbered_step_text (vocabulary c.args.terms.now) c.args.number in
    on_err c.from_residual.result (partly_first number words _ _ c.in_err-put_pieces.ensures.partly)

pub returns-clause-ok : goal.returns-clause-ok
returns-clause-ok g c =
    let number = codes "behind step " ++ decimal c.args.number ++ codes " " in
    let words = numbered_step_text (vocabulary c.args.terms.now) c.args.number in
    on_ok_weaker c.put_numbered.result (both_put number words _ _ _ c.in_ok-put_pieces.ensures.ok) c.put_numbered.ensures.ok

pub returns-clause-partly : goal.returns-clause-partly
returns-clause-partly g c =
    let number = codes "behind step " ++ decimal c.args.number ++ codes " " in
    let words = numbered_step_text (vocabulary c.args.terms.now) c.args.number in
    on_err_weaker c.put_numbered.result (partly_second number words _ _ _ c.in_ok-put_pieces.ensures.ok) c.put_numbered.ensures.partly
