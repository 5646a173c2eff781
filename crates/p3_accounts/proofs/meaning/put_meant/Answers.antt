use Rattle.std.proofs.Common.{ℕ, List, ◌++◌}
use Rattle.std.specs.Prelude.{codes}
use Rattle.std.specs.Fmt.{decimal}
use Rattle.std.proofs.lemmas.Result.{on_err_weaker}
use Rattle.p3_reports.proofs.PutLemmas.{on_err, partly_first, partly_second}
use Rattle.p3_accounts.proofs.RowLemmas.{lent_partly, lent_put}
use Rattle.p3_accounts.proofs.meaning.put_meant.Goals as goal

pub returns-in_err-put_items-clause-partly : goal.returns-in_err-put_items-clause-partly
returns-in_err-put_items-clause-partly g c =
    let name : List ℕ → List ℕ = λ letter. letter ++ decimal c.args.number ++ codes " " in
    on_err c.from_residual.result (partly_first _ _ _ _ (lent_partly name c.first_letter-letter.ensures _ _ c.in_err-put_items.ensures.partly))

pub returns-clause-partly : goal.returns-clause-partly
returns-clause-partly g c =
    let name : List ℕ → List ℕ = λ letter. letter ++ decimal c.args.number ++ codes " " in
    on_err_weaker c.put_sense.result (partly_second _ _ _ _ _ (lent_put name c.first_letter-letter.ensures _ _ c.in_ok-put_items.ensures.ok)) c.put_sense.ensures.partly
