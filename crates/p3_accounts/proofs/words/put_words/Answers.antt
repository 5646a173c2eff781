use Rattle.std.proofs.lemmas.Result.{on_err_weaker}
use Rattle.p3_reports.proofs.PutLemmas.{on_err}
use Rattle.p3_accounts.proofs.RowLemmas.{first_of_three, second_of_three, third_of_three}
use Rattle.p3_accounts.proofs.words.put_words.Goals as goal

pub returns-in_err-put_pieces-clause-partly : goal.returns-in_err-put_pieces-clause-partly
returns-in_err-put_pieces-clause-partly g c = on_err c.from_residual.result (first_of_three _ _ _ _ _ c.in_err-put_pieces.ensures.partly)

pub returns-in_err-put_all-clause-partly : goal.returns-in_err-put_all-clause-partly
returns-in_err-put_all-clause-partly g c = on_err c.from_residual-in_err-put_all.result (second_of_three _ _ _ _ _ _ c.in_ok-put_pieces.ensures.ok c.in_err-put_all.ensures.partly)

pub returns-clause-partly : goal.returns-clause-partly
returns-clause-partly g c = on_err_weaker c.put_pieces-2.result (third_of_three _ _ _ _ _ _ _ c.in_ok-put_pieces.ensures.ok c.in_ok-put_all.ensures.ok) c.put_pieces-2.ensures.partly
