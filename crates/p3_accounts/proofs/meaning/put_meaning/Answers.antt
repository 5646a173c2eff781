use Rattle.std.proofs.lemmas.Result.{on_err_weaker}
use Rattle.p3_reports.proofs.PutLemmas.{on_err}
use Rattle.p3_accounts.proofs.RowLemmas.{first_of_three, second_of_three, third_of_three}
use Rattle.p3_accounts.proofs.meaning.put_meaning.Goals as goal

pub returns-in_err-put_items-clause-partly : goal.returns-in_err-put_items-clause-partly
returns-in_err-put_items-clause-partly g c = on_err c.from_residual.result (first_of_three _ _ _ _ _ c.in_err-put_items.ensures.partly)

pub returns-in_err-put_meant-clause-partly : goal.returns-in_err-put_meant-clause-partly
returns-in_err-put_meant-clause-partly g c = on_err c.from_residual-in_err-put_meant.result (second_of_three _ _ _ _ _ _ c.in_ok-put_items.ensures.ok c.in_err-put_meant.ensures.partly)

pub returns-clause-partly : goal.returns-clause-partly
returns-clause-partly g c = on_err_weaker c.put_items-2.result (third_of_three _ _ _ _ _ _ _ c.in_ok-put_items.ensures.ok c.in_ok-put_meant.ensures.ok) c.put_items-2.ensures.partly
