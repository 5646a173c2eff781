use Rattle.std.proofs.lemmas.Result.{on_err_weaker}
use Rattle.p3_reports.proofs.PutLemmas.{on_err}
use Rattle.p3_accounts.proofs.RowLemmas.{first_of_three, second_of_three, third_of_three}
use Rattle.p3_accounts.proofs.heading.put_heading_line.Goals as goal

pub returns-in_err-put_items-clause-partly : goal.returns-in_err-put_items-clause-partly
returns-in_err-put_items-clause-partly g c = on_err c.from_residual.result (first_of_three _ _ _ _ _ c.in_err-put_items.ensures.partly)

pub returns-in_err-put_subject-clause-partly : goal.returns-in_err-put_subject-clause-partly
returns-in_err-put_subject-clause-partly g c = on_err c.from_residual-in_err-put_subject.result (second_of_three _ _ _ _ _ _ c.in_ok-put_items.ensures.ok c.in_err-put_subject.ensures.partly)

pub returns-clause-partly : goal.returns-clause-partly
returns-clause-partly g c = on_err_weaker c.put_said.result (third_of_three _ _ _ _ _ _ _ c.in_ok-put_items.ensures.ok c.in_ok-put_subject.ensures.ok) c.put_said.ensures.partly
