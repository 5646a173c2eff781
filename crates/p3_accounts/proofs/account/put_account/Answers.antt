use Rattle.std.proofs.Common.{ℕ, List}
use Rattle.std.specs.Prelude.{flat_map}
use Rattle.std.proofs.lemmas.Result.{on_err_weaker, on_ok_weaker}
use Rattle.p3_reports.proofs.PutLemmas.{on_err}
use Rattle.p3_accounts.specs.Accounts.{heading_text}
use Rattle.p3_accounts.specs.Vocabularies.{vocabulary}
use Rattle.p3_accounts.specs.declared.heading.Heading.{Heading}
use Rattle.p3_accounts.proofs.RowLemmas.{first_of_three, second_of_three, third_of_three, three_put, lent_partly, lent_put}
use Rattle.p3_accounts.proofs.account.put_account.Goals as goal

pub returns-in_err-put_verdict-clause-partly : goal.returns-in_err-put_verdict-clause-partly
returns-in_err-put_verdict-clause-partly g c = on_err c.from_residual.result (first_of_three _ _ _ _ _ c.in_err-put_verdict.ensures.partly)

pub returns-in_err-put_all-clause-partly : goal.returns-in_err-put_all-clause-partly
returns-in_err-put_all-clause-partly g c =
    let headings : List Heading → List ℕ = flat_map (heading_text (vocabulary c.args.terms.now)) in
    on_err c.from_residual-in_err-put_all.result (second_of_three _ _ _ _ _ _ c.in_ok-put_verdict.ensures.ok (lent_partly headings c.items.ensures _ _ c.in_err-put_all.ensures.partly))

pub returns-clause-ok : goal.returns-clause-ok
returns-clause-ok g c =
    let headings : List Heading → List ℕ = flat_map (heading_text (vocabulary c.args.terms.now)) in
    on_ok_weaker c.put_shares_of.result (three_put _ _ _ _ _ _ _ c.in_ok-put_verdict.ensures.ok (lent_put headings c.items.ensures _ _ c.in_ok-put_all.ensures.ok)) c.put_shares_of.ensures.ok

pub returns-clause-partly : goal.returns-clause-partly
returns-clause-partly g c =
    let headings : List Heading → List ℕ = flat_map (heading_text (vocabulary c.args.terms.now)) in
    on_err_weaker c.put_shares_of.result (third_of_three _ _ _ _ _ _ _ c.in_ok-put_verdict.ensures.ok (lent_put headings c.items.ensures _ _ c.in_ok-put_all.ensures.ok)) c.put_shares_of.ensures.partly
