use Rattle.std.proofs.Common.{ℕ, List}
use Rattle.std.proofs.lemmas.Result.{on_err_weaker, on_ok_weaker}
use Rattle.p3_reports.proofs.PutLemmas.{both_put, on_err, partly_first, partly_second}
use Rattle.p3_accounts.specs.Shares.{name_shares_text}
use Rattle.p3_accounts.specs.declared.share.NameShare.{NameShare}
use Rattle.p3_accounts.proofs.RowLemmas.{first_of_three, second_of_three, third_of_three, three_put, lent_partly, lent_put}
use Rattle.p3_accounts.proofs.shares.put_shares.Goals as goal

pub returns-in_err-put_quantity-clause-partly : goal.returns-in_err-put_quantity-clause-partly
returns-in_err-put_quantity-clause-partly g c = on_err c.from_residual.result (partly_first _ _ _ _ (first_of_three _ _ _ _ _ c.in_err-put_quantity.ensures.partly))

pub returns-in_err-put_name_shares-clause-partly : goal.returns-in_err-put_name_shares-clause-partly
returns-in_err-put_name_shares-clause-partly g c =
    let names : List NameShare → List ℕ = name_shares_text c.args.terms.now.numbers.now c.args.shares.now.places in
    let partly = lent_partly names c.items.ensures _ _ c.in_err-put_name_shares.ensures.partly in
    on_err c.from_residual-in_err-put_name_shares.result (partly_first _ _ _ _ (second_of_three _ _ _ _ _ _ c.in_ok-put_quantity.ensures.ok partly))

pub returns-in_err-put_cost_share-clause-partly : goal.returns-in_err-put_cost_share-clause-partly
returns-in_err-put_cost_share-clause-partly g c =
    let names : List NameShare → List ℕ = name_shares_text c.args.terms.now.numbers.now c.args.shares.now.places in
    let named = lent_put names c.items.ensures _ _ c.in_ok-put_name_shares.ensures.ok in
    on_err c.from_residual-in_err-put_cost_share.result (partly_first _ _ _ _ (third_of_three _ _ _ _ _ _ _ c.in_ok-put_quantity.ensures.ok named c.in_err-put_cost_share.ensures.partly))

pub returns-clause-ok : goal.returns-clause-ok
returns-clause-ok g c =
    let names : List NameShare → List ℕ = name_shares_text c.args.terms.now.numbers.now c.args.shares.now.places in
    let named = lent_put names c.items.ensures _ _ c.in_ok-put_name_shares.ensures.ok in
    on_ok_weaker c.put_ends.result (both_put _ _ _ _ _ (three_put _ _ _ _ _ _ _ c.in_ok-put_quantity.ensures.ok named c.in_ok-put_cost_share.ensures.ok)) c.put_ends.ensures.ok

pub returns-clause-partly : goal.returns-clause-partly
returns-clause-partly g c =
    let names : List NameShare → List ℕ = name_shares_text c.args.terms.now.numbers.now c.args.shares.now.places in
    let named = lent_put names c.items.ensures _ _ c.in_ok-put_name_shares.ensures.ok in
    on_err_weaker c.put_ends.result (partly_second _ _ _ _ _ (three_put _ _ _ _ _ _ _ c.in_ok-put_quantity.ensures.ok named c.in_ok-put_cost_share.ensures.ok)) c.put_ends.ensures.partly
