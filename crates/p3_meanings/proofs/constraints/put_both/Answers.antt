use Rattle.std.proofs.Common.{List, ℕ}
use Rattle.std.specs.Prelude.{flat_map}
use Rattle.std.proofs.lemmas.Result.{on_err_weaker}
use Rattle.p3_accounts.specs.Meanings.{meaning_line}
use Rattle.p3_accounts.specs.Vocabularies.{vocabulary}
use Rattle.p3_accounts.specs.declared.meaning.Meaning.{Meaning}
use Rattle.p3_reports.proofs.PutLemmas.{on_err, partly_first, partly_second}
use Rattle.p3_accounts.proofs.RowLemmas.{lent_partly, lent_put}
use Rattle.p3_meanings.proofs.constraints.put_both.Goals as goal

pub returns-in_err-put_meanings-clause-partly : goal.returns-in_err-put_meanings-clause-partly
returns-in_err-put_meanings-clause-partly g c =
    let lines : List Meaning → List ℕ = flat_map (meaning_line (vocabulary c.args.telling.now.terms.now)) in
    on_err c.from_residual.result (partly_first _ _ _ _ (lent_partly lines c.items.ensures _ _ c.in_err-put_meanings.ensures.partly))

pub returns-clause-partly : goal.returns-clause-partly
returns-clause-partly g c =
    let lines : List Meaning → List ℕ = flat_map (meaning_line (vocabulary c.args.telling.now.terms.now)) in
    on_err_weaker c.put_meanings-2.result
    (λ partly. partly_second _ _ _ _ _ (lent_put lines c.items.ensures _ _ c.in_ok-put_meanings.ensures.ok) (lent_partly lines c.items-2.ensures _ _ partly)) c.put_meanings-2.ensures.partly
