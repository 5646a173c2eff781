use Rattle.std.proofs.Common.{◌++◌, subst}
use Rattle.std.specs.Prelude.{flat_map}
use Rattle.std.proofs.lemmas.Result.{on_err_weaker}
use Rattle.p3_base.specs.Outside.{IsPartlyPut}
use Rattle.p3_reports.proofs.PutLemmas.{on_err, partly_first, partly_second}
use Rattle.p3_accounts.specs.States.{literal_line, state_line}
use Rattle.p3_accounts.specs.Vocabularies.{vocabulary}
use Rattle.p3_accounts.proofs.state.ShownStatePrinted.put.Goals as goal

pub returns-in_err-put_state_line-clause-partly : goal.returns-in_err-put_state_line-clause-partly
returns-in_err-put_state_line-clause-partly g c =
    let V = vocabulary c.args.terms.now in
    let shown = c.args.self.now in
    on_err c.from_residual.result (partly_first (state_line V shown) (flat_map (literal_line V) shown.literals) _ _ c.in_err-put_state_line.ensures.partly)

pub returns-clause-partly : goal.returns-clause-partly
returns-clause-partly g c =
    let V = vocabulary c.args.terms.now in
    let first = state_line V c.args.self.now in
    on_err_weaker c.put_all.result
    (λ partly.
    subst (λ literals. IsPartlyPut (first ++ flat_map (literal_line V) literals) (g.S.Sink.seen c.args.out.now).written (g.S.Sink.seen c.put_all.new.out).written) c.items.ensures
    (partly_second first (flat_map (literal_line V) c.items.result.now) _ _ _ c.in_ok-put_state_line.ensures.ok partly))
    c.put_all.ensures.partly
