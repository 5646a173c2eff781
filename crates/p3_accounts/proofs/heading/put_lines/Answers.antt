use Rattle.std.proofs.lemmas.Result.{on_err_weaker}
use Rattle.p3_reports.proofs.PutLemmas.{on_err, partly_first, partly_second}
use Rattle.p3_accounts.specs.Accounts.{heading_line}
use Rattle.p3_accounts.specs.States.{shown_text}
use Rattle.p3_accounts.specs.Vocabularies.{vocabulary}
use Rattle.p3_accounts.proofs.heading.put_lines.Goals as goal

pub returns-in_err-put_heading_line-clause-partly : goal.returns-in_err-put_heading_line-clause-partly
returns-in_err-put_heading_line-clause-partly g c =
    let V = vocabulary c.args.terms.now in
    let heading = c.args.heading.now in
    on_err c.from_residual.result (partly_first (heading_line V heading) (shown_text V heading.shown) _ _ c.in_err-put_heading_line.ensures.partly)

pub returns-clause-partly : goal.returns-clause-partly
returns-clause-partly g c =
    let V = vocabulary c.args.terms.now in
    let heading = c.args.heading.now in
    on_err_weaker c.put_shown.result (partly_second (heading_line V heading) (shown_text V heading.shown) _ _ _ c.in_ok-put_heading_line.ensures.ok) c.put_shown.ensures.partly
