use Rattle.std.proofs.Common.{◌∙◌, ap, subst}
use Rattle.p3_cli.specs.Asked.{asked_inputs, asked_command}
use Rattle.p3_cli.specs.Ending.{Done}
use Rattle.p3_cli.specs.Outcome.{WriteFails}
use Rattle.p3_cli.specs.Store.{files, holding_all, writings}
use Rattle.p3_cli.specs.Texts.{all_made, all_texts}
use Rattle.p3_reports.specs.Reports.{report_text}
use Rattle.p3_cli.proofs.ResultLemmas.{if_err, if_ok}
use Rattle.p3_cli.proofs.RunLemmas.{accepts, all_accepted, done_leaves, rejected_comes, unwritten_comes, unwritten_leaves, watch_ends, watch_rejected}
use Rattle.p3_cli.proofs.call.carried_out.Goals as goal

pub returns-in-Watch-clause-ended : goal.returns-in-Watch-clause-ended
returns-in-Watch-clause-ended g c =
    let same = ap asked_inputs c.as_slice.ensures.value ∙ c.in_ok-inputs.ensures in
    if_ok c.follow.result
    (λ status. watch_ends (asked_command c.args.request.now) _ same (all_texts c.in-Ok.texts) c.in-Watch.is (g.F.Files.seen c.args.files.now) (g.F.Files.seen c.read_all.new.files)
    (g.S.Sink.seen c.args.out.now) (g.S.Sink.seen c.follow.new.out) status c.in-Ok.ensures.ok c.read_all.ensures.held_stays)
    c.follow.ensures.followed

pub returns-in-Watch-clause-comes : goal.returns-in-Watch-clause-comes
returns-in-Watch-clause-comes g c =
    let same = ap asked_inputs c.as_slice.ensures.value ∙ c.in_ok-inputs.ensures in
    let command = asked_command c.args.request.now in
    let texts = all_texts c.in-Ok.texts in
    if_err c.follow.result
    (λ how told. rejected_comes command _ same texts (g.F.Files.seen c.args.files.now) (g.F.Files.seen c.read_all.new.files) how c.in-Ok.ensures.ok (watch_rejected command _ same texts c.in-Watch.is how told))
    c.follow.ensures.err

pub returns-in-Err-product_of-clause-comes : goal.returns-in-Err-product_of-clause-comes
returns-in-Err-product_of-clause-comes g c =
    let same = ap asked_inputs c.as_slice.ensures.value ∙ c.in_ok-inputs.ensures in
    rejected_comes (asked_command c.args.request.now) _ same (all_texts c.in-Ok.texts) (g.F.Files.seen c.args.files.now) (g.F.Files.seen c.read_all.new.files)
    c.in-Err-product_of.ending c.in-Ok.ensures.ok c.in-Err-product_of.ensures.err

pub returns-clause-comes : goal.returns-clause-comes
returns-clause-comes g c =
    let seen = g.F.Files.seen in
    let same = ap asked_inputs c.as_slice.ensures.value ∙ c.in_ok-inputs.ensures in
    let made = c.in-Ok-product_of.product in
    let fails = subst (λ outs. WriteFails (writings outs (all_made made.made)) (seen c.read_all.new.files).held (seen c.write_all.new.files).held (seen c.read_all.new.files).write_faults (seen c.write_all.new.files).write_faults c.in-Err-write_all.ending)
    (ap (λ row. files row.writes c.args.request.now.writes.now) c.row_of.ensures) c.in-Err-write_all.ensures.err in
    unwritten_comes (asked_command c.args.request.now) _ same (all_texts c.in-Ok.texts) (all_made made.made) (report_text made.report) c.in-Ok-product_of.ensures.ok
    (seen c.args.files.now) (seen c.write_all.new.files) c.in-Err-write_all.ending _ _ c.in-Ok.ensures.ok c.read_all.ensures.write_faults_grow fails

pub returns-clause-leaves : goal.returns-clause-leaves
returns-clause-leaves g c =
    let seen = g.F.Files.seen in
    let same = ap asked_inputs c.as_slice.ensures.value ∙ c.in_ok-inputs.ensures in
    let made = c.in-Ok-product_of.product in
    let fails = subst (λ outs. WriteFails (writings outs (all_made made.made)) (seen c.read_all.new.files).held (seen c.write_all.new.files).held (seen c.read_all.new.files).write_faults (seen c.write_all.new.files).write_faults c.in-Err-write_all.ending)
    (ap (λ row. files row.writes c.args.request.now.writes.now) c.row_of.ensures) c.in-Err-write_all.ensures.err in
    unwritten_leaves (asked_command c.args.request.now) _ same (all_texts c.in-Ok.texts) (all_made made.made) (report_text made.report) c.in-Ok-product_of.ensures.ok
    (seen c.args.files.now).held (seen c.read_all.new.files).held (seen c.write_all.new.files).held _ _ c.in-Err-write_all.ending c.in-Ok.ensures.ok c.read_all.ensures.held_stays fails

pub returns-in-Ok-write_all-clause-ended : goal.returns-in-Ok-write_all-clause-ended
returns-in-Ok-write_all-clause-ended g c =
    let seen = g.F.Files.seen in
    let command = asked_command c.args.request.now in
    let same = ap asked_inputs c.as_slice.ensures.value ∙ c.in_ok-inputs.ensures in
    let texts = all_texts c.in-Ok.texts in
    let product = c.in-Ok-product_of.product in
    let made = all_made product.made in
    let report = report_text product.report in
    let produces = c.in-Ok-product_of.ensures.ok in
    let written = c.in-Ok-write_all.ensures.ok ∙ ap (λ row. holding_all (writings (files row.writes c.args.request.now.writes.now) made) (seen c.read_all.new.files).held) c.row_of.ensures in
    let left = done_leaves command _ same texts made report produces (seen c.args.files.now).held (seen c.read_all.new.files).held (seen c.write_all.new.files).held c.in-Ok.ensures.ok c.read_all.ensures.held_stays written in
    (Done report, record { answers = (all_accepted command _ same texts _ c.in-Ok.ensures.ok (accepts command _ same texts made report produces), left); tells = c.told.ensures })
