use Rattle.std.proofs.Common.{◌≡◌, subst, sym, true}
use Rattle.std.specs.List.{list_all}
use Rattle.p3_task.specs.Plans.{Plan}
use Rattle.p3_plans.specs.Layout.{has_written_words}
use Rattle.p3_lift.specs.Lifting.{lifted_of}
use Rattle.p3_reports.specs.Reports.{report_text}
use Rattle.p3_cli.specs.Texts.{all_texts}
use Rattle.p3_cli.proofs.ProductLemmas.{is_lifting, its_lifted, unlifted_plan, written_plan}
use Rattle.p3_cli.proofs.WordLaws.{lifted_words}
use Rattle.p3_cli.proofs.lifting.lift.Goals as goal

pub returns-in-Err-clause-err : goal.returns-in-Err-clause-err
returns-in-Err-clause-err c =
    let given = c.in_ok-source in
    let says = given.ensures in
    unlifted_plan (all_texts c.args.texts.now) given.source.checked.task given.written.checked.task says.source says.written says.free given.steps says.are c.in-Err.fail c.in-Err.ensures.refused
    c.unlifted.result c.unlifted.ensures

pub lifting_of-requires-clause-words : goal.lifting_of-requires-clause-words
lifting_of-requires-clause-words c =
    let given = c.in_ok-source in
    let says = given.ensures in
    let texts = all_texts c.args.texts.now in
    let T = given.source.checked.task in
    let U = given.written.checked.task in
    let is = its_lifted texts T U says.source says.written says.free given.steps says.are (lifted_of T c.in-Ok.lifted) c.in-Ok.ensures.lifted in
    subst (λ (plan : Plan). list_all has_written_words plan ≡ true) (sym is.plan)
    (lifted_words texts.domain texts.problem T says.source.task.reads (written_plan texts T U says.source says.written says.free given.steps says.are).plan)

pub lifting_of-requires-clause-metric : goal.lifting_of-requires-clause-metric
lifting_of-requires-clause-metric c =
    let given = c.in_ok-source in
    let says = given.ensures in
    let T = given.source.checked.task in
    (its_lifted (all_texts c.args.texts.now) T given.written.checked.task says.source says.written says.free given.steps says.are (lifted_of T c.in-Ok.lifted) c.in-Ok.ensures.lifted).metric

pub returns-clause-means : goal.returns-clause-means
returns-clause-means c =
    let given = c.in_ok-source in
    let says = given.ensures in
    let T = given.source.checked.task in
    let made = c.in_ok-made in
    is_lifting (all_texts c.args.texts.now) T given.written.checked.task says.source says.written says.free given.steps says.are (lifted_of T c.in-Ok.lifted) c.in-Ok.ensures.lifted
    made.made.made.plan.items (report_text made.made.report) made.ensures.plan made.ensures.report
