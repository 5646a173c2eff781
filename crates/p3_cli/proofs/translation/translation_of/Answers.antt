use Rattle.p3_cli.proofs.TranslationLemmas.{is_faithful, is_laid_out}
use Rattle.p3_cli.proofs.translation.translation_of.Goals as goal

pub returns-clause-text : goal.returns-clause-text
returns-clause-text c =
    let whole = c.args.whole in
    let made = c.in_ok-made.ensures in
    is_faithful whole.checked.task whole.ground_task whole.weights made.target c.requires made.is.compiled c.in_ok-made.made.domain.items c.in_ok-made.made.problem.items made.texts.domain_text made.texts.problem_text

pub returns-clause-layout : goal.returns-clause-layout
returns-clause-layout c =
    let whole = c.args.whole in
    let made = c.in_ok-made.ensures in
    is_laid_out whole.checked.task whole.ground_task whole.weights made.target c.requires made.is c.in_ok-made.made.domain.items c.in_ok-made.made.problem.items made.texts.domain made.texts.problem
