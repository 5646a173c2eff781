use Rattle.p3_cli.specs.Texts.{all_texts}
use Rattle.p3_cli.proofs.SpelledLemmas.{lift_of_written}
use Rattle.p3_cli.proofs.lifting.spelled_tasks.Goals as goal

pub returns-in-Err-clause-err : goal.returns-in-Err-clause-err
returns-in-Err-clause-err c =
    let source = c.in_ok-source in
    lift_of_written (all_texts c.args.texts.now) source.source source.ensures.spelled c.in-Err.ending c.in-Err.ensures.err
