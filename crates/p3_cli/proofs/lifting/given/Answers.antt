use Rattle.p3_cli.specs.Texts.{all_texts}
use Rattle.p3_cli.proofs.SpelledLemmas.{lift_of_plan}
use Rattle.p3_cli.proofs.lifting.given.Goals as goal

pub returns-in-Err-clause-err : goal.returns-in-Err-clause-err
returns-in-Err-clause-err c =
    let both = c.in_ok-source in
    let one = both.ensures.source in
    let two = both.ensures.written in
    lift_of_plan (all_texts c.args.texts.now) both.source.checked.task (record { readable = one.readable; reads = one.task.reads })
    both.written.checked.task (record { readable = two.readable; reads = two.task.reads }) c.in-Err.ending c.in-Err.ensures.err
