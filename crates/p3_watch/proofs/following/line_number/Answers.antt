use Rattle.std.proofs.Common.{subst, sym}
use Rattle.p3_task.specs.Watching.{line_text}
use Rattle.p3_task.proofs.StepNumberLaws.{steps_have_numbers}
use Rattle.p3_eval.proofs.RefusalLaws.{well_formed_from}
use Rattle.p3_watch.specs.Watching.{IsNumberOfLine}
use Rattle.p3_watch.proofs.NumberLemmas.{of_step}
use Rattle.p3_watch.proofs.following.line_number.Goals as goal

pub returns-in-Step : goal.returns-in-Step
returns-in-Step c =
    let checked = c.args.task.now in
    let K = steps_have_numbers checked.task (well_formed_from checked.task checked.well_formed) in
    subst (IsNumberOfLine checked.task (line_text c.args.line.now)) (sym c.number_of.ensures)
    (of_step checked.task c.args.line.now K c.in-Step.step (line_text c.args.line.now) c.in-Step.ensures c.find_text.result c.find_text.ensures)
