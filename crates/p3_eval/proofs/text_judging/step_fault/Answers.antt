use Rattle.p3_eval.proofs.JudgeLemmas.{goes_on}
use Rattle.p3_eval.proofs.text_judging.step_fault.Goals as goal

pub returns-clause-goes : goal.returns-clause-goes
returns-clause-goes c =
    goes_on c.args.checked.now.task c.args.run.now c.follow.new.self c.args.text.now c.find_text.result c.follow.result c.requires.of.together (λ step spelled number has. c.requires.of.left_out number)
    c.find_text.ensures c.follow.ensures.told c.follow.ensures.ran
