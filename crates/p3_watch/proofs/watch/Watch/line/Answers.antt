use Rattle.std.proofs.Common.{arith}
use Rattle.p3_watch.proofs.AnswerLemmas.{bad_is, bad_within, blank_is, step_is, step_short, step_within}
use Rattle.p3_watch.proofs.watch.Watch.line.Goals as goal

pub returns-in-Blank-clause-answer : goal.returns-in-Blank-clause-answer
returns-in-Blank-clause-answer c = blank_is c.args.self.now.checked.now.task c.args.line.now c.args.self.now.run c.in-Blank.ensures

pub returns-in-Step-clause-answer : goal.returns-in-Step-clause-answer
returns-in-Step-clause-answer c =
    step_is c.args.self.now.checked.now.task c.args.line.now c.args.self.now.run c.in-Step.step c.step.new.self.run c.step.result c.step.ensures.answer c.in-Step.ensures

pub returns-in-Bad-clause-answer : goal.returns-in-Bad-clause-answer
returns-in-Bad-clause-answer c = bad_is c.args.self.now.checked.now.task c.args.line.now c.args.self.now.run c.in-Bad.refusal c.in-Bad.ensures

pub returns-in-Bad-clause-within : goal.returns-in-Bad-clause-within
returns-in-Bad-clause-within c = bad_within c.args.line.now c.in-Bad.refusal c.in-Bad.ensures

pub returns-in-Step-clause-within : goal.returns-in-Step-clause-within
returns-in-Step-clause-within c = step_within c.args.line.now c.in-Step.step c.step.result c.in-Step.ensures c.step.ensures.within

pub step-requires : goal.step-requires
step-requires c = record { short = (let less = step_short c.args.line.now c.in-Step.step c.in-Step.ensures in omega (arith, c.requires.short, less)) }
