use Rattle.std.proofs.Common.{◌≡◌, take}
use Rattle.p3_eval.proofs.JudgeLaws.{with_done}
use Rattle.p3_eval.proofs.run.Run.judge_steps.Given as goal

abbrev pub invariant-loop-number : goal.invariant-loop-number
invariant-loop-number l = l.self ≡ with_done l.fn.self (take l.number-index l.steps.numbers.items)
