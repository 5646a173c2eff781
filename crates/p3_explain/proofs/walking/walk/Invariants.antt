use Rattle.std.proofs.Common.{◌≡◌, take}
use Rattle.p3_eval.proofs.JudgeLaws.{with_done}
use Rattle.p3_explain.specs.Walked.{IsMarked}
use Rattle.p3_explain.proofs.walking.walk.Given as goal

-- the steps passed are done
abbrev pub invariant-loop-number : goal.invariant-loop-number
invariant-loop-number l = record {
  ran : l.run ≡ with_done l.fn.run (take l.number-index l.steps.numbers.items);
  marked : IsMarked l.run l.marks l.prefs;
}
