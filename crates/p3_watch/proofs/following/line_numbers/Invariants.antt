use Rattle.std.proofs.Common.{◌-◌, length}
use Rattle.p3_watch.specs.Lines.{IsStart}
use Rattle.p3_watch.proofs.NumberLemmas.{ArePassed}
use Rattle.p3_watch.proofs.following.line_numbers.Given as goal

-- the steps of the lines before it have their numbers
abbrev pub invariant-loop-start : goal.invariant-loop-start
invariant-loop-start l = record {
  start : IsStart l.text l.start;
  passed : ArePassed l.task.task l.text l.numbers.items l.start.offset;
}

abbrev pub decreases-loop-start : goal.decreases-loop-start
decreases-loop-start l = length l.text - l.start.offset
