use Rattle.std.proofs.Common.{◌≡◌, ◌≤◌, ◌-◌, drop, length}
use Rattle.p3_task.specs.Watching.{lines_from}
use Rattle.p3_watch.specs.Following.{IsFollowed}
use Rattle.p3_watch.specs.Lines.{IsStart}
use Rattle.p3_watch.specs.Watching.{AreLinesAsked}
use Rattle.p3_watch.proofs.following.follow.Given as goal

-- the blocks of the lines before it are put, and the run has done their steps
abbrev pub invariant-loop-start : goal.invariant-loop-start
invariant-loop-start g l = record {
  checked : l.watch.checked.now ≡ l.fn.watch.checked.now;
  start : IsStart l.text l.start;
  asked : AreLinesAsked l.fn.watch.checked.now.task l.watch.run.task (lines_from l.start.offset (drop l.start.offset l.text));
  follows : IsFollowed l.fn.watch.checked.now.task l.text (g.S.Sink.seen l.fn.out).written (g.S.Sink.seen l.out).written l.watch.run l.start.offset;
  faults_grow : (g.S.Sink.seen l.fn.out).faults ≤ (g.S.Sink.seen l.out).faults;
}

abbrev pub decreases-loop-start : goal.decreases-loop-start
decreases-loop-start g l = length l.text - l.start.offset
