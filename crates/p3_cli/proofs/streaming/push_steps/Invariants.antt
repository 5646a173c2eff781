use Rattle.std.proofs.Common.{◌≡◌, ◌++◌, length}
use Rattle.std.specs.Vec.Iter.{into_iter_items, into_iter_len}
use Rattle.p3_cli.specs.Streaming.{HasWrittenSteps}
use Rattle.p3_cli.proofs.streaming.push_steps.Given as goal

-- the actions of the steps passed are written, and they and those that are left are all
abbrev pub invariant-loop-step : goal.invariant-loop-step
invariant-loop-step g l = record {
  whole : l.yielded ++ into_iter_items l.step-iterator ≡ into_iter_items l.initial.step-iterator;
  written : HasWrittenSteps l.begun l.weights l.yielded l.current l.fn.text l.text;
  counted : into_iter_len l.step-iterator ≡ length (into_iter_items l.step-iterator);
}
