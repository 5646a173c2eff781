use Rattle.std.proofs.Common.{◌≡◌, length}
use Rattle.p3_test_calls.proofs.reached.start.Given as goal

abbrev pub invariant-loop-atom : goal.invariant-loop-atom
invariant-loop-atom l = length l.state ≡ 100010
