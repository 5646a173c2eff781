use Rattle.p3_formula.specs.Forms.{AreBelow}
use Rattle.p3_test_calls.proofs.reached.wanted.Given as goal

abbrev pub invariant-loop-place : goal.invariant-loop-place
invariant-loop-place l = AreBelow 100010 l.parts
