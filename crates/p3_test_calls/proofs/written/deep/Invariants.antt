use Rattle.p3_formula.specs.Forms.{IsBelow}
use Rattle.p3_test_calls.proofs.written.deep.Given as goal

abbrev pub invariant-loop : goal.invariant-loop
invariant-loop l = IsBelow 2 l.form
