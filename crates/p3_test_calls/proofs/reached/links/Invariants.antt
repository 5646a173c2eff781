use Rattle.std.proofs.Common.{◌≡◌, true}
use Rattle.std.specs.List.{list_all}
use Rattle.p3_formula.specs.Conditions.{is_step_below}
use Rattle.p3_test_calls.proofs.reached.links.Given as goal

abbrev pub invariant-loop-passed : goal.invariant-loop-passed
invariant-loop-passed l = list_all (is_step_below 100010) l.steps ≡ true
