use Rattle.std.proofs.Common.{◌≡◌, drop}
use Rattle.p3_plans.specs.Laws.{all_of}
use Rattle.p3_plans.specs.Steps.{left}
use Rattle.p3_inapplicable.proofs.wording.step_slice.Given as goal

-- what is left are the steps that were not passed
abbrev pub invariant-loop-passed : goal.invariant-loop-passed
invariant-loop-passed l = record {
  source : l.reader.source ≡ l.text;
  steps : (left l.reader).steps ≡ drop l._passed (all_of l.text).steps;
}
