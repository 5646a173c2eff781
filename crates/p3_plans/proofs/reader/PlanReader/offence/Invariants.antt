use Rattle.std.proofs.Common.{◌≡◌, length}
use Rattle.p3_plans.specs.Steps.{left}
use Rattle.p3_plans.proofs.reader.PlanReader.offence.Given as goal

abbrev pub invariant-loop-refusal : goal.invariant-loop-refusal
invariant-loop-refusal l = (left l.self).offence ≡ (left l.initial.self).offence

abbrev pub decreases-loop-refusal : goal.decreases-loop-refusal
decreases-loop-refusal l = length (left l.self).steps
