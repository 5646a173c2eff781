use Rattle.p3_lift.proofs.StepLaws.{AreSoFar}
use Rattle.p3_lift.proofs.steps.copied_numbers.Given as goal

abbrev pub invariant-loop-number : goal.invariant-loop-number
invariant-loop-number l = AreSoFar l.source.task l.written.task l.numbers l.number-index l.copied.items
