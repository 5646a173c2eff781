use Rattle.p3_types.specs.Finds.{IsStretch}
use Rattle.p3_types.proofs.finding.choice_number.Given as goal

abbrev pub invariant-loop-place : goal.invariant-loop-place
invariant-loop-place l = IsStretch l.numbers l.ranges l.args l.place l.stretch
