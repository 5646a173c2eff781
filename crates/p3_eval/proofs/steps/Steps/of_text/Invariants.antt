use Rattle.std.proofs.Common.{◌≡◌, None, length}
use Rattle.p3_task.specs.PlanTexts.{plan_offence}
use Rattle.p3_plans.specs.Steps.{left}
use Rattle.p3_eval.specs.Judging.{Follows}
use Rattle.p3_eval.proofs.steps.Steps.of_text.Given as goal

-- what is found of the steps counts only where the text turns out to have no offence
abbrev pub invariant-loop-slice : goal.invariant-loop-slice
invariant-loop-slice l = record {
  source : l.reader.source ≡ l.text;
  offence : (left l.reader).offence ≡ plan_offence l.text;
  follows : plan_offence l.text ≡ None → Follows l.task.task l.text l.numbers.items (left l.reader);
}

abbrev pub decreases-loop-slice : goal.decreases-loop-slice
decreases-loop-slice l = length (left l.reader).steps
