use Rattle.std.proofs.Common.{◌≡◌, take}
use Rattle.std.specs.Prelude.{map}
use Rattle.p3_reports.specs.Explained.{named_in}
use Rattle.p3_eval.specs.Steps.{OfSteps}
use Rattle.p3_cli.proofs.explaining.named_reasons.Given as goal

-- those before it have their names
abbrev pub invariant-loop-reason : goal.invariant-loop-reason
invariant-loop-reason l = OfSteps l.grounded.checked.now.task l.steps (λ plan. l.named ≡ map (named_in l.grounded.checked.now.task plan) (take l.reason-index l.reasons))
