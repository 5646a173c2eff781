use Rattle.std.proofs.Common.{not, ◌||◌, take}
use Rattle.std.specs.List.{list_all}
use Rattle.p3_formula.specs.Forms.{is_set}
use Rattle.p3_reach.specs.Closed.{step_keeps}
use Rattle.p3_reach.specs.Models.{Says}
use Rattle.p3_reach.proofs.reach.lead_steps.Given as goal

-- it is said of the steps passed
abbrev pub invariant-loop-step : goal.invariant-loop-step
invariant-loop-step l = Says (λ set. not (is_set set l.given) || list_all (step_keeps set) (take l.step-index l.steps)) l.fn.theory l.theory
