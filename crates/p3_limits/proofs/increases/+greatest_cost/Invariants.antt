use Rattle.std.proofs.Common.{◌≡◌, drop}
use Rattle.p3_limits.specs.Cuts.{cut_total}
use Rattle.p3_limits.specs.Bounds.{greatest_cost}
use Rattle.p3_limits.proofs.increases.+greatest_cost.Given as goal

-- the effects that are left give the rest of the sum
abbrev pub invariant-greatest_costs-loop-effect : goal.invariant-greatest_costs-loop-effect
invariant-greatest_costs-loop-effect l =
    cut_total (greatest_cost l.task.task l.task.numbered.numbers.functions) l.total (drop l.effect-index l.effects)
    ≡ cut_total (greatest_cost l.task.task l.task.numbered.numbers.functions) 0 l.effects
