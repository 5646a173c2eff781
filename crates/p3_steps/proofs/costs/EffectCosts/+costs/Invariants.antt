use Rattle.std.proofs.Common.{◌≡◌, map, drop}
use Rattle.p3_task.specs.Costs.{total}
use Rattle.p3_steps.specs.Costs.{cost_of}
use Rattle.p3_steps.proofs.CostLemmas.{sum_with}
use Rattle.p3_steps.proofs.costs.EffectCosts.+costs.Given as goal

-- what is left makes up the whole
abbrev pub invariant-cost_of_all-loop-part : goal.invariant-cost_of_all-loop-part
invariant-cost_of_all-loop-part l =
    sum_with l.whole (total (map (cost_of l.self.places l.self.values.now l.slots) (drop l.part-index l.parts))) ≡ total (map (cost_of l.self.places l.self.values.now l.slots) l.parts)
