-- The parts that a checked task keeps beside its trees.
use Rattle.std.specs.Prelude.{◌≡◌, ◌<◌, ◌^◌, length}
use Rattle.p3_task.specs.Costs.{cost_places}
use Rattle.p3_task.specs.declared.task.Task.{Task}
use Rattle.p3_numbers.specs.Tasks.{IsNumberedTask}
use Rattle.p3_types.specs.FirstSteps.{counts_of, firsts_from}
use Rattle.p3_types.specs.NameOrders.{action_names, IsNameOrder}
use Rattle.p3_types.specs.Tables.{greatest_values}
use Rattle.p3_types.specs.declared.parts.CheckedParts.{CheckedParts}

-- each is what it is called, for this task
pub record ArePartsOf (T : Task) (parts : CheckedParts) : Type 0 where
  pub numbered : IsNumberedTask T parts.numbered
  pub few : length parts.numbered.numbers.preferences < 2 ^ 32
  pub firsts : parts.first_steps.items ≡ firsts_from 0 (counts_of parts.numbered)
  pub actions : IsNameOrder (action_names T) parts.orders.actions.items
  pub objects : IsNameOrder parts.numbered.numbers.objects parts.orders.objects.items
  pub places : parts.costs.places ≡ cost_places T
  pub values : parts.costs.greatest.items ≡ greatest_values T parts.numbered.numbers.functions
