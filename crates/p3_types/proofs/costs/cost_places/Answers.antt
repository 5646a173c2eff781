use Rattle.std.proofs.Common.{◌∙◌, ap, max}
use Rattle.p3_types.specs.Costs.{most_of, action_places, entry_places}
use Rattle.p3_types.proofs.CostLemmas.{places_are}
use Rattle.p3_types.proofs.costs.cost_places.Goals as goal

pub returns : goal.returns
returns c =
    let amounts = c.actions_places-amounts.ensures ∙ ap (most_of action_places) c.items.ensures in
    let values = c.entries_places.ensures ∙ ap (most_of entry_places) c.items-2.ensures in
    c.max.ensures ∙ (λ i. max (amounts i) (values i)) ∙ places_are c.args.task.now
