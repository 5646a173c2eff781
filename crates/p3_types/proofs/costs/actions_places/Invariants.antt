use Rattle.std.proofs.Common.{◌≡◌, take}
use Rattle.p3_types.specs.Costs.{most_of, action_places}
use Rattle.p3_types.proofs.costs.actions_places.Given as goal

abbrev pub invariant-loop-action : goal.invariant-loop-action
invariant-loop-action l = l.most ≡ most_of action_places (take l.action-index l.actions)
