use Rattle.std.proofs.Common.{◌≡◌, fold, None, take}
use Rattle.p3_limits.specs.Dear.{noted_action}
use Rattle.p3_limits.proofs.dear.UnitBound.noted_actions.Given as goal

abbrev pub invariant-loop-action : goal.invariant-loop-action
invariant-loop-action l = l.found ≡ fold (noted_action l.self.side l.self.places l.self.role) None (take l.action-index l.actions)
