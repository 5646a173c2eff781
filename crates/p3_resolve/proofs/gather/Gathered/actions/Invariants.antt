use Rattle.std.proofs.Common.{◌≡◌, take}
use Rattle.std.specs.Prelude.{flat_map}
use Rattle.p3_task.specs.PreferenceNames.{named_in_goal}
use Rattle.p3_resolve.specs.Listed.{more, action_lists}
use Rattle.p3_resolve.proofs.gather.Gathered.actions.Given as goal

abbrev pub invariant-loop-action : goal.invariant-loop-action
invariant-loop-action l = l.self ≡ more (flat_map action_lists (take l.action-index l.actions)) (flat_map (λ action. named_in_goal action.pre.body) (take l.action-index l.actions)) l.fn.self
