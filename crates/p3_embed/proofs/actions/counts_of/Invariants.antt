use Rattle.std.proofs.Common.{◌≡◌, map, take}
use Rattle.p3_formula.specs.Targets.{lifted_number}
use Rattle.p3_formula.specs.declared.target.TargetAction.{TargetAction}
use Rattle.p3_embed.proofs.actions.counts_of.Given as goal

-- the names passed are read
abbrev pub invariant-loop-action : goal.invariant-loop-action
invariant-loop-action l = l.counts.items ≡ map (λ (action : TargetAction). lifted_number l.task action.name) (take l.action-index l.actions)
