use Rattle.std.proofs.Common.{◌≡◌, length, take, false}
use Rattle.std.specs.Prelude.{flat_map, replicate}
use Rattle.p3_numbers.specs.declared.task.NumberedAction.{NumberedAction}
use Rattle.p3_expansion.specs.Statics.{changed_predicates, marked}
use Rattle.p3_expansion.proofs.changed.changed_bits.Given as goal

abbrev pub invariant-loop-action : goal.invariant-loop-action
invariant-loop-action l = l.marks ≡ marked (replicate (length l.task.numbers.predicates) false) (flat_map (λ (action : NumberedAction). changed_predicates action.effect) (take l.action-index l.task.actions))
