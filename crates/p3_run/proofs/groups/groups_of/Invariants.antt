use Rattle.std.proofs.Common.{◌≡◌, [], ◌∷◌, map, take}
use Rattle.std.specs.Prelude.{None}
use Rattle.p3_formula.specs.declared.modal.GroundSoft.{GroundSoft}
use Rattle.p3_run.specs.Groups.{watch_of}
use Rattle.p3_run.proofs.groups.groups_of.Given as goal

abbrev pub invariant-loop-soft : goal.invariant-loop-soft
invariant-loop-soft l = record {
  are : l.groups.items ≡ watch_of (l.task.initial ∷ []) None l.task.hard ∷ map (λ (soft : GroundSoft). watch_of (l.task.initial ∷ []) soft.name soft.parts) (take l.soft-index l.soft-items);
  items : l.soft-items ≡ l.task.soft;
}
