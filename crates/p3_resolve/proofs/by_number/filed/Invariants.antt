use Rattle.std.proofs.Common.{◌≡◌, length, map, take}
use Rattle.p3_hierarchy.specs.Objects.{object_names}
use Rattle.p3_hierarchy.specs.declared.declarations.Declaration.{Declaration}
use Rattle.p3_resolve.specs.ByNumber.{AreFiled}
use Rattle.p3_resolve.proofs.by_number.filed.Given as goal

abbrev pub invariant-loop-one : goal.invariant-loop-one
invariant-loop-one l = record {
  size : length l.table.items ≡ length (object_names l.objects.task.now);
  filed : AreFiled (object_names l.objects.task.now) (map (λ (one : Declaration). one.declared.now) (take l.one-index l.one-items)) l.table.items;
}
