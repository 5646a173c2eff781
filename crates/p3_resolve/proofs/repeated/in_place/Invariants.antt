use Rattle.std.proofs.Common.{◌≡◌, map, take}
use Rattle.p3_resolve.specs.Fitting.{AreInPlace}
use Rattle.p3_resolve.proofs.repeated.in_place.Given as goal

abbrev pub invariant-loop-item : goal.invariant-loop-item
invariant-loop-item l = record {
  declared : map (λ entry. entry.declared.now) l.entries.items ≡ map (λ item. item.now) (take l.item-index l.items);
  numbers : AreInPlace l.entries.items;
}
