use Rattle.std.proofs.Common.{◌≡◌, drop}
use Rattle.std.specs.Prelude.{filter_map, slice_get}
use Rattle.p3_inapplicable.specs.Values.{first_missing}
use Rattle.p3_inapplicable.proofs.value.+missing.Given as goal

-- the first is in the parts that are left
abbrev pub invariant-missing_in_all-loop-part : goal.invariant-missing_in_all-loop-part
invariant-missing_in_all-loop-part l =
    slice_get (filter_map (first_missing l.costs.places l.costs.values.now l.slots) (drop l.part-index l.parts)) 0 ≡ slice_get (filter_map (first_missing l.costs.places l.costs.values.now l.slots) l.parts) 0
