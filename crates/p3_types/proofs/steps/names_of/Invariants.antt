use Rattle.std.proofs.Common.{◌≡◌, take}
use Rattle.p3_numbers.specs.Slots.{object_names}
use Rattle.p3_types.proofs.steps.names_of.Given as goal

abbrev pub invariant-loop-object : goal.invariant-loop-object
invariant-loop-object l = l.names ≡ object_names l.numbers (take l.object-index l.objects)
