use Rattle.std.proofs.Common.{◌≡◌, drop}
use Rattle.p3_task.specs.Names.{has_name}
use Rattle.p3_numbers.specs.Slots.{object_names}
use Rattle.p3_inapplicable.proofs.argument.has_object.Given as goal

-- the objects that are left decide
abbrev pub invariant-loop-object : goal.invariant-loop-object
invariant-loop-object l = has_name (object_names l.numbers (drop l.object-index l.objects)) l.name ≡ has_name (object_names l.numbers l.objects) l.name
