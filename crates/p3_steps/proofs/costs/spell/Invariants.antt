use Rattle.std.proofs.Common.{◌≡◌, take}
use Rattle.p3_numbers.specs.Slots.{values_of}
use Rattle.p3_steps.proofs.costs.spell.Given as goal

abbrev pub invariant-loop-arg : goal.invariant-loop-arg
invariant-loop-arg l = l.words.items ≡ values_of l.slots (take l.arg-index l.args)
