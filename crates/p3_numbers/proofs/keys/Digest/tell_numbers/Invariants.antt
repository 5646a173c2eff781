use Rattle.std.proofs.Common.{◌≡◌, take}
use Rattle.p3_numbers.specs.Keys.{told_numbers}
use Rattle.p3_numbers.proofs.keys.Digest.tell_numbers.Given as goal

abbrev pub invariant-loop-number : goal.invariant-loop-number
invariant-loop-number l = l.self.told ≡ told_numbers l.fn.self.told (take l.number-index l.numbers)
