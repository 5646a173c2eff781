use Rattle.std.proofs.Common.{◌≡◌, [], take}
use Rattle.p3_task.specs.States.{meanings}
use Rattle.p3_numbers.specs.Keys.{told_all}
use Rattle.p3_numbers.proofs.digests.tell_terms.Given as goal

abbrev pub invariant-loop-term : goal.invariant-loop-term
invariant-loop-term l = l.digest.told ≡ told_all l.fn.digest.told (meanings [] (take l.term-index l.terms))
