use Rattle.std.proofs.Common.{◌≡◌, drop}
use Rattle.p3_steps.specs.Conjuncts.{all_may}
use Rattle.p3_steps.proofs.conjuncts.Test.may_yet_begin.Given as goal

-- the conditions that are left decide
abbrev pub invariant-loop-condition : goal.invariant-loop-condition
invariant-loop-condition l =
    all_may l.self.numbers.now l.self.statics.now l.slots (drop l.condition-index l.self.conjuncts.items) ≡ all_may l.self.numbers.now l.self.statics.now l.slots l.self.conjuncts.items
