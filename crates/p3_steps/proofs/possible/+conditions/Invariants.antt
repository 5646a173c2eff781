use Rattle.std.proofs.Common.{◌≡◌, true, length, take, drop}
use Rattle.p3_numbers.specs.Slots.{bound}
use Rattle.p3_expansion.specs.Meanings.{each_or_some}
use Rattle.p3_steps.specs.Possible.{condition_may}
use Rattle.p3_steps.proofs.possible.+conditions.Given as goal

-- the parts that are left decide
abbrev pub invariant-parts_may-loop-part : goal.invariant-parts_may-loop-part
invariant-parts_may-loop-part l =
    each_or_some l.every (λ part. condition_may l.numbers l.statics l.whole l.slots part l.wish) (drop l.part-index l.parts) ≡ each_or_some l.every (λ part. condition_may l.numbers l.statics l.whole l.slots part l.wish) l.parts

-- the choices that are left decide
abbrev pub invariant-bodies_of-loop-choice : goal.invariant-bodies_of-loop-choice
invariant-bodies_of-loop-choice l = record {
  outer : take (length l.slots) l.inner.items ≡ l.slots;
  left : each_or_some l.every (λ inner. condition_may l.numbers l.statics true inner l.body l.wish) (drop l.choice (bound l.numbers l.slots l.ranges))
      ≡ each_or_some l.every (λ inner. condition_may l.numbers l.statics true inner l.body l.wish) (bound l.numbers l.slots l.ranges);
}
