use Rattle.std.proofs.Common.{◌≡◌, length, take, drop}
use Rattle.std.specs.List.{list_all}
use Rattle.p3_numbers.specs.Slots.{bound}
use Rattle.p3_steps.specs.Possible.{may_begin}
use Rattle.p3_steps.proofs.late.+begins.Given as goal

-- the parts that are left decide
abbrev pub invariant-goals_may-loop-part : goal.invariant-goals_may-loop-part
invariant-goals_may-loop-part l =
    list_all (λ part. may_begin l.numbers l.statics l.slots part) (drop l.part-index l.parts) ≡ list_all (λ part. may_begin l.numbers l.statics l.slots part) l.parts

-- the choices that are left decide
abbrev pub invariant-goal_bodies_may-loop-choice : goal.invariant-goal_bodies_may-loop-choice
invariant-goal_bodies_may-loop-choice l = record {
  outer : take (length l.slots) l.inner.items ≡ l.slots;
  left : list_all (λ inner. may_begin l.numbers l.statics inner l.body) (drop l.choice (bound l.numbers l.slots l.ranges)) ≡ list_all (λ inner. may_begin l.numbers l.statics inner l.body) (bound l.numbers l.slots l.ranges);
}
