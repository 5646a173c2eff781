use Rattle.std.proofs.Common.{◌≡◌, ◌++◌, length, take}
use Rattle.std.specs.Prelude.{flat_map}
use Rattle.p3_numbers.specs.Slots.{bound}
use Rattle.p3_reasons.specs.Effects.{taken}
use Rattle.p3_reasons.proofs.effect.+taking.Given as goal

-- the literals of the parts passed are there
abbrev pub invariant-push_all_taken-loop-part : goal.invariant-push_all_taken-loop-part
invariant-push_all_taken-loop-part g l = l.taken ≡ l.fn.taken ++ flat_map (taken l.numbers (g.F.Facts.has_atom l.facts) l.slots) (take l.part-index l.parts)

abbrev pub invariant-push_each_taken-loop-choice : goal.invariant-push_each_taken-loop-choice
invariant-push_each_taken-loop-choice g l = record {
  outer : take (length l.slots) l.inner.items ≡ l.slots;
  taken : l.taken ≡ l.fn.taken ++ flat_map (λ inner. taken l.numbers (g.F.Facts.has_atom l.facts) inner l.body) (take l.choice (bound l.numbers l.slots l.ranges));
}
