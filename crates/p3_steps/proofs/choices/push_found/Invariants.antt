use Rattle.std.proofs.Common.{◌≡◌, ◌++◌, take}
use Rattle.std.specs.Prelude.{flat_map}
use Rattle.p3_steps.specs.Candidates.{taken_at}
use Rattle.p3_steps.proofs.choices.push_found.Given as goal

-- of the objects passed those are taken that may come
abbrev pub invariant-loop-place : goal.invariant-loop-place
invariant-loop-place l = record {
  slots : l.slots.items ≡ l.fn.slots.items;
  taken : l.taken.items ≡ l.fn.taken.items ++ flat_map (taken_at l.test.numbers.now l.test.statics.now l.test.goal.now l.fn.slots.items l.objects l.first) (take l.place-index l.found);
}
