use Rattle.std.proofs.Common.{◌≡◌, ◌++◌}
use Rattle.p3_steps.specs.Candidates.{first_taken}
use Rattle.p3_steps.proofs.choices.push_all.Given as goal

-- of the objects passed those are taken that may come
abbrev pub invariant-loop-place : goal.invariant-loop-place
invariant-loop-place l = record {
  slots : l.slots.items ≡ l.fn.slots.items;
  taken : l.taken.items ≡ l.fn.taken.items ++ first_taken l.test.numbers.now l.test.statics.now l.test.goal.now l.fn.slots.items l.objects l.first l.place;
}
