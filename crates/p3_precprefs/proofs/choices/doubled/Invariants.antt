use Rattle.std.proofs.Common.{◌≡◌, ◌++◌, length}
use Rattle.std.specs.Vec.Iter.{into_iter_items, into_iter_len}
use Rattle.p3_precprefs.specs.Choices.{doubled}
use Rattle.p3_precprefs.proofs.choices.doubled.Given as goal

-- the choices passed are doubled, and they and those that are left are all
abbrev pub invariant-loop-choice : goal.invariant-loop-choice
invariant-loop-choice l = record {
  whole : l.yielded ++ into_iter_items l.choice-iterator ≡ into_iter_items l.initial.choice-iterator;
  made : l.new.items ≡ doubled l.body l.weight l.yielded;
  counted : into_iter_len l.choice-iterator ≡ length (into_iter_items l.choice-iterator);
}
