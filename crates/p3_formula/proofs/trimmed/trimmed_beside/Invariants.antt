use Rattle.std.proofs.Common.{◌≡◌, ◌++◌, length}
use Rattle.std.specs.Vec.Iter.{into_iter_items, into_iter_len}
use Rattle.p3_formula.specs.Literals.{said_of}
use Rattle.p3_formula.specs.Trimmed.{trimmed_beside}
use Rattle.p3_formula.proofs.trimmed.trimmed_beside.Given as goal

-- the changes made, and what is made of those that are left, make up the whole
abbrev pub invariant-loop-change : goal.invariant-loop-change
invariant-loop-change l = record {
  whole : l.yielded ++ into_iter_items l.change-iterator ≡ into_iter_items l.initial.change-iterator;
  made : l.all.items ++ trimmed_beside (said_of l.known) l.cleared (into_iter_items l.change-iterator) ≡ trimmed_beside (said_of l.known) l.cleared (into_iter_items l.initial.change-iterator);
  counted : into_iter_len l.change-iterator ≡ length (into_iter_items l.change-iterator);
}
