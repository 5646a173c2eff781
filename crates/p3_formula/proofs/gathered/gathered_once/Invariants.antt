use Rattle.std.proofs.Common.{◌≡◌, ◌++◌, [], length}
use Rattle.std.specs.List.{flat_map}
use Rattle.std.specs.Vec.Iter.{into_iter_items, into_iter_len}
use Rattle.p3_formula.specs.Settled.{gathered, own_literal}
use Rattle.p3_formula.proofs.gathered.gathered_once.Given as goal

-- what is kept and the pieces that are left make up the whole
abbrev pub invariant-loop-piece : goal.invariant-loop-piece
invariant-loop-piece l = record {
  whole : l.yielded ++ into_iter_items l.piece-iterator ≡ into_iter_items l.initial.piece-iterator;
  made : gathered l.every l.kept.items (into_iter_items l.piece-iterator) ≡ gathered l.every [] (into_iter_items l.initial.piece-iterator);
  seen : l.seen ≡ flat_map own_literal l.kept.items;
  counted : into_iter_len l.piece-iterator ≡ length (into_iter_items l.piece-iterator);
}
