use Rattle.std.proofs.Common.{◌≡◌, ◌++◌, ◌+◌, ◌*◌, length, map, sum_by}
use Rattle.std.specs.List.{flat_map}
use Rattle.std.specs.Vec.Iter.{into_iter_items, into_iter_len}
use Rattle.p3_formula.specs.Forms.{nodes}
use Rattle.p3_formula.specs.Literals.{said_of}
use Rattle.p3_formula.specs.Settled.{also, pieces, settled}
use Rattle.p3_formula.proofs.settled.+settle.Given as goal

-- the nodes that are left, twice, so that a list of parts has a place between a form and its parts
abbrev pub decreases-settled : goal.decreases-settled
decreases-settled l = 2 * nodes l.form

abbrev pub decreases-gathered_parts : goal.decreases-gathered_parts
decreases-gathered_parts l = 2 * sum_by nodes l.parts.items + 1

-- the pieces of the parts passed, and the parts that are left
abbrev pub invariant-gathered_parts-loop-part : goal.invariant-gathered_parts-loop-part
invariant-gathered_parts-loop-part l = record {
  whole : l.yielded ++ into_iter_items l.part-iterator ≡ into_iter_items l.initial.part-iterator;
  made : l.all.items ++ flat_map (pieces l.every) (map (settled (also l.own (said_of l.known))) (into_iter_items l.part-iterator)) ≡ flat_map (pieces l.every) (map (settled (also l.own (said_of l.known))) (into_iter_items l.initial.part-iterator));
  counted : into_iter_len l.part-iterator ≡ length (into_iter_items l.part-iterator);
}
