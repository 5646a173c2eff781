use Rattle.std.proofs.Common.{◌≡◌, take}
use Rattle.std.specs.Prelude.{flat_map}
use Rattle.p3_expansion.specs.Statics.{changed_predicates, marked}
use Rattle.p3_expansion.proofs.changed.+marks.Given as goal

abbrev pub invariant-mark_parts-loop-part : goal.invariant-mark_parts-loop-part
invariant-mark_parts-loop-part l = l.marks ≡ marked l.fn.marks (flat_map changed_predicates (take l.part-index l.parts))
