use Rattle.std.proofs.Common.{◌≡◌, length}
use Rattle.p3_task.specs.Grammar.Words.{each_at, predicate_place}
use Rattle.p3_task.specs.Grammar.Halves.{header_place}
use Rattle.p3_outline.specs.Nodes.{expressions_of}
use Rattle.p3_syntax.proofs.Loops.{behind}
use Rattle.p3_syntax.proofs.tree.domains.predicates_of.Given as goal

-- what is found and what is left make up the whole
abbrev pub invariant-loop-view : goal.invariant-loop-view
invariant-loop-view l = behind l.found (each_at (header_place predicate_place) (expressions_of l.left)) ≡ each_at (header_place predicate_place) (expressions_of l.fn.parts)

abbrev pub decreases-loop-view : goal.decreases-loop-view
decreases-loop-view l = length l.left.nodes.now
