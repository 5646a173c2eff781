use Rattle.std.proofs.Common.{◌≡◌, ◌++◌, length, Some}
use Rattle.p3_task.specs.Grammar.Words.{◌>>=◌, each_at}
use Rattle.p3_task.specs.Grammar.Lists.{object_place}
use Rattle.p3_outline.specs.Nodes.{expressions_of}
use Rattle.p3_syntax.proofs.tree.lists.object_terms.Given as goal

-- what is found and what is left make up the whole
abbrev pub invariant-loop-view : goal.invariant-loop-view
invariant-loop-view l = (each_at object_place (expressions_of l.left) >>= λ rest. Some (l.found ++ rest)) ≡ each_at object_place (expressions_of l.fn.parts)

abbrev pub decreases-loop-view : goal.decreases-loop-view
decreases-loop-view l = length l.left.nodes.now
