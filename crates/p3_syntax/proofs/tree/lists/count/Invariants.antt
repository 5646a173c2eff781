use Rattle.std.proofs.Common.{◌≡◌, ◌+◌, ◌≤◌, length}
use Rattle.p3_outline.specs.Nodes.{expressions_of}
use Rattle.p3_syntax.proofs.tree.lists.count.Given as goal

-- those counted and those left make up all of them
abbrev pub invariant-loop-count : goal.invariant-loop-count
invariant-loop-count l = record {
  whole : l.count + length (expressions_of l.left) ≡ length (expressions_of l.fn.parts);
  nodes : l.count + length l.left.nodes.now ≤ length l.fn.parts.nodes.now;
}

abbrev pub decreases-loop-count : goal.decreases-loop-count
decreases-loop-count l = length l.left.nodes.now
