use Rattle.std.proofs.Common.{◌≡◌, ◌+◌, ◌*◌, ◌≤◌, List, Option, length}
use Rattle.p3_task.specs.Names.{Name}
use Rattle.p3_outline.specs.Nodes.{expressions_of}
use Rattle.p3_outline.specs.Constructs.{least_with, the_around, constructs_in}
use Rattle.p3_outline.proofs.constructs.+below.Given as goal

abbrev pub decreases-all_in : goal.decreases-all_in
decreases-all_in l = 2 * length l.parts.nodes.now

abbrev pub decreases-below : goal.decreases-below
decreases-below l = 2 * length l.parts.nodes.now + 1

-- what is found and what is left make up the whole
abbrev pub invariant-all_in-loop-part : goal.invariant-all_in-loop-part
invariant-all_in-loop-part l = record {
  less : length l.left.nodes.now ≤ length l.fn.parts.nodes.now;
  finds : (names : List Name) (innermost : Option Name) → l.around ≡ the_around names innermost
      → least_with l.least (constructs_in names innermost (expressions_of l.left)) ≡ least_with l.initial.least (constructs_in names innermost (expressions_of l.parts));
}

abbrev pub decreases-all_in-loop-part : goal.decreases-all_in-loop-part
decreases-all_in-loop-part l = length l.left.nodes.now
