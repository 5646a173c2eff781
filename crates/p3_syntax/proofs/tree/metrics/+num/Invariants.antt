use Rattle.std.proofs.Common.{◌≡◌, length, ◌+◌, ◌*◌, ◌≤◌, ◌++◌, Some}
use Rattle.p3_task.specs.Grammar.Metrics.{num_place, trees_of}
use Rattle.p3_task.specs.Grammar.Words.{◌>>=◌}
use Rattle.p3_outline.specs.Nodes.{expressions_of}
use Rattle.p3_syntax.specs.Trees.{listed}
use Rattle.p3_syntax.proofs.tree.metrics.+num.Given as goal

abbrev pub decreases-num : goal.decreases-num
decreases-num l = 4 * length l.view.below.now + 4

abbrev pub decreases-num_by : goal.decreases-num_by
decreases-num_by l = 4 * length l.behind.nodes.now + 3

abbrev pub decreases-minus_form : goal.decreases-minus_form
decreases-minus_form l = 4 * length l.behind.nodes.now + 2

abbrev pub decreases-nums : goal.decreases-nums
decreases-nums l = 4 * length l.parts.nodes.now + 1

-- what is found and what is left make up the whole
abbrev pub invariant-nums-loop-view : goal.invariant-nums-loop-view
invariant-nums-loop-view l = record {
  less : length l.left.nodes.now ≤ length l.fn.parts.nodes.now;
  whole : (trees_of (listed num_place (expressions_of l.left)) >>= λ rest. Some (l.found ++ rest)) ≡ trees_of (listed num_place (expressions_of l.fn.parts));
}

abbrev pub decreases-nums-loop-view : goal.decreases-nums-loop-view
decreases-nums-loop-view l = length l.left.nodes.now
