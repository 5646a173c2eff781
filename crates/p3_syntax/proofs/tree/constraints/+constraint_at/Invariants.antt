use Rattle.std.proofs.Common.{◌≡◌, length, ◌+◌, ◌*◌, ◌≤◌, ◌++◌, Some}
use Rattle.p3_task.specs.Grammar.Words.{◌>>=◌, each_at}
use Rattle.p3_outline.specs.Nodes.{expressions_of}
use Rattle.p3_syntax.specs.Trees.{constraint_at}
use Rattle.p3_syntax.proofs.tree.constraints.+constraint_at.Given as goal

abbrev pub decreases-constraint_at : goal.decreases-constraint_at
decreases-constraint_at l = 4 * length l.view.below.now + 4

abbrev pub decreases-constraint_by : goal.decreases-constraint_by
decreases-constraint_by l = 4 * length l.behind.nodes.now + 3

abbrev pub decreases-both_form : goal.decreases-both_form
decreases-both_form l = 4 * length l.behind.nodes.now + 2

abbrev pub decreases-each_form : goal.decreases-each_form
decreases-each_form l = 4 * length l.behind.nodes.now + 2

abbrev pub decreases-preference_form : goal.decreases-preference_form
decreases-preference_form l = 4 * length l.behind.nodes.now + 2

abbrev pub decreases-constraints : goal.decreases-constraints
decreases-constraints l = 4 * length l.parts.nodes.now + 1

-- what is found and what is left make up the whole
abbrev pub invariant-constraints-loop-view : goal.invariant-constraints-loop-view
invariant-constraints-loop-view l = record {
  less : length l.left.nodes.now ≤ length l.fn.parts.nodes.now;
  whole : (each_at (constraint_at l.may_be_soft) (expressions_of l.left) >>= λ rest. Some (l.found ++ rest)) ≡ each_at (constraint_at l.may_be_soft) (expressions_of l.fn.parts);
}

abbrev pub decreases-constraints-loop-view : goal.decreases-constraints-loop-view
decreases-constraints-loop-view l = length l.left.nodes.now
