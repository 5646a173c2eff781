use Rattle.std.proofs.Common.{◌≡◌, length, ◌+◌, ◌*◌, ◌≤◌, ◌++◌, Some}
use Rattle.p3_task.specs.Grammar.Words.{◌>>=◌, each_at}
use Rattle.p3_task.specs.Grammar.Goals.{goal_place}
use Rattle.p3_outline.specs.Nodes.{expressions_of}
use Rattle.p3_syntax.proofs.tree.goals.+goal.Given as goal

abbrev pub decreases-goal : goal.decreases-goal
decreases-goal l = 3 * length l.view.below.now + 3

abbrev pub decreases-goal_by : goal.decreases-goal_by
decreases-goal_by l = 3 * length l.behind.nodes.now + 2

abbrev pub decreases-each_form : goal.decreases-each_form
decreases-each_form l = 3 * length l.behind.nodes.now + 1

abbrev pub decreases-goals : goal.decreases-goals
decreases-goals l = 3 * length l.parts.nodes.now + 1

-- what is found and what is left make up the whole
abbrev pub invariant-goals-loop-view : goal.invariant-goals-loop-view
invariant-goals-loop-view l = record {
  less : length l.left.nodes.now ≤ length l.fn.parts.nodes.now;
  whole : (each_at goal_place (expressions_of l.left) >>= λ rest. Some (l.found ++ rest)) ≡ each_at goal_place (expressions_of l.fn.parts);
}

abbrev pub decreases-goals-loop-view : goal.decreases-goals-loop-view
decreases-goals-loop-view l = length l.left.nodes.now
