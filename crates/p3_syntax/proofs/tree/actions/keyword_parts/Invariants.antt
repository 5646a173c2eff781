use Rattle.std.proofs.Common.{◌≡◌, map, length}
use Rattle.p3_task.specs.Grammar.Halves.{keyword_parts}
use Rattle.p3_outline.specs.Nodes.{expressions_of}
use Rattle.p3_syntax.specs.Actions.{the_part}
use Rattle.p3_syntax.proofs.Loops.{behind}
use Rattle.p3_syntax.proofs.tree.actions.keyword_parts.Given as goal

-- the parts so far come before those left
abbrev pub invariant-loop-key : goal.invariant-loop-key
invariant-loop-key l = behind (map the_part l.found.items) (keyword_parts (expressions_of l.left)) ≡ keyword_parts (expressions_of l.fn.parts)

abbrev pub decreases-loop-key : goal.decreases-loop-key
decreases-loop-key l = length l.left.nodes.now
