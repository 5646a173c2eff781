use Rattle.std.proofs.Common.{◌≡◌, false, length}
use Rattle.p3_task.specs.Refusals.Constructs.{not_a_number}
use Rattle.p3_outline.specs.Nodes.{expressions_of}
use Rattle.p3_outline.specs.Constructs.{least_with}
use Rattle.p3_outline.proofs.constructs.not_a_number.Given as goal

-- what is found and what is left make up the whole
abbrev pub invariant-loop-part : goal.invariant-loop-part
invariant-loop-part l = least_with l.least (not_a_number l.is_behind (expressions_of l.left)) ≡ least_with l.initial.least (not_a_number false (expressions_of l.behind))

abbrev pub decreases-loop-part : goal.decreases-loop-part
decreases-loop-part l = length l.left.nodes.now
