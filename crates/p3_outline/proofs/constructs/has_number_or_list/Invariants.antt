use Rattle.std.proofs.Common.{◌≡◌, length}
use Rattle.std.specs.List.{list_any}
use Rattle.p3_task.specs.Refusals.Constructs.{is_number_or_list}
use Rattle.p3_outline.specs.Nodes.{expressions_of}
use Rattle.p3_outline.proofs.constructs.has_number_or_list.Given as goal

-- no part passed is a number or a list
abbrev pub invariant-loop-part : goal.invariant-loop-part
invariant-loop-part l = list_any is_number_or_list (expressions_of l.left) ≡ list_any is_number_or_list (expressions_of l.parts)

abbrev pub decreases-loop-part : goal.decreases-loop-part
decreases-loop-part l = length l.left.nodes.now
