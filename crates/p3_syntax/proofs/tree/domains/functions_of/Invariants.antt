use Rattle.std.proofs.Common.{◌≡◌}
use Rattle.p3_outline.specs.Nodes.{expressions_of}
use Rattle.p3_syntax.specs.Groups.{each_item, groups_left, groups_size}
use Rattle.p3_syntax.specs.Domains.{function_at, functions_of}
use Rattle.p3_syntax.proofs.GroupLemmas.{front}
use Rattle.p3_syntax.proofs.tree.domains.functions_of.Given as goal

-- what is found and what is left make up the whole
abbrev pub invariant-loop-found : goal.invariant-loop-found
invariant-loop-found l = front l.found (each_item function_at (groups_left l.groups)) ≡ functions_of (expressions_of l.fn.parts)

abbrev pub decreases-loop-found : goal.decreases-loop-found
decreases-loop-found l = groups_size l.groups
