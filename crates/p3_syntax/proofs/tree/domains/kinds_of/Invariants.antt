use Rattle.std.proofs.Common.{◌≡◌}
use Rattle.p3_outline.specs.Nodes.{expressions_of}
use Rattle.p3_syntax.specs.Groups.{each_item, groups_left, groups_size}
use Rattle.p3_syntax.specs.Domains.{kind_at, kinds_of}
use Rattle.p3_syntax.proofs.GroupLemmas.{front}
use Rattle.p3_syntax.proofs.tree.domains.kinds_of.Given as goal

-- what is found and what is left make up the whole
abbrev pub invariant-loop-typed : goal.invariant-loop-typed
invariant-loop-typed l = front l.found (each_item kind_at (groups_left l.groups)) ≡ kinds_of (expressions_of l.fn.parts)

abbrev pub decreases-loop-typed : goal.decreases-loop-typed
decreases-loop-typed l = groups_size l.groups
