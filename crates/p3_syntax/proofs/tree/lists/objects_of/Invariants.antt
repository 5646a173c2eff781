use Rattle.std.proofs.Common.{◌≡◌}
use Rattle.p3_task.specs.Grammar.Words.{name_place}
use Rattle.p3_task.specs.Grammar.Lists.{one_type_place, objects_in}
use Rattle.p3_outline.specs.Nodes.{expressions_of}
use Rattle.p3_syntax.specs.Groups.{each_item, groups_left, groups_size, typed_at}
use Rattle.p3_syntax.proofs.GroupLemmas.{front}
use Rattle.p3_syntax.proofs.tree.lists.objects_of.Given as goal

-- what is found and what is left make up the whole
abbrev pub invariant-loop-typed : goal.invariant-loop-typed
invariant-loop-typed l = front l.found (each_item (typed_at name_place one_type_place) (groups_left l.groups)) ≡ objects_in (expressions_of l.fn.parts)

abbrev pub decreases-loop-typed : goal.decreases-loop-typed
decreases-loop-typed l = groups_size l.groups
