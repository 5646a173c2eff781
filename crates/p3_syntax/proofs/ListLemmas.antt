-- Lists of variables and of objects, item by item.
use Rattle.std.proofs.Common.{◌≡◌, List}
use Rattle.p3_task.specs.Grammar.Words.{name_place, variable_place}
use Rattle.p3_task.specs.Grammar.Lists.{one_type_place, type_place, typed_item, objects_in, variables_in}
use Rattle.p3_task.specs.declared.expression.Expression.{Expression}
use Rattle.p3_syntax.specs.Groups.{all_grouped, each_item, typed_at}
use Rattle.p3_syntax.proofs.GroupLemmas.{grouped_each}

pub variables_each : (list : List Expression) → variables_in list ≡ each_item (typed_at variable_place type_place) (all_grouped list)
variables_each list = grouped_each variable_place type_place typed_item list

pub objects_each : (list : List Expression) → objects_in list ≡ each_item (typed_at name_place one_type_place) (all_grouped list)
objects_each list = grouped_each name_place one_type_place typed_item list
