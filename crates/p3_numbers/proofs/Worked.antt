-- The worked cases compute.
use Rattle.std.proofs.Common.{refl}
use Rattle.p3_task.proofs.Computes.{trees_compute}
use Rattle.p3_numbers.specs.Slots.{tuples_of}
use Rattle.p3_numbers.specs.Conditions.{met, condition_of}
use Rattle.p3_numbers.specs.Worked.{small, AnInnerVariableHasASlotOfItsOwn, EqualTermsAreOneObject, ATypeWithoutObjects}
use Rattle.p3_numbers.specs.declared.condition.NumberedCondition.TheBlock.{hidden-the_row-NumberedCondition-0, hidden-the_row-NumberedCondition-1, shape-the_row-NumberedCondition-0, shape-the_row-NumberedCondition-1}

unfoldable conditions_compute : Unit {0}
unfolding trees_compute hidden-the_row-NumberedCondition-0 hidden-the_row-NumberedCondition-1 shape-the_row-NumberedCondition-0 shape-the_row-NumberedCondition-1 tuples_of met condition_of small
conditions_compute = trees_compute

pub an_inner_variable_has_a_slot_of_its_own : AnInnerVariableHasASlotOfItsOwn
unfolding conditions_compute
an_inner_variable_has_a_slot_of_its_own = record { condition = refl; of_all = refl; of_the_outer_type = refl }

pub equal_terms_are_one_object : EqualTermsAreOneObject
unfolding conditions_compute
equal_terms_are_one_object = record { two_objects = refl; found = refl; of_another_type = refl }

pub a_type_without_objects : ATypeWithoutObjects
unfolding conditions_compute
a_type_without_objects = record { some = refl; all = refl }
