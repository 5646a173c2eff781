-- The worked cases compute.
use Rattle.std.proofs.Common.{refl}
use Rattle.p3_task.proofs.Computes.{trees_compute}
use Rattle.p3_numbers.specs.Slots.{tuples_of}
use Rattle.p3_numbers.specs.Conditions.{condition_of}
use Rattle.p3_numbers.specs.Worked.{small}
use Rattle.p3_numbers.specs.declared.condition.NumberedCondition.TheBlock.{hidden-the_row-NumberedCondition-0, hidden-the_row-NumberedCondition-1, shape-the_row-NumberedCondition-0, shape-the_row-NumberedCondition-1}
use Rattle.p3_reasons.specs.Outcomes.{outcome}
use Rattle.p3_reasons.specs.Worked.{PartsThatDecide, ImplicationsThatAreDecided, QuantifiersThatAreDecided}

unfoldable decisions_compute : Unit {0}
unfolding trees_compute hidden-the_row-NumberedCondition-0 hidden-the_row-NumberedCondition-1 shape-the_row-NumberedCondition-0 shape-the_row-NumberedCondition-1 tuples_of condition_of small outcome
decisions_compute = trees_compute

pub parts_that_decide : PartsThatDecide
unfolding decisions_compute
parts_that_decide = record { both = refl; one_false = refl; one_true = refl; neither = refl }

pub implications_that_are_decided : ImplicationsThatAreDecided
unfolding decisions_compute
implications_that_are_decided = record { by_the_first = refl; by_the_second = refl; by_both = refl }

pub quantifiers_that_are_decided : QuantifiersThatAreDecided
unfolding decisions_compute
quantifiers_that_are_decided = record { by_one_object = refl; by_all_objects = refl; by_some_object = refl; by_nothing = refl; by_names = refl; by_names_alone = refl }
