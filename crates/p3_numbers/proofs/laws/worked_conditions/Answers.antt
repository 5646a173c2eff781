use Rattle.p3_numbers.proofs.Worked.{an_inner_variable_has_a_slot_of_its_own, equal_terms_are_one_object, a_type_without_objects}
use Rattle.p3_numbers.proofs.laws.worked_conditions.Goals as goal

pub returns : goal.returns
returns c = record { hiding = an_inner_variable_has_a_slot_of_its_own; equality = equal_terms_are_one_object; empty_type = a_type_without_objects }
