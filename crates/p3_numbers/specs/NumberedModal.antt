-- The operators of trajectory constraints over conditions.
use Rattle.p3_base.specs.declared.operator.Operator.{Operator}
use Rattle.p3_numbers.specs.declared.condition.NumberedCondition.{NumberedCondition}

abbrev pub NumberedModal : Type 0
NumberedModal = Operator NumberedCondition
