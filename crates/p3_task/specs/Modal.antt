-- The operators of trajectory constraints over formulas.
use Rattle.p3_base.specs.declared.operator.Operator.{Operator}
use Rattle.p3_task.specs.declared.formula.Formula.{Formula}

abbrev pub Modal : Type 0
Modal = Operator Formula
