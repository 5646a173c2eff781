-- The operators of trajectory constraints over forms.
use Rattle.p3_base.specs.declared.operator.Operator.{Operator}
use Rattle.p3_formula.specs.declared.form.Form.{Form}

abbrev pub GroundModal : Type 0
GroundModal = Operator Form
