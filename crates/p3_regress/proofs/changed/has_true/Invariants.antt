use Rattle.std.proofs.Common.{◌≡◌, true, drop}
use Rattle.std.specs.List.{list_any}
use Rattle.p3_formula.specs.Simplified.{is_value}
use Rattle.p3_regress.proofs.changed.has_true.Given as goal

-- the forms that are left decide
abbrev pub invariant-loop-form : goal.invariant-loop-form
invariant-loop-form l = list_any (is_value true) (drop l.form-index l.forms) ≡ list_any (is_value true) l.forms
