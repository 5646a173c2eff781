use Rattle.std.proofs.Common.{◌≡◌, map, take}
use Rattle.p3_regress.specs.Regressed.{regressed}
use Rattle.p3_regress.specs.Sorted.{lent}
use Rattle.p3_regress.proofs.forms.+forms.Given as goal

-- the forms passed are regressed
abbrev pub invariant-forms_before-loop-form : goal.invariant-forms_before-loop-form
invariant-forms_before-loop-form l = l.befores.items ≡ map (regressed (lent l.changes)) (take l.form-index l.forms)
