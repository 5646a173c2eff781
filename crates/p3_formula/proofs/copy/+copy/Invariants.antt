use Rattle.std.proofs.Common.{◌≡◌, take}
use Rattle.p3_formula.proofs.copy.+copy.Given as goal

-- the forms passed stand copied
abbrev pub invariant-copied_all-loop-form : goal.invariant-copied_all-loop-form
invariant-copied_all-loop-form l = l.copies.items ≡ take l.form-index l.forms
