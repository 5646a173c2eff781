use Rattle.std.proofs.Common.{◌≡◌, drop}
use Rattle.std.specs.List.{list_all}
use Rattle.p3_formula.specs.Forms.{has_atoms, is_other}
use Rattle.p3_formula.proofs.atoms.+atoms.Given as goal

-- the forms that are left decide
abbrev pub invariant-all_are_free_of-loop-form : goal.invariant-all_are_free_of-loop-form
invariant-all_are_free_of-loop-form l = list_all (has_atoms (is_other l.atom)) (drop l.form-index l.forms) ≡ list_all (has_atoms (is_other l.atom)) l.forms
