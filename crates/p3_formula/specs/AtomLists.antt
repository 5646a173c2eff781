-- The atoms of forms and operators as lists.
use Rattle.std.specs.Prelude.{ℕ, List, [], ◌∷◌}
use Rattle.std.specs.List.{flat_map}
use Rattle.p3_formula.specs.Folds.{fold_form}
use Rattle.p3_base.specs.Operators.{formulas_of}
use Rattle.p3_formula.specs.declared.form.Form.{Form}
use Rattle.p3_formula.specs.declared.form.Form.TheOpen.{Form-F, True, False, Atom, Not, And, Or}
use Rattle.p3_formula.specs.GroundModal.{GroundModal}

abbrev pub atoms_layer : Form-F (List ℕ) → List ℕ
atoms_layer True = []
atoms_layer False = []
atoms_layer (Atom atom) = atom ∷ []
atoms_layer (Not part) = part
atoms_layer (And parts) = flat_map (λ part. part) parts
atoms_layer (Or parts) = flat_map (λ part. part) parts

-- the atoms that stand in a form, from left to right
unfoldable pub atoms_of : Form → List ℕ
atoms_of form = fold_form atoms_layer form

-- those of the formulas of an operator
abbrev pub modal_atoms : GroundModal → List ℕ
modal_atoms modal = flat_map atoms_of (formulas_of modal)
