-- The fold of a form. A meaning of a form is given by one layer of it, where each part stands as its own meaning.
use Rattle.std.specs.Prelude.{List, [], ◌∷◌}
use mathlib.Core.Former.{Count, one_more}
use Rattle.p3_formula.specs.declared.form.Form.{Form, Form-F, Row_of-Form, end_of-Form, more_of-Form}
use Rattle.p3_formula.specs.declared.form.Form.TheVariants as form
use Rattle.p3_formula.specs.declared.form.Form.TheOpen as layer

abbrev mutual
  pub fold_form : {A : Type 0} → (Form-F A → A) → Form → A
  fold_form step form.True = step layer.True
  fold_form step form.False = step layer.False
  fold_form step (form.Atom atom) = step (layer.Atom atom)
  fold_form step (form.Not' _ part) = step (layer.Not (fold_one_form step part))
  fold_form step (form.And' _ parts) = step (layer.And (fold_forms step parts))
  fold_form step (form.Or' _ parts) = step (layer.Or (fold_forms step parts))

  pub fold_forms : {A : Type 0} → (Form-F A → A) → {n : Count} → Row_of-Form n → List A
  fold_forms step end_of-Form = []
  fold_forms step (more_of-Form part rest) = fold_form step part ∷ fold_forms step rest

  pub fold_one_form : {A : Type 0} → (Form-F A → A) → {n : Count} → Row_of-Form (one_more n) → A
  fold_one_form step (more_of-Form part rest) = fold_form step part
