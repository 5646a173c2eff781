-- Tidy forms: a constant stands only as the whole form, each conjunction and disjunction has two parts or more, and no negation stands directly under another.
use Rattle.std.specs.Prelude.{nat_le, Bool, true, false, not, ◌&&◌, ◌||◌, List, length}
use Rattle.std.specs.List.{list_all}
use Rattle.p3_formula.specs.Folds.{fold_form}
use Rattle.p3_formula.specs.declared.form.Form.{Form}
use Rattle.p3_formula.specs.declared.form.Form.TheVariants as form
use Rattle.p3_formula.specs.declared.form.Form.TheOpen.{Form-F, True, False, Atom, Not, And, Or}

abbrev pub is_constant : Form → Bool
is_constant form.True = true
is_constant form.False = true
is_constant _ = false

-- what a form is as a part of another
pub record Look : Type 0 where
  pub fits : Bool
  pub negation : Bool

abbrev pub look_of_parts : List Look → Look
look_of_parts parts = record { fits = nat_le 2 (length parts) && list_all (λ part. part.fits) parts; negation = false }

abbrev pub look_layer : Form-F Look → Look
look_layer True = record { fits = false; negation = false }
look_layer False = record { fits = false; negation = false }
look_layer (Atom atom) = record { fits = true; negation = false }
look_layer (Not part) = record { fits = part.fits && not part.negation; negation = true }
look_layer (And parts) = look_of_parts parts
look_layer (Or parts) = look_of_parts parts

unfoldable pub look : Form → Look
look form = fold_form look_layer form

-- a tidy form may be this form, or have it as a part
abbrev pub is_tidy_part : Form → Bool
is_tidy_part form = (look form).fits

abbrev pub is_tidy : Form → Bool
is_tidy form = is_constant form || is_tidy_part form
