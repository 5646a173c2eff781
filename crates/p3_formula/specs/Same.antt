-- Whether two forms are the same, part by part.
use Rattle.std.specs.Prelude.{ℕ, ◌==◌, Bool, true, false, ◌&&◌, List, [], ◌∷◌}
use Rattle.p3_formula.specs.Folds.{fold_form}
use Rattle.p3_formula.specs.Simplified.{is_value, one_part}
use Rattle.p3_formula.specs.declared.form.Form.{Form, items-the_row-Form}
use Rattle.p3_formula.specs.declared.form.Form.TheVariants.{True, False, Atom, Not', And', Or'}
use Rattle.p3_formula.specs.declared.form.Form.TheOpen as layer

-- each of the forms passes the test at its place, and there are as many
abbrev pub each_passes : List (Form → Bool) → List Form → Bool
each_passes [] [] = true
each_passes [] (other ∷ others) = false
each_passes (part ∷ parts) [] = false
each_passes (part ∷ parts) (other ∷ others) = part other && each_passes parts others

-- the form is that atom; a negation of what passes; a conjunction, or a disjunction, of what passes
abbrev pub is_atom : ℕ → Form → Bool
is_atom atom True = false
is_atom atom False = false
is_atom atom (Atom other) = atom == other
is_atom atom (Not' _ other) = false
is_atom atom (And' _ others) = false
is_atom atom (Or' _ others) = false

abbrev pub is_negation : (Form → Bool) → Form → Bool
is_negation part True = false
is_negation part False = false
is_negation part (Atom other) = false
is_negation part (Not' _ other) = part (one_part other)
is_negation part (And' _ others) = false
is_negation part (Or' _ others) = false

abbrev pub is_conjunction : List (Form → Bool) → Form → Bool
is_conjunction parts True = false
is_conjunction parts False = false
is_conjunction parts (Atom other) = false
is_conjunction parts (Not' _ other) = false
is_conjunction parts (And' _ others) = each_passes parts (items-the_row-Form _ others)
is_conjunction parts (Or' _ others) = false

abbrev pub is_disjunction : List (Form → Bool) → Form → Bool
is_disjunction parts True = false
is_disjunction parts False = false
is_disjunction parts (Atom other) = false
is_disjunction parts (Not' _ other) = false
is_disjunction parts (And' _ others) = false
is_disjunction parts (Or' _ others) = each_passes parts (items-the_row-Form _ others)

abbrev pub same_layer : layer.Form-F (Form → Bool) → Form → Bool
same_layer layer.True = is_value true
same_layer layer.False = is_value false
same_layer (layer.Atom atom) = is_atom atom
same_layer (layer.Not part) = is_negation part
same_layer (layer.And parts) = is_conjunction parts
same_layer (layer.Or parts) = is_disjunction parts

unfoldable pub same_form : Form → Form → Bool
same_form form = fold_form same_layer form
