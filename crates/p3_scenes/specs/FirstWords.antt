-- The first word that stands in a formula: that of a predicate, of a term or of a variable that is bound.
use Rattle.std.specs.Prelude.{ℕ, List, [], ◌∷◌, Option, Some, None}
use Rattle.p3_base.specs.Operators.{joined}
use Rattle.p3_task.specs.Folds.{fold_formula}
use Rattle.p3_task.specs.Modal.{Modal}
use Rattle.p3_task.specs.declared.formula.Formula.{Formula}
use Rattle.p3_task.specs.declared.formula.Formula.TheOpen as layer
use Rattle.p3_task.specs.declared.term.Term.{Term}
use Rattle.p3_task.specs.declared.term.Term.TheVariants.{Var, Const}
use Rattle.p3_task.specs.declared.term.Typed.{Typed}

-- the first of two, where there is one, and else the second
abbrev pub first_of : Option ℕ → Option ℕ → Option ℕ
first_of (Some at) other = Some at
first_of None other = other

-- the first that is there
abbrev pub first_in : List (Option ℕ) → Option ℕ
first_in [] = None
first_in (word ∷ words) = first_of word (first_in words)

abbrev pub term_at : Term → ℕ
term_at (Var variable) = variable.at
term_at (Const object) = object.at

abbrev pub first_variable : List Typed → Option ℕ
first_variable [] = None
first_variable (variable ∷ variables) = Some variable.name.at

abbrev pub first_word_layer : layer.Formula-F (Option ℕ) → Option ℕ
first_word_layer (layer.Atom pred args) = Some pred.at
first_word_layer (layer.Equal left right) = Some (term_at left)
first_word_layer (layer.And parts) = first_in parts
first_word_layer (layer.Or parts) = first_in parts
first_word_layer (layer.Not part) = part
first_word_layer (layer.Imply first second) = first_of first second
first_word_layer (layer.Exists variables body) = first_of (first_variable variables) body
first_word_layer (layer.Forall variables body) = first_of (first_variable variables) body

-- its offset, where there is one
unfoldable pub first_word : Formula → Option ℕ
first_word formula = fold_formula first_word_layer formula

-- that of an operator
abbrev pub first_word_of : Modal → Option ℕ
first_word_of modal = joined first_of first_word modal
