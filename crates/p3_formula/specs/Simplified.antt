-- What negating and simplifying make of a form, from what they make of its parts.
use Rattle.std.specs.Prelude.{Bool, true, false, not, if◌then◌else◌, List, [], ◌∷◌, ◌++◌}
use mathlib.Core.Former.{Count, one_more}
use Rattle.p3_formula.specs.declared.form.Form.{Form, Row_of-Form, more_of-Form, items-the_row-Form}
use Rattle.p3_formula.specs.declared.form.Form.TheVariants.{True, False, Atom, Not, And, Or, Not', And', Or'}

abbrev pub one_part : {n : Count} → Row_of-Form (one_more n) → Form
one_part (more_of-Form part rest) = part

-- the opposite, with no negation of a constant or of a negation
abbrev pub negated : Form → Form
negated True = False
negated False = True
negated (Atom atom) = Not (Atom atom)
negated (Not' _ part) = one_part part
negated (And' shape parts) = Not (And' shape parts)
negated (Or' shape parts) = Not (Or' shape parts)

abbrev pub constant : Bool → Form
constant true = True
constant false = False

-- the form is that constant
abbrev pub is_value : Bool → Form → Bool
is_value value True = value
is_value value False = not value
is_value value (Atom atom) = false
is_value value (Not' _ part) = false
is_value value (And' _ parts) = false
is_value value (Or' _ parts) = false

-- a conjunction of the parts, or else their disjunction
abbrev pub together : Bool → List Form → Form
together true parts = And parts
together false parts = Or parts

abbrev pub joined : Bool → List Form → Form
joined every [] = constant every
joined every (part ∷ []) = part
joined every (part ∷ other ∷ parts) = together every (part ∷ other ∷ parts)

-- what a part of a conjunction consists of: its own parts, where it is one, and nothing where it always holds
abbrev pub spread : Form → List Form
spread True = []
spread False = False ∷ []
spread (Atom atom) = Atom atom ∷ []
spread (Not' shape part) = Not' shape part ∷ []
spread (And' shape parts) = items-the_row-Form _ parts
spread (Or' shape parts) = Or' shape parts ∷ []

-- the conjunction of the parts kept and of one more, behind them
abbrev pub with_last : List Form → Form → Form
with_last kept part = if is_value false part then False else joined true (kept ++ spread part)
