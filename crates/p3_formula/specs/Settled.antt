-- Forms simplified where the values of some atoms are known: flattened, each literal once among the parts of a conjunction or a disjunction, and a constant where a literal stands beside its negation.
use Rattle.std.specs.Prelude.{◌≡◌, ℕ, ◌==◌, Bool, true, false, not, ◌||◌, if◌then◌else◌, List, [], ◌∷◌, ◌++◌, Option, None, Some}
use Rattle.std.specs.List.{flat_map}
use Rattle.p3_formula.specs.Folds.{fold_form}
use Rattle.p3_formula.specs.Forms.{State, is_set, truth}
use Rattle.p3_formula.specs.Literals.{literal, is_same, said_of}
use Rattle.p3_formula.specs.Simplified.{constant, is_value, joined, negated, one_part, spread}
use Rattle.p3_formula.specs.declared.form.Form.{Form, items-the_row-Form}
use Rattle.p3_formula.specs.declared.form.Form.TheVariants.{True, False, Atom, Not', And', Or'}
use Rattle.p3_formula.specs.declared.form.Form.TheOpen as layer
use Rattle.p3_formula.specs.declared.literals.Literal.{Literal}

-- ---- what is known of atoms

-- what is known is so in the state
abbrev pub Agrees : (ℕ → Option Bool) → State → Type 0
Agrees known state = (atom : ℕ) (bit : Bool) → known atom ≡ Some bit → is_set state atom ≡ bit

-- what is known, and one literal more
abbrev pub also : Option Literal → (ℕ → Option Bool) → ℕ → Option Bool
also None known = known
also (Some one) known = λ atom. if atom == one.atom then Some one.holds else known atom

-- the forms hold in the same ones of the states in which that is so
abbrev pub HasTruthUnder : (ℕ → Option Bool) → Form → Form → Type 0
HasTruthUnder known first second = (state : State) → Agrees known state → truth state first ≡ truth state second

-- ---- literals among parts

-- the atom of an atom or of its negation, and which of the two it is
abbrev pub denied_literal : Form → List Literal
denied_literal True = []
denied_literal False = []
denied_literal (Atom atom) = literal atom false ∷ []
denied_literal (Not' _ part) = []
denied_literal (And' _ parts) = []
denied_literal (Or' _ parts) = []

abbrev pub own_literal : Form → List Literal
own_literal True = []
own_literal False = []
own_literal (Atom atom) = literal atom true ∷ []
own_literal (Not' _ part) = denied_literal (one_part part)
own_literal (And' _ parts) = []
own_literal (Or' _ parts) = []

abbrev pub listed : Option Literal → List Literal
listed None = []
listed (Some one) = one ∷ []

abbrev pub says : Option Bool → Bool → Bool
says None bit = false
says (Some one) bit = is_same one bit

-- that literal stands among those of the parts, or its negation does
abbrev pub repeats_one : List Literal → List Literal → Bool
repeats_one literals [] = false
repeats_one literals (one ∷ _) = says (said_of literals one.atom) one.holds

abbrev pub clashes_one : List Literal → List Literal → Bool
clashes_one literals [] = false
clashes_one literals (one ∷ _) = says (said_of literals one.atom) (not one.holds)

abbrev pub repeats : List Form → Form → Bool
repeats kept part = repeats_one (flat_map own_literal kept) (own_literal part)

abbrev pub clashes : List Form → Form → Bool
clashes kept part = clashes_one (flat_map own_literal kept) (own_literal part)

-- ---- the parts of a conjunction or a disjunction

-- what a part of a disjunction consists of: its own parts, where it is one, and nothing where it never holds
abbrev pub spread_or : Form → List Form
spread_or True = True ∷ []
spread_or False = []
spread_or (Atom atom) = Atom atom ∷ []
spread_or (Not' shape part) = Not' shape part ∷ []
spread_or (And' shape parts) = And' shape parts ∷ []
spread_or (Or' shape parts) = items-the_row-Form _ parts

abbrev pub pieces : Bool → Form → List Form
pieces true part = spread part
pieces false part = spread_or part

-- beside the parts kept, this one settles the whole
abbrev pub closes : Bool → List Form → Form → Bool
closes every kept part = is_value (not every) part || clashes kept part

-- the parts kept so far, and one more where it is no literal that stands among them
abbrev pub kept_once : List Form → Form → List Form
kept_once kept part = if repeats kept part then kept else (kept ++ part ∷ [])

-- the parts kept so far and those to come, each literal once
abbrev pub gathered : Bool → List Form → List Form → Form
gathered every kept [] = joined every kept
gathered every kept (part ∷ rest) =
    if closes every kept part then constant (not every) else gathered every (kept_once kept part) rest

abbrev pub gathered_parts : Bool → List Form → Form
gathered_parts every parts = gathered every [] (flat_map (pieces every) parts)

-- ---- the form

abbrev pub settled_atom : ℕ → Option Bool → Form
settled_atom atom None = Atom atom
settled_atom atom (Some bit) = constant bit

abbrev pub settled_layer : (ℕ → Option Bool) → layer.Form-F Form → Form
settled_layer known layer.True = True
settled_layer known layer.False = False
settled_layer known (layer.Atom atom) = settled_atom atom (known atom)
settled_layer known (layer.Not part) = negated part
settled_layer known (layer.And parts) = gathered_parts true parts
settled_layer known (layer.Or parts) = gathered_parts false parts

unfoldable pub settled : (ℕ → Option Bool) → Form → Form
settled known form = fold_form (settled_layer known) form
