-- The literals that a form fixes, and what literals say of an atom.
use Rattle.std.specs.Prelude.{ℕ, ◌==◌, Bool, true, false, not, if◌then◌else◌, List, [], ◌∷◌, ◌++◌, map, Option, None, Some, is_some}
use Rattle.std.specs.List.{flat_map}
use Rattle.indexmap.specs.IndexMap.{IndexMap}
use Rattle.p3_formula.specs.Folds.{fold_form}
use Rattle.p3_formula.specs.Forms.{State, is_set}
use Rattle.p3_formula.specs.declared.form.Form.{Form}
use Rattle.p3_formula.specs.declared.form.Form.TheOpen.{Form-F, True, False, Atom, Not, And, Or}
use Rattle.p3_formula.specs.declared.literals.Literal.{Literal}

abbrev pub literal : ℕ → Bool → Literal
literal atom holds = record { atom = atom; holds = holds }

-- both are true, or both are false
abbrev pub is_same : Bool → Bool → Bool
is_same true bit = bit
is_same false bit = not bit

-- the literal holds in the state
abbrev pub is_met : State → Literal → Bool
is_met state literal = is_same literal.holds (is_set state literal.atom)

-- what parts fix, where all of them have that truth where the whole has it: of a conjunction where it holds, of a disjunction where it does not
abbrev pub of_parts : Bool → Bool → List (Bool → List Literal) → List Literal
of_parts every holds parts = if is_same every holds then flat_map (λ part. part every) parts else []

abbrev pub fixed_layer : Form-F (Bool → List Literal) → Bool → List Literal
fixed_layer True holds = []
fixed_layer False holds = []
fixed_layer (Atom atom) holds = literal atom holds ∷ []
fixed_layer (Not part) holds = part (not holds)
fixed_layer (And parts) holds = of_parts true holds parts
fixed_layer (Or parts) holds = of_parts false holds parts

-- the literals that hold wherever the form has that truth, from left to right
unfoldable pub fixed : Form → Bool → List Literal
fixed form = fold_form fixed_layer form

abbrev pub fixed_parts : Bool → Bool → List Form → List Literal
fixed_parts every holds parts = if is_same every holds then flat_map (λ part. fixed part every) parts else []

-- what the literals say of the atom: the first that names it
abbrev pub said_of : List Literal → ℕ → Option Bool
said_of [] atom = None
said_of (one ∷ literals) atom = if atom == one.atom then Some one.holds else said_of literals atom

-- the literals, and one more where none of them names its atom
abbrev pub with_one : List Literal → Literal → List Literal
with_one literals one = if is_some (said_of literals one.atom) then literals else (literals ++ one ∷ [])

-- the literals, and those of further ones that name other atoms, in turn
abbrev pub with_all : List Literal → List Literal → List Literal
with_all literals [] = literals
with_all literals (one ∷ more) = with_all (with_one literals one) more

-- the entries of a map, where there is one
abbrev pub entries_of : {S : Type 0} → Option (IndexMap ℕ Bool S) → List (ℕ × Bool)
entries_of None = []
entries_of (Some some) = some.entries

-- entries of a map as literals
abbrev pub literals_of : List (ℕ × Bool) → List Literal
literals_of entries = map (λ entry. literal entry.0 entry.1) entries
