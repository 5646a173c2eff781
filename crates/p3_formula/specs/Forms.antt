-- Truth of a form in a state, the atoms that it reads, and its size.
use Rattle.std.specs.Prelude.{◌≡◌, ℕ, ◌+◌, ◌==◌, nat_lt, Bool, true, false, not, List, slice_index_or, sum, IsTrue}
use Rattle.std.specs.List.{list_any, list_all}
use Rattle.p3_formula.specs.Folds.{fold_form}
use Rattle.p3_formula.specs.declared.form.Form.{Form}
use Rattle.p3_formula.specs.declared.form.Form.TheOpen.{Form-F, True, False, Atom, Not, And, Or}

-- which atoms are set, by their numbers
abbrev pub State : Type 0
State = List Bool

-- the atom is set
abbrev pub is_set : State → ℕ → Bool
is_set state atom = slice_index_or state atom false

abbrev pub truth_layer : State → Form-F Bool → Bool
truth_layer state True = true
truth_layer state False = false
truth_layer state (Atom atom) = is_set state atom
truth_layer state (Not part) = not part
truth_layer state (And parts) = list_all (λ part. part) parts
truth_layer state (Or parts) = list_any (λ part. part) parts

-- whether the form holds in the state
unfoldable pub truth : State → Form → Bool
truth state form = fold_form (truth_layer state) form

-- the forms hold in the same states
abbrev pub HasSameTruth : Form → Form → Type 0
HasSameTruth first second = (state : State) → truth state first ≡ truth state second

-- each form holds where the other does not
abbrev pub IsOpposite : Form → Form → Type 0
IsOpposite first second = (state : State) → truth state first ≡ not (truth state second)

abbrev pub within_layer : (ℕ → Bool) → Form-F Bool → Bool
within_layer allowed True = true
within_layer allowed False = true
within_layer allowed (Atom atom) = allowed atom
within_layer allowed (Not part) = part
within_layer allowed (And parts) = list_all (λ part. part) parts
within_layer allowed (Or parts) = list_all (λ part. part) parts

-- each atom of the form is one of those
unfoldable pub has_atoms : (ℕ → Bool) → Form → Bool
has_atoms allowed form = fold_form (within_layer allowed) form

-- another atom than this
abbrev pub is_other : ℕ → ℕ → Bool
is_other atom one = not (one == atom)

-- each atom of the form is below the count
abbrev pub is_below : ℕ → Form → Bool
is_below count form = has_atoms (λ atom. nat_lt atom count) form

abbrev pub IsBelow : ℕ → Form → Type 0
IsBelow count form = IsTrue (is_below count form)

-- so is each atom of the forms
abbrev pub AreBelow : ℕ → List Form → Type 0
AreBelow count forms = IsTrue (list_all (is_below count) forms)

-- each atom of the first form is one of the second
abbrev pub HasAtomsOf : Form → Form → Type 0
HasAtomsOf form source = (allowed : ℕ → Bool) → IsTrue (has_atoms allowed source) → IsTrue (has_atoms allowed form)

abbrev pub nodes_layer : Form-F ℕ → ℕ
nodes_layer True = 1
nodes_layer False = 1
nodes_layer (Atom atom) = 1
nodes_layer (Not part) = 1 + part
nodes_layer (And parts) = 1 + sum parts
nodes_layer (Or parts) = 1 + sum parts

-- how many nodes the form has
unfoldable pub nodes : Form → ℕ
nodes form = fold_form nodes_layer form
