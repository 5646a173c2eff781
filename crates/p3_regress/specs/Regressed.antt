-- A form before the changes of a step in place of one after it, and what it is to be.
use Rattle.std.specs.Prelude.{◌≡◌, ℕ, ◌+◌, ◌==◌, Bool, true, false, not, ◌&&◌, if◌then◌else◌, List, [], ◌∷◌, ◌++◌, length, sum, IsTrue}
use Rattle.std.specs.List.{list_any, list_all, sum_by}
use Rattle.p3_formula.specs.Folds.{fold_form}
use Rattle.p3_formula.specs.Forms.{State, truth, has_atoms, nodes, IsBelow}
use Rattle.p3_formula.specs.Next.{after}
use Rattle.p3_formula.specs.Simplified.{joined, is_value}
use Rattle.p3_formula.specs.declared.form.Change.{Change}
use Rattle.p3_formula.specs.declared.form.Form.{Form}
use Rattle.p3_formula.specs.declared.form.Form.TheVariants.{True, False, Atom, Not, And, Or}
use Rattle.p3_formula.specs.declared.form.Form.TheOpen as layer

-- the second form holds in a state exactly where the first holds after the changes; an atom past the state's end is never set, so the first has none
abbrev pub IsTrueBefore : List Change → Form → Form → Type 0
IsTrueBefore effects form before = (state : State) → IsBelow (length state) form → truth state before ≡ truth (after state effects) form

-- some change names the atom
abbrev pub is_changed : List Change → ℕ → Bool
is_changed effects atom = list_any (λ change. change.atom == atom) effects

-- no change names an atom of the form
abbrev pub IsUntouched : List Change → Form → Type 0
IsUntouched effects form = IsTrue (has_atoms (λ atom. not (is_changed effects atom)) form)

-- each atom of the last form is one of the form or of a condition
abbrev pub HasAtomsOfBoth : List Change → Form → Form → Type 0
HasAtomsOfBoth effects form before =
    (allowed : ℕ → Bool) → IsTrue (has_atoms allowed form) → IsTrue (list_all (λ change. has_atoms allowed change.cond) effects) → IsTrue (has_atoms allowed before)

-- what the changes of an atom may add to its one node
abbrev pub atom_growth : List Change → ℕ → ℕ
atom_growth effects atom = sum_by (λ change. if change.atom == atom then (2 + nodes change.cond) else 0) effects

abbrev pub growth_layer : List Change → layer.Form-F ℕ → ℕ
growth_layer effects layer.True = 0
growth_layer effects layer.False = 0
growth_layer effects (layer.Atom atom) = atom_growth effects atom
growth_layer effects (layer.Not part) = part
growth_layer effects (layer.And parts) = sum parts
growth_layer effects (layer.Or parts) = sum parts

-- what the changes may add to the nodes of a form, for each place at which an atom stands
unfoldable pub growth : List Change → Form → ℕ
growth effects form = fold_form (growth_layer effects) form

-- the change sets the atom, or else clears it
abbrev pub is_of : Bool → ℕ → Change → Bool
is_of add atom change = (change.atom == atom) && (if add then change.add else not change.add)

-- it does so whatever holds
abbrev pub is_sure : Bool → ℕ → Change → Bool
is_sure add atom change = is_of add atom change && is_value true change.cond

-- the conditions kept so far, and those of such changes to come
abbrev pub conditions : Bool → ℕ → List Form → List Change → List Form
conditions add atom kept [] = kept
conditions add atom kept (change ∷ rest) = conditions add atom (if is_of add atom change then (kept ++ change.cond ∷ []) else kept) rest

-- the atom, and none of the conditions
abbrev pub stays : ℕ → List Form → Form
stays atom deletes = And (Atom atom ∷ Not (joined false deletes) ∷ [])

-- the ways for the atom to be set after the changes
abbrev pub with_kept : ℕ → List Form → List Form → List Form
with_kept atom adds [] = adds ++ Atom atom ∷ []
with_kept atom adds (first ∷ rest) = if list_any (is_value true) (first ∷ rest) then adds else (adds ++ stays atom (first ∷ rest) ∷ [])

abbrev pub changed : ℕ → List Form → List Form → Form
changed atom adds deletes = if list_any (is_value true) adds then True else joined false (with_kept atom adds deletes)

-- when the atom is set after the changes
abbrev pub atom_after : List Change → ℕ → Form
atom_after effects atom = changed atom (conditions true atom [] effects) (conditions false atom [] effects)

abbrev pub regressed_layer : List Change → layer.Form-F Form → Form
regressed_layer effects layer.True = True
regressed_layer effects layer.False = False
regressed_layer effects (layer.Atom atom) = atom_after effects atom
regressed_layer effects (layer.Not part) = Not part
regressed_layer effects (layer.And parts) = And parts
regressed_layer effects (layer.Or parts) = Or parts

-- the form with each atom as it is after the changes
unfoldable pub regressed : List Change → Form → Form
regressed effects form = fold_form (regressed_layer effects) form
