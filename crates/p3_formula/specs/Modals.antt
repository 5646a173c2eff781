-- The forms of a trajectory constraint, and the atoms that stand in them.
use Rattle.std.specs.Prelude.{◌≡◌, ℕ, nat_lt, Bool, true, not, List, sum_by, IsTrue}
use Rattle.std.specs.List.{list_any, list_all}
use Rattle.p3_formula.specs.Forms.{State, is_set, has_atoms, is_other, nodes}
use Rattle.p3_formula.specs.declared.form.Change.{Change}
use Rattle.p3_formula.specs.GroundModal.{GroundModal}
use Rattle.p3_base.specs.Operators.{formulas_of}

-- each atom of its forms is one of those
abbrev pub modal_has : (ℕ → Bool) → GroundModal → Bool
modal_has allowed modal = list_all (has_atoms allowed) (formulas_of modal)

-- each atom of its forms is below the count
abbrev pub is_modal_below : ℕ → GroundModal → Bool
is_modal_below count modal = modal_has (λ atom. nat_lt atom count) modal

abbrev pub IsModalBelow : ℕ → GroundModal → Type 0
IsModalBelow count modal = IsTrue (is_modal_below count modal)

-- the atom stands in one of its forms
abbrev pub is_read : GroundModal → ℕ → Bool
is_read modal atom = not (modal_has (is_other atom) modal)

-- some change names an atom that stands there
abbrev pub touches : GroundModal → List Change → Bool
touches modal step = list_any (λ (change : Change). is_read modal change.atom) step

-- the states agree on the atoms of the constraint
abbrev pub Agree : GroundModal → State → State → Type 0
Agree modal first second = (atom : ℕ) → is_read modal atom ≡ true → is_set first atom ≡ is_set second atom

-- how many nodes its forms have
abbrev pub modal_nodes : GroundModal → ℕ
modal_nodes modal = sum_by nodes (formulas_of modal)
