-- The state after changes that are all made at once. An add wins over a delete, and every condition is read in the state before.
use Rattle.std.specs.Prelude.{ℕ, ◌==◌, Bool, not, ◌&&◌, ◌||◌, if◌then◌else◌, List, fold, map, length, slice_set}
use Rattle.std.specs.List.{list_any, range_with_len}
use Rattle.p3_formula.specs.Forms.{State, is_set, truth}
use Rattle.p3_formula.specs.declared.form.Change.{Change}

-- some change sets the atom, and some change clears it
abbrev pub is_added : State → List Change → ℕ → Bool
is_added state effects atom = list_any (λ change. (change.atom == atom) && change.add && truth state change.cond) effects

abbrev pub is_deleted : State → List Change → ℕ → Bool
is_deleted state effects atom = list_any (λ change. (change.atom == atom) && not change.add && truth state change.cond) effects

abbrev pub is_set_after : State → List Change → ℕ → Bool
is_set_after state effects atom = is_added state effects atom || is_set state atom && not (is_deleted state effects atom)

unfoldable pub after : State → List Change → State
after state effects = map (is_set_after state effects) (range_with_len 0 (length state))

-- ---- the changes made one by one, first the deletes and then the adds

-- the change is an add, or else a delete, whose condition holds
abbrev pub is_made : Bool → State → Change → Bool
is_made add state change = (if add then change.add else not change.add) && truth state change.cond

abbrev pub changed_by : Bool → State → State → Change → State
changed_by add state bits change = if is_made add state change then slice_set bits change.atom add else bits

abbrev pub changed_all : Bool → State → State → List Change → State
changed_all add state bits effects = fold (changed_by add state) bits effects
