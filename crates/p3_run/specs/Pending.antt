-- The atoms that changes name, each to be looked at once.
use Rattle.std.specs.Prelude.{◌≡◌, ℕ, ◌==◌, Bool, true, false, List, slice_index_or, take}
use Rattle.std.specs.List.{All, list_any}
use Rattle.p3_formula.specs.declared.form.Change.{Change}

abbrev pub is_pending : List Bool → ℕ → Bool
is_pending bits atom = slice_index_or bits atom true

-- the atom of the change is
abbrev pub IsPending : List Bool → Change → Type 0
IsPending bits change = is_pending bits change.atom ≡ true

abbrev pub is_named : ℕ → List Change → Bool
is_named atom effects = list_any (λ (change : Change). change.atom == atom) effects

-- an atom of all these changes that is no longer pending is named by one of the first
abbrev pub AreTakenOf : List Change → ℕ → List Bool → Type 0
AreTakenOf effects count bits = All (λ (change : Change). is_pending bits change.atom ≡ false → is_named change.atom (take count effects) ≡ true) effects
