-- Changes whose conditions are simplified by what is known where they are made, and by what a change takes for granted of its own atom; those that are never made are left out.
use Rattle.std.specs.Prelude.{ℕ, ◌==◌, Bool, true, false, not, ◌&&◌, if◌then◌else◌, List, [], ◌∷◌, Option, None, Some, is_some}
use Rattle.std.specs.List.{flat_map, list_any}
use Rattle.p3_formula.specs.Literals.{literal, said_of}
use Rattle.p3_formula.specs.Settled.{also, settled}
use Rattle.p3_formula.specs.Simplified.{is_value}
use Rattle.p3_formula.specs.declared.form.Change.{Change}
use Rattle.p3_formula.specs.declared.literals.Literal.{Literal}

-- some change may clear the atom
abbrev pub is_cleared_by : List Change → ℕ → Bool
is_cleared_by effects atom = list_any (λ (change : Change). (change.atom == atom) && not change.add) effects

-- a clearing change matters only where its atom is set, and a setting one only where it is not, if none beside it may clear the atom
abbrev pub granted_to : Bool → Bool → ℕ → Option Literal
granted_to true true atom = None
granted_to true false atom = Some (literal atom false)
granted_to false cleared atom = Some (literal atom true)

abbrev pub granted : List Change → Change → Option Literal
granted effects change = granted_to change.add (is_cleared_by effects change.atom) change.atom

abbrev pub unless_never : Change → List Change
unless_never change = if is_value false change.cond then [] else (change ∷ [])

-- the change under a condition that is simplified by what is known and granted
abbrev pub settled_change : (ℕ → Option Bool) → Option Literal → Change → Change
settled_change known own change = record { cond = settled (also own known) change.cond; atom = change.atom; add = change.add }

abbrev pub trimmed_change : (ℕ → Option Bool) → List Change → Change → Change
trimmed_change known effects change = settled_change known (granted effects change) change

-- so are all of them, beside changes that may clear those atoms
abbrev pub trimmed_by : (ℕ → Option Bool) → (ℕ → Bool) → List Change → List Change
trimmed_by known cleared effects = flat_map (λ change. unless_never (settled_change known (granted_to change.add (cleared change.atom) change.atom) change)) effects

abbrev pub trimmed : (ℕ → Option Bool) → List Change → List Change
trimmed known effects = trimmed_by known (is_cleared_by effects) effects

unfoldable pub trimmed_beside : (ℕ → Option Bool) → List Literal → List Change → List Change
trimmed_beside known literals effects = trimmed_by known (λ atom. is_some (said_of literals atom)) effects

-- the atoms that the changes may clear, as literals
abbrev pub clearings : List Change → List Literal
clearings [] = []
clearings (change ∷ effects) = if change.add then clearings effects else (literal change.atom false ∷ clearings effects)
