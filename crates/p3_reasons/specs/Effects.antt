-- What an effect makes of the atoms that are true, by number.
use Rattle.std.specs.Prelude.{Bool, true, false, not, ◌&&◌, List, [], ◌∷◌, flat_map, unwrap_or, bytes_eq, if◌then◌else◌}
use Rattle.std.specs.List.{list_any}
use Rattle.std.specs.Map.{lookup}
use Rattle.indexmap.specs.IndexMap.{insert_entry}
use Rattle.p3_numbers.specs.Folds.{fold_effect}
use Rattle.p3_numbers.specs.Slots.{Slots, bound}
use Rattle.p3_numbers.specs.declared.effect.NumberedEffect.{NumberedEffect, NumberedEffect-F}
use Rattle.p3_numbers.specs.declared.effect.NumberedEffect.TheOpen as layer
use Rattle.p3_numbers.specs.declared.numbers.Numbers.{Numbers}
use Rattle.p3_expansion.specs.Atoms.{GroundAtom, atom_at}
use Rattle.p3_reasons.specs.Outcomes.{Test, outcome}
use Rattle.p3_reasons.specs.declared.decision.Literal.{Literal}

-- ---- literals that take place: what is added is true, and what is deleted is false

abbrev pub taken_layer : Numbers → Test → NumberedEffect-F (Slots → List Literal) → Slots → List Literal
taken_layer N test (layer.Add predicate args) slots = record { atom = atom_at slots predicate args; holds = true } ∷ []
taken_layer N test (layer.Del predicate args) slots = record { atom = atom_at slots predicate args; holds = false } ∷ []
taken_layer N test (layer.All parts) slots = flat_map (λ part. part slots) parts
taken_layer N test (layer.Each ranges body) slots = flat_map body (bound N slots ranges)
taken_layer N test (layer.If condition body) slots = if (outcome N test slots condition).holds then body slots else []
taken_layer N test (layer.Cost increase) slots = []

unfoldable pub taken : Numbers → Test → Slots → NumberedEffect → List Literal
taken N test slots effect = fold_effect (taken_layer N test) effect slots

-- ---- what they change

-- the literal is of the atom, and says so of it
abbrev pub says : Bool → GroundAtom → Literal → Bool
says true atom literal = literal.holds && bytes_eq atom literal.atom
says false atom literal = not literal.holds && bytes_eq atom literal.atom

-- where a literal says so of an atom it is so, and else as before
abbrev pub noted : Bool → Test → List Literal → Test
noted holds test literals atom = if list_any (says holds atom) literals then holds else test atom

-- what is deleted is false, and then what is added is true
abbrev pub changed : Test → List Literal → Test
changed test literals = noted true (noted false test literals) literals

-- ---- as a list of atoms with their truth

abbrev pub Truths : Type 0
Truths = List (GroundAtom × Bool)

-- what is not listed is false
abbrev pub truth_of : Truths → Test
truth_of truths atom = unwrap_or (lookup (bytes_eq atom) truths) false

abbrev pub with_truth : Truths → GroundAtom → Bool → Truths
with_truth truths atom holds = insert_entry bytes_eq truths atom holds
