-- What the hard part of a goal says at objects.
use Rattle.std.specs.Prelude.{List, [], ℕ, flat_map}
use Rattle.p3_numbers.specs.Folds.{fold_goal}
use Rattle.p3_numbers.specs.Goals.{hard_met}
use Rattle.p3_numbers.specs.Slots.{Slots, bound}
use Rattle.p3_numbers.specs.declared.goal.NumberedGoal.{NumberedGoal, NumberedGoal-F}
use Rattle.p3_numbers.specs.declared.goal.NumberedGoal.TheOpen as layer
use Rattle.p3_numbers.specs.declared.numbers.Numbers.{Numbers}
use Rattle.p3_expansion.specs.Atoms.{GroundAtom}
use Rattle.p3_expansion.specs.Meanings.{Meaning, condition_atoms, parts_meanings}

abbrev pub hard_atoms_layer : Numbers → NumberedGoal-F (Slots → List GroundAtom) → Slots → List GroundAtom
hard_atoms_layer N (layer.Plain condition) slots = condition_atoms N slots condition
hard_atoms_layer N (layer.Both parts) slots = flat_map (λ part. part slots) parts
hard_atoms_layer N (layer.Each ranges body) slots = flat_map body (bound N slots ranges)
hard_atoms_layer N (layer.Soft preference) slots = []

-- the atoms of its hard part
unfoldable pub hard_atoms : Numbers → Slots → NumberedGoal → List GroundAtom
hard_atoms N slots tree = fold_goal (hard_atoms_layer N) tree slots

abbrev pub hard_meaning : Numbers → Slots → NumberedGoal → Meaning
hard_meaning N slots tree = record { test = λ s. hard_met N s slots tree; reads = hard_atoms N slots tree }

-- the hard parts of a list of goals, and of a body at each choice of objects
abbrev pub hard_parts : Numbers → Slots → List NumberedGoal → List Meaning
hard_parts N slots parts = parts_meanings (hard_meaning N slots) parts

abbrev pub hard_bodies : Numbers → Slots → List ℕ → NumberedGoal → List Meaning
hard_bodies N slots ranges body = parts_meanings (λ inner. hard_meaning N inner body) (bound N slots ranges)
