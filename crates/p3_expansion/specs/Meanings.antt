-- What a part of a tree says at objects: where it holds, and which atoms it may read.
use Rattle.std.specs.Prelude.{Bool, true, false, not, ◌&&◌, ◌||◌, List, [], ◌∷◌, ◌++◌, ℕ, flat_map}
use Rattle.std.specs.List.{list_any, list_all}
use Rattle.p3_task.specs.States.{State, has_fact}
use Rattle.p3_numbers.specs.Conditions.{met}
use Rattle.p3_numbers.specs.Folds.{fold_condition}
use Rattle.p3_numbers.specs.Slots.{Slots, bound}
use Rattle.p3_numbers.specs.declared.condition.NumberedCondition.{NumberedCondition, NumberedCondition-F}
use Rattle.p3_numbers.specs.declared.condition.NumberedCondition.TheOpen as layer
use Rattle.p3_numbers.specs.declared.numbers.Numbers.{Numbers}
use Rattle.p3_expansion.specs.Atoms.{GroundAtom, fact_of, atom_at}

pub record Meaning : Type 0 where
  pub test : State → Bool
  pub reads : List GroundAtom

-- ---- of several parts

-- each passes, or else some
abbrev pub each_or_some : {A : Type 0} → Bool → (A → Bool) → List A → Bool
each_or_some true test xs = list_all test xs
each_or_some false test xs = list_any test xs

abbrev pub reads_of : List Meaning → List GroundAtom
reads_of meanings = flat_map (λ meaning. meaning.reads) meanings

-- both are true, or else one is
abbrev pub both_or_one : Bool → Bool → Bool → Bool
both_or_one true first second = first && second
both_or_one false first second = first || second

-- every one holds, or else some
abbrev pub joined : Bool → List Meaning → Meaning
joined every meanings = record { test = λ s. each_or_some every (λ meaning. meaning.test s) meanings; reads = reads_of meanings }

abbrev pub opposite : Meaning → Meaning
opposite meaning = record { test = λ s. not (meaning.test s); reads = meaning.reads }

-- ---- of an atom

abbrev pub atom_meaning : Numbers → GroundAtom → Meaning
atom_meaning N atom = record { test = λ s. has_fact s (fact_of N atom); reads = atom ∷ [] }

-- ---- of conditions

-- the atoms of a condition at objects, under all choices of its quantifiers
abbrev pub atoms_layer : Numbers → NumberedCondition-F (Slots → List GroundAtom) → Slots → List GroundAtom
atoms_layer N (layer.Atom predicate args) slots = atom_at slots predicate args ∷ []
atoms_layer N (layer.Equal left right) slots = []
atoms_layer N (layer.And parts) slots = flat_map (λ part. part slots) parts
atoms_layer N (layer.Or parts) slots = flat_map (λ part. part slots) parts
atoms_layer N (layer.Not part) slots = part slots
atoms_layer N (layer.Imply first second) slots = first slots ++ second slots
atoms_layer N (layer.Exists ranges body) slots = flat_map body (bound N slots ranges)
atoms_layer N (layer.Forall ranges body) slots = flat_map body (bound N slots ranges)

unfoldable pub condition_atoms : Numbers → Slots → NumberedCondition → List GroundAtom
condition_atoms N slots condition = fold_condition (atoms_layer N) condition slots

abbrev pub condition_meaning : Numbers → Slots → NumberedCondition → Meaning
condition_meaning N slots condition = record { test = λ s. met N s slots condition; reads = condition_atoms N slots condition }

-- ---- of parts of a tree

abbrev pub parts_meanings : {A : Type 0} → (A → Meaning) → List A → List Meaning
parts_meanings meaning parts = flat_map (λ part. meaning part ∷ []) parts

-- the bodies of a quantifier
abbrev pub quantified : Numbers → Slots → List ℕ → NumberedCondition → List Meaning
quantified N slots ranges body = parts_meanings (λ inner. condition_meaning N inner body) (bound N slots ranges)

-- the parts of a conjunction or a disjunction
abbrev pub combined : Numbers → Slots → List NumberedCondition → List Meaning
combined N slots parts = parts_meanings (condition_meaning N slots) parts
