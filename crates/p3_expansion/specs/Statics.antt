-- What no step changes: atoms of predicates that no effect names are as at the start.
use Rattle.std.specs.Prelude.{◌≡◌, ℕ, ◌<◌, nat_lt, Bool, true, false, not, ◌&&◌, List, [], ◌∷◌, map, flat_map, fold, replicate, length, slice_set, slice_index_or, bytes_eq}
use Rattle.std.specs.List.{list_any, list_all}
use Rattle.p3_task.specs.Plans.{Reached}
use Rattle.p3_task.specs.States.{State, has_fact}
use Rattle.p3_task.specs.Static as named
use Rattle.p3_task.specs.declared.task.Task.{Task}
use Rattle.p3_numbers.specs.Folds.{fold_effect}
use Rattle.p3_numbers.specs.Slots.{name_at}
use Rattle.p3_numbers.specs.declared.effect.NumberedEffect.{NumberedEffect, NumberedEffect-F}
use Rattle.p3_numbers.specs.declared.effect.NumberedEffect.TheOpen as layer
use Rattle.p3_numbers.specs.declared.numbers.Numbers.{Numbers}
use Rattle.p3_numbers.specs.declared.task.NumberedAction.{NumberedAction}
use Rattle.p3_numbers.specs.declared.task.NumberedFact.{NumberedFact}
use Rattle.p3_numbers.specs.declared.task.NumberedTask.{NumberedTask}
use Rattle.p3_expansion.specs.Atoms.{GroundAtom, fact_of, with_atom}
use Rattle.p3_expansion.specs.declared.statics.Statics.{Statics}

-- the predicate has a name, and no effect names it
abbrev pub is_static : Statics → ℕ → Bool
is_static S predicate = nat_lt predicate (length S.changed) && not (slice_index_or S.changed predicate false)

-- no step changes the atom, whose objects have names
abbrev pub is_decided : Numbers → Statics → GroundAtom → Bool
is_decided N S [] = false
is_decided N S (predicate ∷ objects) = is_static S predicate && list_all (λ object. nat_lt object (length N.objects)) objects

-- in the state each atom that no step changes is as at the start
pub record IsSettled (N : Numbers) (S : Statics) (s : State) : Type 0 where
  pub same : (atom : GroundAtom) → is_decided N S atom ≡ true → has_fact s (fact_of N atom) ≡ list_any (bytes_eq atom) S.facts

-- ---- which predicates effects name

abbrev pub changed_layer : NumberedEffect-F (List ℕ) → List ℕ
changed_layer (layer.Add predicate args) = predicate ∷ []
changed_layer (layer.Del predicate args) = predicate ∷ []
changed_layer (layer.All parts) = flat_map (λ part. part) parts
changed_layer (layer.Each ranges body) = body
changed_layer (layer.If condition body) = body
changed_layer (layer.Cost increase) = []

-- the predicates of the literals of an effect
unfoldable pub changed_predicates : NumberedEffect → List ℕ
changed_predicates tree = fold_effect changed_layer tree

-- those of all effects of a task
abbrev pub task_predicates : NumberedTask → List ℕ
task_predicates X = flat_map (λ (action : NumberedAction). changed_predicates action.effect) X.actions

-- the bits of the numbers are set too
abbrev pub marked : List Bool → List ℕ → List Bool
marked bits numbers = fold (λ marks number. slice_set marks number true) bits numbers

-- ---- of a task

abbrev pub atom_of : NumberedFact → GroundAtom
atom_of fact = fact.predicate ∷ fact.objects

-- the atoms that are true at the start, each once
abbrev pub start_atoms : NumberedTask → List GroundAtom
start_atoms X = fold with_atom [] (map atom_of X.start)

-- the predicates that effects of the task name are marked, and the atoms are those that are true at its start
pub record AreStatics (X : NumberedTask) (S : Statics) : Type 0 where
  pub changed : S.changed ≡ marked (replicate (length X.numbers.predicates) false) (task_predicates X)
  pub facts : S.facts ≡ start_atoms X

-- which of the atoms are true at the start
abbrev pub start_bits : Statics → List GroundAtom → List Bool
start_bits S atoms = map (λ atom. list_any (bytes_eq atom) S.facts) atoms

-- the predicates are those that no effect of the task names, and what they say stays as it is in all reached states
pub record TellStatics (T : Task) (N : Numbers) (S : Statics) : Type 0 where
  pub static : (predicate : ℕ) → predicate < length N.predicates → is_static S predicate ≡ named.is_static T (name_at N.predicates predicate)
  pub settled : (s : State) → Reached T s → IsSettled N S s
