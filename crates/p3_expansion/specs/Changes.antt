-- The literals of an effect at objects, as changes.
use Rattle.std.specs.Prelude.{◌≡◌, ◌⊎◌, Bool, true, false, ◌&&◌, List, [], ◌∷◌, ◌++◌, map, flat_map, slice_get, Some, IsTrue}
use Rattle.std.specs.List.{list_all}
use Rattle.p3_task.specs.States.{State}
use Rattle.p3_formula.specs.Tidy.{is_tidy}
use Rattle.p3_formula.specs.declared.form.Change.{Change}
use Rattle.p3_formula.specs.declared.form.Form.{Form}
use Rattle.p3_formula.specs.declared.form.Form.TheVariants as form
use Rattle.p3_numbers.specs.Conditions.{met}
use Rattle.p3_numbers.specs.Effects.{PlacedCondition, NumberedLiteral, numbered_literals}
use Rattle.p3_numbers.specs.Folds.{fold_effect}
use Rattle.p3_numbers.specs.Slots.{Slots, bound}
use Rattle.p3_numbers.specs.declared.effect.NumberedEffect.{NumberedEffect, NumberedEffect-F}
use Rattle.p3_numbers.specs.declared.effect.NumberedEffect.TheOpen as layer
use Rattle.p3_numbers.specs.declared.numbers.Numbers.{Numbers}
use Rattle.p3_expansion.specs.Atoms.{GroundAtom, atom_at}
use Rattle.p3_expansion.specs.Expansions.{Stands, Grows, Tells}
use Rattle.p3_expansion.specs.Meanings.{Meaning, condition_atoms}
use Rattle.p3_expansion.specs.Statics.{IsSettled}
use Rattle.p3_expansion.specs.declared.effect.Guard.{Guard}
use Rattle.p3_expansion.specs.declared.statics.Statics.{Statics}
use Rattle.p3_expansion.specs.declared.work.Work.{Work}

-- the atoms of its literals and of its conditions
abbrev pub effect_atoms_layer : Numbers → NumberedEffect-F (Slots → List GroundAtom) → Slots → List GroundAtom
effect_atoms_layer N (layer.Add predicate args) slots = atom_at slots predicate args ∷ []
effect_atoms_layer N (layer.Del predicate args) slots = atom_at slots predicate args ∷ []
effect_atoms_layer N (layer.All parts) slots = flat_map (λ part. part slots) parts
effect_atoms_layer N (layer.Each ranges body) slots = flat_map body (bound N slots ranges)
effect_atoms_layer N (layer.If condition body) slots = condition_atoms N slots condition ++ body slots
effect_atoms_layer N (layer.Cost increase) slots = []

unfoldable pub effect_atoms : Numbers → Slots → NumberedEffect → List GroundAtom
effect_atoms N slots tree = fold_effect (effect_atoms_layer N) tree slots

-- ---- literals under a guard

abbrev pub always : Meaning
always = record { test = λ s. true; reads = [] }

abbrev pub both : Meaning → Meaning → Meaning
both first second = record { test = λ s. first.test s && second.test s; reads = first.reads ++ second.reads }

-- that all of the conditions hold
abbrev pub conditions_meaning : Numbers → List PlacedCondition → Meaning
conditions_meaning N conditions = record {
  test = λ s. list_all (λ (placed : PlacedCondition). met N s placed.slots placed.condition) conditions;
  reads = flat_map (λ (placed : PlacedCondition). condition_atoms N placed.slots placed.condition) conditions;
}

abbrev pub is_empty : List PlacedCondition → Bool
is_empty [] = true
is_empty (condition ∷ conditions) = false

-- an atom that is added or deleted, when that takes place, and whether no condition stands above it
pub record GuardedLiteral : Type 0 where
  pub add : Bool
  pub atom : GroundAtom
  pub takes_place : Meaning
  pub is_free : Bool

abbrev pub guarded : Numbers → Meaning → Bool → NumberedLiteral → GuardedLiteral
guarded N guard is_free literal = record {
  add = literal.add;
  atom = literal.predicate ∷ literal.objects;
  takes_place = both guard (conditions_meaning N literal.conditions);
  is_free = is_free && is_empty literal.conditions;
}

abbrev pub guarded_literals : Numbers → Meaning → Bool → Slots → NumberedEffect → List GuardedLiteral
guarded_literals N guard is_free slots effect = map (guarded N guard is_free) (numbered_literals N slots effect)

-- ---- changes

-- the change is of the literal's atom, where the literal takes place, and always where no condition stands above it
pub record ChangeStands (N : Numbers) (S : Statics) (atoms : List GroundAtom) (meant : GuardedLiteral) (made : Change) : Type 0 where
  pub add : made.add ≡ meant.add
  pub atom : slice_get atoms made.atom ≡ Some meant.atom
  pub cond : Stands N S atoms meant.takes_place made.cond
  pub tidy : IsTrue (is_tidy made.cond)
  pub free : meant.is_free ≡ true → made.cond ≡ form.True

-- the literal never takes place
pub record IsIdle (N : Numbers) (S : Statics) (atoms : List GroundAtom) (meant : GuardedLiteral) : Type 0 where
  pub never : (s : State) (b : List Bool) → IsSettled N S s → Tells N atoms s b → meant.takes_place.test s ≡ false

-- one change for each literal in turn, but for some that never take place
abbrev pub ChangesStand : Numbers → Statics → List GroundAtom → List GuardedLiteral → List Change → Type 0
ChangesStand N S atoms [] [] = Unit {0}
ChangesStand N S atoms [] (change ∷ made) = ⊥
ChangesStand N S atoms (literal ∷ meant) [] = IsIdle N S atoms literal × ChangesStand N S atoms meant []
ChangesStand N S atoms (literal ∷ meant) (change ∷ made) =
    (IsIdle N S atoms literal × ChangesStand N S atoms meant (change ∷ made)) ⊎ (ChangeStands N S atoms literal change × ChangesStand N S atoms meant made)

-- ---- under a guard

-- the guard's form stands for what stands above, and is True where it is free
pub record Guards (N : Numbers) (S : Statics) (atoms : List GroundAtom) (guard : Guard) (above : Meaning) : Type 0 where
  pub stands : Stands N S atoms above guard.form
  pub free : guard.is_free ≡ true → guard.form ≡ form.True

-- whatever stands above, changes are made for the literals under it
pub record ChangesUnder (N : Numbers) (S : Statics) (guard : Guard) (reads : List GroundAtom) (old new : Work) (meant : Meaning → List GuardedLiteral) (before after : List Change) : Type 0 where
  pub grows : Grows reads old new
  pub made : (above : Meaning) → Guards N S old.atoms guard above → (those : List GuardedLiteral) → ChangesStand N S old.atoms those before → ChangesStand N S new.atoms (those ++ meant above) after

-- one change more, of that atom where the form holds
pub record AddsChange (old new : Work) (above : Form) (add : Bool) (atom : GroundAtom) (before after : List Change) : Type 0 where
  pub change : Change
  pub is : after ≡ before ++ change ∷ []
  pub adds : change.add ≡ add
  pub stored : slice_get new.atoms change.atom ≡ Some atom
  pub cond : change.cond ≡ above
  pub tidy : IsTrue (is_tidy change.cond)
  pub grows : Grows (atom ∷ []) old new

-- ---- a whole effect

-- the changes of an effect, among the atoms that came
pub record MakesChanges (N : Numbers) (S : Statics) (slots : Slots) (effect : NumberedEffect) (old new : Work) (made : List Change) : Type 0 where
  pub grows : Grows (effect_atoms N slots effect) old new
  pub stand : ChangesStand N S new.atoms (guarded_literals N always true slots effect) made
