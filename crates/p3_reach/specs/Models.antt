-- Models of theories, and what theories that grow say.
use Rattle.std.specs.Prelude.{◌≡◌, ℕ, ◌<◌, ◌≤◌, Bool, true, not, ◌&&◌, ◌||◌, ◌++◌, length}
use Rattle.std.specs.List.{list_all}
use Rattle.p3_formula.specs.Forms.{State, is_set}
use Rattle.p3_reach.specs.Closed.{IsWithin}
use Rattle.p3_reach.specs.Rules.{keeps_rule}
use Rattle.p3_reach.specs.declared.rules.Theory.{Theory}

-- a set of propositions that has the facts and keeps the rules
pub record IsModel (theory : Theory) (set : State) : Type 0 where
  pub has_facts : IsWithin theory.facts set
  pub keeps : list_all (keeps_rule set) theory.rules ≡ true

-- every model has all propositions of this set
abbrev pub IsInEachModel : Theory → State → Type 0
IsInEachModel theory set = (other : State) → IsModel theory other → IsWithin set other

-- a set of the old propositions, with some of the new ones, is a model
pub record Grows (theory : Theory) (set : State) : Type 0 where
  pub more : State
  pub size : length (set ++ more) ≡ length theory.facts
  pub model : IsModel theory (set ++ more)

-- the new theory says the law beside what the old one says, and nothing else of the old propositions
pub record Says (law : State → Bool) (old new : Theory) : Type 0 where
  pub same_atoms : new.atoms ≡ old.atoms
  pub grows : length old.facts ≤ length new.facts
  pub says : (set : State) → IsModel new set → IsModel old set × (law set ≡ true)
  pub adds : (set : State) → length set ≡ length old.facts → IsModel old set → law set ≡ true → Grows new set

-- a set of the old propositions has a model that has the proposition exactly where a test passes
pub record GrowsAt (proposition : ℕ) (test : Bool) (theory : Theory) (set : State) : Type 0 where
  pub more : State
  pub size : length (set ++ more) ≡ length theory.facts
  pub model : IsModel theory (set ++ more)
  pub has : is_set (set ++ more) proposition ≡ test

-- the new theory has the proposition wherever the test passes, and else says nothing of the old ones
pub record Names (proposition : ℕ) (test : State → Bool) (old new : Theory) : Type 0 where
  pub same_atoms : new.atoms ≡ old.atoms
  pub grows : length old.facts ≤ length new.facts
  pub within : proposition < length new.facts
  pub says : (set : State) → IsModel new set → IsModel old set × (test set ≡ true → is_set set proposition ≡ true)
  pub adds : (set : State) → length set ≡ length old.facts → IsModel old set → GrowsAt proposition (test set) new set

-- where the set has the proposition and the test passes, it has the conclusion
abbrev pub leads : ℕ → (State → Bool) → ℕ → State → Bool
leads given test gives set = not (is_set set given && test set) || is_set set gives

-- a law that reads no propositions but those below the count
abbrev pub IsReadBelow : ℕ → (State → Bool) → Type 0
IsReadBelow count law = (set more : State) → count ≤ length set → law (set ++ more) ≡ law set
