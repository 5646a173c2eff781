-- Changes that do the same, and states that agree.
use Rattle.std.specs.Prelude.{◌≡◌, ℕ, ◌<◌, List, [], ◌∷◌, IsTrue}
use Rattle.std.specs.List.{list_all}
use Rattle.p3_formula.specs.Forms.{State, is_set, is_below, HasSameTruth}
use Rattle.p3_formula.specs.declared.form.Change.{Change}

-- changes of the same atoms, under conditions that hold in the same states
pub record IsAlike (one other : Change) : Type 0 where
  pub atom : one.atom ≡ other.atom
  pub add : one.add ≡ other.add
  pub cond : HasSameTruth one.cond other.cond

abbrev pub AreAlike : List Change → List Change → Type 0
AreAlike [] [] = Unit {0}
AreAlike (one ∷ effects) (other ∷ others) = IsAlike one other × AreAlike effects others
AreAlike [] (other ∷ others) = ⊥
AreAlike (one ∷ effects) [] = ⊥

-- the states agree on the atoms below the count
abbrev pub AgreeBelow : ℕ → State → State → Type 0
AgreeBelow count first second = (atom : ℕ) → atom < count → is_set first atom ≡ is_set second atom

-- each atom of the changes' conditions is below the count
abbrev pub AreConditionsBelow : ℕ → List Change → Type 0
AreConditionsBelow count effects = IsTrue (list_all (λ (change : Change). is_below count change.cond) effects)
