-- What it is that actions are the copies of an action, one for each truth of its conditions (conditional effects are so compiled away in Nebel 2000, "On the compilability and expressive power of propositional planning formalisms").
use Rattle.std.specs.Prelude.{◌≡◌, ℕ, Bool, true, false, List, [], ◌∷◌, ◌++◌, length, map, IsTrue}
use Rattle.std.specs.List.{All, filter, list_all}
use Rattle.p3_base.specs.Words.{Name, are_different}
use Rattle.p3_formula.specs.Forms.{State, truth}
use Rattle.p3_formula.specs.Next.{after}
use Rattle.p3_formula.specs.Targets.{has_action_atoms, lifted_number}
use Rattle.p3_formula.specs.Tidy.{is_tidy}
use Rattle.p3_formula.specs.Unconditional.{HasNoConditions}
use Rattle.p3_formula.specs.declared.form.Change.{Change}
use Rattle.p3_formula.specs.declared.target.TargetAction.{TargetAction}
use Rattle.p3_formula.specs.declared.task.GroundTask.{GroundTask}
use Rattle.p3_flat.specs.Conditions.{conditions}

-- ---- names

-- for each condition whether it holds
abbrev pub Pattern : Type 0
Pattern = List Bool

-- the digit 1 for what holds, else 0
abbrev pub digit_of : Bool → ℕ
digit_of true = 49
digit_of false = 48

-- the letter `c` and a digit for each condition; nothing where there is none
abbrev pub ending_of : Pattern → Name
ending_of [] = []
ending_of (holds ∷ pattern) = 99 ∷ digit_of holds ∷ map digit_of pattern

abbrev pub copy_named : Name → Pattern → Name
copy_named name pattern = name ++ ending_of pattern

-- the name of a copy, for so many conditions
pub record IsCopyName (count : ℕ) (name copy : Name) : Type 0 where
  pub pattern : Pattern
  pub long : length pattern ≡ count
  pub is : copy ≡ copy_named name pattern

-- ---- copies

-- which of the conditions hold
abbrev pub pattern_in : State → List Change → Pattern
pattern_in state effects = map (truth state) (conditions effects)

-- the actions that fit
abbrev pub fitting : State → List TargetAction → List TargetAction
fitting state actions = filter (λ (action : TargetAction). truth state action.pre) actions

abbrev pub names_of : List TargetAction → List Name
names_of actions = map (λ (action : TargetAction). action.name) actions

-- exactly one copy fits, named after the conditions that hold; it costs as much and leads to the same state
pub record HasOneCopy (action : TargetAction) (copies : List TargetAction) (state : State) : Type 0 where
  pub copy : TargetAction
  pub only : fitting state copies ≡ copy ∷ []
  pub named : copy.name ≡ copy_named action.name (pattern_in state action.effects)
  pub costs : copy.cost ≡ action.cost
  pub next : after state copy.effects ≡ after state action.effects

-- Where the action fits, exactly one copy does, and elsewhere none; an action without conditions stays. No copy has a
-- condition, nor atoms that the action does not have; each counts as the step that the action counts as, if it does;
-- and their names differ.
pub record AreCopiesOf (action : TargetAction) (copies : List TargetAction) : Type 0 where
  pub one : (state : State) → truth state action.pre ≡ true → HasOneCopy action copies state
  pub none : (state : State) → truth state action.pre ≡ false → fitting state copies ≡ []
  pub stays : conditions action.effects ≡ [] → copies ≡ action ∷ []
  pub unconditional : All HasNoConditions copies
  pub tidy : IsTrue (is_tidy action.pre) → All (λ (copy : TargetAction). IsTrue (is_tidy copy.pre)) copies
  pub atoms : (allowed : ℕ → Bool) → IsTrue (has_action_atoms allowed action) → IsTrue (list_all (has_action_atoms allowed) copies)
  pub counts : (G : GroundTask) → All (λ (copy : TargetAction). lifted_number G copy.name ≡ lifted_number G action.name) copies
  pub names : All (λ (copy : TargetAction). IsCopyName (length (conditions action.effects)) action.name copy.name) copies
  pub different : IsTrue (are_different (names_of copies))
