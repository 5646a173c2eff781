-- Conditions with guards, and changes that clear some atoms and set others.
use Rattle.std.specs.Prelude.{◌≡◌, ℕ, ◌==◌, Bool, true, ◌&&◌, ◌++◌, List, map, IsTrue}
use Rattle.std.specs.List.{All, list_all, list_any}
use Rattle.p3_formula.specs.Constructors.{sets, clears}
use Rattle.p3_formula.specs.Forms.{State, is_set, truth, has_atoms}
use Rattle.p3_formula.specs.Tidy.{is_tidy}
use Rattle.p3_formula.specs.declared.form.Change.{Change}
use Rattle.p3_formula.specs.declared.form.Form.{Form}
use Rattle.p3_formula.specs.declared.target.TargetAction.{TargetAction}

-- a tidy form that holds where the guards are set and a condition holds, and has no other atoms
pub record IsGuardedForm (guards : List ℕ) (condition form : Form) : Type 0 where
  pub fits : (state : State) → truth state form ≡ (list_all (is_set state) guards && truth state condition)
  pub tidy : IsTrue (is_tidy form)
  pub reads : (allowed : ℕ → Bool) → list_all allowed guards ≡ true → has_atoms allowed condition ≡ true → has_atoms allowed form ≡ true

-- some atoms are cleared, and others are set, whatever holds
abbrev pub turned : List ℕ → List ℕ → List Change
turned off on = map clears off ++ map sets on

-- some change is of the atom
abbrev pub is_changed : List Change → ℕ → Bool
is_changed changes atom = list_any (λ (change : Change). change.atom == atom) changes

-- the preconditions of the actions are tidy
abbrev pub AllAreTidy : List TargetAction → Type 0
AllAreTidy actions = All (λ (action : TargetAction). IsTrue (is_tidy action.pre)) actions
