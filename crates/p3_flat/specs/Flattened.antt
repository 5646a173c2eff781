-- What it is that a target is a flattening of another: its actions are the copies of the other's, and no change of them has a condition.
use Rattle.std.specs.Prelude.{◌≡◌, ℕ, not, List, [], ◌∷◌, ◌++◌, Option, Some, IsTrue}
use Rattle.std.specs.List.{list_all, position}
use Rattle.p3_base.specs.Words.{are_different, is_name}
use Rattle.p3_formula.specs.Targets.{action_names, ends_with_c_number}
use Rattle.p3_formula.specs.declared.target.Target.{Target}
use Rattle.p3_formula.specs.declared.target.TargetAction.{TargetAction}
use Rattle.p3_flat.specs.Conditions.{is_too_wide}
use Rattle.p3_flat.specs.Copies.{AreCopiesOf}
use Rattle.p3_flat.specs.declared.flattening.FlatFail.{FlatFail}
use Rattle.p3_flat.specs.declared.flattening.FlatFail.TheVariants.{FlatTooWide, NoMemory}

-- the names of its actions are names of the grammar and differ, and none ends as that of a copy does
pub record CanBeFlattened (X : Target) : Type 0 where
  pub names : IsTrue (list_all is_name (action_names X))
  pub different : IsTrue (are_different (action_names X))
  pub endings : IsTrue (list_all (λ name. not (ends_with_c_number name)) (action_names X))

-- the copies of the first action, and behind them those of the others
abbrev pub AreFlattened : List TargetAction → List TargetAction → Type 0
AreFlattened [] made = made ≡ []
AreFlattened (action ∷ actions) made =
    (copies : List TargetAction) × (rest : List TargetAction) × (made ≡ copies ++ rest) × AreCopiesOf action copies × AreFlattened actions rest

-- Y has the predicates, the start and the goal of X, and the copies of its actions, whose names are names of the grammar and differ
pub record IsFlattened (X Y : Target) : Type 0 where
  pub predicates : Y.predicates ≡ X.predicates
  pub initial : Y.initial ≡ X.initial
  pub goal : Y.goal ≡ X.goal
  pub actions : AreFlattened X.actions Y.actions
  pub names : IsTrue (list_all is_name (action_names Y))
  pub different : IsTrue (are_different (action_names Y))

-- the place of the first action with too many conditions
abbrev pub first_too_wide : Target → Option ℕ
first_too_wide X = position is_too_wide X.actions

-- why a target is not flattened; want of memory needs no cause
abbrev pub IsFlatFail : Target → FlatFail → Type 0
IsFlatFail X (FlatTooWide place) = first_too_wide X ≡ Some place
IsFlatFail X NoMemory = Unit {0}
