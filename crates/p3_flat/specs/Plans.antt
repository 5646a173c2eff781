-- The plans of a target and of its flattening.
use Rattle.std.specs.Prelude.{◌≡◌, ◌==◌, ◌&&◌, if◌then◌else◌, [], ◌∷◌, map}
use Rattle.p3_base.specs.Words.{Name, are_digits}
use Rattle.p3_formula.specs.Targets.{TargetPlan, TargetValid, ground_lift, target_cost}
use Rattle.p3_formula.specs.declared.target.Target.{Target}
use Rattle.p3_formula.specs.declared.task.GroundTask.{GroundTask}

-- the name without `c` and a number at its end
abbrev pub stem : Name → Name
stem [] = []
stem (byte ∷ bytes) = if (byte == 99) && are_digits bytes then [] else (byte ∷ stem bytes)

-- the actions of which these are copies
abbrev pub stems : TargetPlan → TargetPlan
stems plan = map stem plan

-- a valid plan of the flattening does what its actions' originals do, at the same cost, and counts as the same steps
pub record IsDoneBack (X Y : Target) (q : TargetPlan) : Type 0 where
  pub valid : TargetValid X (stems q)
  pub costs : target_cost X (stems q) ≡ target_cost Y q
  pub lifts : (G : GroundTask) → ground_lift G q ≡ ground_lift G (stems q)

-- exactly one valid plan of the flattening does the copies of the plan's actions
pub record HasOneFlatPlan (Y : Target) (p : TargetPlan) : Type 0 where
  pub flat : TargetPlan
  pub valid : TargetValid Y flat
  pub copies : stems flat ≡ p
  pub only : (q : TargetPlan) → TargetValid Y q → stems q ≡ p → q ≡ flat

-- plans map one to one, action by action, at the same costs
pub record HasSamePlans (X Y : Target) : Type 0 where
  pub back : (q : TargetPlan) → TargetValid Y q → IsDoneBack X Y q
  pub forth : (p : TargetPlan) → TargetValid X p → HasOneFlatPlan Y p
