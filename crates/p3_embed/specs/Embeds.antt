-- What it is to embed a ground plan in a target, and how far a walk has come that does.
use Rattle.std.specs.Prelude.{◌≡◌, ℕ, ◌+◌, List, [], ◌++◌, length, map, take, slice_index_or, IsTrue}
use Rattle.p3_formula.specs.Forms.{State}
use Rattle.p3_formula.specs.GroundPlans.{GroundPlan, GroundValid}
use Rattle.p3_formula.specs.Targets.{TargetPlan, TargetValid, action_names, reaches_goal, ground_lift, Leads, Compiled}
use Rattle.p3_formula.specs.declared.target.Target.{Target}
use Rattle.p3_formula.specs.Weighted.{ground_extra}
use Rattle.p3_formula.specs.declared.target.Weights.{Weights}
use Rattle.p3_formula.specs.declared.task.GroundTask.{GroundTask}

-- the one valid plan of the target that lifts to the ground plan
pub record IsEmbedded (G : GroundTask) (X : Target) (numbers : GroundPlan) (q : TargetPlan) : Type 0 where
  pub valid : TargetValid X q
  pub lifts : ground_lift G q ≡ numbers
  pub only : (other : TargetPlan) → TargetValid X other → ground_lift G other ≡ numbers → other ≡ q

-- the actions at those places, by their names
abbrev pub names_at : Target → List ℕ → TargetPlan
names_at X places = map (λ place. slice_index_or (action_names X) place []) places

-- ---- a walk that embeds

-- a plan goes on behind those actions, from the state that they lead to
pub record GoesOn (X : Target) (done : TargetPlan) (state : State) (q : TargetPlan) : Type 0 where
  pub rest : TargetPlan
  pub spelled : q ≡ done ++ rest
  pub reaches : IsTrue (reaches_goal X state rest)

-- those actions lead to the state, they lift to as many of the steps, and every valid plan that lifts to all of them begins with those actions
pub record IsOnWay (G : GroundTask) (X : Target) (numbers : GroundPlan) (count : ℕ) (done : TargetPlan) (state : State) : Type 0 where
  pub leads : Leads X X.initial state
  pub lifts : ground_lift G done ≡ take count numbers
  pub reaches : (rest : TargetPlan) → IsTrue (reaches_goal X state rest) → TargetValid X (done ++ rest)
  pub begins : (q : TargetPlan) → TargetValid X q → ground_lift G q ≡ numbers → GoesOn X done state q

-- how many actions a valid plan has that lifts to the steps
abbrev pub plan_length : GroundTask → Weights → GroundPlan → ℕ
plan_length G weights numbers = length numbers + 1 + length G.soft + ground_extra G weights numbers

-- the target is the task, compiled, and the ground plan is valid
pub record CanEmbed (G : GroundTask) (weights : Weights) (X : Target) (numbers : GroundPlan) : Type 0 where
  pub compiled : Compiled G weights X
  pub valid : GroundValid G numbers
