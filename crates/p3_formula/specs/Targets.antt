-- The plans of a target, how they lift to ground plans, and what it is that a target is a compiled ground task (Keyder and Geffner's end phase; names of steps are this project's profile).
use Rattle.std.specs.Prelude.{◌≡◌, ℕ, ◌+◌, ◌==◌, nat_lt, Bool, false, not, ◌&&◌, ◌||◌, List, [], ◌∷◌, ◌++◌, length, map, find, filter_map, sum_by, Option, Some, None, IsTrue, Contains, bytes_eq}
use Rattle.std.specs.List.{list_all, range_with_len}
use Rattle.p3_base.specs.Copies.{is_copy_of}
use Rattle.p3_base.specs.Words.{Name, are_different, are_digits, is_lowered, is_name, is_predicate_name}
use Rattle.p3_formula.specs.Forms.{State, has_atoms, truth, is_below, IsBelow}
use Rattle.p3_formula.specs.Next.{after}
use Rattle.p3_formula.specs.GroundPlans.{GroundPlan, GroundValid, ground_loss}
use Rattle.p3_formula.specs.Weighted.{ground_extra}
use Rattle.p3_formula.specs.declared.form.Change.{Change}
use Rattle.p3_formula.specs.declared.target.Target.{Target}
use Rattle.p3_formula.specs.declared.target.TargetAction.{TargetAction}
use Rattle.p3_formula.specs.declared.target.Weights.{Weights}
use Rattle.p3_formula.specs.declared.task.GroundTask.{GroundTask}

-- the names of its actions
abbrev pub TargetPlan : Type 0
TargetPlan = List Name

abbrev pub action_of : Target → Name → Option TargetAction
action_of X name = find (λ action. bytes_eq action.name name) X.actions

-- ---- valid plans and their costs

abbrev pub fits_by : State → Option TargetAction → Bool
fits_by state None = false
fits_by state (Some action) = truth state action.pre

abbrev pub state_by : State → Option TargetAction → State
state_by state None = state
state_by state (Some action) = after state action.effects

abbrev pub cost_by : Option TargetAction → ℕ
cost_by None = 0
cost_by (Some action) = action.cost

-- each action fits in turn, and the goal holds at the end
unfoldable pub reaches_goal : Target → State → TargetPlan → Bool
reaches_goal X state [] = truth state X.goal
reaches_goal X state (name ∷ plan) = fits_by state (action_of X name) && reaches_goal X (state_by state (action_of X name)) plan

abbrev pub TargetValid : Target → TargetPlan → Type 0
TargetValid X plan = IsTrue (reaches_goal X X.initial plan)

unfoldable pub target_cost : Target → TargetPlan → ℕ
target_cost X plan = sum_by (λ name. cost_by (action_of X name)) plan

-- ---- lifting

-- the step as which an action counts, if it does: the one whose copy it is by its name
abbrev pub lifted_number : GroundTask → Name → Option ℕ
lifted_number G name = find (λ number. is_copy_of number name) (range_with_len 0 G.step_count)

unfoldable pub ground_lift : GroundTask → TargetPlan → GroundPlan
ground_lift G plan = filter_map (lifted_number G) plan

-- ---- what is asked of a target

abbrev pub is_sized_change : ℕ → Change → Bool
is_sized_change count change = nat_lt change.atom count && is_below count change.cond

abbrev pub is_sized_action : ℕ → TargetAction → Bool
is_sized_action count action = is_below count action.pre && list_all (is_sized_change count) action.effects

-- the atoms of a change, and of an action, are some of those
abbrev pub has_change_atoms : (ℕ → Bool) → Change → Bool
has_change_atoms allowed change = allowed change.atom && has_atoms allowed change.cond

abbrev pub has_action_atoms : (ℕ → Bool) → TargetAction → Bool
has_action_atoms allowed action = has_atoms allowed action.pre && list_all (has_change_atoms allowed) action.effects

-- all atoms are below the number of predicates, and there is one initial bit for each predicate
pub record IsSized (X : Target) : Type 0 where
  pub bits : length X.initial ≡ length X.predicates
  pub goal : IsBelow (length X.predicates) X.goal
  pub actions : IsTrue (list_all (is_sized_action (length X.predicates)) X.actions)

-- it ends with the letter `c` and a number
abbrev pub ends_with_c_number : Name → Bool
ends_with_c_number [] = false
ends_with_c_number (byte ∷ bytes) = (byte == 99) && are_digits bytes || ends_with_c_number bytes

abbrev pub action_names : Target → List Name
action_names X = map (λ (action : TargetAction). action.name) X.actions

-- its names are names of the grammar, made of bytes of words, and differ from one another, those of predicates from those of actions too, and no action's name ends with `c` and a number
pub record IsNamed (X : Target) : Type 0 where
  pub predicates : IsTrue (list_all is_predicate_name X.predicates)
  pub actions : IsTrue (list_all is_name (action_names X))
  pub spelled : IsTrue (list_all (list_all is_lowered) (X.predicates ++ action_names X))
  pub different : IsTrue (are_different (X.predicates ++ action_names X))
  pub endings : IsTrue (list_all (λ name. not (ends_with_c_number name)) (action_names X))

-- what of this its texts need: its names are names of the grammar, made of bytes of words; those of predicates differ from one another, and so do those of actions
pub record IsWellNamed (X : Target) : Type 0 where
  pub predicates : IsTrue (list_all is_predicate_name X.predicates)
  pub actions : IsTrue (list_all is_name (action_names X))
  pub spelled : IsTrue (list_all (list_all is_lowered) (X.predicates ++ action_names X))
  pub predicates_differ : IsTrue (are_different X.predicates)
  pub actions_differ : IsTrue (are_different (action_names X))

-- the states that actions lead to from one on
pub data Leads (X : Target) (from : State) : State → Type 0 where
  Here : Leads X from from
  Further : (state : State) → Leads X from state → (action : TargetAction) → Contains X.actions action → IsTrue (truth state action.pre) → Leads X from (after state action.effects)

-- an action of the target that fits in a state
pub record Fits (X : Target) (state : State) (action : TargetAction) : Type 0 where
  pub own : Contains X.actions action
  pub holds : IsTrue (truth state action.pre)

-- In each state that is visited, one action at most fits of those that count as the same step, and one of those that
-- count as none; and behind that one no action that counts as a step fits where one of each kind did.
pub record IsLed (G : GroundTask) (X : Target) : Type 0 where
  pub one_copy : (state : State) → Leads X X.initial state → (number : ℕ) → (first second : TargetAction) → Fits X state first → Fits X state second
      → lifted_number G first.name ≡ Some number → lifted_number G second.name ≡ Some number → first ≡ second
  pub one_other : (state : State) → Leads X X.initial state → (first second : TargetAction) → Fits X state first → Fits X state second
      → lifted_number G first.name ≡ None → lifted_number G second.name ≡ None → first ≡ second
  pub apart : (state later : State) → Leads X X.initial state → (number again : ℕ) → (step other action : TargetAction) → Fits X state step → Fits X state other
      → lifted_number G step.name ≡ Some number → lifted_number G other.name ≡ None → Leads X (after state other.effects) later
      → lifted_number G action.name ≡ Some again → Fits X later action → ⊥

-- ---- compiled ground tasks

pub record IsSoundFor (G : GroundTask) (weights : Weights) (X : Target) (q : TargetPlan) : Type 0 where
  pub valid : GroundValid G (ground_lift G q)
  pub cost : target_cost X q ≡ ground_loss G weights (ground_lift G q)

-- exactly one valid plan of the target lifts to the ground plan
pub record HasOneOrigin (G : GroundTask) (X : Target) (p : GroundPlan) : Type 0 where
  pub origin : TargetPlan
  pub valid : TargetValid X origin
  pub lifts : ground_lift G origin ≡ p
  pub only : (q : TargetPlan) → TargetValid X q → ground_lift G q ≡ p → q ≡ origin

-- its plans are those of the ground task one to one, at the same costs, and so much longer
pub record Translates (G : GroundTask) (weights : Weights) (X : Target) : Type 0 where
  pub sound : (q : TargetPlan) → TargetValid X q → IsSoundFor G weights X q
  pub one_to_one : (p : GroundPlan) → GroundValid G p → HasOneOrigin G X p
  pub length : (q : TargetPlan) → TargetValid X q → length q ≡ length (ground_lift G q) + 1 + length G.soft + ground_extra G weights (ground_lift G q)

pub record Compiled (G : GroundTask) (weights : Weights) (X : Target) : Type 0 where
  pub sound : (q : TargetPlan) → TargetValid X q → IsSoundFor G weights X q
  pub one_to_one : (p : GroundPlan) → GroundValid G p → HasOneOrigin G X p
  pub length : (q : TargetPlan) → TargetValid X q → length q ≡ length (ground_lift G q) + 1 + length G.soft + ground_extra G weights (ground_lift G q)
  pub named : IsNamed X
  pub sized : IsSized X
  pub led : IsLed G X
