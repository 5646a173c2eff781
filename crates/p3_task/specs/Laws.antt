-- What the laws of the definitions say, beside the definitions.
use Rattle.std.specs.Prelude.{◌≡◌, ℕ, ◌≤ℤ◌, Bool, not, List, Some, count_by, if◌then◌else◌, Contains}
use Rattle.p3_task.specs.Names.{Name}
use Rattle.p3_task.specs.States.{State, Environment}
use Rattle.p3_task.specs.Bindings.{bind}
use Rattle.p3_task.specs.Formulas.{holds}
use Rattle.p3_task.specs.Goals.{prefs}
use Rattle.p3_task.specs.Plans.{Plan}
use Rattle.p3_task.specs.Constraints.{sat, instances_of}
use Rattle.p3_task.specs.Validity.{Valid}
use Rattle.p3_task.specs.Metrics.{value, loss, unsatisfied, false_in}
use Rattle.p3_task.specs.declared.term.Ref.{Ref}
use Rattle.p3_task.specs.declared.term.Typed.{Typed}
use Rattle.p3_task.specs.declared.formula.Formula.{Formula, Forall}
use Rattle.p3_task.specs.declared.goal.PreGoal.TheVariants as goal
use Rattle.p3_task.specs.declared.constraint.Constraint.{Constraint}
use Rattle.p3_task.specs.declared.constraint.Constraint.TheVariants as constraint
use Rattle.p3_task.specs.declared.task.Task.{Task}

-- pairs of the list that lead from one type to another
pub data Chain (pairs : List (Name × Name)) : Name → Name → Type 0 where
  none : (kind : Name) → Chain pairs kind kind
  step : (low middle high : Name) → Contains pairs (low, middle) → Chain pairs middle high → Chain pairs low high

-- ---- best plans

-- a valid plan of the least value, and one of the least loss
pub record IsCheapest (U : Task) (q : Plan) : Type 0 where
  pub valid : Valid U q
  pub least : (r : Plan) → Valid U r → value U q ≤ℤ value U r

pub record IsBest (T : Task) (p : Plan) : Type 0 where
  pub valid : Valid T p
  pub least : (r : Plan) → Valid T r → loss T p ≤ℤ loss T r

-- ---- a `forall` outside a preference and inside one

abbrev pub one_unless : Bool → ℕ
one_unless passes = if passes then 0 else 1

-- of a preference over one state; the offset is that of its word
pub record StateCounts (T : Task) (s : State) (env : Environment) (variables : List Typed) (at : ℕ) (name : Ref) (body : Formula) : Type 0 where
  pub outside : false_in T s name.name (prefs T env (goal.Each variables (goal.Soft (record { at = at; name = Some name; body = body })))) ≡ count_by (λ inner. not (holds T s inner body)) (bind T env variables)
  pub inside : false_in T s name.name (prefs T env (goal.Soft (record { at = at; name = Some name; body = Forall variables body }))) ≡ one_unless (holds T s env (Forall variables body))

-- of a preference over the visited states
pub record TrajectoryCounts (T : Task) (W : List State) (env : Environment) (variables : List Typed) (at : ℕ) (name : Ref) (body : Constraint) : Type 0 where
  pub outside : unsatisfied T W name.name (instances_of T (constraint.Each variables (constraint.Soft at (Some name) body)) env) ≡ count_by (λ inner. not (sat T W inner body)) (bind T env variables)
  pub inside : unsatisfied T W name.name (instances_of T (constraint.Soft at (Some name) (constraint.Each variables body)) env) ≡ one_unless (sat T W env (constraint.Each variables body))
