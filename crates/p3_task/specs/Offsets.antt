-- That no definition depends on the offsets kept in trees: each gives the same of the erased trees.
use Rattle.std.specs.Prelude.{◌≡◌, ◌↔◌, List, map}
use Rattle.p3_task.specs.Names.{Name}
use Rattle.p3_task.specs.Types.{below, objects}
use Rattle.p3_task.specs.States.{State, Environment, start}
use Rattle.p3_task.specs.Bindings.{bind, are_arguments}
use Rattle.p3_task.specs.Formulas.{holds}
use Rattle.p3_task.specs.Effects.{adds, dels, next}
use Rattle.p3_task.specs.Goals.{hard_holds, prefs}
use Rattle.p3_task.specs.Costs.{cost_places}
use Rattle.p3_task.specs.Plans.{Plan, step_cost, fits, state_after, visited, Reached}
use Rattle.p3_task.specs.Constraints.{satisfies, sat, hard_list, operators, instances}
use Rattle.p3_task.specs.Validity.{is_valid, first_fault}
use Rattle.p3_task.specs.Metrics.{violated, cost, metric_places, value, loss, base_loss, weight, cost_weight}
use Rattle.p3_task.specs.Offences.{WellFormed}
use Rattle.p3_task.specs.Lifting.{is_plain, is_variable_free, steps, lift}
use Rattle.p3_task.specs.Limits.{formula_size, effect_size, goal_size, constraint_size, width, cost_bound, constant, coefficient, cost_coefficient}
use Rattle.p3_task.specs.Erased.{erased_ref, erased_all_typed, erased_formula, erased_effect, erased_goal, erased_modal, erased_constraint, erased_num, erased_action, erased, erased_state_pref, erased_hard_modal, erased_instance}
use Rattle.p3_task.specs.declared.term.Ref.{Ref}
use Rattle.p3_task.specs.declared.term.Typed.{Typed}
use Rattle.p3_task.specs.declared.formula.Formula.{Formula}
use Rattle.p3_task.specs.declared.effect.Effect.{Effect}
use Rattle.p3_task.specs.declared.goal.PreGoal.{PreGoal}
use Rattle.p3_task.specs.Modal.{Modal}
use Rattle.p3_task.specs.declared.constraint.Constraint.{Constraint}
use Rattle.p3_task.specs.declared.metric.Num.{Num}
use Rattle.p3_task.specs.declared.task.Action.{Action}
use Rattle.p3_task.specs.declared.task.Step.{Step}
use Rattle.p3_task.specs.declared.task.Task.{Task}

pub record OffsetFree (T : Task) : Type 0 where
  -- types, states and bindings
  pub below : (low high : Name) → below (erased T) low high ≡ below T low high
  pub objects : (types : List Ref) → objects (erased T) (map erased_ref types) ≡ objects T types
  pub start : start (erased T) ≡ start T
  pub bind : (env : Environment) (variables : List Typed) → bind (erased T) env (erased_all_typed variables) ≡ bind T env variables
  pub are_arguments : (parameters : List Typed) (tuple : List Name) → are_arguments (erased T) (erased_all_typed parameters) tuple ≡ are_arguments T parameters tuple
  -- formulas, effects and goals
  pub holds : (s : State) (env : Environment) (f : Formula) → holds (erased T) s env (erased_formula f) ≡ holds T s env f
  pub adds : (s : State) (env : Environment) (e : Effect) → adds (erased T) s env (erased_effect e) ≡ adds T s env e
  pub dels : (s : State) (env : Environment) (e : Effect) → dels (erased T) s env (erased_effect e) ≡ dels T s env e
  pub next : (s : State) (env : Environment) (e : Effect) → next (erased T) s env (erased_effect e) ≡ next T s env e
  pub hard_holds : (s : State) (env : Environment) (g : PreGoal) → hard_holds (erased T) s env (erased_goal g) ≡ hard_holds T s env g
  pub prefs : (env : Environment) (g : PreGoal) → prefs (erased T) env (erased_goal g) ≡ map erased_state_pref (prefs T env g)
  -- steps and plans
  pub cost_places : cost_places (erased T) ≡ cost_places T
  pub step_cost : (step : Step) → step_cost (erased T) step ≡ step_cost T step
  pub fits : (s : State) (step : Step) → fits (erased T) s step ≡ fits T s step
  pub state_after : (s : State) (step : Step) → state_after (erased T) s step ≡ state_after T s step
  pub visited : (plan : Plan) → visited (erased T) plan ≡ visited T plan
  pub reached : (s : State) → Reached (erased T) s ↔ Reached T s
  -- constraints and instances
  pub satisfies : (W : List State) (env : Environment) (m : Modal) → satisfies (erased T) W env (erased_modal m) ≡ satisfies T W env m
  pub sat : (W : List State) (env : Environment) (c : Constraint) → sat (erased T) W env (erased_constraint c) ≡ sat T W env c
  pub hard_list : hard_list (erased T) ≡ map erased_hard_modal (hard_list T)
  pub operators : (env : Environment) (c : Constraint) → operators (erased T) env (erased_constraint c) ≡ map erased_hard_modal (operators T env c)
  pub instances : instances (erased T) ≡ map erased_instance (instances T)
  -- validity, counts and the metric
  pub is_valid : (plan : Plan) → is_valid (erased T) plan ≡ is_valid T plan
  pub first_fault : (plan : Plan) → first_fault (erased T) plan ≡ first_fault T plan
  pub violated : (plan : Plan) (name : Name) → violated (erased T) plan name ≡ violated T plan name
  pub cost : (plan : Plan) → cost (erased T) plan ≡ cost T plan
  pub metric_places : metric_places (erased T) ≡ metric_places T
  pub value : (plan : Plan) → value (erased T) plan ≡ value T plan
  pub loss : (plan : Plan) → loss (erased T) plan ≡ loss T plan
  pub base_loss : base_loss (erased T) ≡ base_loss T
  pub weight : (name : Name) → weight (erased T) name ≡ weight T name
  pub cost_weight : cost_weight (erased T) ≡ cost_weight T
  -- the task itself, steps by number and lifting
  pub well_formed : WellFormed (erased T) ↔ WellFormed T
  pub is_plain : is_plain (erased T) ≡ is_plain T
  pub is_variable_free : is_variable_free (erased T) ≡ is_variable_free T
  pub steps : steps (erased T) ≡ steps T
  pub lift : (plan : Plan) → lift (erased T) plan ≡ lift T plan
  -- the counts for limits
  pub formula_size : (f : Formula) → formula_size (erased T) (erased_formula f) ≡ formula_size T f
  pub effect_size : (e : Effect) → effect_size (erased T) (erased_effect e) ≡ effect_size T e
  pub goal_size : (g : PreGoal) → goal_size (erased T) (erased_goal g) ≡ goal_size T g
  pub constraint_size : (c : Constraint) → constraint_size (erased T) (erased_constraint c) ≡ constraint_size T c
  pub width : (action : Action) → width (erased T) (erased_action action) ≡ width T action
  pub cost_bound : (action : Action) → cost_bound (erased T) (erased_action action) ≡ cost_bound T action
  pub constant : (num : Num) → constant (erased T) (erased_num num) ≡ constant T num
  pub coefficient : (num : Num) (name : Name) → coefficient (erased T) (erased_num num) name ≡ coefficient T num name
  pub cost_coefficient : (num : Num) → cost_coefficient (erased T) (erased_num num) ≡ cost_coefficient T num
