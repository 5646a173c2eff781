-- Trajectory constraints over the states that a plan visits (the PDDL3 report). The meaning looks at the places of the whole list of visited states.
use Rattle.std.specs.Prelude.{ℕ, Bool, List, [], ◌∷◌, ◌++◌, flat_map, map, length, Option}
use Rattle.std.specs.List.{list_all}
use mathlib.Core.Former.{Count, one_more}
use Rattle.p3_task.specs.Folds.{fold_constraint}
use Rattle.p3_task.specs.Names.{Name}
use Rattle.p3_task.specs.States.{State, Environment}
use Rattle.p3_task.specs.Bindings.{bind}
use Rattle.p3_task.specs.Formulas.{holds}
use Rattle.p3_task.specs.Goals.{StatePref, named, prefs}
use Rattle.p3_task.specs.Plans.{state_at}
use Rattle.p3_task.specs.declared.formula.Formula.{Formula}
use Rattle.p3_task.specs.Modal.{Modal}
use Rattle.p3_base.specs.Operators.{is_satisfied, over}
use Rattle.p3_base.specs.declared.operator.Operator.TheVariants.{AtEnd}
use Rattle.p3_task.specs.declared.constraint.Constraint.{Constraint, Both', Each', Single, Soft', Row_of-Constraint, end_of-Constraint, more_of-Constraint}
use Rattle.p3_task.specs.declared.constraint.Constraint.TheOpen as layer
use Rattle.p3_task.specs.declared.task.Task.{Task}

-- ---- the operators

abbrev pub holds_at : Task → List State → Environment → Formula → ℕ → Bool
holds_at T W env formula i = holds T (state_at W i) env formula

unfoldable pub satisfies : Task → List State → Environment → Modal → Bool
satisfies T W env modal = is_satisfied (length W) (over (holds_at T W env) modal)

-- ---- constraints

-- a preference is satisfied where what it prefers is
abbrev pub sat_layer : Task → List State → layer.Constraint-F (Environment → Bool) → Environment → Bool
sat_layer T W (layer.Both parts) env = list_all (λ part. part env) parts
sat_layer T W (layer.Each variables body) env = list_all body (bind T env variables)
sat_layer T W (layer.Single modal) env = satisfies T W env modal
sat_layer T W (layer.Soft at name body) env = body env

unfoldable pub sat : Task → List State → Environment → Constraint → Bool
sat T W env constraint = fold_constraint (sat_layer T W) constraint env

-- an operator at a binding of the variables outside it
pub record HardModal : Type 0 where
  pub modal : Modal
  pub env : Environment

-- the operators outside preferences
abbrev pub hard_modals_layer : Task → layer.Constraint-F (Environment → List HardModal) → Environment → List HardModal
hard_modals_layer T (layer.Both parts) env = flat_map (λ part. part env) parts
hard_modals_layer T (layer.Each variables body) env = flat_map body (bind T env variables)
hard_modals_layer T (layer.Single modal) env = record { modal = modal; env = env } ∷ []
hard_modals_layer T (layer.Soft at name body) env = []

unfoldable pub hard_modals : Task → Environment → Constraint → List HardModal
hard_modals T env constraint = fold_constraint (hard_modals_layer T) constraint env

-- the hard constraints of a task, the domain's first
unfoldable pub hard_list : Task → List HardModal
hard_list T = hard_modals T [] T.domain.constraints.body ++ hard_modals T [] T.problem.constraints.body

-- all operators, those within preferences too: a constraint is satisfied where they are
abbrev pub operators_layer : Task → layer.Constraint-F (Environment → List HardModal) → Environment → List HardModal
operators_layer T (layer.Both parts) env = flat_map (λ part. part env) parts
operators_layer T (layer.Each variables body) env = flat_map body (bind T env variables)
operators_layer T (layer.Single modal) env = record { modal = modal; env = env } ∷ []
operators_layer T (layer.Soft at name body) env = body env

unfoldable pub operators : Task → Environment → Constraint → List HardModal
operators T env constraint = fold_constraint (operators_layer T) constraint env

-- ---- instances of preferences

-- a preference over the visited states, at a binding of the variables outside it; its word `preference` stands at the offset
pub record Instance : Type 0 where
  pub at : ℕ
  pub name : Option Name
  pub body : Constraint
  pub env : Environment

abbrev pub one_constraint : {n : Count} → Row_of-Constraint (one_more n) → Constraint
one_constraint (more_of-Constraint constraint rest) = constraint

-- one for each preference and each binding outside it
unfoldable mutual
  pub instances_of : Task → Constraint → Environment → List Instance
  instances_of T (Both' _ parts) env = instances_of_all T parts env
  instances_of T (Each' variables _ body) env = flat_map (instances_of_one T body) (bind T env variables)
  instances_of T (Single modal) env = []
  instances_of T (Soft' at name _ body) env = record { at = at; name = named name; body = one_constraint body; env = env } ∷ []

  pub instances_of_all : Task → {n : Count} → Row_of-Constraint n → Environment → List Instance
  instances_of_all T end_of-Constraint env = []
  instances_of_all T (more_of-Constraint constraint rest) env = instances_of T constraint env ++ instances_of_all T rest env

  pub instances_of_one : Task → {n : Count} → Row_of-Constraint (one_more n) → Environment → List Instance
  instances_of_one T (more_of-Constraint constraint rest) env = instances_of T constraint env

-- a preference over the last state
abbrev pub at_end : StatePref → Instance
at_end pref = record { at = pref.at; name = pref.name; body = Single (AtEnd pref.body); env = pref.env }

-- the instances of the domain, and those of the problem: of its constraints, and then of the goal
abbrev pub domain_instances : Task → List Instance
domain_instances T = instances_of T T.domain.constraints.body []

abbrev pub problem_instances : Task → List Instance
problem_instances T = instances_of T T.problem.constraints.body [] ++ map at_end (prefs T [] T.problem.goal.body)

unfoldable pub instances : Task → List Instance
instances T = domain_instances T ++ problem_instances T
