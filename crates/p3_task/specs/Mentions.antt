-- The ground atoms that a formula mentions under all bindings of its quantifiers, and those of operators and of steps.
use Rattle.std.specs.Prelude.{Bool, not, List, [], ◌∷◌, ◌++◌, flat_map, map, Option, Some, None}
use Rattle.p3_task.specs.Folds.{fold_formula}
use Rattle.p3_task.specs.Names.{is_empty}
use Rattle.p3_task.specs.States.{Environment, fact_of}
use Rattle.p3_task.specs.Bindings.{bind}
use Rattle.p3_task.specs.Plans.{action_named, arguments}
use Rattle.p3_task.specs.Constraints.{HardModal}
use Rattle.p3_task.specs.Conjuncts.{NamedAtom, goal_conjuncts}
use Rattle.p3_task.specs.Literals.{Literal, literals}
use Rattle.p3_task.specs.declared.state.Fact.{Fact}
use Rattle.p3_task.specs.declared.formula.Formula.{Formula}
use Rattle.p3_task.specs.declared.formula.Formula.TheOpen as layer
use Rattle.p3_base.specs.Operators.{formulas_of}
use Rattle.p3_task.specs.declared.task.Action.{Action}
use Rattle.p3_task.specs.declared.task.Step.{Step}
use Rattle.p3_task.specs.declared.task.Task.{Task}

-- ---- formulas and operators

abbrev pub formula_atoms_layer : Task → layer.Formula-F (Environment → List Fact) → Environment → List Fact
formula_atoms_layer T (layer.Atom pred args) env = fact_of env pred args ∷ []
formula_atoms_layer T (layer.Equal left right) env = []
formula_atoms_layer T (layer.And parts) env = flat_map (λ part. part env) parts
formula_atoms_layer T (layer.Or parts) env = flat_map (λ part. part env) parts
formula_atoms_layer T (layer.Not part) env = part env
formula_atoms_layer T (layer.Imply first second) env = first env ++ second env
formula_atoms_layer T (layer.Exists variables body) env = flat_map body (bind T env variables)
formula_atoms_layer T (layer.Forall variables body) env = flat_map body (bind T env variables)

unfoldable pub formula_atoms : Task → Environment → Formula → List Fact
formula_atoms T env formula = fold_formula (formula_atoms_layer T) formula env

-- the atoms of the formulas of an operator
abbrev pub operator_atoms : Task → HardModal → List Fact
operator_atoms T operator = flat_map (formula_atoms T operator.env) (formulas_of operator.modal)

-- ---- steps

abbrev pub literals_by : Task → Step → Option Action → List Literal
literals_by T step None = []
literals_by T step (Some action) = literals T (arguments action step) action.effect.body

-- the literals of the effect of a step
abbrev pub step_literals : Task → Step → List Literal
step_literals T step = literals_by T step (action_named T step.action)

-- some `when` stands above it
abbrev pub is_under_when : Literal → Bool
is_under_when literal = not (is_empty literal.conditions)

abbrev pub conjuncts_by : Step → Option Action → List Fact
conjuncts_by step None = []
conjuncts_by step (Some action) = map (λ (atom : NamedAtom). fact_of (arguments action step) atom.pred atom.args) (goal_conjuncts action.pre.body)

-- the atoms that `and` alone joins in the hard precondition of a step
abbrev pub step_conjuncts : Task → Step → List Fact
step_conjuncts T step = conjuncts_by step (action_named T step.action)
