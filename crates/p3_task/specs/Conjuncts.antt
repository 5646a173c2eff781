-- The atoms that `and` alone joins in a formula, and in a precondition or goal.
use Rattle.std.specs.Prelude.{Bool, List, [], ◌∷◌, flat_map}
use Rattle.std.specs.List.{list_all}
use Rattle.p3_task.specs.Folds.{fold_formula, fold_goal}
use Rattle.p3_task.specs.States.{State, Environment, has_fact, fact_of}
use Rattle.p3_task.specs.declared.term.Ref.{Ref}
use Rattle.p3_task.specs.declared.term.Term.{Term}
use Rattle.p3_task.specs.declared.formula.Formula.{Formula}
use Rattle.p3_task.specs.declared.formula.Formula.TheOpen as formula
use Rattle.p3_task.specs.declared.goal.PreGoal.{PreGoal}
use Rattle.p3_task.specs.declared.goal.PreGoal.TheOpen as goal

-- an atom as it stands in the text
pub record NamedAtom : Type 0 where
  pub pred : Ref
  pub args : List Term

abbrev pub formula_conjuncts_layer : formula.Formula-F (List NamedAtom) → List NamedAtom
formula_conjuncts_layer (formula.Atom pred args) = record { pred = pred; args = args } ∷ []
formula_conjuncts_layer (formula.Equal left right) = []
formula_conjuncts_layer (formula.And parts) = flat_map (λ part. part) parts
formula_conjuncts_layer (formula.Or parts) = []
formula_conjuncts_layer (formula.Not part) = []
formula_conjuncts_layer (formula.Imply first second) = []
formula_conjuncts_layer (formula.Exists variables body) = []
formula_conjuncts_layer (formula.Forall variables body) = []

unfoldable pub formula_conjuncts : Formula → List NamedAtom
formula_conjuncts tree = fold_formula formula_conjuncts_layer tree

abbrev pub goal_conjuncts_layer : goal.PreGoal-F (List NamedAtom) → List NamedAtom
goal_conjuncts_layer (goal.Plain body) = formula_conjuncts body
goal_conjuncts_layer (goal.Both parts) = flat_map (λ part. part) parts
goal_conjuncts_layer (goal.Each variables body) = []
goal_conjuncts_layer (goal.Soft pref) = []

unfoldable pub goal_conjuncts : PreGoal → List NamedAtom
goal_conjuncts tree = fold_goal goal_conjuncts_layer tree

-- each of them holds
abbrev pub all_hold : State → Environment → List NamedAtom → Bool
all_hold s env atoms = list_all (λ (atom : NamedAtom). has_fact s (fact_of env atom.pred atom.args)) atoms
