-- Preference names in the order of the text: each at the first preference that has it, the domain's before the problem's.
use Rattle.std.specs.Prelude.{ℕ, nat_lt, List, [], ◌∷◌, ◌++◌, map, flat_map, fold, if◌then◌else◌, Option, Some, None}
use Rattle.p3_task.specs.Folds.{fold_goal, fold_constraint}
use Rattle.p3_task.specs.Names.{Name}
use Rattle.p3_task.specs.Types.{once_each}
use Rattle.p3_task.specs.declared.term.Ref.{Ref}
use Rattle.p3_task.specs.declared.goal.PreGoal.{PreGoal}
use Rattle.p3_task.specs.declared.goal.PreGoal.TheOpen as goal
use Rattle.p3_task.specs.declared.constraint.Constraint.{Constraint}
use Rattle.p3_task.specs.declared.constraint.Constraint.TheOpen as constraint
use Rattle.p3_task.specs.declared.task.Domain.{Domain}
use Rattle.p3_task.specs.declared.task.Problem.{Problem}
use Rattle.p3_task.specs.declared.task.Task.{Task}

-- a name, at the offset of a preference that has it
pub record Named : Type 0 where
  pub at : ℕ
  pub name : Name

abbrev pub named_at : ℕ → Option Ref → List Named
named_at at None = []
named_at at (Some name) = record { at = at; name = name.name } ∷ []

abbrev pub goal_names_layer : goal.PreGoal-F (List Named) → List Named
goal_names_layer (goal.Plain body) = []
goal_names_layer (goal.Both parts) = flat_map (λ part. part) parts
goal_names_layer (goal.Each variables body) = body
goal_names_layer (goal.Soft pref) = named_at pref.at pref.name

unfoldable pub named_in_goal : PreGoal → List Named
named_in_goal tree = fold_goal goal_names_layer tree

abbrev pub constraint_names_layer : constraint.Constraint-F (List Named) → List Named
constraint_names_layer (constraint.Both parts) = flat_map (λ part. part) parts
constraint_names_layer (constraint.Each variables body) = body
constraint_names_layer (constraint.Single modal) = []
constraint_names_layer (constraint.Soft at name body) = named_at at name ++ body

unfoldable pub named_in_constraint : Constraint → List Named
named_in_constraint tree = fold_constraint constraint_names_layer tree

-- in the order of the trees
abbrev pub named_in_domain : Domain → List Named
named_in_domain D = named_in_constraint D.constraints.body ++ flat_map (λ action. named_in_goal action.pre.body) D.actions

abbrev pub named_in_problem : Problem → List Named
named_in_problem P = named_in_constraint P.constraints.body ++ named_in_goal P.goal.body

-- the names of all preferences of a task
unfoldable pub preference_names : Task → List Name
preference_names T = map (λ (named : Named). named.name) (named_in_domain T.domain ++ named_in_problem T.problem)

-- ---- in the order of the text

abbrev pub placed : Named → List Named → List Named
placed named [] = named ∷ []
placed named (first ∷ others) = if nat_lt named.at first.at then named ∷ first ∷ others else first ∷ placed named others

-- the names by rising offsets
abbrev pub in_text_order : List Named → List Name
in_text_order list = map (λ (named : Named). named.name) (fold (λ sorted named. placed named sorted) [] list)

-- each name once, in the text order of the first preference that has it, the domain's before the problem's
unfoldable pub ordered_names : Task → List Name
ordered_names T = once_each (in_text_order (named_in_domain T.domain) ++ in_text_order (named_in_problem T.problem))
