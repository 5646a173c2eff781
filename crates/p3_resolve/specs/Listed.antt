-- What a task's trees declare: variables with lists of types, and preferences.
use Rattle.std.specs.Prelude.{List, [], ◌++◌, map, flat_map}
use denote.Ref.{Bor}
use Rattle.p3_task.specs.Modal.{Modal}
use Rattle.p3_task.specs.PreferenceNames.{Named}
use Rattle.p3_task.specs.Uses.{Use, Objects, Variables, AtomUse, FunctionUse, SideUse, NameUse, formula_uses, effect_uses, goal_uses, modal_uses, constraint_uses, action_uses}
use Rattle.p3_task.specs.declared.constraint.Constraint.{Constraint}
use Rattle.p3_task.specs.declared.effect.Effect.{Effect}
use Rattle.p3_task.specs.declared.formula.Formula.{Formula}
use Rattle.p3_task.specs.declared.goal.PreGoal.{PreGoal}
use Rattle.p3_task.specs.declared.task.Action.{Action}
use Rattle.p3_task.specs.declared.task.Domain.{Domain}
use Rattle.p3_task.specs.declared.task.Problem.{Problem}
use Rattle.p3_task.specs.declared.task.Task.{Task}
use Rattle.p3_task.specs.declared.term.Ref.{Ref}
use Rattle.p3_task.specs.declared.term.Typed.{Typed}

abbrev pub lists_in : List (Bor (List Ref)) → List (List Ref)
lists_in found = map (λ (types : Bor (List Ref)). types.now) found

abbrev pub types_of : List Typed → List (List Ref)
types_of variables = map (λ (variable : Typed). variable.types) variables

abbrev pub lists_at : Use → List (List Ref)
lists_at (Objects objects) = []
lists_at (Variables variables) = types_of variables
lists_at (AtomUse pred args scope) = []
lists_at (FunctionUse function args scope) = []
lists_at (SideUse side scope) = []
lists_at (NameUse name) = []

abbrev pub lists_of : List Use → List (List Ref)
lists_of uses = flat_map lists_at uses

-- ---- of a tree, in any scope

unfoldable pub formula_lists : Formula → List (List Ref)
formula_lists tree = lists_of (formula_uses tree [])

unfoldable pub effect_lists : Effect → List (List Ref)
effect_lists tree = lists_of (effect_uses tree [])

unfoldable pub goal_lists : PreGoal → List (List Ref)
goal_lists tree = lists_of (goal_uses tree [])

unfoldable pub modal_lists : Modal → List (List Ref)
modal_lists operator = lists_of (modal_uses operator [])

unfoldable pub constraint_lists : Constraint → List (List Ref)
constraint_lists tree = lists_of (constraint_uses tree [])

unfoldable pub action_lists : Action → List (List Ref)
action_lists action = lists_of (action_uses action)

abbrev pub domain_lists : Domain → List (List Ref)
domain_lists D = constraint_lists D.constraints.body ++ flat_map action_lists D.actions

abbrev pub problem_lists : Problem → List (List Ref)
problem_lists P = constraint_lists P.constraints.body ++ goal_lists P.goal.body

-- those of a task
abbrev pub task_lists : Task → List (List Ref)
task_lists T = domain_lists T.domain ++ problem_lists T.problem

-- ---- what was gathered so far

pub record Gathering : Type 0 where
  pub lists : List (List Ref)
  pub named : List Named

abbrev pub nothing : Gathering
nothing = record { lists = []; named = [] }

unfoldable pub more : List (List Ref) → List Named → Gathering → Gathering
more lists named before = record { lists = before.lists ++ lists; named = before.named ++ named }
