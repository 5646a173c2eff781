-- Preconditions and goals: a hard part and preferences (the PDDL3 report).
use Rattle.std.specs.Prelude.{ℕ, Bool, true, List, [], ◌∷◌, flat_map, map, option_map, Option}
use Rattle.std.specs.List.{list_all}
use Rattle.p3_task.specs.Folds.{fold_goal}
use Rattle.p3_task.specs.Names.{Name}
use Rattle.p3_task.specs.States.{State, Environment}
use Rattle.p3_task.specs.Bindings.{bind}
use Rattle.p3_task.specs.Formulas.{holds}
use Rattle.p3_task.specs.declared.formula.Formula.{Formula}
use Rattle.p3_task.specs.declared.term.Ref.{Ref}
use Rattle.p3_task.specs.declared.goal.PreGoal.{PreGoal}
use Rattle.p3_task.specs.declared.goal.PreGoal.TheOpen.{PreGoal-F, Plain, Both, Each, Soft}
use Rattle.p3_task.specs.declared.task.Task.{Task}

-- what must hold: all but the preferences
abbrev pub hard_layer : Task → State → PreGoal-F (Environment → Bool) → Environment → Bool
hard_layer T s (Plain formula) env = holds T s env formula
hard_layer T s (Both parts) env = list_all (λ part. part env) parts
hard_layer T s (Each variables body) env = list_all body (bind T env variables)
hard_layer T s (Soft pref) env = true

unfoldable pub hard_holds : Task → State → Environment → PreGoal → Bool
hard_holds T s env goal = fold_goal (hard_layer T s) goal env

-- the name of a preference, where it has one
abbrev pub named : Option Ref → Option Name
named name = option_map (λ ref. ref.name) name

-- a preference over one state, at a binding of the variables outside it; its word `preference` stands at the offset
pub record StatePref : Type 0 where
  pub at : ℕ
  pub name : Option Name
  pub body : Formula
  pub env : Environment

-- one for each preference and each binding outside it
abbrev pub prefs_layer : Task → PreGoal-F (Environment → List StatePref) → Environment → List StatePref
prefs_layer T (Plain formula) env = []
prefs_layer T (Both parts) env = flat_map (λ part. part env) parts
prefs_layer T (Each variables body) env = flat_map body (bind T env variables)
prefs_layer T (Soft pref) env = record { at = pref.at; name = named pref.name; body = pref.body; env = env } ∷ []

unfoldable pub prefs : Task → Environment → PreGoal → List StatePref
prefs T env goal = fold_goal (prefs_layer T) goal env

-- the names of preferences, in order
abbrev pub pref_names : List StatePref → List (Option Name)
pref_names list = map (λ (pref : StatePref). pref.name) list
