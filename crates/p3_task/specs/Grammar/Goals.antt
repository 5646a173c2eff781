-- Texts of preconditions and goals.
use Rattle.std.specs.Prelude.{List, [], ◌∷◌, map, codes, if◌then◌else◌, Option, Some, None}
use Rattle.p3_task.specs.Names.{Name, is_empty}
use Rattle.p3_task.specs.Grammar.Words.{◌>>=◌, Place, ListPart, descend, raws, all_trees, pair, parts_place, name_place, headed, choose}
use Rattle.p3_task.specs.Grammar.Lists.{variables_place}
use Rattle.p3_task.specs.Grammar.Formulas.{formula_place}
use Rattle.p3_task.specs.declared.expression.Expression.{Expression}
use Rattle.p3_task.specs.declared.term.Ref.{Ref}
use Rattle.p3_task.specs.declared.goal.PreGoal.{PreGoal}
use Rattle.p3_task.specs.declared.goal.PreGoal.TheVariants as goal

abbrev pub Parts : Type 0
Parts = List (ListPart (Option PreGoal))

-- [name] x, behind the word `preference`, where x stands at the place
abbrev pub preferred : {A : Type 0} → Place A → List Expression → Option (Option Ref × A)
preferred place (body ∷ []) = place body >>= λ tree. Some (None, tree)
preferred place (word ∷ body ∷ []) = do
  name ← name_place word
  tree ← place body
  Some (Some name, tree)
preferred place _ = None

-- `(and` pre-goal* `)`
abbrev pub both_form : Ref → Parts → Option PreGoal
both_form head behind = all_trees (map (λ (part : ListPart (Option PreGoal)). part.tree) behind) >>= λ parts. Some (goal.Both parts)

-- `(forall (` variable-list `)` pre-goal `)`
abbrev pub each_form : Ref → Parts → Option PreGoal
each_form head behind = do
  both ← pair behind
  variables ← variables_place both.0.raw
  body ← both.1.tree
  Some (goal.Each variables body)

-- `(preference` [name] formula `)`
abbrev pub preference_form : Ref → Parts → Option PreGoal
preference_form head behind = preferred formula_place (raws behind) >>= λ found. Some (goal.Soft (record { at = head.at; name = found.0; body = found.1 }))

abbrev pub goal_forms : List (Name × (Ref → Parts → Option PreGoal))
goal_forms = (codes "and", both_form) ∷ (codes "forall", each_form) ∷ (codes "preference", preference_form) ∷ []

-- any other list: formula
abbrev pub plain_form : Expression → Option PreGoal
plain_form e = formula_place e >>= λ tree. Some (goal.Plain tree)

abbrev pub goal_in : Expression → Parts → Option PreGoal
goal_in e parts = headed (λ (part : ListPart (Option PreGoal)). part.raw) parts >>= λ list. choose list.0.name goal_forms (λ head behind. plain_form e) list.0 list.1

-- pre-goal: one of these forms, or a formula of another form
unfoldable pub goal_place : Place PreGoal
goal_place = descend (λ word. None) goal_in

-- pre-goal | `()`, which means `(and)`
abbrev pub goal_or_empty_place : Place PreGoal
goal_or_empty_place e = parts_place e >>= λ parts. if is_empty parts then Some (goal.Both []) else goal_place e
