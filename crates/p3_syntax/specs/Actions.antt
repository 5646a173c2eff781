-- Parts of actions as they are read.
use Rattle.std.specs.Prelude.{ℕ, List, [], ◌∷◌, map, codes, Option, Some}
use Rattle.p3_task.specs.Grammar.Words.{◌>>=◌}
use Rattle.p3_task.specs.Grammar.Lists.{variables_place}
use Rattle.p3_task.specs.Grammar.Goals.{goal_or_empty_place}
use Rattle.p3_task.specs.Grammar.Effects.{effect_or_empty_place}
use Rattle.p3_task.specs.Grammar.Halves.{Section, sections_among, optional, body_at, part_at, action_keywords, keyword_parts}
use Rattle.p3_task.specs.declared.expression.Expression.{Expression}
use Rattle.p3_task.specs.declared.term.Ref.{Ref}
use Rattle.p3_task.specs.declared.term.Typed.{Typed}
use Rattle.p3_task.specs.declared.task.Action.{Action}
use Rattle.p3_task.specs.declared.task.Part.{Part}
use Rattle.p3_task.specs.declared.goal.PreGoal.{PreGoal}
use Rattle.p3_task.specs.declared.goal.PreGoal.TheVariants as goal
use Rattle.p3_task.specs.declared.effect.Effect.{Effect}
use Rattle.p3_task.specs.declared.effect.Effect.TheVariants as effect
use Rattle.p3_outline.specs.declared.view.Parts.{Parts}
use Rattle.p3_syntax.specs.declared.tree.actions.ActionBody.{ActionBody}
use Rattle.p3_syntax.specs.declared.tree.actions.ActionPart.{ActionPart}
use Rattle.p3_outline.specs.Nodes.{expression_of, expressions_of}
use Rattle.p3_syntax.specs.Trees.{the_word}

abbrev pub the_part : ActionPart → Section
the_part part = record { word = the_word part.word; behind = expression_of part.body ∷ [] }

abbrev pub the_parts : List ActionPart → List Section
the_parts parts = map the_part parts

-- the keywords with their bodies, where all are keywords of actions
abbrev pub action_parts_in : List Expression → Option (List Section)
action_parts_in list = keyword_parts list >>= sections_among action_keywords

abbrev pub each_part : Parts → Option (List Section)
each_part parts = keyword_parts (expressions_of parts)

abbrev pub parameters_among : List Section → Option (List Typed)
parameters_among parts = optional (codes ":parameters") [] (body_at variables_place) parts

abbrev pub precondition_among : ℕ → List Section → Option (Part PreGoal)
precondition_among at parts = optional (codes ":precondition") (record { at = at; body = goal.Both [] }) (part_at goal_or_empty_place) parts

abbrev pub effect_among : ℕ → List Section → Option (Part Effect)
effect_among at parts = optional (codes ":effect") (record { at = at; body = effect.All [] }) (part_at effect_or_empty_place) parts

-- ---- the parts together

abbrev pub body_among : ℕ → List Section → Option ActionBody
body_among at parts = do
  params ← parameters_among parts
  change ← effect_among at parts
  pre ← precondition_among at parts
  Some (record { params = params; pre = pre; effect = change })

abbrev pub action_of : Ref → ActionBody → Action
action_of name body = record { name = name; params = body.params; pre = body.pre; effect = body.effect }
