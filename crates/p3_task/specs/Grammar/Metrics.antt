-- Texts of metrics.
use Rattle.std.specs.Prelude.{List, [], ◌∷◌, map, codes, if◌then◌else◌, Option, Some, None}
use Rattle.std.specs.Option.{option_or}
use Rattle.p3_base.specs.declared.refusal.Direction.{Direction}
use Rattle.p3_base.specs.declared.refusal.Direction.TheVariants.{Minimize, Maximize}
use Rattle.p3_task.specs.Names.{Name, total_cost, is_empty}
use Rattle.p3_task.specs.Grammar.Words.{◌>>=◌, Place, ListPart, descend, raws, all_trees, only, pair, name_place, numeral_place, is_word, headed, choose}
use Rattle.p3_task.specs.declared.expression.Expression.{Expression}
use Rattle.p3_task.specs.declared.term.Ref.{Ref}
use Rattle.p3_task.specs.declared.metric.Metric.{Metric}
use Rattle.p3_task.specs.declared.metric.Num.{Num}
use Rattle.p3_task.specs.declared.metric.Num.TheVariants as num

abbrev pub Parts : Type 0
Parts = List (ListPart (Option Num))

abbrev pub trees_of : Parts → Option (List Num)
trees_of parts = all_trees (map (λ (part : ListPart (Option Num)). part.tree) parts)

-- `(total-cost)`
abbrev pub total_cost_form : Ref → Parts → Option Num
total_cost_form head behind = if is_empty behind then Some (num.TotalCost head.at) else None

-- `(is-violated` name `)`
abbrev pub violated_form : Ref → Parts → Option Num
violated_form head behind = only (raws behind) >>= λ e. name_place e >>= λ name. Some (num.Violated name)

-- one part is negated, and the second of two is taken from the first
abbrev pub minus_of : Ref → List Num → Option Num
minus_of head (part ∷ []) = Some (num.Neg head.at part)
minus_of head (first ∷ second ∷ []) = Some (num.Sub head.at first second)
minus_of head _ = None

-- `(-` num `)` | `(-` num num `)`
abbrev pub minus_form : Ref → Parts → Option Num
minus_form head behind = trees_of behind >>= minus_of head

-- `(+` num+ `)`
abbrev pub sum_form : Ref → Parts → Option Num
sum_form head behind = trees_of behind >>= λ parts. if is_empty parts then None else Some (num.Sum head.at parts)

-- `(*` num+ `)`
abbrev pub product_form : Ref → Parts → Option Num
product_form head behind = trees_of behind >>= λ parts. if is_empty parts then None else Some (num.Product head.at parts)

abbrev pub num_forms : List (Name × (Ref → Parts → Option Num))
num_forms = (total_cost, total_cost_form) ∷ (codes "is-violated", violated_form) ∷ (codes "-", minus_form) ∷ (codes "+", sum_form) ∷ (codes "*", product_form) ∷ []

abbrev pub num_in : Parts → Option Num
num_in parts = headed (λ (part : ListPart (Option Num)). part.raw) parts >>= λ list. choose list.0.name num_forms (λ head behind. None) list.0 list.1

-- number | `total-cost`
abbrev pub num_word : Expression → Option Num
num_word e = option_or (numeral_place e >>= λ numeral. Some (num.Number numeral)) (is_word total_cost e >>= λ word. Some (num.TotalCost word.at))

-- num: one of these forms
unfoldable pub num_place : Place Num
num_place = descend num_word (λ list parts. num_in parts)

-- direction: `minimize` | `maximize`
abbrev pub direction_place : Place Direction
direction_place e = option_or (is_word (codes "minimize") e >>= λ word. Some Minimize) (is_word (codes "maximize") e >>= λ word. Some Maximize)

-- direction num, behind `:metric`
abbrev pub metric_in : List Expression → Option Metric
metric_in parts = do
  both ← pair parts
  direction ← direction_place both.0
  body ← num_place both.1
  Some (record { direction = direction; body = body })
