-- What the metric of a well-formed task shows: a product of two quantities, numbers that are too long or too large, a negative weight.
use Rattle.std.specs.Prelude.{ℕ, nat_lt, nat_le, fold, Bool, true, false, not, ◌&&◌, ℤ, pos, int_lt, neg_ℤ, List, [], ◌∷◌, ◌++◌, map, filter, flat_map, find, slice_get, count_by, codes, if◌then◌else◌, Option, Some, None, option_map}
use Rattle.std.specs.List.{list_any}
use Rattle.std.specs.Option.{option_and_then, option_map_or}
use Rattle.p3_base.specs.declared.refusal.Code.TheVariants.{NonLinear, CostTooLarge, NegativeWeight}
use Rattle.p3_base.specs.declared.refusal.Refusal.{Refusal}
use Rattle.p3_base.specs.declared.refusal.Side.{Side}
use Rattle.p3_task.specs.Sides.{Half, InDomain, InProblem, role_of, metric_place_limit, weight_bound, cost_bound_of}
use Rattle.p3_task.specs.Folds.{fold_num}
use Rattle.p3_task.specs.Names.{total_cost}
use Rattle.p3_task.specs.Costs.{amount_numerals, value_numerals, cost_units}
use Rattle.p3_task.specs.Metrics.{metric_places, weight, cost_weight}
use Rattle.p3_task.specs.Limits.{constant, coefficient, cost_coefficient}
use Rattle.p3_task.specs.Refusals.Places.{refusal_at, refusal_at_word, word_at}
use Rattle.p3_task.specs.declared.term.Ref.{Ref}
use Rattle.p3_task.specs.declared.effect.Numeral.{Numeral}
use Rattle.p3_task.specs.declared.metric.Num.{Num}
use Rattle.p3_task.specs.declared.metric.Num.TheVariants as num
use Rattle.p3_task.specs.declared.metric.Num.TheOpen as layer
use Rattle.p3_task.specs.declared.task.Task.{Task}

-- ---- mentions of counts and of the total cost

-- a count or the total cost, at its word
pub data Mention : Type 0 where
  Count : (name : Ref) → Mention
  Cost : (at : ℕ) → Mention

abbrev pub mentions_layer : layer.Num-F (List Mention) → List Mention
mentions_layer (layer.Number numeral) = []
mentions_layer (layer.TotalCost at) = Cost at ∷ []
mentions_layer (layer.Violated name) = Count name ∷ []
mentions_layer (layer.Neg at part) = part
mentions_layer (layer.Sub at first second) = first ++ second
mentions_layer (layer.Sum at parts) = flat_map (λ part. part) parts
mentions_layer (layer.Product at parts) = flat_map (λ part. part) parts

-- in text order
unfoldable pub mentions : Num → List Mention
mentions tree = fold_num mentions_layer tree

abbrev pub mention_word : Mention → Ref
mention_word (Count name) = name
mention_word (Cost at) = word_at total_cost at

-- ---- subexpressions in the order of evaluation

-- an expression, and what is evaluated on the way to it: the parts from the left, each before the fold that takes it in
pub record Evaluated : Type 0 where
  pub tree : Num
  pub order : List Num

abbrev pub folds : (List Num → Num) → List Num → List Evaluated → List Num
folds operator done [] = []
folds operator done (part ∷ parts) = part.order ++ operator (done ++ part.tree ∷ []) ∷ folds operator (done ++ part.tree ∷ []) parts

abbrev pub trees : List Evaluated → List Num
trees parts = map (λ part. part.tree) parts

abbrev pub leaf : Num → Evaluated
leaf tree = record { tree = tree; order = [] }

abbrev pub order_layer : layer.Num-F Evaluated → Evaluated
order_layer (layer.Number numeral) = leaf (num.Number numeral)
order_layer (layer.TotalCost at) = leaf (num.TotalCost at)
order_layer (layer.Violated name) = leaf (num.Violated name)
order_layer (layer.Neg at part) = record { tree = num.Neg at part.tree; order = part.order ++ num.Neg at part.tree ∷ [] }
order_layer (layer.Sub at first second) = record { tree = num.Sub at first.tree second.tree; order = first.order ++ second.order ++ num.Sub at first.tree second.tree ∷ [] }
order_layer (layer.Sum at parts) = record { tree = num.Sum at (trees parts); order = folds (num.Sum at) [] parts }
order_layer (layer.Product at parts) = record { tree = num.Product at (trees parts); order = folds (num.Product at) [] parts }

-- the operations of an expression in the order of evaluation, partial sums and products among them
unfoldable pub operations : Num → List Num
operations tree = (fold_num order_layer tree).order

-- the operator of an operation
abbrev pub operator : Num → Ref
operator (num.Neg' at _ part) = word_at (codes "-") at
operator (num.Sub' at _ first _ second) = word_at (codes "-") at
operator (num.Sum' at _ parts) = word_at (codes "+") at
operator (num.Product' at _ parts) = word_at (codes "*") at
operator (num.Number numeral) = word_at [] numeral.at
operator (num.TotalCost at) = word_at total_cost at
operator (num.Violated name) = name

-- ---- a product of two quantities

pub record Factors : Type 0 where
  pub mention : Bool
  pub products : List ℕ

abbrev pub factors_of_parts : List Factors → List ℕ → Factors
factors_of_parts parts own = record { mention = list_any (λ part. part.mention) parts; products = own ++ flat_map (λ part. part.products) parts }

abbrev pub factors_layer : layer.Num-F Factors → Factors
factors_layer (layer.Number numeral) = record { mention = false; products = [] }
factors_layer (layer.TotalCost at) = record { mention = true; products = [] }
factors_layer (layer.Violated name) = record { mention = true; products = [] }
factors_layer (layer.Neg at part) = part
factors_layer (layer.Sub at first second) = factors_of_parts (first ∷ second ∷ []) []
factors_layer (layer.Sum at parts) = factors_of_parts parts []
factors_layer (layer.Product at parts) = factors_of_parts parts (if nat_lt 1 (count_by (λ (part : Factors). part.mention) parts) then at ∷ [] else [])

-- the products with two factors that each mention a count or the total cost; an outer one stands before an inner one
unfoldable pub nonlinear : Num → List ℕ
nonlinear tree = (fold_num factors_layer tree).products

-- ---- numbers that are too large

-- below the bound in absolute value
abbrev pub is_within : ℕ → ℤ → Bool
is_within bound number = int_lt number (pos bound) && int_lt (neg_ℤ number) (pos bound)

abbrev pub mention_coefficient : Task → Num → Mention → ℤ
mention_coefficient T tree (Count name) = coefficient T tree name.name
mention_coefficient T tree (Cost at) = cost_coefficient T tree

-- a coefficient or the constant, in the units of the expression itself, is not below the bound
abbrev pub is_large : Task → Num → Bool
is_large T tree = list_any (λ number. not (is_within weight_bound number)) (constant T tree ∷ map (mention_coefficient T tree) (mentions tree))

-- an amount or a value of too many units
abbrev pub is_dear : Side → Task → Numeral → Bool
is_dear side T numeral = option_map_or (λ bound. nat_le bound (cost_units T numeral)) (cost_bound_of side) false

abbrev pub least_numeral : List Numeral → Option Numeral
least_numeral [] = None
least_numeral (numeral ∷ numerals) = Some (fold (λ least other. if nat_lt other.at least.at then other else least) numeral numerals)

abbrev pub mention_weight : Task → Mention → ℤ
mention_weight T (Count name) = weight T name.name
mention_weight T (Cost at) = cost_weight T

-- ---- where it is refused

abbrev pub metric_body : Task → Option Num
metric_body T = option_map (λ metric. metric.body) T.problem.metric

-- the first product of two quantities: at its `*`
abbrev pub nonlinear_at : Side → Num → Option Refusal
nonlinear_at side body = option_map (λ at. refusal_at_word NonLinear (role_of side InProblem) (word_at (codes "*") at)) (slice_get (nonlinear body) 0)

-- a metric with too many places: at its outermost operator
abbrev pub too_many_places_at : Side → Task → Num → Option Refusal
too_many_places_at side T body = if nat_lt metric_place_limit (metric_places T) then Some (refusal_at_word CostTooLarge (role_of side InProblem) (operator body)) else None

-- a number of too many units: at the number
abbrev pub dear_at : Side → Task → Half → List Numeral → Option Refusal
dear_at side T half numerals = option_map (λ (numeral : Numeral). refusal_at CostTooLarge (role_of side half) numeral.at numeral.len) (least_numeral (filter (is_dear side T) numerals))

-- the first operation with a coefficient or a constant that is too large: at its operator
abbrev pub large_at : Side → Task → Num → Option Refusal
large_at side T body = option_map (λ tree. refusal_at_word CostTooLarge (role_of side InProblem) (operator tree)) (find (is_large T) (operations body))

-- the first mention of a count or of the total cost whose weight is below 0
abbrev pub negative_at : Side → Task → Num → Option Refusal
negative_at side T body = option_map (λ mention. refusal_at_word NegativeWeight (role_of side InProblem) (mention_word mention)) (find (λ mention. int_lt (mention_weight T mention) (pos 0)) (mentions body))

-- in their order: not linear; the three cases of numbers that are too large; a negative weight
abbrev pub metric_refusals : Side → Task → List (Option Refusal)
metric_refusals side T =
    option_and_then (nonlinear_at side) (metric_body T)
    ∷ option_and_then (too_many_places_at side T) (metric_body T)
    ∷ dear_at side T InDomain (amount_numerals T) ∷ dear_at side T InProblem (value_numerals T)
    ∷ option_and_then (large_at side T) (metric_body T)
    ∷ option_and_then (negative_at side T) (metric_body T) ∷ []
