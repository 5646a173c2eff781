-- The refusals of numbers of too many units, in effects, actions and entries.
use Rattle.std.proofs.Common.{◌≡◌, ◌∙◌, ℕ, refl, sym, ap, Bool, true, false, cond, List, [], ◌∷◌, ◌++◌, map, Option, None}
use Rattle.std.specs.Prelude.{fold, filter, filter_map, flat_map, option_map, if◌then◌else◌}
use Rattle.std.proofs.lemmas.List.Elements.{filter_map-append}
use Rattle.std.proofs.lemmas.List.Sums.{fold-append}
use Rattle.p3_base.specs.declared.refusal.Refusal.{Refusal}
use Rattle.p3_base.specs.declared.refusal.Role.{Role}
use Rattle.p3_base.specs.declared.refusal.Side.{Side}
use Rattle.p3_task.proofs.MeaningLemmas.{increases-All}
use Rattle.p3_task.specs.Costs.{amount_numeral, amount_numerals, cost_places, increases, value_numeral, value_numerals}
use Rattle.p3_task.specs.Refusals.Metric.{dear_at, least_numeral}
use Rattle.p3_task.specs.Sides.{InDomain, InProblem, role_of}
use Rattle.p3_task.specs.declared.effect.Amount.{Amount}
use Rattle.p3_task.specs.declared.effect.Effect.{Effect}
use Rattle.p3_task.specs.declared.effect.Effect.TheVariants as effect
use Rattle.p3_task.specs.declared.effect.Numeral.{Numeral}
use Rattle.p3_task.specs.declared.formula.Formula.{Formula}
use Rattle.p3_task.specs.declared.task.Action.{Action}
use Rattle.p3_task.specs.declared.task.Init.{Init}
use Rattle.p3_task.specs.declared.task.Init.TheVariants as init
use Rattle.p3_task.specs.declared.task.Task.{Task}
use Rattle.p3_task.specs.declared.term.Ref.{Ref}
use Rattle.p3_task.specs.declared.term.Term.{Term}
use Rattle.p3_task.specs.declared.term.Typed.{Typed}
use Rattle.p3_limits.specs.Dear.{is_dear, noted, noted_action, noted_effect, noted_entry, refused}
use Rattle.p3_limits.specs.Least.{with_least}
use Rattle.p3_limits.proofs.LeastLaws.{least_by_offset}

-- ---- lists of lists

module _ {A B : Type 0} (step : Option Refusal → B → Option Refusal) (parts : A → List B) where
  each_part : (found : Option Refusal) (items : List A) → fold step found (flat_map parts items) ≡ fold (λ so_far item. fold step so_far (parts item)) found items
  each_part found [] = refl
  each_part found (item ∷ items) = fold-append step found (parts item) (flat_map parts items) ∙ each_part (fold step found (parts item)) items

module _ (side : Side) (places : ℕ) (role : Role) where
  abbrev dear : Numeral → Bool
  dear = is_dear side places

  abbrev one_more : Option Refusal → Numeral → Option Refusal
  one_more = noted side places role

  -- ---- the one of least offset

  passed : (found : Option Refusal) (numerals : List Numeral) → fold one_more found numerals ≡ fold with_least found (map (refused role) (filter dear numerals))
  passed found [] = refl
  passed found (numeral ∷ numerals) = by (dear numeral) (passed (with_least found (refused role numeral)) numerals) (passed found numerals)
    where
      by : (t : Bool) → fold one_more (with_least found (refused role numeral)) numerals ≡ fold with_least (with_least found (refused role numeral)) (map (refused role) (filter dear numerals))
          → fold one_more found numerals ≡ fold with_least found (map (refused role) (filter dear numerals))
          → fold one_more (if t then with_least found (refused role numeral) else found) numerals ≡ fold with_least found (map (refused role) (cond t (numeral ∷ filter dear numerals) (filter dear numerals)))
      by true own rest = own
      by false own rest = rest

  least : (numerals : List Numeral) → fold with_least None (map (refused role) numerals) ≡ option_map (refused role) (least_numeral numerals)
  least [] = refl
  least (numeral ∷ numerals) = least_by_offset (λ (other : Numeral). other.at) (refused role) (λ other. refl) numeral numerals

  shown : (numerals : List Numeral) → fold one_more None numerals ≡ option_map (refused role) (least_numeral (filter dear numerals))
  shown numerals = passed None numerals ∙ least (filter dear numerals)

  -- ---- effects

  module _ (found : Option Refusal) where
    pub dear-Add : (pred : Ref) (args : List Term) → noted_effect side places role found (effect.Add pred args) ≡ found
    unfolding noted_effect increases
    dear-Add pred args = refl

    pub dear-Del : (pred : Ref) (args : List Term) → noted_effect side places role found (effect.Del pred args) ≡ found
    unfolding noted_effect increases
    dear-Del pred args = refl

    pub dear-Each : (variables : List Typed) (body : Effect) → noted_effect side places role found (effect.Each variables body) ≡ found
    unfolding noted_effect increases
    dear-Each variables body = refl

    pub dear-If : (condition : Formula) (body : Effect) → noted_effect side places role found (effect.If condition body) ≡ found
    unfolding noted_effect increases
    dear-If condition body = refl

    pub dear-Cost : (at : ℕ) (amount : Amount) → noted_effect side places role found (effect.Cost at amount) ≡ fold one_more found (filter_map amount_numeral (amount ∷ []))
    unfolding noted_effect increases
    dear-Cost at amount = refl

    pub dear-All : (parts : List Effect) → noted_effect side places role found (effect.All parts) ≡ fold (noted_effect side places role) found parts
    unfolding noted_effect
    dear-All parts = ap (λ list. fold one_more found (filter_map amount_numeral list)) (increases-All parts) ∙ ap (fold one_more found) (mapped parts) ∙ each_part one_more (λ part. filter_map amount_numeral (increases part)) found parts
      where
        mapped : (parts : List Effect) → filter_map amount_numeral (flat_map increases parts) ≡ flat_map (λ part. filter_map amount_numeral (increases part)) parts
        mapped [] = refl
        mapped (part ∷ parts) = filter_map-append amount_numeral (increases part) (flat_map increases parts) ∙ ap (λ list. filter_map amount_numeral (increases part) ++ list) (mapped parts)

  -- ---- entries

  each_entry : (found : Option Refusal) (entries : List Init) → fold (noted_entry side places role) found entries ≡ fold one_more found (filter_map value_numeral entries)
  each_entry found [] = refl
  each_entry found (init.True pred args ∷ entries) = each_entry found entries
  each_entry found (init.False pred args ∷ entries) = each_entry found entries
  each_entry found (init.Value function args number ∷ entries) = each_entry (noted side places role found number) entries

pub ruleset effect_laws = (dear-Add, dear-Del, dear-Each, dear-If, dear-Cost, dear-All)

-- ---- the task

pub amounts_are : (side : Side) (T : Task) → fold (noted_action side (cost_places T) (role_of side InDomain)) None T.domain.actions ≡ dear_at side T InDomain (amount_numerals T)
unfolding noted_effect
amounts_are side T =
    sym (each_part (noted side (cost_places T) (role_of side InDomain)) (λ (action : Action). filter_map amount_numeral (increases action.effect.body)) None T.domain.actions)
    ∙ shown side (cost_places T) (role_of side InDomain) (amount_numerals T)

pub values_are : (side : Side) (T : Task) → fold (noted_entry side (cost_places T) (role_of side InProblem)) None T.problem.init ≡ dear_at side T InProblem (value_numerals T)
values_are side T = each_entry side (cost_places T) (role_of side InProblem) None T.problem.init ∙ shown side (cost_places T) (role_of side InProblem) (value_numerals T)
