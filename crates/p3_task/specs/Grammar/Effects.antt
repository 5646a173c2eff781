-- Texts of effects.
use Rattle.std.specs.Prelude.{Bool, true, false, List, [], ◌∷◌, map, codes, if◌then◌else◌, Option, Some, None}
use Rattle.std.specs.Option.{option_or}
use Rattle.p3_task.specs.Names.{Name, same_name, total_cost, is_empty}
use Rattle.p3_task.specs.Grammar.Words.{◌>>=◌, Place, ListPart, descend, raws, all_trees, each_at, only, pair, parts_place, function_place, numeral_place, is_word, headed, choose}
use Rattle.p3_task.specs.Grammar.Lists.{term_place, variables_place}
use Rattle.p3_task.specs.Grammar.Formulas.{atom_in, formula_place}
use Rattle.p3_task.specs.declared.expression.Expression.{Expression}
use Rattle.p3_task.specs.declared.term.Ref.{Ref}
use Rattle.p3_task.specs.declared.effect.Amount.{Amount}
use Rattle.p3_task.specs.declared.effect.Amount.TheVariants as amount
use Rattle.p3_task.specs.declared.effect.Effect.{Effect}
use Rattle.p3_task.specs.declared.effect.Effect.TheVariants as effect

-- whether an increase may stand here, and the effect
abbrev pub EffectAt : Type 0
EffectAt = Bool → Option Effect

abbrev pub Parts : Type 0
Parts = List (ListPart EffectAt)

-- `(` name term* `)` with a name other than `total-cost`
abbrev pub function_value_in : List Expression → Option Amount
function_value_in [] = None
function_value_in (first ∷ behind) = do
  function ← function_place first
  args ← each_at term_place behind
  if same_name function.name total_cost then None else Some (amount.Value function args)

-- amount: number | `(` name term* `)` with a name other than `total-cost`
abbrev pub amount_place : Place Amount
amount_place e = option_or (numeral_place e >>= λ numeral. Some (amount.Number numeral)) (parts_place e >>= function_value_in)

-- `(total-cost)`
abbrev pub total_cost_place : Place Ref
total_cost_place e = parts_place e >>= λ parts. only parts >>= is_word total_cost

-- `(and` effect* `)`
abbrev pub all_form : Parts → EffectAt
all_form behind free = all_trees (map (λ (part : ListPart EffectAt). part.tree free) behind) >>= λ parts. Some (effect.All parts)

-- `(forall (` variable-list `)` effect `)`; no increase stands under it
abbrev pub each_form : Parts → EffectAt
each_form behind free = do
  both ← pair behind
  variables ← variables_place both.0.raw
  body ← both.1.tree false
  Some (effect.Each variables body)

-- `(when` formula effect `)`; no increase stands under it
abbrev pub when_form : Parts → EffectAt
when_form behind free = do
  both ← pair behind
  condition ← formula_place both.0.raw
  body ← both.1.tree false
  Some (effect.If condition body)

-- `(not (` name term* `))`
abbrev pub delete_form : Parts → EffectAt
delete_form behind free = do
  part ← only (raws behind)
  parts ← parts_place part
  atom ← atom_in parts
  Some (effect.Del atom.pred atom.args)

-- `(increase (total-cost)` amount `)`, where an increase may stand
abbrev pub increase_form : Parts → EffectAt
increase_form behind free = do
  both ← pair (raws behind)
  word ← total_cost_place both.0
  increase ← amount_place both.1
  if free then Some (effect.Cost word.at increase) else None

abbrev pub effect_forms : List (Name × (Parts → EffectAt))
effect_forms = (codes "and", all_form) ∷ (codes "forall", each_form) ∷ (codes "when", when_form) ∷ (codes "not", delete_form) ∷ (codes "increase", increase_form) ∷ []

-- any other list, which becomes true: `(` name term* `)`
abbrev pub add_form : Parts → EffectAt
add_form parts free = atom_in (raws parts) >>= λ atom. Some (effect.Add atom.pred atom.args)

abbrev pub effect_in : Parts → EffectAt
effect_in parts free = headed (λ (part : ListPart EffectAt). part.raw) parts >>= λ list. choose list.0.name effect_forms (λ behind. add_form parts) list.1 free

-- effect: one of these forms
unfoldable pub effect_place : Place Effect
effect_place e = descend (λ word free. None) (λ list parts. effect_in parts) e true

-- effect | `()`, which means `(and)`
abbrev pub effect_or_empty_place : Place Effect
effect_or_empty_place e = parts_place e >>= λ parts. if is_empty parts then Some (effect.All []) else effect_place e
