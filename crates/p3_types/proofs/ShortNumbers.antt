-- The numbers of a task are words of its texts.
use denote.Hole.Carrier.{hidden}
use Rattle.std.proofs.Common.{sym, subst, ℕ, Bool, true, false, List, [], ◌∷◌, map, Option, None}
use Rattle.std.specs.Prelude.{IfSome}
use Rattle.std.specs.List.{AllByRecursion}
use Rattle.p3_base.specs.declared.refusal.Side.{Side}
use Rattle.p3_task.specs.Names.{same_name, total_cost, is_empty}
use Rattle.p3_task.specs.Costs.{increases, increases_layer, amount_numeral}
use Rattle.p3_task.specs.Grammar.Words.{ListPart, raws, each_at, only, pair, parts_place, is_word, name_place, function_place}
use Rattle.p3_task.specs.Grammar.Lists.{term_place, variables_place}
use Rattle.p3_task.specs.Grammar.Formulas.{atom_in, formula_place}
use Rattle.p3_task.specs.Grammar.Effects as effects
use Rattle.p3_task.specs.Grammar.Metrics as metrics
use Rattle.p3_task.specs.declared.expression.Expression.{Expression}
use Rattle.p3_task.specs.declared.term.Ref.{Ref}
use Rattle.p3_task.specs.declared.effect.Amount.{Amount}
use Rattle.p3_task.specs.declared.effect.Amount.TheVariants as amount
use Rattle.p3_task.specs.declared.effect.Effect.{Effect}
use Rattle.p3_task.specs.declared.effect.Effect.TheVariants as effect
use Rattle.p3_task.specs.declared.metric.Num.{Num}
use Rattle.p3_task.specs.declared.metric.Num.TheBlock.{hidden-the_row-Num-0}
use Rattle.p3_task.specs.declared.metric.Num.TheVariants as num
use Rattle.p3_task.proofs.FoldLemmas.{fold_effect-All, fold_num-Product}
use Rattle.p3_types.specs.Texts.{num_numerals, num_numerals_layer}
use Rattle.p3_types.proofs.Gives.{Gives, nothing, just, using, passing, either, whether, choice, each_appended, each_mapped, each_joined, pair_gives, trees_give, headed_gives}
use Rattle.p3_types.proofs.SpelledNumbers.{IsShort, HasShortWords, HaveShortWords, IsPart, numeral_short, descends, raws_short}

module _ (side : Side) where
  -- ---- amounts and effects

  abbrev IsShortAmount : Amount → Type 0
  IsShortAmount amount = IfSome (amount_numeral amount) (IsShort side)

  abbrev pub IsShortEffect : Effect → Type 0
  IsShortEffect tree = AllByRecursion IsShortAmount (increases tree)

  function_value_short : (list : List Expression) → Gives IsShortAmount (effects.function_value_in list)
  function_value_short [] = nothing
  function_value_short (first ∷ behind) =
      passing (function_place first) _ (λ function. passing (each_at term_place behind) _ (λ args.
      whether (same_name function.name total_cost) _ _ nothing (just (amount.Value function args) tt)))

  amount_short : (e : Expression) → HasShortWords side e → Gives IsShortAmount (effects.amount_place e)
  amount_short e short = either _ _ (using _ _ (numeral_short side e short) (λ numeral of. just (amount.Number numeral) of)) (passing (parts_place e) _ function_value_short)

  pub all_short : (parts : List Effect) → AllByRecursion IsShortEffect parts → IsShortEffect (effect.All parts)
  unfolding increases
  all_short parts each =
      subst (AllByRecursion IsShortAmount) (sym (fold_effect-All increases_layer parts))
      (each_joined IsShortAmount (λ part. part) (map increases parts) (each_mapped IsShortEffect (AllByRecursion IsShortAmount) increases (λ part short. short) parts each))

  -- a part of a list, whether or not an increase may stand there
  abbrev IsShortPart : ListPart effects.EffectAt → Type 0
  IsShortPart = IsPart side (λ (found : effects.EffectAt). (free : Bool) → Gives IsShortEffect (found free))

  abbrev IsShortForm : (effects.Parts → effects.EffectAt) → Type 0
  IsShortForm form = (parts : effects.Parts) → AllByRecursion IsShortPart parts → (free : Bool) → Gives IsShortEffect (form parts free)

  all_form_short : IsShortForm effects.all_form
  all_form_short behind each free =
      using _ _ (trees_give IsShortEffect _ (each_mapped IsShortPart (Gives IsShortEffect) (λ part. part.tree free) (λ part both. both.1 free) behind each))
      (λ parts short. just (effect.All parts) (all_short parts short))

  each_form_short : IsShortForm effects.each_form
  unfolding increases
  each_form_short behind each free = passing (pair behind) _ (λ both. passing (variables_place both.0.raw) _ (λ variables. passing (both.1.tree false) _ (λ body. just (effect.Each variables body) tt)))

  when_form_short : IsShortForm effects.when_form
  unfolding increases
  when_form_short behind each free = passing (pair behind) _ (λ both. passing (formula_place both.0.raw) _ (λ condition. passing (both.1.tree false) _ (λ body. just (effect.If condition body) tt)))

  delete_form_short : IsShortForm effects.delete_form
  unfolding increases
  delete_form_short behind each free = passing (only (raws behind)) _ (λ part. passing (parts_place part) _ (λ parts. passing (atom_in parts) _ (λ atom. just (effect.Del atom.pred atom.args) tt)))

  add_form_short : IsShortForm effects.add_form
  unfolding increases
  add_form_short parts each free = passing (atom_in (raws parts)) _ (λ atom. just (effect.Add atom.pred atom.args) tt)

  increase_form_short : IsShortForm effects.increase_form
  unfolding increases
  increase_form_short behind each free =
      using _ _ (pair_gives (HasShortWords side) _ (raws_short side _ behind each)) (λ both short.
      passing (effects.total_cost_place both.0) _ (λ word.
      using _ _ (amount_short both.1 short.1) (λ increase of.
      whether free _ _ (just (effect.Cost word.at increase) (of, tt)) nothing)))

  effect_in_short : IsShortForm effects.effect_in
  effect_in_short parts each free =
      using _ _ (headed_gives IsShortPart (λ part. part.raw) parts each) (λ list short.
      choice IsShortForm list.0.name effects.effect_forms (λ behind. effects.add_form parts)
      (all_form_short, (each_form_short, (when_form_short, (delete_form_short, (increase_form_short, tt)))))
      (λ behind behind_short. add_form_short parts each) list.1 short free)

  effect_short : (e : Expression) → HasShortWords side e → Gives IsShortEffect (effects.effect_place e)
  unfolding effects.effect_place
  effect_short e short = descends side (λ (found : effects.EffectAt). (free : Bool) → Gives IsShortEffect (found free)) _ _ (λ e short free. nothing) (λ e parts. effect_in_short parts) e short true

  pub effect_or_empty_short : (e : Expression) → HasShortWords side e → Gives IsShortEffect (effects.effect_or_empty_place e)
  effect_or_empty_short e short = passing (parts_place e) _ (λ parts. whether (is_empty parts) _ _ (just (effect.All []) (all_short [] tt)) (effect_short e short))

  -- ---- metrics

  abbrev IsShortNum : Num → Type 0
  IsShortNum tree = AllByRecursion (IsShort side) (num_numerals tree)

  abbrev IsShortNumPart : ListPart (Option Num) → Type 0
  IsShortNumPart = IsPart side (Gives IsShortNum)

  abbrev IsShortNumForm : (Ref → metrics.Parts → Option Num) → Type 0
  IsShortNumForm form = (head : Ref) (parts : metrics.Parts) → AllByRecursion IsShortNumPart parts → Gives IsShortNum (form head parts)

  -- the numbers of a sum are those of a product of the same parts
  list_short : (at : ℕ) (parts : List Num) → AllByRecursion IsShortNum parts → IsShortNum (num.Sum at parts) × IsShortNum (num.Product at parts)
  unfolding num_numerals
  list_short at parts each =
      let all = subst (AllByRecursion (IsShort side)) (sym (fold_num-Product num_numerals_layer at parts))
      (each_joined (IsShort side) (λ part. part) (map num_numerals parts) (each_mapped IsShortNum (AllByRecursion (IsShort side)) num_numerals (λ part short. short) parts each)) in
      (all, all)

  trees_short : (parts : metrics.Parts) → AllByRecursion IsShortNumPart parts → Gives (AllByRecursion IsShortNum) (metrics.trees_of parts)
  trees_short parts each = trees_give IsShortNum _ (each_mapped IsShortNumPart (Gives IsShortNum) (λ part. part.tree) (λ part both. both.1) parts each)

  total_cost_form_short : IsShortNumForm metrics.total_cost_form
  unfolding num_numerals
  total_cost_form_short head behind each = whether (is_empty behind) _ _ (just (num.TotalCost head.at) tt) nothing

  violated_form_short : IsShortNumForm metrics.violated_form
  unfolding num_numerals
  violated_form_short head behind each = passing (only (raws behind)) _ (λ e. passing (name_place e) _ (λ name. just (num.Violated name) tt))

  minus_short : (head : Ref) (parts : List Num) → AllByRecursion IsShortNum parts → Gives IsShortNum (metrics.minus_of head parts)
  unfolding num_numerals hidden-the_row-Num-0 hidden
  minus_short head [] each = nothing
  minus_short head (part ∷ []) each = just (num.Neg head.at part) each.0
  minus_short head (first ∷ second ∷ []) each = just (num.Sub head.at first second) (each_appended (IsShort side) (num_numerals first) (num_numerals second) each.0 each.1.0)
  minus_short head (first ∷ second ∷ third ∷ parts) each = nothing

  minus_form_short : IsShortNumForm metrics.minus_form
  minus_form_short head behind each = using _ _ (trees_short behind each) (minus_short head)

  sum_form_short : IsShortNumForm metrics.sum_form
  sum_form_short head behind each = using _ _ (trees_short behind each) (λ parts short. whether (is_empty parts) _ _ nothing (just (num.Sum head.at parts) (list_short head.at parts short).0))

  product_form_short : IsShortNumForm metrics.product_form
  product_form_short head behind each = using _ _ (trees_short behind each) (λ parts short. whether (is_empty parts) _ _ nothing (just (num.Product head.at parts) (list_short head.at parts short).1))

  num_in_short : (parts : metrics.Parts) → AllByRecursion IsShortNumPart parts → Gives IsShortNum (metrics.num_in parts)
  num_in_short parts each =
      using _ _ (headed_gives IsShortNumPart (λ part. part.raw) parts each) (λ list short.
      choice IsShortNumForm list.0.name metrics.num_forms (λ head behind. None)
      (total_cost_form_short, (violated_form_short, (minus_form_short, (sum_form_short, (product_form_short, tt)))))
      (λ head behind behind_short. nothing) list.0 list.1 short)

  num_word_short : (e : Expression) → HasShortWords side e → Gives IsShortNum (metrics.num_word e)
  unfolding num_numerals
  num_word_short e short = either _ _ (using _ _ (numeral_short side e short) (λ numeral of. just (num.Number numeral) (of, tt))) (passing (is_word total_cost e) _ (λ word. just (num.TotalCost word.at) tt))

  num_short : (e : Expression) → HasShortWords side e → Gives IsShortNum (metrics.num_place e)
  unfolding metrics.num_place
  num_short e short = descends side (Gives IsShortNum) _ _ num_word_short (λ e parts. num_in_short parts) e short

  pub metric_short : (list : List Expression) → HaveShortWords side list → Gives (λ metric. IsShortNum metric.body) (metrics.metric_in list)
  metric_short list each =
      using _ _ (pair_gives (HasShortWords side) list each) (λ both short.
      passing (metrics.direction_place both.0) _ (λ direction.
      using _ _ (num_short both.1 short.1) (λ body of.
      just (record { direction = direction; body = body }) of)))
