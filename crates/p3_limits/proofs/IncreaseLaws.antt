-- What a numbered effect costs at most is what the effect does that it was made of, cut.
use Rattle.std.proofs.Common.{◌≡◌, ◌∙◌, ℕ, ◌+◌, ◌≤◌, true, false, List, [], ◌∷◌, ◌++◌, map, sum, sum_by, length, refl, sym, ap, arith}
use Rattle.std.specs.Prelude.{flat_map, nat_lt, if◌then◌else◌}
use Rattle.std.specs.List.{list_all}
use Rattle.std.proofs.lemmas.Bool.{and_parts, le-ltb, lt-ltb}
use Rattle.std.proofs.lemmas.List.Sums.{sum_by-append}
use mathlib.Core.Former.{Count}
use Rattle.p3_limits.proofs.CutLaws.{cut-zero, cut-total-zero, sum-cons}
use Rattle.p3_limits.proofs.SizeLemmas.{cut_total-map, hidden_effects}
use Rattle.p3_limits.specs.Cuts.{cut, cut_sum, cut_total}
use Rattle.p3_numbers.proofs.PlaceLemmas.{found_name, found_within}
use Rattle.p3_numbers.specs.Conditions.{condition_of}
use Rattle.p3_numbers.specs.Effects.{amount_of, effect_of, effect_layer, is_known_amount, is_known_effect, known_effect_layer}
use Rattle.p3_numbers.specs.Folds.{fold_effect}
use Rattle.p3_numbers.specs.Places.{Variables, are_known_terms, number_in, numbered_terms, ranges_of, words_of}
use Rattle.p3_numbers.specs.Slots.{name_at}
use Rattle.p3_numbers.specs.declared.condition.NumberedArgument.{NumberedArgument}
use Rattle.p3_numbers.specs.declared.condition.NumberedCondition.{NumberedCondition}
use Rattle.p3_numbers.specs.declared.effect.NumberedAmount.{NumberedAmount}
use Rattle.p3_numbers.specs.declared.effect.NumberedEffect.{NumberedEffect}
use Rattle.p3_numbers.specs.declared.effect.NumberedEffect.TheVariants as numbered
use Rattle.p3_numbers.specs.declared.numbers.Numbers.{Numbers}
use Rattle.p3_task.specs.Costs.{increases, increases_layer}
use Rattle.p3_task.specs.Folds.{fold_effects}
use Rattle.p3_task.specs.Limits.{greatest_amount}
use Rattle.p3_task.specs.Names.{Name, has_name}
use Rattle.p3_task.specs.declared.effect.Amount.{Amount}
use Rattle.p3_task.specs.declared.effect.Amount.TheVariants as amount
use Rattle.p3_task.specs.declared.effect.Effect.{Effect, Row_of-Effect, end_of-Effect, more_of-Effect}
use Rattle.p3_task.specs.declared.effect.Effect.TheVariants as effect
use Rattle.p3_task.specs.declared.task.Task.{Task}
use Rattle.p3_types.specs.Tables.{greatest_value_of}
use Rattle.p3_limits.specs.Bounds.{greatest_at, greatest_cost, greatest_cost_layer, greatest_increase}

-- ---- effects by their forms

module _ (T : Task) (functions : List Name) where
  pub cost-Add : (predicate : ℕ) (args : List NumberedArgument) → greatest_cost T functions (numbered.Add predicate args) ≡ 0
  unfolding greatest_cost
  cost-Add predicate args = refl

  pub cost-Del : (predicate : ℕ) (args : List NumberedArgument) → greatest_cost T functions (numbered.Del predicate args) ≡ 0
  unfolding greatest_cost
  cost-Del predicate args = refl

  pub cost-All : (parts : List NumberedEffect) → greatest_cost T functions (numbered.All parts) ≡ cut_total (greatest_cost T functions) 0 parts
  unfolding greatest_cost
  cost-All parts = ap (cut_sum 0) (hidden_effects (greatest_cost_layer T functions) parts) ∙ cut_total-map (fold_effect (greatest_cost_layer T functions)) 0 parts

  pub cost-Each : (ranges : List ℕ) (body : NumberedEffect) → greatest_cost T functions (numbered.Each ranges body) ≡ 0
  unfolding greatest_cost
  cost-Each ranges body = refl

  pub cost-If : (condition : NumberedCondition) (body : NumberedEffect) → greatest_cost T functions (numbered.If condition body) ≡ 0
  unfolding greatest_cost
  cost-If condition body = refl

  pub cost-Cost : (increase : NumberedAmount) → greatest_cost T functions (numbered.Cost increase) ≡ cut (greatest_increase T functions increase)
  unfolding greatest_cost
  cost-Cost increase = refl

pub ruleset increase_forms = (cost-Add, cost-Del, cost-All, cost-Each, cost-If, cost-Cost)

pub none-greatest : (T : Task) (functions : List Name) (function : ℕ) → length functions ≤ function → 0 ≡ cut (greatest_at T functions function)
none-greatest T functions function past =
    let out : nat_lt function (length functions) ≡ false = le-ltb function (length functions) past in
    cut-zero ∙ ap (λ t. cut (if t then greatest_value_of T (name_at functions function) else 0)) (sym out)

-- ---- the law

joined-sum : {A : Type 0} (f : A → ℕ) (lists : List (List A)) → sum (map (sum_by f) lists) ≡ sum_by f (flat_map (λ list. list) lists)
joined-sum f [] = refl
joined-sum f (list ∷ lists) =
    sum-cons (sum_by f list) (map (sum_by f) lists) ∙ ap (λ n. sum_by f list + n) (joined-sum f lists)
    ∙ sym (sum_by-append f list (flat_map (λ list. list) lists))

module _ (T : Task) (N : Numbers) where
  greatest-known : (functions : List Name) (name : Name) → has_name functions name ≡ true → greatest_at T functions (number_in functions name) ≡ greatest_value_of T name
  greatest-known functions name known =
      ap (λ t. if t then greatest_value_of T (name_at functions (number_in functions name)) else 0) (lt-ltb (number_in functions name) (length functions) (found_within functions name known))
      ∙ ap (greatest_value_of T) (found_name functions name known)

  increase-greatest : (increase : Amount) (scope : Variables) → is_known_amount N increase scope ≡ true → greatest_increase T N.functions (amount_of N increase scope) ≡ greatest_amount T increase
  increase-greatest (amount.Number numeral) scope known = refl
  increase-greatest (amount.Value function args) scope known =
      greatest-known N.functions function.name (and_parts (has_name N.functions function.name) (are_known_terms N scope args) known).0

  mutual
    unfolding increases effect_of is_known_effect

    pub effect-greatest : (tree : Effect) (scope : Variables) → is_known_effect N tree scope ≡ true → greatest_cost T N.functions (effect_of N tree scope) ≡ cut (sum_by (greatest_amount T) (increases tree))
    effect-greatest (effect.Add pred args) scope known = cost-Add T N.functions (number_in N.predicates pred.name) (numbered_terms N scope args) ∙ cut-zero
    effect-greatest (effect.Del pred args) scope known = cost-Del T N.functions (number_in N.predicates pred.name) (numbered_terms N scope args) ∙ cut-zero
    effect-greatest (effect.All' _ parts) scope known =
        let made = map (λ part. part scope) (fold_effects (effect_layer N) parts) in
        let found = fold_effects increases_layer parts in
        cost-All T N.functions made ∙ sym (cut_total-map (greatest_cost T N.functions) 0 made) ∙ ap (cut_sum 0) (effects-greatest parts scope known)
        ∙ cut-total-zero (map (sum_by (greatest_amount T)) found) ∙ ap cut (joined-sum (greatest_amount T) found)
    effect-greatest (effect.Each' variables _ (more_of-Effect body _)) scope known = cost-Each T N.functions (ranges_of N variables) (effect_of N body (scope ++ words_of variables)) ∙ cut-zero
    effect-greatest (effect.If' test _ (more_of-Effect body _)) scope known = cost-If T N.functions (condition_of N test scope) (effect_of N body scope) ∙ cut-zero
    effect-greatest (effect.Cost at increase) scope known =
        let one : greatest_amount T increase ≡ 0 + greatest_amount T increase = omega arith in
        cost-Cost T N.functions (amount_of N increase scope) ∙ ap cut (increase-greatest increase scope known ∙ one)

    effects-greatest : {n : Count} (parts : Row_of-Effect n) (scope : Variables) → list_all (λ part. part scope) (fold_effects (known_effect_layer N) parts) ≡ true
        → map (greatest_cost T N.functions) (map (λ part. part scope) (fold_effects (effect_layer N) parts)) ≡ map cut (map (sum_by (greatest_amount T)) (fold_effects increases_layer parts))
    effects-greatest end_of-Effect scope known = refl
    effects-greatest (more_of-Effect part rest) scope known =
        let parts = and_parts (is_known_effect N part scope) (list_all (λ part. part scope) (fold_effects (known_effect_layer N) rest)) known in
        λ i. effect-greatest part scope parts.0 i ∷ effects-greatest rest scope parts.1 i
