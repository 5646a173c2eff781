-- The expanded sizes of an action bound its preferences and its increases; and short numbers bound what it costs.
use Rattle.std.proofs.Common.{◌≡◌, ◌∙◌, ℕ, zero, suc, ◌-◌, ◌*◌, ◌^◌, ◌<◌, ◌≤◌, max, sym, ap, Bool, true, false, cond, List, [], ◌∷◌, ◌++◌, map, filter_map, fold, sum, sum_by, length, slice_get, Some, None, arith, length-append}
use Rattle.std.specs.Prelude.{flat_map, nat_lt, unwrap_or}
use Rattle.std.specs.List.{cons_option, list_all}
use Rattle.std.proofs.Math.Nat.{suc-mul, pow-le-pow_right, mul-le-mul_right}
use Rattle.std.proofs.lemmas.Bool.{and_parts, leb-true, ltb-true}
use Rattle.std.proofs.lemmas.List.Folds.{list_all-append}
use Rattle.std.proofs.lemmas.List.Sums.{sum_by-cons}
use Rattle.std.proofs.lemmas.Nat.{mul-le}
use mathlib.Core.Former.{Count}
use Rattle.p3_base.specs.declared.refusal.Side.{Side}
use Rattle.p3_base.specs.declared.refusal.Side.TheVariants.{Source, Written}
use Rattle.p3_task.specs.Bindings.{bind}
use Rattle.p3_task.specs.Costs.{amount_numeral, amount_numerals, cost_places, cost_units, increases, increases_layer, value_numeral, value_numerals}
use Rattle.p3_task.specs.Folds.{fold_effects, fold_goals}
use Rattle.p3_task.specs.Goals.{StatePref, prefs, prefs_layer}
use Rattle.p3_task.specs.Limits.{effect_layer, effect_size, goal_layer, goal_size, greatest_amount, value_of_entry}
use Rattle.p3_task.specs.Names.{Name, same_name}
use Rattle.p3_task.specs.Sides.{digit_limit, place_limit, size_limit}
use Rattle.p3_task.proofs.OnceLemmas.{Some-injective}
use Rattle.p3_task.specs.States.{Environment}
use Rattle.p3_task.specs.declared.effect.Amount.{Amount}
use Rattle.p3_task.specs.declared.effect.Amount.TheVariants as amount
use Rattle.p3_task.specs.declared.effect.Effect.{Effect, Row_of-Effect, end_of-Effect, more_of-Effect}
use Rattle.p3_task.specs.declared.effect.Effect.TheVariants as effect
use Rattle.p3_task.specs.declared.effect.Numeral.{Numeral}
use Rattle.p3_task.specs.declared.goal.PreGoal.{PreGoal, Row_of-PreGoal, end_of-PreGoal, more_of-PreGoal}
use Rattle.p3_task.specs.declared.goal.PreGoal.TheVariants as goal
use Rattle.p3_task.specs.declared.task.Action.{Action}
use Rattle.p3_task.specs.declared.task.Init.{Init}
use Rattle.p3_task.specs.declared.task.Init.TheVariants as init
use Rattle.p3_task.specs.declared.task.Task.{Task}
use Rattle.p3_limits.proofs.CutLaws.{sum-cons}
use Rattle.p3_limits.proofs.PreferenceLaws.{length-bind}
use Rattle.p3_types.specs.Texts.{has_short_numbers, is_short, metric_numerals}

-- ---- how many preferences and increases there are

module _ (T : Task) where
  many_times : {A : Type 0} (found : A → List StatePref) (n : ℕ) → ((x : A) → length (found x) ≤ n) → (xs : List A) → length (flat_map found xs) ≤ length xs * n
  many_times found n few [] = omega arith
  many_times found n few (x ∷ xs) = let here = few x in let rest = many_times found n few xs in omega (arith, here, rest, length-append (found x) (flat_map found xs), suc-mul (length xs) n)

  mutual
    unfolding prefs goal_size

    pub few_prefs : (tree : PreGoal) (env : Environment) → length (prefs T env tree) ≤ goal_size T tree
    few_prefs (goal.Plain body) env = omega arith
    few_prefs (goal.Both' _ parts) env = let all = all_few_prefs parts env in omega (arith, all)
    few_prefs (goal.Each' variables _ (more_of-PreGoal body _)) env =
        let all = many_times (λ more. prefs T more body) (goal_size T body) (λ more. few_prefs body more) (bind T env variables) in
        let same = ap (λ n. n * goal_size T body) (length-bind T env variables) in
        omega (arith, all, same)
    few_prefs (goal.Soft pref) env = omega arith

    all_few_prefs : {n : Count} (row : Row_of-PreGoal n) (env : Environment) → length (flat_map (λ part. part env) (fold_goals (prefs_layer T) row)) ≤ sum (fold_goals (goal_layer T) row)
    all_few_prefs end_of-PreGoal env = omega arith
    all_few_prefs (more_of-PreGoal part rest) env =
        let here = few_prefs part env in
        let others = all_few_prefs rest env in
        omega (arith, here, others, length-append (prefs T env part) (flat_map (λ part. part env) (fold_goals (prefs_layer T) rest)), sum-cons (goal_size T part) (fold_goals (goal_layer T) rest))

  mutual
    unfolding increases effect_size

    pub few_increases : (tree : Effect) → length (increases tree) ≤ effect_size T tree
    few_increases (effect.Add pred args) = omega arith
    few_increases (effect.Del pred args) = omega arith
    few_increases (effect.All' _ parts) = let all = all_few_increases parts in omega (arith, all)
    few_increases (effect.Each' variables _ body) = omega arith
    few_increases (effect.If' condition _ body) = omega arith
    few_increases (effect.Cost at amount) = omega arith

    all_few_increases : {n : Count} (row : Row_of-Effect n) → length (flat_map (λ part. part) (fold_effects increases_layer row)) ≤ sum (fold_effects (effect_layer T) row)
    all_few_increases end_of-Effect = omega arith
    all_few_increases (more_of-Effect part rest) =
        let here = few_increases part in
        let others = all_few_increases rest in
        omega (arith, here, others, length-append (increases part) (flat_map (λ part. part) (fold_effects increases_layer rest)), sum-cons (effect_size T part) (fold_effects (effect_layer T) rest))

-- ---- what one amount comes to

-- a number has at most so many units, and so many of them are less than a run's bound of a cost
abbrev most_units : Side → ℕ
most_units side = (10 ^ digit_limit side - 1) * 10 ^ unwrap_or (place_limit side) 0

abbrev all_short : Side → List Numeral → Bool
all_short side numerals = list_all (is_short side) numerals

all_in : {A B : Type 0} (test : B → Bool) (f : A → List B) (xs : List A) → list_all test (flat_map f xs) ≡ true → (k : ℕ) (x : A) → slice_get xs k ≡ Some x → list_all test (f x) ≡ true
all_in test f [] all k x at = absurd (cc)
all_in test f (y ∷ xs) all zero x at = ap (λ z. list_all test (f z)) (sym (Some-injective y x at)) ∙ (and_parts (list_all test (f y)) _ (sym (list_all-append test (f y) (flat_map f xs)) ∙ all)).0
all_in test f (y ∷ xs) all (suc k) x at = all_in test f xs (and_parts (list_all test (f y)) _ (sym (list_all-append test (f y) (flat_map f xs)) ∙ all)).1 k x at

module _ (side : Side) (T : Task) (short : has_short_numbers side T ≡ true) where
  costs_short : all_short side (amount_numerals T ++ value_numerals T) ≡ true
  unfolding has_short_numbers
  costs_short = (and_parts (all_short side (amount_numerals T ++ value_numerals T)) _ (sym (list_all-append (is_short side) (amount_numerals T ++ value_numerals T) (metric_numerals T.problem.metric)) ∙ short)).0

  parts_short : (all_short side (amount_numerals T) ≡ true) × (all_short side (value_numerals T) ≡ true)
  parts_short = and_parts (all_short side (amount_numerals T)) (all_short side (value_numerals T)) (sym (list_all-append (is_short side) (amount_numerals T) (value_numerals T)) ∙ costs_short)

  few_places : (most : ℕ) (numerals : List Numeral) → most ≤ unwrap_or (place_limit side) 0 → all_short side numerals ≡ true → fold max most (map (λ (n : Numeral). n.places) numerals) ≤ unwrap_or (place_limit side) 0
  few_places most [] low all = low
  few_places most (n ∷ numerals) low all =
      let parts = and_parts (is_short side n) (all_short side numerals) all in
      let here = leb-true n.places (unwrap_or (place_limit side) 0) (and_parts (nat_lt n.digits (10 ^ digit_limit side)) _ parts.0).1 in
      few_places (max most n.places) numerals (omega (arith, low, here)) parts.1

  units_within : (n : Numeral) → is_short side n ≡ true → cost_units T n ≤ most_units side
  unfolding cost_places
  units_within n e =
      let digits = ltb-true n.digits (10 ^ digit_limit side) (and_parts _ _ e).0 in
      let places = few_places 0 (amount_numerals T ++ value_numerals T) (omega arith) costs_short in
      let power = pow-le-pow_right {n = 10} (omega arith) {i = cost_places T - n.places} {j = unwrap_or (place_limit side) 0} (omega (arith, places)) in
      mul-le n.digits (10 ^ (cost_places T - n.places)) (10 ^ digit_limit side - 1) (10 ^ unwrap_or (place_limit side) 0) (omega (arith, digits)) power

  values_within : (function : Name) (most : ℕ) (entries : List Init) → most ≤ most_units side → all_short side (filter_map value_numeral entries) ≡ true → fold max most (filter_map (value_of_entry T function) entries) ≤ most_units side
  values_within function most [] low all = low
  values_within function most (init.True pred args ∷ entries) low all = values_within function most entries low all
  values_within function most (init.False pred args ∷ entries) low all = values_within function most entries low all
  values_within function most (init.Value other args number ∷ entries) low all =
      let parts = and_parts (is_short side number) (all_short side (filter_map value_numeral entries)) all in
      by (same_name other.name function) (units_within number parts.0) (λ n below. values_within function n entries below parts.1)
    where
      by : (t : Bool) → cost_units T number ≤ most_units side → ((n : ℕ) → n ≤ most_units side → fold max n (filter_map (value_of_entry T function) entries) ≤ most_units side)
          → fold max most (cons_option (cond t (Some (cost_units T number)) None) (filter_map (value_of_entry T function) entries)) ≤ most_units side
      by true here rest = rest (max most (cost_units T number)) (omega (arith, low, here))
      by false here rest = rest most low

  one_more : (a : Amount) (amounts : List Amount) → greatest_amount T a ≤ most_units side → sum_by (greatest_amount T) amounts ≤ length amounts * most_units side → sum_by (greatest_amount T) (a ∷ amounts) ≤ length (a ∷ amounts) * most_units side
  one_more a amounts here rest = omega (arith, here, rest, sum_by-cons (greatest_amount T) a amounts, suc-mul (length amounts) (most_units side))

  increases_within : (amounts : List Amount) → all_short side (filter_map amount_numeral amounts) ≡ true → sum_by (greatest_amount T) amounts ≤ length amounts * most_units side
  increases_within [] all = omega arith
  increases_within (amount.Number numeral ∷ amounts) all =
      let parts = and_parts (is_short side numeral) (all_short side (filter_map amount_numeral amounts)) all in
      one_more (amount.Number numeral) amounts (units_within numeral parts.0) (increases_within amounts parts.1)
  increases_within (amount.Value function args ∷ amounts) all =
      one_more (amount.Value function args) amounts (values_within function.name 0 T.problem.init (omega arith) parts_short.1) (increases_within amounts all)

  small_costs : (s : Side) → size_limit s * most_units s < 10 ^ 27
  small_costs Source = omega arith
  small_costs Written = omega arith

  -- the increases of an action of small size are worth little
  pub cheap_action : (k : ℕ) (action : Action) → slice_get T.domain.actions k ≡ Some action → effect_size T action.effect.body ≤ size_limit side → sum_by (greatest_amount T) (increases action.effect.body) < 10 ^ 27
  cheap_action k action at small =
      let own = all_in (is_short side) (λ (action : Action). filter_map amount_numeral (increases action.effect.body)) T.domain.actions parts_short.0 k action at in
      let total = increases_within (increases action.effect.body) own in
      let few = few_increases T action.effect.body in
      let most = mul-le-mul_right {m = length (increases action.effect.body)} {n = size_limit side} (most_units side) (omega (arith, few, small)) in
      let low = small_costs side in
      omega (arith, total, most, low)
