-- The base of an accepted metric stays far below the numbers of 128 bits.
use Rattle.std.proofs.Common.{◌≡◌, ◌∙◌, ◌⊎◌, inl, inr, ℕ, zero, suc, ◌+◌, ◌-◌, ◌*◌, ◌^◌, ◌<◌, refl, sym, ap, subst, Bool, true, false, not, cond, List, [], ◌∷◌, ◌++◌, append_assoc, map, sum_by, arith, Option, Some, None, pos, ◌+ℤ◌, ◌-ℤ◌, neg_ℤ}
use Rattle.std.specs.Prelude.{ℤ, negsuc, find, length, option_map, slice_index_or}
use Rattle.std.specs.Int.RustNames.{unsigned_abs}
use Rattle.std.specs.List.{list_all, list_any, range_with_len}
use Rattle.std.specs.Option.{option_and_then}
use Rattle.std.proofs.lemmas.Bool.{and_parts, or_parts, ltb-true, not-false}
use Rattle.std.proofs.lemmas.Int.{ints}
use Rattle.std.proofs.lemmas.List.Sums.{sum_by-cons}
use Rattle.std.proofs.lemmas.Nat.{mul-le}
use mathlib.Core.Former as Former
use Rattle.p3_base.specs.declared.refusal.Code.TheVariants.{CostTooLarge}
use Rattle.p3_base.specs.declared.refusal.Direction.{Direction}
use Rattle.p3_base.specs.declared.refusal.Direction.TheVariants.{Minimize, Maximize}
use Rattle.p3_base.specs.declared.refusal.Side.{Side}
use Rattle.p3_base.specs.declared.refusal.Side.TheVariants.{Source, Written}
use Rattle.p3_task.specs.Costs.{cost_places, initial_cost}
use Rattle.p3_task.specs.Folds.{fold_num, fold_nums, fold_one_num}
use Rattle.p3_task.specs.Limits.{constant, cost_coefficient}
use Rattle.p3_task.specs.Metrics.{Quantity, base_loss, direction, loss_at, metric_quantity, no_counts, product_of, quantity, quantity_by, quantity_layer, signed, sum_of}
use Rattle.p3_task.specs.Refusals.Metric.{Cost, Count, Evaluated, Mention, folds, is_large, is_within, large_at, mention_coefficient, mentions, operations, operator, order_layer, trees}
use Rattle.p3_task.specs.Refusals.Places.{refusal_at_word}
use Rattle.p3_task.specs.Sides.{InProblem, digit_limit, role_of, weight_bound}
use Rattle.p3_task.specs.declared.metric.Metric.{Metric}
use Rattle.p3_task.specs.declared.metric.Num.{Num, Row_of-Num, end_of-Num, more_of-Num}
use Rattle.p3_task.specs.declared.metric.Num.TheVariants as num
use Rattle.p3_task.specs.declared.task.Task.{Task}
use Rattle.p3_formula.specs.declared.target.Weights.{Weights}
use Rattle.p3_types.specs.Texts.{is_short, metric_numerals, num_numerals}
use Rattle.p3_metric.specs.Refused.{large_of}
use Rattle.p3_metric.specs.Weighed.{IsLinearMetric, IsWeights}
use Rattle.p3_metric.proofs.BoundLemmas.{within_below}
use Rattle.p3_metric.proofs.EntryLemmas.{abs_sum}
use Rattle.p3_metric.proofs.FormLemmas.{Agree, agreed}
use Rattle.p3_metric.proofs.NumLemmas.{rebuilt}
use Rattle.p3_metric.proofs.WeighedLaws.{by_metric}

-- ---- the last of the operations is the whole expression

folds_end : (operator : List Num → Num) (done : List Num) (part : Evaluated) (parts : List Evaluated) → (before : List Num) × (folds operator done (part ∷ parts) ≡ before ++ operator (done ++ trees (part ∷ parts)) ∷ [])
folds_end operator done part [] = (part.order, refl)
folds_end operator done part (next ∷ parts) =
    let more = done ++ part.tree ∷ [] in
    let (before, e) = folds_end operator more next parts in
    let last = ap (λ list. before ++ operator list ∷ []) (append_assoc done (part.tree ∷ []) (trees (next ∷ parts))) in (
      part.order ++ operator more ∷ before,
      ap (λ rest. part.order ++ operator more ∷ rest) (e ∙ last) ∙ sym (append_assoc part.order (operator more ∷ before) (operator (done ++ trees (part ∷ next ∷ parts)) ∷ [])),
    )

end_fails : {A : Type 0} (test : A → Bool) (xs : List A) (x : A) → find test (xs ++ x ∷ []) ≡ None → test x ≡ false
end_fails test [] x none = by (test x) none
  where
    by : (t : Bool) → cond t (Some x) None ≡ None → t ≡ false
    by true e = absurd (cc)
    by false e = refl
end_fails test (y ∷ xs) x none = by (test y) none (end_fails test xs x)
  where
    by : (t : Bool) → cond t (Some y) (find test (xs ++ x ∷ [])) ≡ None → (find test (xs ++ x ∷ []) ≡ None → test x ≡ false) → test x ≡ false
    by true e rest = absurd (cc)
    by false e rest = rest e

-- ---- expressions without large operations

-- the constant, and what one unit of the total cost adds
record IsLow (T : Task) (tree : Num) : Type 0 where
  constant : unsigned_abs (constant T tree) < 2 ^ 64
  cost : unsigned_abs (cost_coefficient T tree) < 2 ^ 62

module _ (side : Side) (T : Task) where
  cost_mentioned : (tree : Num) (ms : List Mention) → list_any (λ number. not (is_within weight_bound number)) (map (mention_coefficient T tree) ms) ≡ false
      → (is_within weight_bound (cost_coefficient T tree) ≡ true) ⊎ Agree T no_counts no_counts 1 0 ms
  cost_mentioned tree [] none = inr tt
  cost_mentioned tree (Count name ∷ ms) none = by (cost_mentioned tree ms (or_parts _ _ none).1)
    where
      by : (is_within weight_bound (cost_coefficient T tree) ≡ true) ⊎ Agree T no_counts no_counts 1 0 ms → (is_within weight_bound (cost_coefficient T tree) ≡ true) ⊎ Agree T no_counts no_counts 1 0 (Count name ∷ ms)
      by (inl low) = inl low
      by (inr same) = inr (refl, same)
  cost_mentioned tree (Cost at ∷ ms) none = inl (not-false _ (or_parts _ _ none).0)

  nothing_added : (a b : ℤ) → a ≡ b → unsigned_abs (a -ℤ b) < 2 ^ 62
  nothing_added a b e = let none : a -ℤ b ≡ pos 0 = omega (arith, ints, e) in let is = ap unsigned_abs none in omega (arith, is)

  small_is_low : (tree : Num) → is_large T tree ≡ false → IsLow T tree
  small_is_low tree small =
      let parts = or_parts (not (is_within weight_bound (constant T tree))) _ small in
      record {
        constant = (let low = within_below (constant T tree) (not-false _ parts.0) in omega (arith, low));
        cost = by (cost_mentioned tree (mentions tree) parts.1);
      }
    where
      by : (is_within weight_bound (cost_coefficient T tree) ≡ true) ⊎ Agree T no_counts no_counts 1 0 (mentions tree) → unsigned_abs (cost_coefficient T tree) < 2 ^ 62
      by (inl low) = within_below (cost_coefficient T tree) low
      by (inr same) = nothing_added (quantity T no_counts 1 tree).units (quantity T no_counts 0 tree).units (λ i. (agreed T no_counts no_counts 1 0 tree same i).units)

  last_is_low : (tree : Num) (before : List Num) → operations tree ≡ before ++ (fold_num order_layer tree).tree ∷ [] → find (is_large T) (operations tree) ≡ None → IsLow T tree
  last_is_low tree before e fine = small_is_low tree (ap (is_large T) (sym (rebuilt tree)) ∙ end_fails (is_large T) before _ (sym (ap (find (is_large T)) e) ∙ fine))

  -- a sum or a product has no parts, or a last operation
  row_ends : (operator : List Num → Num) {n : Former.Count} (row : Row_of-Num n)
      → ((u : ℕ) → fold_nums (quantity_layer no_counts (record { places = cost_places T; units = pos u })) row ≡ [])
      ⊎ ((before : List Num) × (folds operator [] (fold_nums order_layer row) ≡ before ++ operator (trees (fold_nums order_layer row)) ∷ []))
  row_ends operator end_of-Num = inl (λ u. refl)
  row_ends operator (more_of-Num part rest) = inr (folds_end operator [] (fold_num order_layer part) (fold_nums order_layer rest))

  of_no_parts : (tree : Num) (found : Quantity) → unsigned_abs found.units < 2 ^ 64 → ((u : ℕ) → quantity T no_counts u tree ≡ found) → IsLow T tree
  of_no_parts tree found small is = record {
    constant = (let same = ap (λ (q : Quantity). unsigned_abs q.units) (is 0) in omega (arith, small, same));
    cost = nothing_added (quantity T no_counts 1 tree).units (quantity T no_counts 0 tree).units (λ i. ((is 1 ∙ sym (is 0)) i).units);
  }

  few_digits : (s : Side) (n : ℕ) → n < 10 ^ digit_limit s → n < 2 ^ 64
  few_digits Source n low = omega (arith, low)
  few_digits Written n low = omega (arith, low)

  low : (tree : Num) → list_all (is_short side) (num_numerals tree) ≡ true → find (is_large T) (operations tree) ≡ None → IsLow T tree
  unfolding quantity operations num_numerals
  low (num.Number numeral) short fine = record {
    constant = few_digits side numeral.digits (ltb-true numeral.digits (10 ^ digit_limit side) (and_parts _ _ (and_parts _ _ short).0).0);
    cost = nothing_added (pos numeral.digits) (pos numeral.digits) refl;
  }
  low (num.TotalCost at) short fine = record { constant = omega arith; cost = omega arith }
  low (num.Violated name) short fine = record { constant = omega arith; cost = omega arith }
  low (num.Neg' at shape part) short fine = last_is_low (num.Neg' at shape part) (fold_one_num order_layer part).order refl fine
  low (num.Sub' at shape first other second) short fine =
      last_is_low (num.Sub' at shape first other second) ((fold_one_num order_layer first).order ++ (fold_one_num order_layer second).order) refl fine
  low (num.Sum' at shape parts) short fine = elim (row_ends (num.Sum at) parts) [
    | inl none ↦ of_no_parts (num.Sum' at shape parts) (sum_of []) (omega arith) (λ u. ap sum_of (none u))
    | inr last ↦ last_is_low (num.Sum' at shape parts) last.0 last.1 fine
  ]
  low (num.Product' at shape parts) short fine = elim (row_ends (num.Product at) parts) [
    | inl none ↦ of_no_parts (num.Product' at shape parts) (product_of []) (omega arith) (λ u. ap product_of (none u))
    | inr last ↦ last_is_low (num.Product' at shape parts) last.0 last.1 fine
  ]

-- ---- the metric

-- the constant of the metric, and what one unit of the total cost adds to it
record HasLowMetric (T : Task) : Type 0 where
  constant : unsigned_abs (metric_quantity T no_counts 0).units < 2 ^ 64
  cost : unsigned_abs ((metric_quantity T no_counts 1).units -ℤ (metric_quantity T no_counts 0).units) < 2 ^ 62

abbrev FineOperations : Task → Option Metric → Type 0
FineOperations T None = Unit {0}
FineOperations T (Some metric) = find (is_large T) (operations metric.body) ≡ None

fine_from : (side : Side) (T : Task) (o : Option Metric) → option_and_then (large_at side T) (option_map (λ (metric : Metric). metric.body) o) ≡ None → FineOperations T o
fine_from side T None none = tt
fine_from side T (Some metric) none = by (find (is_large T) (operations metric.body)) none
  where
    by : (o : Option Num) → option_map (λ tree. refusal_at_word CostTooLarge (role_of side InProblem) (operator tree)) o ≡ None → o ≡ None
    by None e = refl
    by (Some tree) e = absurd (cc)

low_metric : (side : Side) (T : Task) → list_all (is_short side) (metric_numerals T.problem.metric) ≡ true → FineOperations T T.problem.metric → HasLowMetric T
low_metric side T short fine = by T.problem.metric refl short fine
  where
    by : (o : Option Metric) → T.problem.metric ≡ o → list_all (is_short side) (metric_numerals o) ≡ true → FineOperations T o → HasLowMetric T
    by None e short fine = record {
      constant = (let is = ap (λ (o : Option Metric). unsigned_abs (quantity_by T no_counts 0 o).units) e in omega (arith, is));
      cost = nothing_added side T (metric_quantity T no_counts 1).units (metric_quantity T no_counts 0).units
          (ap (λ (o : Option Metric). (quantity_by T no_counts 1 o).units) e ∙ sym (ap (λ (o : Option Metric). (quantity_by T no_counts 0 o).units) e));
    }
    by (Some metric) e short fine =
        let is = low side T metric.body short fine in
        record {
          constant = subst (λ (o : Option Metric). unsigned_abs (quantity_by T no_counts 0 o).units < 2 ^ 64) (sym e) is.constant;
          cost = subst (λ (o : Option Metric). unsigned_abs ((quantity_by T no_counts 1 o).units -ℤ (quantity_by T no_counts 0 o).units) < 2 ^ 62) (sym e) is.cost;
        }

-- ---- the base

same_size : (way : Direction) (z : ℤ) → unsigned_abs (signed way z) ≡ unsigned_abs z
same_size Minimize z = refl
same_size Maximize (pos zero) = refl
same_size Maximize (pos (suc n)) = refl
same_size Maximize (negsuc n) = refl

added : (way : Direction) (a b : ℤ) (n : ℕ) → signed way a ≡ signed way b +ℤ pos (n * 1) → n ≡ unsigned_abs (a -ℤ b)
added Minimize a b n e = let is : a -ℤ b ≡ pos n = omega (arith, ints, e) in sym (ap unsigned_abs is)
added Maximize a b n e = let is : a -ℤ b ≡ neg_ℤ (pos n) = omega (arith, ints, e) in sym (ap unsigned_abs is ∙ same_size Maximize (pos n))

module _ (T : Task) (linear : IsLinearMetric T) (w : Weights) (weighs : IsWeights T w) where
  nothing_weighed : (names : List ℕ) → sum_by (λ place. slice_index_or w.by_name place 0 * 0) names ≡ 0
  nothing_weighed [] = refl
  nothing_weighed (place ∷ names) = let both = sum_by-cons (λ place. slice_index_or w.by_name place 0 * 0) place names in let rest = nothing_weighed names in omega (arith, both, rest)

  -- what the total cost adds to the loss
  grown : (more : ℕ) → loss_at T no_counts more ≡ loss_at T no_counts 0 +ℤ pos (w.total_cost * more)
  unfolding base_loss
  grown more =
      by (loss_at T no_counts (initial_cost T + more)) (loss_at T no_counts 0) (loss_at T no_counts (initial_cost T)) (loss_at T no_counts more) (w.total_cost * more) _
      (by_metric T T.problem.metric (direction T) linear no_counts no_counts (initial_cost T) more) (weighs.linear no_counts more) (nothing_weighed (range_with_len 0 (length w.by_name)))
    where
      by : (z f0 b m : ℤ) (x y : ℕ) → z +ℤ f0 ≡ b +ℤ m → z ≡ b +ℤ pos (x + y) → y ≡ 0 → m ≡ f0 +ℤ pos x
      by z f0 b m x y e f g = omega (arith, ints, e, f, g)

  base_is_low : HasLowMetric T → initial_cost T < 2 ^ 64 → unsigned_abs w.base < 2 ^ 126
  unfolding base_loss
  base_is_low metric start =
      let cost = added (direction T) (metric_quantity T no_counts 1).units (metric_quantity T no_counts 0).units w.total_cost (grown 1) in
      let few = metric.cost in
      let most = mul-le w.total_cost (initial_cost T) (2 ^ 62 - 1) (2 ^ 64 - 1) (omega (arith, cost, few)) (omega (arith, start)) in
      let size = same_size (direction T) (metric_quantity T no_counts 0).units in
      let low = metric.constant in
      let is = ap unsigned_abs (weighs.base ∙ grown (initial_cost T)) in
      let sum = abs_sum (loss_at T no_counts 0) (pos (w.total_cost * initial_cost T)) in
      omega (arith, most, size, low, is, sum)

  pub base_is_small : (side : Side) → list_all (is_short side) (metric_numerals T.problem.metric) ≡ true → large_of side T ≡ None → initial_cost T < 2 ^ 64 → unsigned_abs w.base < 2 ^ 126
  base_is_small side short none start = base_is_low (low_metric side T short (fine_from side T T.problem.metric none)) start
