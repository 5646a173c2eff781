-- A metric without a product of two quantities is linear in the counts and in the total cost.
use Rattle.std.proofs.Common.{◌≡◌, ◌∙◌, ℕ, ◌+◌, ◌-◌, ◌<◌, nat_lt, refl, sym, ap, subst, Bool, true, false, ◌||◌, List, [], ◌∷◌, map, cond, arith, pos, ◌+ℤ◌, ◌*ℤ◌, neg_ℤ}
use Rattle.std.specs.Prelude.{ℤ, ◌^◌, fold, max, sum, count_by, flat_map, if◌then◌else◌}
use Rattle.std.specs.List.{list_any, AllZip}
use Rattle.std.proofs.lemmas.Bool.{or_parts, true≢false, ltb-false}
use Rattle.std.proofs.lemmas.Int.{ints}
use Rattle.std.proofs.lemmas.List.Sums.{sum_by-cons}
use Rattle.std.proofs.Math.IntN.{*ℤ_comm}
use Rattle.p3_metric.proofs.IntegerLemmas.{times_sum}
use mathlib.Core.Former.{Count}
use Rattle.p3_task.specs.Folds.{fold_num, fold_nums}
use Rattle.p3_task.specs.Names.{Name}
use Rattle.p3_task.specs.Metrics.{no_counts}
use Rattle.p3_task.proofs.OnceLemmas.{nil_left, nil_right}
use Rattle.p3_task.specs.declared.metric.Num.{Num, Row_of-Num, end_of-Num, more_of-Num}
use Rattle.p3_task.specs.declared.metric.Num.TheOpen.{Num-F}
use Rattle.p3_task.specs.declared.metric.Num.TheVariants as num
use Rattle.p3_task.specs.declared.task.Task.{Task}
use Rattle.p3_task.specs.Metrics.{Quantity, quantity, quantity_layer, in_units, places_of_sum, sum_of, product_of, negated}
use Rattle.p3_task.specs.Costs.{cost_places}
use Rattle.p3_task.specs.Refusals.Metric.{Factors, factors_layer, nonlinear}

-- ---- linear functions of counts and costs

abbrev pub Counts : Type 0
Counts = Name → ℕ

abbrev pub both : Counts → Counts → Counts
both c d name = c name + d name

abbrev pub IsAdditive : (Counts → ℕ → ℤ) → Type 0
IsAdditive F = (c d : Counts) (u v : ℕ) → F (both c d) (u + v) +ℤ F no_counts 0 ≡ F c u +ℤ F d v

abbrev pub IsConstant : (Counts → ℕ → ℤ) → Type 0
IsConstant F = (c : Counts) (u : ℕ) → F c u ≡ F no_counts 0

pub additive_of_constant : (F : Counts → ℕ → ℤ) → IsConstant F → IsAdditive F
additive_of_constant F k c d u v = λ i. (k (both c d) (u + v) ∙ sym (k c u)) i +ℤ sym (k d v) i

additive_sum : (F G : Counts → ℕ → ℤ) → IsAdditive F → IsAdditive G → IsAdditive (λ c u. F c u +ℤ G c u)
additive_sum F G f g c d u v = by (F (both c d) (u + v)) (F no_counts 0) (F c u) (F d v) (G (both c d) (u + v)) (G no_counts 0) (G c u) (G d v) (f c d u v) (g c d u v)
  where
    by : (a a0 a1 a2 b b0 b1 b2 : ℤ) → a +ℤ a0 ≡ a1 +ℤ a2 → b +ℤ b0 ≡ b1 +ℤ b2 → (a +ℤ b) +ℤ (a0 +ℤ b0) ≡ (a1 +ℤ b1) +ℤ (a2 +ℤ b2)
    by a a0 a1 a2 b b0 b1 b2 e f = omega (arith, ints, e, f)

pub additive_neg : (F : Counts → ℕ → ℤ) → IsAdditive F → IsAdditive (λ c u. neg_ℤ (F c u))
additive_neg F f c d u v = by (F (both c d) (u + v)) (F no_counts 0) (F c u) (F d v) (f c d u v)
  where
    by : (a a0 a1 a2 : ℤ) → a +ℤ a0 ≡ a1 +ℤ a2 → neg_ℤ a +ℤ neg_ℤ a0 ≡ neg_ℤ a1 +ℤ neg_ℤ a2
    by a a0 a1 a2 e = omega (arith, ints, e)

additive_times : (z : ℤ) (F : Counts → ℕ → ℤ) → IsAdditive F → IsAdditive (λ c u. z *ℤ F c u)
additive_times z F f c d u v = sym (times_sum z (F (both c d) (u + v)) (F no_counts 0)) ∙ ap (λ x. z *ℤ x) (f c d u v) ∙ times_sum z (F c u) (F d v)

-- the product with a constant
times_constant : (F G : Counts → ℕ → ℤ) → IsAdditive F → IsConstant G → IsAdditive (λ c u. F c u *ℤ G c u)
times_constant F G f g = subst IsAdditive (λ i c u. (*ℤ_comm (G no_counts 0) (F c u) ∙ ap (λ x. F c u *ℤ x) (sym (g c u))) i) (additive_times (G no_counts 0) F f)

constant_times : (F G : Counts → ℕ → ℤ) → IsConstant F → IsAdditive G → IsAdditive (λ c u. F c u *ℤ G c u)
constant_times F G f g = subst IsAdditive (λ i c u. sym (f c u) i *ℤ G c u) (additive_times (F no_counts 0) G g)

-- ---- quantities

abbrev Part : Type 0
Part = Counts → ℕ → Quantity

pub record IsLinear (f : Part) (mention : Bool) : Type 0 where
  pub places : (c : Counts) (u : ℕ) → (f c u).places ≡ (f no_counts 0).places
  pub additive : IsAdditive (λ c u. (f c u).units)
  pub constant : mention ≡ false → IsConstant (λ c u. (f c u).units)

abbrev at_counts : List Part → Counts → ℕ → List Quantity
at_counts fs c u = map (λ (f : Part). f c u) fs

abbrev AllLinear : List Part → List Bool → Type 0
AllLinear fs ms = AllZip IsLinear fs ms

abbrev some_mention : List Bool → Bool
some_mention ms = list_any (λ m. m) ms

same_places : (fs : List Part) (ms : List Bool) → AllLinear fs ms → (c : Counts) (u : ℕ) → map (λ (q : Quantity). q.places) (at_counts fs c u) ≡ map (λ (q : Quantity). q.places) (at_counts fs no_counts 0)
same_places [] [] all c u = refl
same_places [] (m ∷ ms) all c u = absurd all
same_places (f ∷ fs) [] all c u = absurd all
same_places (f ∷ fs) (m ∷ ms) all c u = λ i. all.0.places c u i ∷ same_places fs ms all.1 c u i

-- one part in smaller units
module _ (p : ℕ) where
  abbrev scaled : Part → Counts → ℕ → ℤ
  scaled f c u = in_units p (f c u)

  scaled_additive : (f : Part) (m : Bool) → IsLinear f m → IsAdditive (scaled f)
  scaled_additive f m is = times_constant (λ c u. (f c u).units) (λ c u. pos (10 ^ (p - (f c u).places))) is.additive (λ c u. ap (λ k. pos (10 ^ (p - k))) (is.places c u))

  scaled_constant : (f : Part) (m : Bool) → IsLinear f m → m ≡ false → IsConstant (scaled f)
  scaled_constant f m is none c u = λ i. is.constant none c u i *ℤ pos (10 ^ (p - is.places c u i))

  total_additive : (A : Counts → ℕ → ℤ) → IsAdditive A → (fs : List Part) (ms : List Bool) → AllLinear fs ms → IsAdditive (λ c u. fold (λ total part. total +ℤ in_units p part) (A c u) (at_counts fs c u))
  total_additive A a [] [] all = a
  total_additive A a [] (m ∷ ms) all = absurd all
  total_additive A a (f ∷ fs) [] all = absurd all
  total_additive A a (f ∷ fs) (m ∷ ms) all = total_additive (λ c u. A c u +ℤ scaled f c u) (additive_sum A (scaled f) a (scaled_additive f m all.0)) fs ms all.1

  total_constant : (A : Counts → ℕ → ℤ) → IsConstant A → (fs : List Part) (ms : List Bool) → AllLinear fs ms → some_mention ms ≡ false → IsConstant (λ c u. fold (λ total part. total +ℤ in_units p part) (A c u) (at_counts fs c u))
  total_constant A a [] [] all none = a
  total_constant A a [] (m ∷ ms) all none = absurd all
  total_constant A a (f ∷ fs) [] all none = absurd all
  total_constant A a (f ∷ fs) (m ∷ ms) all none =
      let parts = or_parts m _ none in
      total_constant (λ c u. A c u +ℤ scaled f c u) (λ c u i. a c u i +ℤ scaled_constant f m all.0 parts.0 c u i) fs ms all.1 parts.1

linear_sum : (fs : List Part) (ms : List Bool) → AllLinear fs ms → IsLinear (λ c u. sum_of (at_counts fs c u)) (some_mention ms)
linear_sum fs ms all =
    let most = λ (c : Counts) (u : ℕ). ap (fold max 0) (same_places fs ms all c u) in
    let p = places_of_sum (at_counts fs no_counts 0) in
    let at_most = λ (c : Counts) (u : ℕ). ap (λ k. fold (λ total part. total +ℤ in_units k part) (pos 0) (at_counts fs c u)) (most c u) in
    record {
      places = most;
      additive = subst IsAdditive (λ i c u. sym (at_most c u) i) (total_additive p (λ c u. pos 0) (additive_of_constant (λ c u. pos 0) (λ c u. refl)) fs ms all);
      constant = λ none c u. at_most c u ∙ total_constant p (λ c u. pos 0) (λ c u. refl) fs ms all none c u;
    }

-- ---- products

product_constant : (A : Counts → ℕ → ℤ) → IsConstant A → (fs : List Part) (ms : List Bool) → AllLinear fs ms → some_mention ms ≡ false → IsConstant (λ c u. fold (λ total part. total *ℤ part.units) (A c u) (at_counts fs c u))
product_constant A a [] [] all none = a
product_constant A a [] (m ∷ ms) all none = absurd all
product_constant A a (f ∷ fs) [] all none = absurd all
product_constant A a (f ∷ fs) (m ∷ ms) all none =
    let parts = or_parts m _ none in
    product_constant (λ c u. A c u *ℤ (f c u).units) (λ c u i. a c u i *ℤ all.0.constant parts.0 c u i) fs ms all.1 parts.1

product_kept : (A : Counts → ℕ → ℤ) → IsAdditive A → (fs : List Part) (ms : List Bool) → AllLinear fs ms → some_mention ms ≡ false → IsAdditive (λ c u. fold (λ total part. total *ℤ part.units) (A c u) (at_counts fs c u))
product_kept A a [] [] all none = a
product_kept A a [] (m ∷ ms) all none = absurd all
product_kept A a (f ∷ fs) [] all none = absurd all
product_kept A a (f ∷ fs) (m ∷ ms) all none =
    let parts = or_parts m _ none in
    product_kept (λ c u. A c u *ℤ (f c u).units) (times_constant A (λ c u. (f c u).units) a (all.0.constant parts.0)) fs ms all.1 parts.1

abbrev count_mentions : List Bool → ℕ
count_mentions ms = count_by (λ m. m) ms

none_counted : (ms : List Bool) → count_mentions ms < 1 → some_mention ms ≡ false
none_counted [] few = refl
none_counted (true ∷ ms) few = let more = sum_by-cons (λ m. cond m 1 0) true ms in absurd (omega (arith, few, more))
none_counted (false ∷ ms) few = let more = sum_by-cons (λ m. cond m 1 0) false ms in none_counted ms (omega (arith, few, more))

product_additive : (A : Counts → ℕ → ℤ) → IsConstant A → (fs : List Part) (ms : List Bool) → AllLinear fs ms → count_mentions ms < 2 → IsAdditive (λ c u. fold (λ total part. total *ℤ part.units) (A c u) (at_counts fs c u))
product_additive A a [] [] all few = additive_of_constant A a
product_additive A a [] (m ∷ ms) all few = absurd all
product_additive A a (f ∷ fs) [] all few = absurd all
product_additive A a (f ∷ fs) (true ∷ ms) all few =
    let more = sum_by-cons (λ m. cond m 1 0) true ms in
    product_kept (λ c u. A c u *ℤ (f c u).units) (constant_times A (λ c u. (f c u).units) a all.0.additive) fs ms all.1 (none_counted ms (omega (arith, few, more)))
product_additive A a (f ∷ fs) (false ∷ ms) all few =
    let more = sum_by-cons (λ m. cond m 1 0) false ms in
    product_additive (λ c u. A c u *ℤ (f c u).units) (λ c u i. a c u i *ℤ all.0.constant refl c u i) fs ms all.1 (omega (arith, few, more))

linear_product : (fs : List Part) (ms : List Bool) → AllLinear fs ms → count_mentions ms < 2 → IsLinear (λ c u. product_of (at_counts fs c u)) (some_mention ms)
linear_product fs ms all few = record {
  places = λ c u. ap sum (same_places fs ms all c u);
  additive = product_additive (λ c u. pos 1) (λ c u. refl) fs ms all few;
  constant = λ none. product_constant (λ c u. pos 1) (λ c u. refl) fs ms all none;
}

-- ---- expressions

any_map : (found : List Factors) → list_any (λ m. m) (map (λ (f : Factors). f.mention) found) ≡ list_any (λ (f : Factors). f.mention) found
any_map [] = refl
any_map (f ∷ found) = ap (λ t. f.mention || t) (any_map found)

count_map : (found : List Factors) → count_by (λ m. m) (map (λ (f : Factors). f.mention) found) ≡ count_by (λ (f : Factors). f.mention) found
count_map [] = refl
count_map (f ∷ found) =
    sum_by-cons (λ m. cond m 1 0) f.mention (map (λ (f : Factors). f.mention) found)
    ∙ ap (λ n. cond f.mention 1 0 + n) (count_map found)
    ∙ sym (sum_by-cons (λ (f : Factors). cond f.mention 1 0) f found)

few_of : (n at : ℕ) → (if nat_lt 1 n then at ∷ [] else []) ≡ [] → n < 2
few_of n at e = by (nat_lt 1 n) refl e
  where
    by : (t : Bool) → nat_lt 1 n ≡ t → (if t then at ∷ [] else []) ≡ [] → n < 2
    by true h e = absurd (cc)
    by false h e = let low = ltb-false 1 n h in omega (arith, low)

linear_neg : (f : Part) (m : Bool) → IsLinear f m → IsLinear (λ c u. negated (f c u)) m
linear_neg f m is = record { places = is.places; additive = additive_neg (λ c u. (f c u).units) is.additive; constant = λ none c u. ap neg_ℤ (is.constant none c u) }

module _ (T : Task) where
  abbrev part_of : Num → Part
  part_of tree c u = quantity T c u tree

  abbrev parts_of : {n : Count} → Row_of-Num n → List Part
  parts_of end_of-Num = []
  parts_of (more_of-Num part rest) = part_of part ∷ parts_of rest

  abbrev layer_at : Counts → ℕ → Num-F Quantity → Quantity
  layer_at c u = quantity_layer c (record { places = cost_places T; units = pos u })

  row_parts : {n : Count} (row : Row_of-Num n) (c : Counts) (u : ℕ) → fold_nums (layer_at c u) row ≡ at_counts (parts_of row) c u
  unfolding quantity
  row_parts end_of-Num c u = refl
  row_parts (more_of-Num part rest) c u = λ i. quantity T c u part ∷ row_parts rest c u i

  abbrev mentions_of : {n : Count} → Row_of-Num n → List Bool
  mentions_of row = map (λ (f : Factors). f.mention) (fold_nums factors_layer row)

  add_zero : (m n : ℕ) → pos (m + n) +ℤ pos 0 ≡ pos m +ℤ pos n
  add_zero m n = omega (arith, ints)

  mutual
    unfolding quantity nonlinear

    pub linear : (tree : Num) → nonlinear tree ≡ [] → IsLinear (part_of tree) (fold_num factors_layer tree).mention
    linear (num.Number numeral) e = record { places = λ c u. refl; additive = λ c d u v. refl; constant = λ none c u. refl }
    linear (num.TotalCost at) e = record { places = λ c u. refl; additive = λ c d u v. add_zero u v; constant = λ none. absurd (true≢false none) }
    linear (num.Violated name) e = record { places = λ c u. refl; additive = λ c d u v. add_zero (c name.name) (d name.name); constant = λ none. absurd (true≢false none) }
    linear (num.Neg' at _ (more_of-Num part rest)) e = linear_neg (part_of part) _ (linear part e)
    linear (num.Sub' at _ (more_of-Num first rest) _ (more_of-Num second others)) e =
        let one = linear first (nil_left (nonlinear first) _ e) in
        let two = linear second (nil_left (nonlinear second) [] (nil_right (nonlinear first) _ e)) in
        linear_sum (part_of first ∷ (λ c u. negated (part_of second c u)) ∷ []) ((fold_num factors_layer first).mention ∷ (fold_num factors_layer second).mention ∷ []) (one, (linear_neg (part_of second) _ two, tt))
    linear (num.Sum' at _ parts) e =
        subst (λ m. IsLinear (λ c u. sum_of (fold_nums (layer_at c u) parts)) m) (any_map (fold_nums factors_layer parts))
        (subst (λ f. IsLinear f (some_mention (mentions_of parts))) (λ i c u. sum_of (sym (row_parts parts c u) i)) (linear_sum (parts_of parts) (mentions_of parts) (all_linear parts e)))
    linear (num.Product' at _ parts) e =
        let few = few_of (count_by (λ (f : Factors). f.mention) (fold_nums factors_layer parts)) at (nil_left _ _ e) in
        let counted = count_map (fold_nums factors_layer parts) in
        subst (λ m. IsLinear (λ c u. product_of (fold_nums (layer_at c u) parts)) m) (any_map (fold_nums factors_layer parts))
        (subst (λ f. IsLinear f (some_mention (mentions_of parts))) (λ i c u. product_of (sym (row_parts parts c u) i))
        (linear_product (parts_of parts) (mentions_of parts) (all_linear parts (nil_right (if nat_lt 1 (count_by (λ (f : Factors). f.mention) (fold_nums factors_layer parts)) then at ∷ [] else []) _ e)) (omega (arith, few, counted))))

    all_linear : {n : Count} (row : Row_of-Num n) → flat_map (λ (f : Factors). f.products) (fold_nums factors_layer row) ≡ [] → AllLinear (parts_of row) (mentions_of row)
    all_linear end_of-Num e = tt
    all_linear (more_of-Num part rest) e = (linear part (nil_left (nonlinear part) _ e), all_linear rest (nil_right (nonlinear part) _ e))
