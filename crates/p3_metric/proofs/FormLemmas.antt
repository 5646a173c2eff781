-- Forms of sums and products, and where a number of a form is too large.
use Rattle.std.proofs.Common.{◌≡◌, ◌∙◌, ◌⊎◌, inl, inr, ℕ, ◌+◌, ◌-◌, ◌^◌, refl, sym, ap, Bool, true, false, not, ◌||◌, cond, List, [], ◌∷◌, ◌++◌, map, arith, pos, ◌+ℤ◌, ◌-ℤ◌, ◌*ℤ◌}
use Rattle.std.specs.Prelude.{ℤ, max, flat_map}
use Rattle.std.specs.List.{list_any}
use Rattle.std.proofs.lemmas.Bool.{true≢false}
use Rattle.std.proofs.lemmas.Int.{ints}
use Rattle.std.proofs.lemmas.Slice.Eq.{bytes_eq-Decides}
use mathlib.Core.Former.{Count}
use Rattle.p3_task.specs.Folds.{fold_nums}
use Rattle.p3_task.specs.Costs.{cost_places}
use Rattle.p3_task.specs.Names.{Name, same_name}
use Rattle.p3_task.specs.Metrics.{Quantity, no_counts, one_count, quantity, quantity_layer, negated, sum_of, product_of}
use Rattle.p3_task.specs.Limits.{constant, coefficient, cost_coefficient}
use Rattle.p3_task.specs.Sides.{weight_bound}
use Rattle.p3_task.specs.Refusals.Metric.{Mention, Count as CountOf, Cost as CostOf, is_within, is_large, mentions, mentions_layer, mention_coefficient}
use Rattle.p3_task.specs.declared.metric.Num.{Num, Row_of-Num, end_of-Num, more_of-Num}
use Rattle.p3_task.specs.declared.metric.Num.TheVariants as num
use Rattle.p3_task.specs.declared.task.Task.{Task}
use Rattle.p3_metric.specs.Entries.{number_at}
use Rattle.p3_metric.specs.Forms.{plus, times, Part, HasPlaces, IsForm, IsSum, IsScaled, IsSmall, IsLarge, HasSmallCoefficients, combined}
use Rattle.p3_metric.specs.declared.linear.Linear.{Linear}
use Rattle.p3_metric.proofs.IntegerLemmas.{difference_times}

-- ---- sums

combined_difference : (k l : ℤ) (a b c d : ℤ) → (a -ℤ b) *ℤ k +ℤ (c -ℤ d) *ℤ l ≡ (a *ℤ k +ℤ c *ℤ l) -ℤ (b *ℤ k +ℤ d *ℤ l)
combined_difference k l a b c d = (λ i. difference_times a b k i +ℤ difference_times c d l i) ∙ by (a *ℤ k) (b *ℤ k) (c *ℤ l) (d *ℤ l)
  where
    by : (a b c d : ℤ) → (a -ℤ b) +ℤ (c -ℤ d) ≡ (a +ℤ c) -ℤ (b +ℤ d)
    by a b c d = omega (arith, ints)

module _ (F G : Part) (first second sum : Linear) (f : IsForm F first) (g : IsForm G second) (same : HasPlaces F) (alike : HasPlaces G) (is : IsSum first second sum) where
  abbrev H : Part
  H c u = plus (F c u) (G c u)

  p : ℕ
  p = (F no_counts 0).places

  units_are : (c : Name → ℕ) (u : ℕ) → combined first.places second.places (F c u).units (G c u).units ≡ (H c u).units
  units_are c u = λ i. combined ((f.places ∙ sym (same c u)) i) ((g.places ∙ sym (alike c u)) i) (F c u).units (G c u).units

  difference_is : (c : Name → ℕ) (u : ℕ) (x y : ℤ) → x ≡ (F c u).units -ℤ (F no_counts 0).units → y ≡ (G c u).units -ℤ (G no_counts 0).units
      → combined first.places second.places x y ≡ (H c u).units -ℤ (H no_counts 0).units
  difference_is c u x y e h =
      (λ i. combined first.places second.places (e i) (h i))
      ∙ combined_difference (pos (10 ^ (max first.places second.places - first.places))) (pos (10 ^ (max first.places second.places - second.places))) (F c u).units (F no_counts 0).units (G c u).units (G no_counts 0).units
      ∙ (λ i. units_are c u i -ℤ units_are no_counts 0 i)

  pub sum_form : IsForm (λ c u. plus (F c u) (G c u)) sum
  sum_form = record {
    places = is.places ∙ (λ i. max (f.places i) (g.places i));
    constant = is.constant ∙ (λ i. combined first.places second.places (f.constant i) (g.constant i)) ∙ units_are no_counts 0;
    cost = is.cost ∙ difference_is no_counts 1 first.cost second.cost f.cost g.cost;
    counts = λ name. is.counts name ∙ difference_is (one_count name) 0 (number_at first.counts name) (number_at second.counts name) (f.counts name) (g.counts name);
  }

-- ---- products with a constant

module _ (F G : Part) (form product : Linear) (factor : ℤ) (more : ℕ) (f : IsForm F form) (fixed : (c : Name → ℕ) (u : ℕ) → G c u ≡ record { places = more; units = factor }) (is : IsScaled form factor more product) where
  times_is : (c : Name → ℕ) (u : ℕ) → (F c u).units *ℤ factor ≡ (times (F c u) (G c u)).units
  times_is c u = ap (λ (q : Quantity). (F c u).units *ℤ q.units) (sym (fixed c u))

  scaled_difference : (c : Name → ℕ) (u : ℕ) (x : ℤ) → x ≡ (F c u).units -ℤ (F no_counts 0).units → x *ℤ factor ≡ (times (F c u) (G c u)).units -ℤ (times (F no_counts 0) (G no_counts 0)).units
  scaled_difference c u x e = ap (λ y. y *ℤ factor) e ∙ difference_times (F c u).units (F no_counts 0).units factor ∙ (λ i. times_is c u i -ℤ times_is no_counts 0 i)

  pub product_form : IsForm (λ c u. times (F c u) (G c u)) product
  product_form = record {
    places = is.places ∙ (λ i. f.places i + (sym (fixed no_counts 0) i).places);
    constant = is.constant ∙ ap (λ x. x *ℤ factor) f.constant ∙ times_is no_counts 0;
    cost = is.cost ∙ scaled_difference no_counts 1 form.cost f.cost;
    counts = λ name. is.counts name ∙ scaled_difference (one_count name) 0 (number_at form.counts name) (f.counts name);
  }

pub form_where : (F G : Part) (form : Linear) → ((c : Name → ℕ) (u : ℕ) → F c u ≡ G c u) → IsForm F form → IsForm G form
form_where F G form same is = record {
  places = is.places ∙ ap (λ (q : Quantity). q.places) (same no_counts 0);
  constant = is.constant ∙ ap (λ (q : Quantity). q.units) (same no_counts 0);
  cost = is.cost ∙ (λ i. (same no_counts 1 i).units -ℤ (same no_counts 0 i).units);
  counts = λ name. is.counts name ∙ (λ i. (same (one_count name) 0 i).units -ℤ (same no_counts 0 i).units);
}

-- ---- what an expression does not mention has no coefficient

abbrev pub value_of : (Name → ℕ) → ℕ → Mention → ℕ
value_of c u (CountOf name) = c name.name
value_of c u (CostOf at) = u

module _ (T : Task) (c d : Name → ℕ) (u v : ℕ) where
  abbrev pub Agree : List Mention → Type 0
  Agree [] = Unit {0}
  Agree (m ∷ ms) = (value_of c u m ≡ value_of d v m) × Agree ms

  left_agree : (xs ys : List Mention) → Agree (xs ++ ys) → Agree xs
  left_agree [] ys all = tt
  left_agree (x ∷ xs) ys all = (all.0, left_agree xs ys all.1)

  right_agree : (xs ys : List Mention) → Agree (xs ++ ys) → Agree ys
  right_agree [] ys all = all
  right_agree (x ∷ xs) ys all = right_agree xs ys all.1

  mutual
    unfolding quantity mentions

    pub agreed : (tree : Num) → Agree (mentions tree) → quantity T c u tree ≡ quantity T d v tree
    agreed (num.Number numeral) all = refl
    agreed (num.TotalCost at) all = λ i. record { places = cost_places T; units = pos (all.0 i) }
    agreed (num.Violated name) all = λ i. record { places = 0; units = pos (all.0 i) }
    agreed (num.Neg' at _ (more_of-Num part rest)) all = ap negated (agreed part all)
    agreed (num.Sub' at _ (more_of-Num first rest) _ (more_of-Num second others)) all = λ i. sum_of (agreed first (left_agree (mentions first) (mentions second) all) i ∷ negated (agreed second (right_agree (mentions first) (mentions second) all) i) ∷ [])
    agreed (num.Sum' at _ parts) all = ap sum_of (all_agreed parts all)
    agreed (num.Product' at _ parts) all = ap product_of (all_agreed parts all)

    all_agreed : {n : Count} (row : Row_of-Num n) → Agree (flat_map (λ part. part) (fold_nums mentions_layer row))
        → fold_nums (quantity_layer c (record { places = cost_places T; units = pos u })) row ≡ fold_nums (quantity_layer d (record { places = cost_places T; units = pos v })) row
    all_agreed end_of-Num all = refl
    all_agreed (more_of-Num part rest) all =
        λ i. agreed part (left_agree (mentions part) _ all) i ∷ all_agreed rest (right_agree (mentions part) _ all) i

-- ---- too large

module _ (T : Task) (tree : Num) (form : Linear) (is : IsForm (λ c u. quantity T c u tree) form) where
  abbrev is_out : ℤ → Bool
  is_out number = not (is_within weight_bound number)

  out_of : (z : ℤ) → is_within weight_bound z ≡ true → is_out z ≡ false
  out_of z e = ap not e

  coefficients_in : HasSmallCoefficients form → (ms : List Mention) → list_any is_out (map (mention_coefficient T tree) ms) ≡ false
  coefficients_in small [] = refl
  coefficients_in small (CountOf name ∷ ms) = (λ i. out_of (coefficient T tree name.name) (ap (is_within weight_bound) (sym (is.counts name.name)) ∙ small.counts name.name) i || coefficients_in small ms i)
  coefficients_in small (CostOf at ∷ ms) = (λ i. out_of (cost_coefficient T tree) (ap (is_within weight_bound) (sym is.cost) ∙ small.cost) i || coefficients_in small ms i)

  pub small_is_not_large : IsSmall form → is_large T tree ≡ false
  small_is_not_large small = λ i. out_of (constant T tree) (ap (is_within weight_bound) (sym is.constant) ∙ small.constant) i || coefficients_in small.coefficients (mentions tree) i

  -- a mention with the number passes the test, or all mentions agree
  pub found : (test : ℤ → Bool) (c : Name → ℕ) (u : ℕ) (z : ℤ) → test z ≡ true → ((m : Mention) → (value_of c u m ≡ value_of no_counts 0 m) ⊎ (mention_coefficient T tree m ≡ z))
      → (ms : List Mention) → (list_any test (map (mention_coefficient T tree) ms) ≡ true) ⊎ Agree T c no_counts u 0 ms
  found test c u z out each [] = inr tt
  found test c u z out each (m ∷ ms) = by (each m) (found test c u z out each ms)
    where
      or_true : (a : Bool) → (a || true) ≡ true
      or_true true = refl
      or_true false = refl

      by : (value_of c u m ≡ value_of no_counts 0 m) ⊎ (mention_coefficient T tree m ≡ z) → (list_any test (map (mention_coefficient T tree) ms) ≡ true) ⊎ Agree T c no_counts u 0 ms
          → (list_any test (map (mention_coefficient T tree) (m ∷ ms)) ≡ true) ⊎ Agree T c no_counts u 0 (m ∷ ms)
      by (inr e) rest = inl (ap (λ x. test x || list_any test (map (mention_coefficient T tree) ms)) e ∙ ap (λ t. t || list_any test (map (mention_coefficient T tree) ms)) out)
      by (inl e) (inl rest) = inl (ap (λ t. test (mention_coefficient T tree m) || t) rest ∙ or_true (test (mention_coefficient T tree m)))
      by (inl e) (inr rest) = inr (e, rest)

  or_true : (a b : Bool) → b ≡ true → (a || b) ≡ true
  or_true true b e = refl
  or_true false b e = e

  -- no mention, no coefficient
  pub no_difference : (c : Name → ℕ) (u : ℕ) → Agree T c no_counts u 0 (mentions tree) → (quantity T c u tree).units -ℤ (quantity T no_counts 0 tree).units ≡ pos 0
  no_difference c u all = ap (λ (q : Quantity). q.units -ℤ (quantity T no_counts 0 tree).units) (agreed T c no_counts u 0 tree all) ∙ by (quantity T no_counts 0 tree).units
    where
      by : (z : ℤ) → z -ℤ z ≡ pos 0
      by z = omega (arith, ints)

  nothing_is_in : (z : ℤ) → z ≡ pos 0 → is_out z ≡ true → ⊥
  nothing_is_in z e out = true≢false (sym out ∙ ap is_out e)

  pub each_count : (name : Name) (m : Mention) → (value_of (one_count name) 0 m ≡ value_of no_counts 0 m) ⊎ (mention_coefficient T tree m ≡ coefficient T tree name)
  each_count name (CostOf at) = inl refl
  each_count name (CountOf other) = by (same_name other.name name) refl
    where
      by : (t : Bool) → same_name other.name name ≡ t → (◌≡◌ {A = ℕ} (cond t 1 0) 0) ⊎ (coefficient T tree other.name ≡ coefficient T tree name)
      by true e = inr (ap (coefficient T tree) ((bytes_eq-Decides other.name name).0 e))
      by false e = inl refl

  pub each_cost : (m : Mention) → (value_of no_counts 1 m ≡ value_of no_counts 0 m) ⊎ (mention_coefficient T tree m ≡ cost_coefficient T tree)
  each_cost (CountOf name) = inl refl
  each_cost (CostOf at) = inr refl

  pub large_is_large : IsLarge form → is_large T tree ≡ true
  large_is_large (inl e) = ap (λ t. t || list_any is_out (map (mention_coefficient T tree) (mentions tree))) (ap (λ z. is_out z) (sym is.constant) ∙ ap not e)
  large_is_large (inr (inl e)) = or_true (is_out (constant T tree)) _ (by (found is_out no_counts 1 (cost_coefficient T tree) out each_cost (mentions tree)))
    where
      out : is_out (cost_coefficient T tree) ≡ true
      out = ap is_out (sym is.cost) ∙ ap not e

      by : (list_any is_out (map (mention_coefficient T tree) (mentions tree)) ≡ true) ⊎ Agree T no_counts no_counts 1 0 (mentions tree) → list_any is_out (map (mention_coefficient T tree) (mentions tree)) ≡ true
      by (inl some) = some
      by (inr all) = absurd (nothing_is_in (cost_coefficient T tree) (no_difference no_counts 1 all) out)
  large_is_large (inr (inr (name, e))) = or_true (is_out (constant T tree)) _ (by (found is_out (one_count name) 0 (coefficient T tree name) out (each_count name) (mentions tree)))
    where
      out : is_out (coefficient T tree name) ≡ true
      out = ap is_out (sym (is.counts name)) ∙ ap not e

      by : (list_any is_out (map (mention_coefficient T tree) (mentions tree)) ≡ true) ⊎ Agree T (one_count name) no_counts 0 0 (mentions tree) → list_any is_out (map (mention_coefficient T tree) (mentions tree)) ≡ true
      by (inl some) = some
      by (inr all) = absurd (nothing_is_in (coefficient T tree name) (no_difference (one_count name) 0 all) out)
