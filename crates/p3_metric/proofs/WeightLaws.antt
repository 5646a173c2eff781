-- The weights of a metric are the numbers of its form.
use Rattle.std.proofs.Common.{◌≡◌, ◌∙◌, ◌⊎◌, inl, inr, ℕ, zero, suc, ◌+◌, refl, sym, ap, Bool, true, false, ◌||◌, cond, List, [], ◌∷◌, map, length, arith, Option, Some, None, pos, ◌+ℤ◌, ◌-ℤ◌, ◌*ℤ◌, neg_ℤ}
use Rattle.std.specs.Prelude.{ℤ, negsuc, int_lt, find, option_map, slice_get, slice_index_or}
use Rattle.std.specs.Int.RustNames.{unsigned_abs}
use Rattle.std.specs.List.{list_any}
use Rattle.std.specs.Option.{option_and_then}
use Rattle.std.proofs.lemmas.Bool.{true≢false}
use Rattle.std.proofs.lemmas.Int.{ints}
use Rattle.p3_base.specs.declared.refusal.Direction.{Direction}
use Rattle.p3_base.specs.declared.refusal.Direction.TheVariants.{Minimize, Maximize}
use Rattle.p3_base.specs.declared.refusal.Refusal.{Refusal}
use Rattle.p3_base.specs.declared.refusal.Role.{Role}
use Rattle.p3_base.specs.declared.refusal.Side.{Side}
use Rattle.p3_base.specs.declared.refusal.Code.TheVariants.{NegativeWeight}
use Rattle.p3_task.proofs.OnceLemmas.{Some-injective}
use Rattle.p3_task.specs.Costs.{initial_cost}
use Rattle.p3_task.specs.Limits.{coefficient, cost_coefficient}
use Rattle.p3_task.specs.Names.{Name}
use Rattle.p3_task.specs.Metrics.{base_loss, cost_weight, direction, direction_by, loss_at, metric_quantity, no_counts, one_count, quantity, quantity_by, signed, weight}
use Rattle.p3_task.specs.Refusals.Metric.{Mention, Count, Cost, mentions, mention_coefficient, mention_weight, mention_word, negative_at}
use Rattle.p3_task.specs.Refusals.Places.{refusal_at, refusal_at_word}
use Rattle.p3_task.specs.Sides.{InProblem, role_of}
use Rattle.p3_task.specs.declared.metric.Metric.{Metric}
use Rattle.p3_task.specs.declared.task.Task.{Task}
use Rattle.p3_metric.specs.Entries.{number_at}
use Rattle.p3_metric.specs.Forms.{IsForm}
use Rattle.p3_metric.specs.Signs.{is_negative, negative_spot, number_of, spot_of}
use Rattle.p3_metric.specs.Refused.{negative_of}
use Rattle.p3_metric.specs.Weighed.{IsLinearMetric}
use Rattle.p3_metric.specs.declared.linear.Linear.{Linear}
use Rattle.p3_metric.specs.declared.spot.Spot.{Spot}
use Rattle.p3_metric.proofs.FormLemmas.{Agree, each_cost, each_count, form_where, found, no_difference}
use Rattle.p3_metric.proofs.IntegerLemmas.{times_sum}
use Rattle.p3_metric.proofs.EntryLemmas.{one_times}
use Rattle.std.proofs.Math.IntN.{*ℤ_comm}
use Rattle.p3_metric.proofs.MetricLemmas.{metric_is}
use Rattle.p3_metric.proofs.WeighedLaws.{by_metric, parts_add}
use Rattle.p3_metric.proofs.LinearLaws.{IsAdditive}

signed_difference : (d : Direction) (a b : ℤ) → signed d a -ℤ signed d b ≡ signed d (a -ℤ b)
signed_difference Minimize a b = refl
signed_difference Maximize a b = omega (arith, ints)

signed_sum : (d : Direction) (a b : ℤ) → signed d a +ℤ signed d b ≡ signed d (a +ℤ b)
signed_sum Minimize a b = refl
signed_sum Maximize a b = omega (arith, ints)

module _ (T : Task) (linear : IsLinearMetric T) (form : Linear) (is : IsForm (metric_quantity T) form) where
  loss_additive : IsAdditive (loss_at T)
  loss_additive = by_metric T T.problem.metric (direction T) linear

  at_start : (a b c e w : ℤ) → a +ℤ e ≡ c +ℤ b → c -ℤ e ≡ w → a -ℤ b ≡ w
  at_start a b c e w f g = omega (arith, ints, f, g)

  pub weight_is : (name : Name) → weight T name ≡ signed (direction T) (number_at form.counts name)
  unfolding weight base_loss
  weight_is name =
      at_start (loss_at T (one_count name) (initial_cost T)) (loss_at T no_counts (initial_cost T)) (loss_at T (one_count name) 0) (loss_at T no_counts 0) (signed (direction T) (number_at form.counts name))
      (parts_add (loss_at T) loss_additive (one_count name) (initial_cost T))
      (signed_difference (direction T) (metric_quantity T (one_count name) 0).units (metric_quantity T no_counts 0).units ∙ ap (signed (direction T)) (sym (is.counts name)))

  one_unit : loss_at T no_counts 1 -ℤ loss_at T no_counts 0 ≡ signed (direction T) form.cost
  one_unit = signed_difference (direction T) (metric_quantity T no_counts 1).units (metric_quantity T no_counts 0).units ∙ ap (signed (direction T)) (sym is.cost)

  pub cost_weight_is : cost_weight T ≡ signed (direction T) form.cost
  unfolding cost_weight base_loss
  cost_weight_is =
      by (loss_at T no_counts (initial_cost T + 1)) (loss_at T no_counts (initial_cost T)) (loss_at T no_counts 1) (loss_at T no_counts 0) (signed (direction T) form.cost)
      (loss_additive no_counts no_counts (initial_cost T) 1) one_unit
    where
      by : (a b c e w : ℤ) → a +ℤ e ≡ b +ℤ c → c -ℤ e ≡ w → a -ℤ b ≡ w
      by a b c e w f g = omega (arith, ints, f, g)

  one_more : (z : ℤ) (n : ℕ) → z *ℤ pos (suc n) ≡ z +ℤ z *ℤ pos n
  one_more z n = ap (λ m. z *ℤ pos m) (let e : suc n ≡ 1 + n = omega arith in e) ∙ times_sum z (pos 1) (pos n) ∙ ap (λ x. x +ℤ z *ℤ pos n) (*ℤ_comm z (pos 1) ∙ one_times z)

  costs_are : (u : ℕ) → loss_at T no_counts u ≡ signed (direction T) (form.constant +ℤ form.cost *ℤ pos u)
  costs_are zero = ap (signed (direction T)) (sym is.constant ∙ plus_none form.constant form.cost)
    where
      plus_none : (a b : ℤ) → a ≡ a +ℤ b *ℤ pos 0
      plus_none a b = omega (arith, ints)
  costs_are (suc u) =
      ap (loss_at T no_counts) (let e : suc u ≡ 1 + u = omega arith in e)
      ∙ by (loss_at T no_counts (1 + u)) (loss_at T no_counts 1) (loss_at T no_counts u) (loss_at T no_counts 0) (signed (direction T) form.cost) (loss_additive no_counts no_counts 1 u) one_unit
      ∙ (λ i. costs_are u i +ℤ signed (direction T) form.cost)
      ∙ signed_sum (direction T) (form.constant +ℤ form.cost *ℤ pos u) form.cost
      ∙ ap (signed (direction T)) (turned form.constant form.cost (form.cost *ℤ pos u) ∙ ap (λ x. form.constant +ℤ x) (sym (one_more form.cost u)))
    where
      by : (a b c e w : ℤ) → a +ℤ e ≡ b +ℤ c → b -ℤ e ≡ w → a ≡ c +ℤ w
      by a b c e w f g = omega (arith, ints, f, g)

      turned : (a b c : ℤ) → (a +ℤ c) +ℤ b ≡ a +ℤ (b +ℤ c)
      turned a b c = omega (arith, ints)

  pub base_is : base_loss T ≡ signed (direction T) (form.constant +ℤ form.cost *ℤ pos (initial_cost T))
  unfolding base_loss
  base_is = costs_are (initial_cost T)

  -- ---- the first negative weight

  mention_weight_is : (m : Mention) → mention_weight T m ≡ signed (direction T) (number_of form m)
  mention_weight_is (Count name) = weight_is name.name
  mention_weight_is (Cost at) = cost_weight_is

  module _ (side : Side) (metric : Metric) (there : T.problem.metric ≡ Some metric) where
    direction_is : direction T ≡ metric.direction
    direction_is = ap direction_by there

    spots_are : find (is_negative form metric.direction) (mentions metric.body) ≡ find (λ m. int_lt (mention_weight T m) (pos 0)) (mentions metric.body)
    spots_are = ap (λ test. find test (mentions metric.body)) (λ i m. int_lt (sym (mention_weight_is m ∙ ap (λ e. signed e (number_of form m)) direction_is) i) (pos 0))

    abbrev refused : Role → Option Spot → Option Refusal
    refused role found = option_map (λ (spot : Spot). refusal_at NegativeWeight role spot.at spot.len) found

    -- what is found in the form is the refusal
    pub negative_is : (role : Role) → role ≡ role_of side InProblem → option_map (λ (spot : Spot). refusal_at NegativeWeight role spot.at spot.len) (negative_spot form metric.direction metric.body) ≡ negative_of side T
    unfolding negative_spot
    negative_is role same =
        by (find (is_negative form metric.direction) (mentions metric.body))
        ∙ (λ i. option_map (λ m. refusal_at_word NegativeWeight (same i) (mention_word m)) (spots_are i))
        ∙ sym (ap (λ (o : Option Metric). option_and_then (negative_at side T) (option_map (λ m. m.body) o)) there)
      where
        by : (o : Option Mention) → refused role (option_map spot_of o) ≡ option_map (λ m. refusal_at_word NegativeWeight role (mention_word m)) o
        by None = refl
        by (Some m) = refl

    none_passes : (test : Mention → Bool) (ms : List Mention) → find test ms ≡ None → list_any test ms ≡ false
    none_passes test [] e = refl
    none_passes test (m ∷ ms) e = by (test m) e (none_passes test ms)
      where
        by : (t : Bool) → cond t (Some m) (find test ms) ≡ None → (find test ms ≡ None → list_any test ms ≡ false) → (t || list_any test ms) ≡ false
        by true wrong rest = absurd (cc)
        by false e rest = rest e

    any_map : (test : ℤ → Bool) (f : Mention → ℤ) (ms : List Mention) → list_any test (map f ms) ≡ list_any (λ m. test (f m)) ms
    any_map test f [] = refl
    any_map test f (m ∷ ms) = ap (λ t. test (f m) || t) (any_map test f ms)

    abbrev below : ℤ → Bool
    below z = int_lt (signed (direction T) z) (pos 0)

    tree_form : IsForm (λ c u. quantity T c u metric.body) form
    tree_form = form_where (metric_quantity T) (λ c u. quantity T c u metric.body) form (metric_is side T metric there) is

    coefficient_is : (m : Mention) → number_of form m ≡ mention_coefficient T metric.body m
    coefficient_is (Count name) = tree_form.counts name.name
    coefficient_is (Cost at) = tree_form.cost

    none_below : negative_of side T ≡ None → list_any below (map (mention_coefficient T metric.body) (mentions metric.body)) ≡ false
    none_below none =
        any_map below (mention_coefficient T metric.body) (mentions metric.body)
        ∙ ap (λ test. list_any test (mentions metric.body)) (λ i m. int_lt ((ap (signed (direction T)) (sym (coefficient_is m)) ∙ sym (mention_weight_is m)) i) (pos 0))
        ∙ none_passes (λ m. int_lt (mention_weight T m) (pos 0)) (mentions metric.body)
        (by (find (λ m. int_lt (mention_weight T m) (pos 0)) (mentions metric.body)) (sym (ap (λ (o : Option Metric). option_and_then (negative_at side T) (option_map (λ m. m.body) o)) there) ∙ none))
      where
        by : (o : Option Mention) → option_map (λ m. refusal_at_word NegativeWeight (role_of side InProblem) (mention_word m)) o ≡ None → o ≡ None
        by None e = refl
        by (Some m) wrong = absurd (cc)

    not_below : (z : ℤ) → z ≡ pos 0 → below z ≡ true → ⊥
    not_below z e out = true≢false (sym out ∙ ap below e ∙ by (direction T))
      where
        by : (e : Direction) → int_lt (signed e (pos 0)) (pos 0) ≡ false
        by Minimize = refl
        by Maximize = refl

    count_at_least : negative_of side T ≡ None → (name : Name) (t : Bool) → below (coefficient T metric.body name) ≡ t → t ≡ false
    count_at_least none name false e = refl
    count_at_least none name true e = absurd (by (found T metric.body form tree_form below (one_count name) 0 (coefficient T metric.body name) e (each_count T metric.body form tree_form name) (mentions metric.body)))
      where
        by : (list_any below (map (mention_coefficient T metric.body) (mentions metric.body)) ≡ true) ⊎ Agree T (one_count name) no_counts 0 0 (mentions metric.body) → ⊥
        by (inl some) = true≢false (sym some ∙ none_below none)
        by (inr all) = not_below (coefficient T metric.body name) (no_difference T metric.body form tree_form (one_count name) 0 all) e

    cost_at_least : negative_of side T ≡ None → (t : Bool) → below (cost_coefficient T metric.body) ≡ t → t ≡ false
    cost_at_least none false e = refl
    cost_at_least none true e = absurd (by (found T metric.body form tree_form below no_counts 1 (cost_coefficient T metric.body) e (each_cost T metric.body form tree_form) (mentions metric.body)))
      where
        by : (list_any below (map (mention_coefficient T metric.body) (mentions metric.body)) ≡ true) ⊎ Agree T no_counts no_counts 1 0 (mentions metric.body) → ⊥
        by (inl some) = true≢false (sym some ∙ none_below none)
        by (inr all) = not_below (cost_coefficient T metric.body) (no_difference T metric.body form tree_form no_counts 1 all) e

    -- no weight is negative
    pub count_not_below : negative_of side T ≡ None → (name : Name) → int_lt (signed (direction T) (number_at form.counts name)) (pos 0) ≡ false
    count_not_below none name = ap below (tree_form.counts name) ∙ count_at_least none name (below (coefficient T metric.body name)) refl

    pub cost_not_below : negative_of side T ≡ None → int_lt (signed (direction T) form.cost) (pos 0) ≡ false
    cost_not_below none = ap below tree_form.cost ∙ cost_at_least none (below (cost_coefficient T metric.body)) refl

-- ---- without a metric

module _ (T : Task) (none : T.problem.metric ≡ None) (form : Linear) (is : IsForm (metric_quantity T) form) where
  no_quantity : (c : Name → ℕ) (u : ℕ) → metric_quantity T c u ≡ record { places = 0; units = pos 0 }
  no_quantity c u = ap (quantity_by T c u) none

  zero_below : (d : Direction) (z : ℤ) → z ≡ pos 0 → int_lt (signed d z) (pos 0) ≡ false
  zero_below Minimize z e = ap (λ x. int_lt x (pos 0)) e
  zero_below Maximize z e = ap (λ x. int_lt (neg_ℤ x) (pos 0)) e

  pub no_count_below : (name : Name) → int_lt (signed (direction T) (number_at form.counts name)) (pos 0) ≡ false
  no_count_below name = zero_below (direction T) (number_at form.counts name) (is.counts name ∙ (λ i. (no_quantity (one_count name) 0 i).units -ℤ (no_quantity no_counts 0 i).units))

  pub no_cost_below : int_lt (signed (direction T) form.cost) (pos 0) ≡ false
  no_cost_below = zero_below (direction T) form.cost (is.cost ∙ (λ i. (no_quantity no_counts 1 i).units -ℤ (no_quantity no_counts 0 i).units))

-- ---- all of them

module _ (side : Side) (T : Task) (linear : IsLinearMetric T) (form : Linear) (is : IsForm (metric_quantity T) form) (none : negative_of side T ≡ None) where
  count_above : (name : Name) → int_lt (signed (direction T) (number_at form.counts name)) (pos 0) ≡ false
  count_above name = by T.problem.metric refl
    where
      by : (o : Option Metric) → T.problem.metric ≡ o → int_lt (signed (direction T) (number_at form.counts name)) (pos 0) ≡ false
      by None e = no_count_below T e form is name
      by (Some metric) e = count_not_below T linear form is side metric e none name

  cost_above : int_lt (signed (direction T) form.cost) (pos 0) ≡ false
  cost_above = by T.problem.metric refl
    where
      by : (o : Option Metric) → T.problem.metric ≡ o → int_lt (signed (direction T) form.cost) (pos 0) ≡ false
      by None e = no_cost_below T e form is
      by (Some metric) e = cost_not_below T linear form is side metric e none

  magnitude_is : (e : Direction) (z : ℤ) → int_lt (signed e z) (pos 0) ≡ false → pos (unsigned_abs z) ≡ signed e z
  magnitude_is Minimize (pos n) h = refl
  magnitude_is Minimize (negsuc n) h = absurd (true≢false h)
  magnitude_is Maximize (pos zero) h = refl
  magnitude_is Maximize (pos (suc n)) h = absurd (true≢false h)
  magnitude_is Maximize (negsuc n) h = refl

  pub count_weighs : (name : Name) → pos (unsigned_abs (number_at form.counts name)) ≡ weight T name
  count_weighs name = magnitude_is (direction T) (number_at form.counts name) (count_above name) ∙ sym (weight_is T linear form is name)

  pub cost_weighs : pos (unsigned_abs form.cost) ≡ cost_weight T
  cost_weighs = magnitude_is (direction T) form.cost cost_above ∙ sym (cost_weight_is T linear form is)

pub mapped_at : {A : Type 0} (f : A → ℕ) (xs : List A) (place : ℕ) (x : A) → slice_get xs place ≡ Some x → slice_index_or (map f xs) place 0 ≡ f x
mapped_at f [] place x e = absurd (cc)
mapped_at f (y ∷ xs) zero x e = ap f (Some-injective y x e)
mapped_at f (y ∷ xs) (suc place) x e = mapped_at f xs place x e

pub length_mapped : {A : Type 0} (f : A → ℕ) (xs : List A) → length (map f xs) ≡ length xs
length_mapped f [] = refl
length_mapped f (x ∷ xs) = ap suc (length_mapped f xs)
