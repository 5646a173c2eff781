-- A linear loss is the base with the weighted counts and the weighted growth of the total cost.
use Rattle.std.proofs.Common.{◌≡◌, ◌∙◌, ℕ, zero, suc, ◌+◌, ◌*◌, refl, sym, ap, Bool, true, false, List, [], ◌∷◌, length, cond, arith, Option, Some, None, sum_by, pos, ◌+ℤ◌, neg_ℤ}
use Rattle.std.specs.Prelude.{ℤ, slice_get, slice_index_or}
use Rattle.std.specs.List.{AllZip, range_with_len}
use Rattle.std.proofs.Math.Nat.{mul-add}
use Rattle.std.proofs.lemmas.Bool.{false_from_ne_true}
use Rattle.std.proofs.lemmas.Int.{ints}
use Rattle.std.proofs.lemmas.List.Sums.{sum_by-cons}
use Rattle.std.proofs.lemmas.Slice.Eq.{bytes_eq-Decides}
use Rattle.p3_base.specs.declared.refusal.Direction.{Direction}
use Rattle.p3_base.specs.declared.refusal.Direction.TheVariants.{Minimize, Maximize}
use Rattle.p3_task.specs.Names.{Name, same_name}
use Rattle.p3_task.specs.Metrics.{no_counts, one_count, direction}
use Rattle.p3_task.specs.declared.metric.Metric.{Metric}
use Rattle.p3_task.specs.declared.task.Task.{Task}
use Rattle.p3_formula.specs.declared.target.Weights.{Weights}
use Rattle.p3_task.specs.Metrics.{quantity, quantity_by, signed, loss_at, base_loss, weight, cost_weight}
use Rattle.p3_task.specs.Costs.{initial_cost}
use Rattle.p3_task.specs.Refusals.Metric.{nonlinear}
use Rattle.p3_task.specs.PreferenceNames.{ordered_names}
use Rattle.p3_metric.specs.Weighed.{IsWeights, HasWeights, IsLinearMetric, CountsNames, weighed}
use Rattle.std.proofs.lemmas.Option.{get_or_from_slice_get}
use Rattle.p3_task.proofs.OnceLemmas.{AreOnce, Some-injective, each_once, once_ahead}
use Rattle.p3_metric.proofs.LinearLaws.{Counts, both, IsAdditive, linear, additive_neg}

ordered_once : (T : Task) → AreOnce (ordered_names T)
unfolding ordered_names
ordered_once T = each_once _

abbrev times_one : ℕ → Name → Counts
times_one k name other = k * one_count name other

more_times : (k : ℕ) (name : Name) → times_one (suc k) name ≡ both (one_count name) (times_one k name)
more_times k name = λ i other. by (same_name other name) i
  where
    by : (t : Bool) → suc k * cond t 1 0 ≡ cond t 1 0 + k * cond t 1 0
    by true = omega arith
    by false = omega arith

no_times : (name : Name) → times_one 0 name ≡ no_counts
no_times name = λ i other. by (one_count name other) i
  where
    by : (n : ℕ) → 0 * n ≡ 0
    by n = omega arith

abbrev restricted : List Name → Counts → Counts
restricted [] c = no_counts
restricted (name ∷ names) c = both (times_one (c name) name) (restricted names c)

abbrev sum_list : List Name → List ℕ → Counts → ℕ
sum_list [] ws c = 0
sum_list (name ∷ names) [] c = 0
sum_list (name ∷ names) (w ∷ ws) c = w * c name + sum_list names ws c

apart : (first name : Name) → (first ≡ name → ⊥) → same_name first name ≡ false
apart first name differ = false_from_ne_true (same_name first name) (λ e. differ ((bytes_eq-Decides first name).0 e))

absent : (names : List Name) (c : Counts) (name : Name) → ((k : ℕ) → slice_get names k ≡ Some name → ⊥) → restricted names c name ≡ 0
absent [] c name none = refl
absent (first ∷ names) c name none = (λ i. c first * cond (apart name first (λ e. none 0 (ap Some (sym e))) i) 1 0 + absent names c name (λ k e. none (suc k) e) i) ∙ omega arith

agrees : (names : List Name) → AreOnce names → (c : Counts) (k : ℕ) (name : Name) → slice_get names k ≡ Some name → restricted names c name ≡ c name
agrees [] once c k name e = absurd (cc)
agrees (first ∷ names) once c zero name e =
    let is : first ≡ name = Some-injective first name e in
    (λ i. c (is i) * cond ((bytes_eq-Decides name first).1 (sym is) i) 1 0 + absent names c name (λ k f. let wrong = once 0 (suc k) name e f in omega (arith, wrong)) i) ∙ omega arith
agrees (first ∷ names) once c (suc k) name e =
    (λ i. c first * cond (apart name first (λ is. let wrong = once 0 (suc k) name (ap Some (sym is)) e in omega (arith, wrong)) i) 1 0 + agrees names (once_ahead first names once) c k name e i) ∙ omega arith

-- ---- the sum by places

shifted : (f : ℕ → ℕ) (a n : ℕ) → sum_by f (range_with_len (a + 1) n) ≡ sum_by (λ p. f (p + 1)) (range_with_len a n)
shifted f a zero = refl
shifted f a (suc n) = sum_by-cons f (a + 1) (range_with_len (a + 1 + 1) n) ∙ ap (λ r. f (a + 1) + r) (shifted f (a + 1) n) ∙ sym (sum_by-cons (λ p. f (p + 1)) a (range_with_len (a + 1) n))

weighed_is : (names : List Name) (ws : List ℕ) → length ws ≡ length names → (c : Counts) → weighed ws names c ≡ sum_list names ws c
weighed_is [] [] long c = refl
weighed_is [] (w ∷ ws) long c = absurd (omega (arith, long))
weighed_is (name ∷ names) [] long c = absurd (omega (arith, long))
weighed_is (name ∷ names) (w ∷ ws) long c =
    let f = λ (p : ℕ). slice_index_or (w ∷ ws) p 0 * c (slice_index_or (name ∷ names) p []) in
    sum_by-cons f 0 (range_with_len (0 + 1) (length ws))
    ∙ ap (λ r. w * c name + r) (shifted f 0 (length ws) ∙ (λ i. sum_by (λ p. f (next p i)) (range_with_len 0 (length ws))) ∙ weighed_is names ws (omega (arith, long)) c)
  where
    next : (p : ℕ) → p + 1 ≡ suc p
    next p = omega arith

-- ---- a linear loss

module _ (F : Counts → ℕ → ℤ) (additive : IsAdditive F) where
  abbrev F0 : ℤ
  F0 = F no_counts 0

  times_adds : (name : Name) (w : ℕ) → F (one_count name) 0 ≡ F0 +ℤ pos w → (k : ℕ) → F (times_one k name) 0 ≡ F0 +ℤ pos (w * k)
  times_adds name w one zero = ap (λ c. F c 0) (no_times name) ∙ by F0
    where
      by : (z : ℤ) → z ≡ z +ℤ pos (w * 0)
      by z = omega (arith, ints)
  times_adds name w one (suc k) =
      ap (λ c. F c 0) (more_times k name)
      ∙ by (F (both (one_count name) (times_one k name)) 0) F0 (F (one_count name) 0) (F (times_one k name) 0) (additive (one_count name) (times_one k name) 0 0) one (times_adds name w one k) (mul-add w 1 k)
    where
      by : (z a b c : ℤ) → z +ℤ a ≡ b +ℤ c → b ≡ a +ℤ pos w → c ≡ a +ℤ pos (w * k) → w * (1 + k) ≡ w * 1 + w * k → z ≡ a +ℤ pos (w * suc k)
      by z a b c e f g h = omega (arith, ints, e, f, g) ∙ ap (λ n. a +ℤ pos n) (sym h ∙ ap (λ n. w * n) (omega arith))

  names_add : (names : List Name) (ws : List ℕ) → AllZip (λ name w. F (one_count name) 0 ≡ F0 +ℤ pos w) names ws → (c : Counts) → F (restricted names c) 0 ≡ F0 +ℤ pos (sum_list names ws c)
  names_add [] [] all c = by F0
    where
      by : (z : ℤ) → z ≡ z +ℤ pos 0
      by z = omega (arith, ints)
  names_add [] (w ∷ ws) all c = absurd all
  names_add (name ∷ names) [] all c = absurd all
  names_add (name ∷ names) (w ∷ ws) all c =
      by (F (restricted (name ∷ names) c) 0) F0 (F (times_one (c name) name) 0) (F (restricted names c) 0) (w * c name) (sum_list names ws c)
      (additive (times_one (c name) name) (restricted names c) 0 0) (times_adds name w all.0 (c name)) (names_add names ws all.1 c)
    where
      by : (z a x y : ℤ) (m n : ℕ) → z +ℤ a ≡ x +ℤ y → x ≡ a +ℤ pos m → y ≡ a +ℤ pos n → z ≡ a +ℤ pos (m + n)
      by z a x y m n e f g = omega (arith, ints, e, f, g)

  costs_add : (w : ℕ) → F no_counts 1 ≡ F0 +ℤ pos w → (u : ℕ) → F no_counts u ≡ F0 +ℤ pos (w * u)
  costs_add w one zero = by F0
    where
      by : (z : ℤ) → z ≡ z +ℤ pos (w * 0)
      by z = omega (arith, ints)
  costs_add w one (suc u) =
      ap (F no_counts) (omega arith)
      ∙ by (F no_counts (1 + u)) F0 (F no_counts 1) (F no_counts u) (additive no_counts no_counts 1 u) one (costs_add w one u) (mul-add w 1 u)
    where
      by : (z a b c : ℤ) → z +ℤ a ≡ b +ℤ c → b ≡ a +ℤ pos w → c ≡ a +ℤ pos (w * u) → w * (1 + u) ≡ w * 1 + w * u → z ≡ a +ℤ pos (w * suc u)
      by z a b c e f g h = omega (arith, ints, e, f, g) ∙ ap (λ n. a +ℤ pos n) (sym h ∙ ap (λ n. w * n) (omega arith))

  -- counts and costs apart
  pub parts_add : (c : Counts) (u : ℕ) → F c u +ℤ F0 ≡ F c 0 +ℤ F no_counts u
  parts_add c u = (λ i. F (λ name. plus_zero (c name) i) (zero_plus u i) +ℤ F0) ∙ additive c no_counts 0 u
    where
      plus_zero : (n : ℕ) → n ≡ n + 0
      plus_zero n = omega arith

      zero_plus : (n : ℕ) → n ≡ 0 + n
      zero_plus n = omega arith

-- ---- the weights of a task

pub by_metric : (T : Task) (o : Option Metric) (d : Direction) → ((metric : Metric) → o ≡ Some metric → nonlinear metric.body ≡ []) → IsAdditive (λ c u. signed d (quantity_by T c u o).units)
by_metric T None Minimize h = λ c d u v. refl
by_metric T None Maximize h = λ c d u v. refl
by_metric T (Some metric) Minimize h = (linear T metric.body (h metric refl)).additive
by_metric T (Some metric) Maximize h = additive_neg (λ c u. (quantity T c u metric.body).units) (linear T metric.body (h metric refl)).additive

zip_at : {A B : Type 0} (R : A → B → Type 0) (xs : List A) (ys : List B) → length xs ≡ length ys → ((k : ℕ) (x : A) (y : B) → slice_get xs k ≡ Some x → slice_get ys k ≡ Some y → R x y) → AllZip R xs ys
zip_at R [] [] long each = tt
zip_at R [] (y ∷ ys) long each = absurd (omega (arith, long))
zip_at R (x ∷ xs) [] long each = absurd (omega (arith, long))
zip_at R (x ∷ xs) (y ∷ ys) long each = (each 0 x y refl refl, zip_at R xs ys (omega (arith, long)) (λ k a b e f. each (suc k) a b e f))

module _ (T : Task) (metric : IsLinearMetric T) (own : CountsNames T) (w : Weights) (has : HasWeights T w) where
  L : Counts → ℕ → ℤ
  L = loss_at T

  L_additive : IsAdditive (loss_at T)
  L_additive = by_metric T T.problem.metric (direction T) metric

  names_weigh : AllZip (λ name w. loss_at T (one_count name) 0 ≡ loss_at T no_counts 0 +ℤ pos w) (ordered_names T) w.by_name
  unfolding weight base_loss
  names_weigh = zip_at _ (ordered_names T) w.by_name (sym has.count) (λ k name weight at there.
      by (loss_at T (one_count name) (initial_cost T)) (loss_at T no_counts (initial_cost T)) (loss_at T (one_count name) 0) (loss_at T no_counts 0) weight
      (parts_add (loss_at T) L_additive (one_count name) (initial_cost T)) (ap pos (sym (get_or_from_slice_get w.by_name k weight 0 there)) ∙ has.by_name k name at))
    where
      by : (a b c d : ℤ) (n : ℕ) → a +ℤ d ≡ c +ℤ b → pos n ≡ a +ℤ neg_ℤ b → c ≡ d +ℤ pos n
      by a b c d n e f = omega (arith, ints, e, f)

  cost_weighs : loss_at T no_counts 1 ≡ loss_at T no_counts 0 +ℤ pos w.total_cost
  unfolding cost_weight base_loss
  cost_weighs =
      by (loss_at T no_counts (initial_cost T + 1)) (loss_at T no_counts (initial_cost T)) (loss_at T no_counts 1) (loss_at T no_counts 0) w.total_cost
      (L_additive no_counts no_counts (initial_cost T) 1) has.total_cost
    where
      by : (a b c d : ℤ) (n : ℕ) → a +ℤ d ≡ b +ℤ c → pos n ≡ a +ℤ neg_ℤ b → c ≡ d +ℤ pos n
      by a b c d n e f = omega (arith, ints, e, f)

  loss_linear : (counts : Counts) (more : ℕ) → loss_at T counts (initial_cost T + more) ≡ base_loss T +ℤ pos (w.total_cost * more + weighed w.by_name (ordered_names T) counts)
  unfolding base_loss
  loss_linear counts more =
      let r = restricted (ordered_names T) counts in
      own counts r (initial_cost T + more) (λ k name at. sym (agrees (ordered_names T) (ordered_once T) counts k name at))
      ∙ by (loss_at T r (initial_cost T + more)) (loss_at T no_counts 0) (loss_at T r 0) (loss_at T no_counts (initial_cost T + more)) (loss_at T no_counts (initial_cost T)) (loss_at T no_counts more) (w.total_cost * more) (sum_list (ordered_names T) w.by_name counts)
      (parts_add (loss_at T) L_additive r (initial_cost T + more))
      (L_additive no_counts no_counts (initial_cost T) more)
      (names_add (loss_at T) L_additive (ordered_names T) w.by_name names_weigh counts)
      (costs_add (loss_at T) L_additive w.total_cost cost_weighs more)
      ∙ ap (λ n. loss_at T no_counts (initial_cost T) +ℤ pos (w.total_cost * more + n)) (sym (weighed_is (ordered_names T) w.by_name has.count counts))
    where
      by : (z f0 r0 nm b m : ℤ) (x y : ℕ) → z +ℤ f0 ≡ r0 +ℤ nm → nm +ℤ f0 ≡ b +ℤ m → r0 ≡ f0 +ℤ pos y → m ≡ f0 +ℤ pos x → z ≡ b +ℤ pos (x + y)
      by z f0 r0 nm b m x y e f g h = omega (arith, ints, e, f, g, h)

  -- the law of the metric
  pub is_weights : IsWeights T w
  is_weights = record { count = has.count; linear = loss_linear; base = has.base; direction = has.direction }
