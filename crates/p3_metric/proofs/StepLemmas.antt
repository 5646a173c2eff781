-- What is known of a form after one operation more: that it is evaluated, or that the operation is too large.
use Rattle.std.proofs.Common.{◌≡◌, ◌∙◌, ℕ, ◌+◌, ◌-◌, ◌≤◌, ◌<◌, ◌^◌, refl, sym, ap, subst, Bool, true, false, ◌&&◌, ◌||◌, inl, inr, cond, List, [], ◌∷◌, ◌++◌, suc, length, get_or, take, drop, arith, Option, Some, None, pos, ◌*ℤ◌, ◌-ℤ◌, ◌+ℤ◌}
use Rattle.std.specs.Prelude.{ℤ, negsuc, Result, Ok, Err, IfOk, IfErr, OnOk, OnErr, find, option_map, max}
use Rattle.std.specs.Int.RustNames.{unsigned_abs}
use Rattle.std.proofs.lemmas.Int.{ints}
use Rattle.std.proofs.Math.IntN.{one, *ℤ-one}
use Rattle.std.proofs.lemmas.List.{take-append-drop}
use Rattle.std.proofs.Math.Seq.{drop-cons}
use denote.Hole.Carrier.{hidden}
use Rattle.p3_base.specs.declared.refusal.Refusal.{Refusal}
use Rattle.p3_base.specs.declared.refusal.Role.{Role}
use Rattle.p3_task.specs.Costs.{cost_places}
use Rattle.p3_task.specs.Names.{Name, same_name}
use Rattle.p3_task.specs.Metrics.{Quantity, quantity, negated, sum_of}
use Rattle.p3_task.specs.Refusals.Metric.{is_large, is_within, operations}
use Rattle.p3_task.specs.Sides.{weight_bound}
use Rattle.p3_task.specs.declared.effect.Numeral.{Numeral}
use Rattle.p3_task.specs.declared.term.Ref.{Ref}
use Rattle.p3_task.specs.declared.metric.Num.{Num}
use Rattle.p3_task.specs.declared.metric.Num.TheBlock.{hidden-the_row-Num-0}
use Rattle.p3_task.specs.declared.metric.Num.TheVariants as num
use Rattle.p3_task.specs.declared.task.Task.{Task}
use Rattle.p3_metric.specs.declared.error.MetricFail.{MetricFail}
use Rattle.p3_metric.specs.declared.error.MetricFail.TheVariants.{Refused, NoMemory}
use Rattle.p3_metric.specs.declared.linear.Linear.{Linear}
use Rattle.p3_metric.specs.Evaluation.{IsFit, IsEvaluated, IsPartial, IsFailure, refused_at, first_large}
use Rattle.p3_metric.specs.Forms.{IsBounded, IsForm, IsFormOf, IsSmall, IsLarge, IsSum, IsScaled, IsDifference, IsProduct, IsLeaf, nothing_each, one_each, plus, times}
use Rattle.p3_metric.proofs.BoundLemmas.{within_below, minus_one}
use Rattle.p3_metric.proofs.EvaluationLemmas.{quantity-Sum, quantity-Product, skip, stop, has_places, sum_tree_form, constant_factor_form, behind_constants_form, fine_more, part_refused, whole_refused}
use Rattle.p3_metric.proofs.FactorLemmas.{mention-Number, mention-TotalCost, mention-Violated, mention-Neg, mention-Sub, mention-Sum, mention-Product}
use Rattle.p3_metric.proofs.FitLemmas.{factor_places, factors_apart}
use Rattle.p3_metric.proofs.FormLemmas.{form_where, product_form, sum_form, small_is_not_large, large_is_large}
use Rattle.p3_metric.proofs.NumLemmas.{operations-Number, operations-TotalCost, operations-Violated, operations-Neg, operations-Sub, operations-Sum, operations-Product}
use Rattle.p3_metric.proofs.QuantityLemmas.{sum_more}

pub bounded_of_small : (form : Linear) → form.places ≤ 6 → IsSmall form → IsBounded form
bounded_of_small form few small = record { places = few; constant = (let h = within_below form.constant small.constant in omega (arith, h)); coefficients = small.coefficients }

-- ---- what the code answers

pub accepted_form : (r : Result Linear MetricFail) (P : Linear → Type 0) (form : Linear) (small : Bool) → IfOk r (λ f. f ≡ form) → OnOk r (small ≡ true) → (small ≡ true → P form) → IfOk r P
accepted_form (Ok f) P form small is ok all = subst P (sym is) (all ok)
accepted_form (Err e) P form small is ok all = tt

pub accepted_fails : (r : Result Linear MetricFail) (Q : MetricFail → Type 0) (refusal expected : Refusal) (small : Bool) → IfErr r (λ e. e ≡ Refused refusal) → OnErr r (small ≡ false) → refusal ≡ expected → (small ≡ false → Q (Refused expected)) → IfErr r Q
accepted_fails (Ok f) Q refusal expected small is large same all = tt
accepted_fails (Err e) Q refusal expected small is large same all = subst Q (sym (is ∙ ap Refused same)) (all large)

pub split_at : (parts : List Num) (i : ℕ) (part : Num) → i < length parts → part ≡ get_or parts i part → parts ≡ take i parts ++ part ∷ drop (suc i) parts
split_at parts i part below is =
    sym (take-append-drop i parts) ∙ ap (λ rest. take i parts ++ rest) (drop-cons parts i part below) ∙ ap (λ x. take i parts ++ x ∷ drop (suc i) parts) (sym is)

module _ (T : Task) where
  -- ---- failures

  pub fails_before : (role : Role) (xs ys : List Num) (fail : MetricFail) → IsFailure T role xs fail → IsFailure T role (xs ++ ys) fail
  fails_before role xs ys NoMemory h = tt
  fails_before role xs ys (Refused refusal) h = by (find (is_large T) xs) refl h
    where
      by : (o : Option Num) → find (is_large T) xs ≡ o → option_map (refused_at role) o ≡ Some refusal → first_large T role (xs ++ ys) ≡ Some refusal
      by None e wrong = absurd (cc)
      by (Some tree) e right = ap (option_map (refused_at role)) (stop T xs ys tree e) ∙ right

  pub fails_behind : (role : Role) (xs ys : List Num) (fail : MetricFail) → find (is_large T) xs ≡ None → IsFailure T role ys fail → IsFailure T role (xs ++ ys) fail
  fails_behind role xs ys NoMemory fine h = tt
  fails_behind role xs ys (Refused refusal) fine h = ap (option_map (refused_at role)) (skip T xs ys fine) ∙ h

  pub fails_here : (role : Role) (tree : Num) (rest : List Num) → is_large T tree ≡ true → IsFailure T role (tree ∷ rest) (Refused (refused_at role tree))
  fails_here role tree rest large = ap (λ t. option_map (refused_at role) (cond t (Some tree) (find (is_large T) rest))) large

  pub fine_here : (tree : Num) → is_large T tree ≡ false → find (is_large T) (tree ∷ []) ≡ None
  fine_here tree small = ap (λ t. cond t (Some tree) None) small

  fine_both : (xs ys : List Num) → find (is_large T) xs ≡ None → find (is_large T) ys ≡ None → find (is_large T) (xs ++ ys) ≡ None
  fine_both xs ys a b = skip T xs ys a ∙ b

  small_fine : (tree : Num) (form : Linear) → IsFormOf T tree form → IsSmall form → find (is_large T) (tree ∷ []) ≡ None
  small_fine tree form is small = fine_here tree (small_is_not_large T tree form is.numbers small)

  -- ---- negations

  module _ (at : ℕ) (part : Num) (first product : Linear) (scaled : IsScaled first (negsuc 0) 0 product) (mention : product.mention ≡ first.mention) where
    negation_is : (c : Name → ℕ) (u : ℕ) → times (quantity T c u part) (record { places = 0; units = negsuc 0 }) ≡ quantity T c u (num.Neg at part)
    unfolding quantity hidden-the_row-Num-0 hidden
    negation_is c u = λ i. record { places = plus_nothing (quantity T c u part).places i; units = minus_one (quantity T c u part).units i }
      where
        plus_nothing : (n : ℕ) → n + 0 ≡ n
        plus_nothing n = omega arith

    negation_form : IsFormOf T part first → IsFormOf T (num.Neg at part) product
    negation_form is = record {
      numbers = form_where _ (λ c u. quantity T c u (num.Neg at part)) product negation_is
          (product_form (λ c u. quantity T c u part) (λ c u. record { places = 0; units = negsuc 0 }) first product (negsuc 0) 0 is.numbers (λ c u. refl) scaled);
      mention = mention ∙ is.mention ∙ sym (mention-Neg at part);
    }

    few_places : first.places ≤ 6 → product.places ≤ 6
    few_places few = let e = scaled.places in omega (arith, e, few)

    pub negation_evaluated : IsEvaluated T part first → IsSmall product → IsEvaluated T (num.Neg at part) product
    negation_evaluated is small = record {
      is_form = negation_form is.is_form;
      bounded = bounded_of_small product (few_places is.bounded.places) small;
      fine = ap (find (is_large T)) (operations-Neg at part) ∙ fine_both (operations part) (num.Neg at part ∷ []) is.fine (small_fine (num.Neg at part) product (negation_form is.is_form) small);
    }

    pub negation_fails : (role : Role) → IsEvaluated T part first → IsLarge product → IsFailure T role (operations (num.Neg at part)) (Refused (refused_at role (num.Neg at part)))
    negation_fails role is large =
        subst (λ list. IsFailure T role list (Refused (refused_at role (num.Neg at part)))) (sym (operations-Neg at part))
        (fails_behind role (operations part) (num.Neg at part ∷ []) (Refused (refused_at role (num.Neg at part))) is.fine
        (fails_here role (num.Neg at part) [] (large_is_large T (num.Neg at part) product (negation_form is.is_form).numbers large)))

  pub negation_part_fails : (at : ℕ) (part : Num) (role : Role) (fail : MetricFail) → IsFailure T role (operations part) fail → IsFailure T role (operations (num.Neg at part)) fail
  negation_part_fails at part role fail h = subst (λ list. IsFailure T role list fail) (sym (operations-Neg at part)) (fails_before role (operations part) (num.Neg at part ∷ []) fail h)

  -- ---- leaves

  pub leaf_bounded : (p : ℕ) (k c : ℤ) (counts : Name → ℤ) (m : Bool) (form : Linear) → IsLeaf p k c counts m form → p ≤ 6 → unsigned_abs k < 2 ^ 64 → is_within weight_bound c ≡ true → ((name : Name) → is_within weight_bound (counts name) ≡ true) → IsBounded form
  leaf_bounded p k c counts m form leaf few small cost each = record {
    places = (let e = leaf.places in omega (arith, e, few));
    constant = (let P : ℤ → Type 0 = λ z. unsigned_abs z < 2 ^ 64 in subst P (sym leaf.constant) small);
    coefficients = record { cost = ap (is_within weight_bound) leaf.cost ∙ cost; counts = λ name. ap (is_within weight_bound) (leaf.counts name) ∙ each name };
  }

  nothing_less : (z : ℤ) → pos 0 ≡ z -ℤ z
  nothing_less z = omega (arith, ints)

  -- a constant
  pub constant_is : (p : ℕ) (k : ℤ) (form : Linear) → IsLeaf p k (pos 0) nothing_each false form → IsForm (λ c u. record { places = p; units = k }) form
  constant_is p k form leaf = record { places = leaf.places; constant = leaf.constant; cost = leaf.cost ∙ nothing_less k; counts = λ name. leaf.counts name ∙ nothing_less k }

  pub number_evaluated : (numeral : Numeral) (form : Linear) → IsLeaf numeral.places (pos numeral.digits) (pos 0) nothing_each false form → numeral.digits < 2 ^ 64 → IsFit T (num.Number numeral) → IsEvaluated T (num.Number numeral) form
  unfolding quantity
  number_evaluated numeral form leaf digits fit = record {
    is_form = record { numbers = constant_is numeral.places (pos numeral.digits) form leaf; mention = leaf.mention ∙ sym (mention-Number numeral) };
    bounded = leaf_bounded numeral.places (pos numeral.digits) (pos 0) nothing_each false form leaf fit.places digits refl (λ name. refl);
    fine = ap (find (is_large T)) (operations-Number numeral);
  }

  pub total_cost_evaluated : (at : ℕ) (form : Linear) → IsLeaf (cost_places T) (pos 0) (pos 1) nothing_each true form → IsFit T (num.TotalCost at) → IsEvaluated T (num.TotalCost at) form
  unfolding quantity
  total_cost_evaluated at form leaf fit = record {
    is_form = record {
      numbers = record { places = leaf.places; constant = leaf.constant; cost = leaf.cost; counts = leaf.counts };
      mention = leaf.mention ∙ sym (mention-TotalCost at);
    };
    bounded = leaf_bounded (cost_places T) (pos 0) (pos 1) nothing_each true form leaf fit.places (omega arith) refl (λ name. refl);
    fine = ap (find (is_large T)) (operations-TotalCost at);
  }

  pub count_evaluated : (name : Ref) (form : Linear) → IsLeaf 0 (pos 0) (pos 0) (one_each name.name) true form → IsEvaluated T (num.Violated name) form
  unfolding quantity
  count_evaluated name form leaf = record {
    is_form = record {
      numbers = record { places = leaf.places; constant = leaf.constant; cost = leaf.cost; counts = λ other. leaf.counts other ∙ by (same_name name.name other) };
      mention = leaf.mention ∙ sym (mention-Violated name);
    };
    bounded = leaf_bounded 0 (pos 0) (pos 0) (one_each name.name) true form leaf (omega arith) (omega arith) refl (λ other. in_bound (same_name name.name other));
    fine = ap (find (is_large T)) (operations-Violated name);
  }
    where
      by : (t : Bool) → cond t (pos 1) (pos 0) ≡ pos (cond t 1 0) -ℤ pos 0
      by true = refl
      by false = refl

      in_bound : (t : Bool) → is_within weight_bound (cond t (pos 1) (pos 0)) ≡ true
      in_bound true = refl
      in_bound false = refl

  -- ---- differences

  one_part : (q : Quantity) → sum_of (q ∷ []) ≡ q
  unfolding one
  one_part q = λ i. record { places = most q.places i; units = (ap (λ n. pos 0 +ℤ q.units *ℤ pos (10 ^ n)) (none q.places) ∙ ap (λ z. pos 0 +ℤ z) (*ℤ-one q.units) ∙ plus_none q.units) i }
    where
      most : (n : ℕ) → max 0 n ≡ n
      most n = omega arith

      none : (n : ℕ) → max 0 n - n ≡ 0
      none n = omega arith

      plus_none : (z : ℤ) → pos 0 +ℤ z ≡ z
      plus_none z = omega (arith, ints)

  module _ (at : ℕ) (one two : Num) (first second sum : Linear) (f : IsEvaluated T one first) (g : IsEvaluated T two second) (is : IsDifference first second sum) where
    difference_is : (c : Name → ℕ) (u : ℕ) → plus (quantity T c u one) (quantity T c u (num.Neg at two)) ≡ quantity T c u (num.Sub at one two)
    unfolding quantity hidden-the_row-Num-0 hidden
    difference_is c u = ap (λ q. plus q (negated (quantity T c u two))) (sym (one_part (quantity T c u one))) ∙ sym (sum_more (quantity T c u one ∷ []) (negated (quantity T c u two)))

    difference_form : IsFormOf T (num.Sub at one two) sum
    difference_form =
        let neg = negation_form at two second is.negation is.negated is.same_mention g.is_form in
        record {
          numbers = form_where _ (λ c u. quantity T c u (num.Sub at one two)) sum difference_is
              (sum_form (λ c u. quantity T c u one) (λ c u. quantity T c u (num.Neg at two)) first is.negation sum f.is_form.numbers neg.numbers (λ c u. has_places T c u one) (λ c u. has_places T c u (num.Neg at two)) is.sum);
          mention = is.mention ∙ (λ i. f.is_form.mention i || (is.same_mention ∙ g.is_form.mention) i) ∙ sym (mention-Sub at one two);
        }

    difference_few : sum.places ≤ 6
    difference_few = let a = is.sum.places in let b = is.negated.places in let p = f.bounded.places in let q = g.bounded.places in omega (arith, a, b, p, q)

    pub difference_evaluated : IsSmall sum → IsEvaluated T (num.Sub at one two) sum
    difference_evaluated small = record {
      is_form = difference_form;
      bounded = bounded_of_small sum difference_few small;
      fine = ap (find (is_large T)) (operations-Sub at one two)
          ∙ fine_both (operations one ++ operations two) (num.Sub at one two ∷ []) (fine_both (operations one) (operations two) f.fine g.fine) (small_fine (num.Sub at one two) sum difference_form small);
    }

    pub difference_fails : (role : Role) → IsLarge sum → IsFailure T role (operations (num.Sub at one two)) (Refused (refused_at role (num.Sub at one two)))
    difference_fails role large =
        subst (λ list. IsFailure T role list (Refused (refused_at role (num.Sub at one two)))) (sym (operations-Sub at one two))
        (fails_behind role (operations one ++ operations two) (num.Sub at one two ∷ []) (Refused (refused_at role (num.Sub at one two))) (fine_both (operations one) (operations two) f.fine g.fine)
        (fails_here role (num.Sub at one two) [] (large_is_large T (num.Sub at one two) sum difference_form.numbers large)))

  pub first_fails : (at : ℕ) (one two : Num) (role : Role) (fail : MetricFail) → IsFailure T role (operations one) fail → IsFailure T role (operations (num.Sub at one two)) fail
  first_fails at one two role fail h =
      subst (λ list. IsFailure T role list fail) (sym (operations-Sub at one two)) (fails_before role (operations one ++ operations two) (num.Sub at one two ∷ []) fail (fails_before role (operations one) (operations two) fail h))

  pub second_fails : (at : ℕ) (one two : Num) (role : Role) (fail : MetricFail) → find (is_large T) (operations one) ≡ None → IsFailure T role (operations two) fail → IsFailure T role (operations (num.Sub at one two)) fail
  second_fails at one two role fail fine h =
      subst (λ list. IsFailure T role list fail) (sym (operations-Sub at one two)) (fails_before role (operations one ++ operations two) (num.Sub at one two ∷ []) fail (fails_behind role (operations one) (operations two) fail fine h))

  -- ---- sums

  pub sum_begun : (at : ℕ) (form : Linear) → IsLeaf 0 (pos 0) (pos 0) nothing_each false form → IsPartial T (num.Sum at) [] form
  sum_begun at form leaf = record {
    is_form = record {
      numbers = form_where _ (λ c u. quantity T c u (num.Sum at [])) form (λ c u. sym (quantity-Sum T c u at [])) (constant_is 0 (pos 0) form leaf);
      mention = leaf.mention ∙ sym (mention-Sum at []);
    };
    bounded = leaf_bounded 0 (pos 0) (pos 0) nothing_each false form leaf (omega arith) (omega arith) refl (λ name. refl);
    constant = ap (is_within weight_bound) leaf.constant;
    fine = refl;
  }

  pub sum_ended : (at : ℕ) (parts : List Num) (form : Linear) → IsPartial T (num.Sum at) parts form → IsEvaluated T (num.Sum at parts) form
  sum_ended at parts form is = record { is_form = is.is_form; bounded = is.bounded; fine = ap (find (is_large T)) (operations-Sum at parts) ∙ is.fine }

  module _ (at : ℕ) (done : List Num) (part : Num) (first : Linear) (before : IsPartial T (num.Sum at) done first) where
    pub term_fails : (role : Role) (parts rest : List Num) (fail : MetricFail) → parts ≡ done ++ part ∷ rest → IsFailure T role (operations part) fail → IsFailure T role (operations (num.Sum at parts)) fail
    term_fails role parts rest NoMemory e h = tt
    term_fails role parts rest (Refused refusal) e h = ap (first_large T role) (operations-Sum at parts) ∙ part_refused T (num.Sum at) done part role refusal parts rest e before.fine h

    module _ (second sum : Linear) (own : IsEvaluated T part second) (is : IsSum first second sum) (mention : sum.mention ≡ (first.mention || second.mention)) where
      sum_is : IsFormOf T (num.Sum at (done ++ part ∷ [])) sum
      sum_is = sum_tree_form T at done part first second sum before.is_form own.is_form is mention

      pub sum_step : IsSmall sum → IsPartial T (num.Sum at) (done ++ part ∷ []) sum
      sum_step small = record {
        is_form = sum_is;
        bounded = bounded_of_small sum (let a = is.places in let p = before.bounded.places in let q = own.bounded.places in omega (arith, a, p, q)) small;
        constant = small.constant;
        fine = fine_more T (num.Sum at) done part before.fine own.fine (small_is_not_large T (num.Sum at (done ++ part ∷ [])) sum sum_is.numbers small);
      }

      pub sum_fails : (role : Role) (parts rest : List Num) → parts ≡ done ++ part ∷ rest → IsLarge sum → IsFailure T role (operations (num.Sum at parts)) (Refused (refused_at role (num.Sum at parts)))
      sum_fails role parts rest e large =
          ap (first_large T role) (operations-Sum at parts)
          ∙ whole_refused T (num.Sum at) done part role parts rest e before.fine own.fine (large_is_large T (num.Sum at (done ++ part ∷ [])) sum sum_is.numbers large)

  -- ---- products

  pub product_begun : (at : ℕ) (form : Linear) → IsLeaf 0 (pos 1) (pos 0) nothing_each false form → IsPartial T (num.Product at) [] form
  product_begun at form leaf = record {
    is_form = record {
      numbers = form_where _ (λ c u. quantity T c u (num.Product at [])) form (λ c u. sym (quantity-Product T c u at [])) (constant_is 0 (pos 1) form leaf);
      mention = leaf.mention ∙ sym (mention-Product at []);
    };
    bounded = leaf_bounded 0 (pos 1) (pos 0) nothing_each false form leaf (omega arith) (omega arith) refl (λ name. refl);
    constant = ap (is_within weight_bound) leaf.constant;
    fine = refl;
  }

  pub product_ended : (at : ℕ) (parts : List Num) (form : Linear) → IsPartial T (num.Product at) parts form → IsEvaluated T (num.Product at parts) form
  product_ended at parts form is = record { is_form = is.is_form; bounded = is.bounded; fine = ap (find (is_large T)) (operations-Product at parts) ∙ is.fine }

  module _ (at : ℕ) (done : List Num) (part : Num) (first : Linear) (before : IsPartial T (num.Product at) done first) where
    pub factor_fails : (role : Role) (parts rest : List Num) (fail : MetricFail) → parts ≡ done ++ part ∷ rest → IsFailure T role (operations part) fail → IsFailure T role (operations (num.Product at parts)) fail
    factor_fails role parts rest NoMemory e h = tt
    factor_fails role parts rest (Refused refusal) e h = ap (first_large T role) (operations-Product at parts) ∙ part_refused T (num.Product at) done part role refusal parts rest e before.fine h

    module _ (second product : Linear) (own : IsEvaluated T part second) where
      -- their places together, and that not both mention a quantity
      pub factors_fit : (parts rest : List Num) → parts ≡ done ++ part ∷ rest → IsFit T (num.Product at parts) → first.places + second.places ≤ 6
      factors_fit parts rest e fit = let a = before.is_form.numbers.places in let b = own.is_form.numbers.places in let all = factor_places T at parts done part rest e fit in omega (arith, a, b, all)

      pub mentions_apart : (parts rest : List Num) → parts ≡ done ++ part ∷ rest → IsFit T (num.Product at parts) → (first.mention && second.mention) ≡ false
      mentions_apart parts rest e fit = (λ i. before.is_form.mention i && own.is_form.mention i) ∙ factors_apart T at parts done part rest e fit

      product_is : IsProduct first second product → product.mention ≡ (first.mention || second.mention) → IsFormOf T (num.Product at (done ++ part ∷ [])) product
      product_is (inl is) mention = constant_factor_form T at done part first second product before.is_form own.is_form is.0 is.1 mention
      product_is (inr is) mention = behind_constants_form T at done part first second product before.is_form own.is_form is.0 is.1 mention

      product_few : first.places + second.places ≤ 6 → IsProduct first second product → product.places ≤ 6
      product_few few (inl is) = let e = is.1.places in omega (arith, e, few)
      product_few few (inr is) = let e = is.1.places in omega (arith, e, few)

      pub product_step : first.places + second.places ≤ 6 → IsProduct first second product → product.mention ≡ (first.mention || second.mention) → IsSmall product → IsPartial T (num.Product at) (done ++ part ∷ []) product
      product_step few is mention small = record {
        is_form = product_is is mention;
        bounded = bounded_of_small product (product_few few is) small;
        constant = small.constant;
        fine = fine_more T (num.Product at) done part before.fine own.fine (small_is_not_large T (num.Product at (done ++ part ∷ [])) product (product_is is mention).numbers small);
      }

      pub product_fails : (role : Role) (parts rest : List Num) → parts ≡ done ++ part ∷ rest → IsProduct first second product → product.mention ≡ (first.mention || second.mention) → IsLarge product
          → IsFailure T role (operations (num.Product at parts)) (Refused (refused_at role (num.Product at parts)))
      product_fails role parts rest e is mention large =
          ap (first_large T role) (operations-Product at parts)
          ∙ whole_refused T (num.Product at) done part role parts rest e before.fine own.fine (large_is_large T (num.Product at (done ++ part ∷ [])) product (product_is is mention).numbers large)
