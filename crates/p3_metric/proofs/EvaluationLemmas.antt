-- One part more of a sum or product, in the order of evaluation.
use Rattle.std.proofs.Common.{◌≡◌, ◌∙◌, ℕ, refl, sym, ap, true, false, ◌||◌, cond, List, [], ◌∷◌, ◌++◌, append_assoc, append-nil, map, Option, Some, None, pos}
use Rattle.std.specs.Prelude.{find, option_map, sum}
use Rattle.std.specs.List.{list_any}
use Rattle.std.specs.Option.{option_or}
use Rattle.std.proofs.lemmas.List.{map-append}
use Rattle.std.proofs.lemmas.List.Folds.{find-append}
use mathlib.Core.Former.{Count, one_more}
use Rattle.p3_base.specs.declared.refusal.Refusal.{Refusal}
use Rattle.p3_base.specs.declared.refusal.Role.{Role}
use Rattle.p3_task.specs.Folds.{fold_nums, fold_one_num}
use Rattle.p3_task.specs.Costs.{cost_places, most_places}
use Rattle.p3_task.specs.Names.{Name}
use Rattle.std.proofs.Math.IntN.{*ℤ_comm}
use Rattle.std.proofs.Math.Nat.{add_comm}
use Rattle.std.proofs.lemmas.Bool.{or_parts, true≢false}
use Rattle.p3_task.specs.Metrics.{Quantity, quantity, quantity_layer, negated, no_counts, sum_of, product_of}
use Rattle.p3_task.specs.Refusals.Metric.{Factors, factors_layer, is_large, operations}
use Rattle.p3_task.proofs.FoldLemmas.{fold_num-Product}
use Rattle.p3_task.specs.declared.metric.Num.{Num, Row_of-Num, end_of-Num, more_of-Num}
use Rattle.p3_task.specs.declared.metric.Num.TheVariants as num
use Rattle.p3_task.specs.declared.task.Task.{Task}
use Rattle.p3_metric.specs.Evaluation.{refused_at, first_large}
use Rattle.p3_metric.specs.Factors.{has_mention}
use Rattle.p3_metric.specs.Forms.{plus, times, IsFormOf, IsSum, IsScaled}
use Rattle.p3_metric.specs.Operations.{operations_from}
use Rattle.p3_metric.specs.declared.linear.Linear.{Linear}
use Rattle.p3_metric.proofs.FactorLemmas.{mention-Sum, mention-Product, any_more}
use Rattle.p3_metric.proofs.FormLemmas.{form_where, product_form, sum_form}
use Rattle.p3_metric.proofs.NumLemmas.{fold_num-Sum}
use Rattle.p3_metric.proofs.QuantityLemmas.{sum_more, product_more}

abbrev places_of : Quantity → ℕ
places_of quantity = quantity.places

module _ (T : Task) where
  abbrev total_of : ℕ → Quantity
  total_of u = record { places = cost_places T; units = pos u }

  -- ---- places are the same at all counts and costs

  module _ (c : Name → ℕ) (u : ℕ) where
    mutual
      unfolding quantity

      pub has_places : (tree : Num) → (quantity T c u tree).places ≡ (quantity T no_counts 0 tree).places
      has_places (num.Number numeral) = refl
      has_places (num.TotalCost at) = refl
      has_places (num.Violated name) = refl
      has_places (num.Neg' at _ part) = one_place part
      has_places (num.Sub' at _ first _ second) = λ i. most_places (one_place first i ∷ one_place second i ∷ [])
      has_places (num.Sum' at _ parts) = λ i. most_places (all_places parts i)
      has_places (num.Product' at _ parts) = λ i. sum (all_places parts i)

      all_places : {n : Count} (row : Row_of-Num n) → map places_of (fold_nums (quantity_layer c (total_of u)) row) ≡ map places_of (fold_nums (quantity_layer no_counts (total_of 0)) row)
      all_places end_of-Num = refl
      all_places (more_of-Num part rest) = λ i. has_places part i ∷ all_places rest i

      one_place : {n : Count} (row : Row_of-Num (one_more n)) → (fold_one_num (quantity_layer c (total_of u)) row).places ≡ (fold_one_num (quantity_layer no_counts (total_of 0)) row).places
      one_place (more_of-Num part rest) = has_places part

  -- ---- sums and products with one part more

  pub quantity-Sum : (c : Name → ℕ) (u : ℕ) (at : ℕ) (parts : List Num) → quantity T c u (num.Sum at parts) ≡ sum_of (map (quantity T c u) parts)
  unfolding quantity
  quantity-Sum c u at parts = fold_num-Sum (quantity_layer c _) at parts

  pub quantity-Product : (c : Name → ℕ) (u : ℕ) (at : ℕ) (parts : List Num) → quantity T c u (num.Product at parts) ≡ product_of (map (quantity T c u) parts)
  unfolding quantity
  quantity-Product c u at parts = fold_num-Product (quantity_layer c _) at parts

  one_term_more : (at : ℕ) (done : List Num) (part : Num) (c : Name → ℕ) (u : ℕ) → plus (quantity T c u (num.Sum at done)) (quantity T c u part) ≡ quantity T c u (num.Sum at (done ++ part ∷ []))
  one_term_more at done part c u =
      ap (λ q. plus q (quantity T c u part)) (quantity-Sum c u at done) ∙ sym (sum_more (map (quantity T c u) done) (quantity T c u part))
      ∙ ap sum_of (sym (map-append (quantity T c u) done (part ∷ []))) ∙ sym (quantity-Sum c u at (done ++ part ∷ []))

  one_factor_more : (at : ℕ) (done : List Num) (part : Num) (c : Name → ℕ) (u : ℕ) → times (quantity T c u (num.Product at done)) (quantity T c u part) ≡ quantity T c u (num.Product at (done ++ part ∷ []))
  one_factor_more at done part c u =
      ap (λ q. times q (quantity T c u part)) (quantity-Product c u at done) ∙ sym (product_more (map (quantity T c u) done) (quantity T c u part))
      ∙ ap product_of (sym (map-append (quantity T c u) done (part ∷ []))) ∙ sym (quantity-Product c u at (done ++ part ∷ []))

  pub sum_tree_form : (at : ℕ) (done : List Num) (part : Num) (first second sum : Linear) → IsFormOf T (num.Sum at done) first → IsFormOf T part second
      → IsSum first second sum → sum.mention ≡ (first.mention || second.mention) → IsFormOf T (num.Sum at (done ++ part ∷ [])) sum
  sum_tree_form at done part first second sum f g is mention = record {
    numbers = form_where _ (λ c u. quantity T c u (num.Sum at (done ++ part ∷ []))) sum (one_term_more at done part)
        (sum_form (λ c u. quantity T c u (num.Sum at done)) (λ c u. quantity T c u part) first second sum f.numbers g.numbers (λ c u. has_places c u (num.Sum at done)) (λ c u. has_places c u part) is);
    mention = mention ∙ (λ i. (f.mention ∙ mention-Sum at done) i || g.mention i) ∙ sym (any_more has_mention done part) ∙ sym (mention-Sum at (done ++ part ∷ []));
  }

  -- ---- what mentions nothing is constant

  module _ (c : Name → ℕ) (u : ℕ) where
    mutual
      unfolding quantity has_mention

      constant_tree : (tree : Num) → has_mention tree ≡ false → quantity T c u tree ≡ quantity T no_counts 0 tree
      constant_tree (num.Number numeral) e = refl
      constant_tree (num.TotalCost at) e = absurd (true≢false e)
      constant_tree (num.Violated name) e = absurd (true≢false e)
      constant_tree (num.Neg' at _ (more_of-Num part rest)) e = ap negated (constant_tree part e)
      constant_tree (num.Sub' at _ (more_of-Num first rest) _ (more_of-Num second others)) e =
          let parts = or_parts (has_mention first) _ e in
          let none = or_parts (has_mention second) false parts.1 in
          λ i. sum_of (constant_tree first parts.0 i ∷ negated (constant_tree second none.0 i) ∷ [])
      constant_tree (num.Sum' at _ parts) e = ap sum_of (constant_trees parts e)
      constant_tree (num.Product' at _ parts) e = ap product_of (constant_trees parts e)

      constant_trees : {n : Count} (row : Row_of-Num n) → list_any (λ (f : Factors). f.mention) (fold_nums factors_layer row) ≡ false → fold_nums (quantity_layer c (total_of u)) row ≡ fold_nums (quantity_layer no_counts (total_of 0)) row
      constant_trees end_of-Num e = refl
      constant_trees (more_of-Num part rest) e =
          let parts = or_parts (has_mention part) _ e in
          λ i. constant_tree part parts.0 i ∷ constant_trees rest parts.1 i

  fixed_form : (tree : Num) (form : Linear) → IsFormOf T tree form → form.mention ≡ false → (c : Name → ℕ) (u : ℕ) → quantity T c u tree ≡ record { places = form.places; units = form.constant }
  fixed_form tree form is none c u = constant_tree c u tree (sym is.mention ∙ none) ∙ (λ i. record { places = sym is.numbers.places i; units = sym is.numbers.constant i })

  times_swapped : (first second : Quantity) → times first second ≡ times second first
  times_swapped first second = λ i. record { places = add_comm first.places second.places i; units = *ℤ_comm first.units second.units i }

  product_mention : (at : ℕ) (done : List Num) (part : Num) (first second : Linear) → IsFormOf T (num.Product at done) first → IsFormOf T part second → (first.mention || second.mention) ≡ has_mention (num.Product at (done ++ part ∷ []))
  product_mention at done part first second f g =
      (λ i. (f.mention ∙ mention-Product at done) i || g.mention i) ∙ sym (any_more has_mention done part) ∙ sym (mention-Product at (done ++ part ∷ []))

  -- a further factor that is constant, or one behind constant ones
  pub constant_factor_form : (at : ℕ) (done : List Num) (part : Num) (first second product : Linear) → IsFormOf T (num.Product at done) first → IsFormOf T part second → second.mention ≡ false
      → IsScaled first second.constant second.places product → product.mention ≡ (first.mention || second.mention) → IsFormOf T (num.Product at (done ++ part ∷ [])) product
  constant_factor_form at done part first second product f g none is mention = record {
    numbers = form_where _ (λ c u. quantity T c u (num.Product at (done ++ part ∷ []))) product (one_factor_more at done part)
        (product_form (λ c u. quantity T c u (num.Product at done)) (λ c u. quantity T c u part) first product second.constant second.places f.numbers (fixed_form part second g none) is);
    mention = mention ∙ product_mention at done part first second f g;
  }

  pub behind_constants_form : (at : ℕ) (done : List Num) (part : Num) (first second product : Linear) → IsFormOf T (num.Product at done) first → IsFormOf T part second → first.mention ≡ false
      → IsScaled second first.constant first.places product → product.mention ≡ (first.mention || second.mention) → IsFormOf T (num.Product at (done ++ part ∷ [])) product
  behind_constants_form at done part first second product f g none is mention = record {
    numbers = form_where _ (λ c u. quantity T c u (num.Product at (done ++ part ∷ []))) product (λ c u. times_swapped (quantity T c u part) (quantity T c u (num.Product at done)) ∙ one_factor_more at done part c u)
        (product_form (λ c u. quantity T c u part) (λ c u. quantity T c u (num.Product at done)) second product first.constant first.places g.numbers (fixed_form (num.Product at done) first f none) is);
    mention = mention ∙ product_mention at done part first second f g;
  }

  -- ---- operations

  pub operations_from-append : (operator : List Num → Num) (before xs ys : List Num) → operations_from operator before (xs ++ ys) ≡ operations_from operator before xs ++ operations_from operator (before ++ xs) ys
  operations_from-append operator before [] ys = ap (λ list. operations_from operator list ys) (sym (append-nil before))
  operations_from-append operator before (x ∷ xs) ys =
      ap (λ list. operations x ++ operator (before ++ x ∷ []) ∷ list) (operations_from-append operator (before ++ x ∷ []) xs ys ∙ ap (λ list. operations_from operator (before ++ x ∷ []) xs ++ operations_from operator list ys) (append_assoc before (x ∷ []) xs))
      ∙ sym (append_assoc (operations x) (operator (before ++ x ∷ []) ∷ operations_from operator (before ++ x ∷ []) xs) (operations_from operator (before ++ x ∷ xs) ys))

  -- what is behind what is fine
  pub skip : (xs ys : List Num) → find (is_large T) xs ≡ None → find (is_large T) (xs ++ ys) ≡ find (is_large T) ys
  skip xs ys fine = find-append (is_large T) xs ys ∙ ap (λ o. option_or o (find (is_large T) ys)) fine

  pub stop : (xs ys : List Num) (tree : Num) → find (is_large T) xs ≡ Some tree → find (is_large T) (xs ++ ys) ≡ Some tree
  stop xs ys tree there = find-append (is_large T) xs ys ∙ ap (λ o. option_or o (find (is_large T) ys)) there

  module _ (operator : List Num → Num) (done : List Num) (part : Num) where
    pub fine_more : find (is_large T) (operations_from operator [] done) ≡ None → find (is_large T) (operations part) ≡ None → is_large T (operator (done ++ part ∷ [])) ≡ false
        → find (is_large T) (operations_from operator [] (done ++ part ∷ [])) ≡ None
    fine_more fine own small =
        ap (find (is_large T)) (operations_from-append operator [] done (part ∷ [])) ∙ skip (operations_from operator [] done) _ fine ∙ skip (operations part) _ own ∙ ap (λ t. cond t (Some (operator (done ++ part ∷ []))) None) small

    whole : (parts rest : List Num) → parts ≡ done ++ part ∷ rest → find (is_large T) (operations_from operator [] done) ≡ None
        → find (is_large T) (operations_from operator [] parts) ≡ find (is_large T) (operations part ++ operator (done ++ part ∷ []) ∷ operations_from operator (done ++ part ∷ []) rest)
    whole parts rest e fine = ap (λ list. find (is_large T) (operations_from operator [] list)) e ∙ ap (find (is_large T)) (operations_from-append operator [] done (part ∷ rest)) ∙ skip (operations_from operator [] done) _ fine

    pub part_refused : (role : Role) (refusal : Refusal) (parts rest : List Num) → parts ≡ done ++ part ∷ rest → find (is_large T) (operations_from operator [] done) ≡ None
        → first_large T role (operations part) ≡ Some refusal → first_large T role (operations_from operator [] parts) ≡ Some refusal
    part_refused role refusal parts rest e fine refused =
        ap (option_map (refused_at role)) (whole parts rest e fine ∙ find-append (is_large T) (operations part) _) ∙ by (find (is_large T) (operations part)) refused
      where
        by : (o : Option Num) → option_map (refused_at role) o ≡ Some refusal → option_map (refused_at role) (option_or o (find (is_large T) (operator (done ++ part ∷ []) ∷ operations_from operator (done ++ part ∷ []) rest))) ≡ Some refusal
        by None wrong = absurd (cc)
        by (Some tree) right = right

    pub whole_refused : (role : Role) (parts rest : List Num) → parts ≡ done ++ part ∷ rest → find (is_large T) (operations_from operator [] done) ≡ None
        → find (is_large T) (operations part) ≡ None → is_large T (operator (done ++ part ∷ [])) ≡ true → first_large T role (operations_from operator [] parts) ≡ Some (refused_at role (operator (done ++ part ∷ [])))
    whole_refused role parts rest e fine own large =
        ap (option_map (refused_at role)) (whole parts rest e fine ∙ skip (operations part) _ own ∙ ap (λ t. cond t (Some (operator (done ++ part ∷ []))) (find (is_large T) (operations_from operator (done ++ part ∷ []) rest))) large)
