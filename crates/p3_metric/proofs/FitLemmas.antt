-- Parts of fit expressions are fit, and how the decimal places of parts add up.
use Rattle.std.proofs.Common.{◌≡◌, ◌∙◌, ℕ, ◌+◌, ◌≤◌, refl, sym, ap, subst, Bool, true, false, ◌&&◌, ◌||◌, List, [], ◌∷◌, ◌++◌, append_assoc, map, cond, arith}
use Rattle.std.specs.Prelude.{fold, max, sum, flat_map, count_by, nat_lt, if◌then◌else◌}
use Rattle.std.specs.List.{list_any}
use Rattle.std.proofs.Math.Nat.{le-max_left, le-max_right}
use Rattle.std.proofs.lemmas.Grind.{flat_map-append}
use Rattle.std.proofs.lemmas.List.{map-append}
use Rattle.std.proofs.lemmas.List.Sums.{fold-append, sum_by-append}
use denote.Hole.Carrier.{hidden}
use Rattle.p3_task.proofs.OnceLemmas.{nil_left, nil_right}
use Rattle.p3_task.specs.Metrics.{Quantity, no_counts, quantity}
use Rattle.p3_task.specs.Refusals.Metric.{nonlinear}
use Rattle.p3_task.specs.declared.metric.Num.{Num}
use Rattle.p3_task.specs.declared.metric.Num.TheBlock.{hidden-the_row-Num-0}
use Rattle.p3_task.specs.declared.metric.Num.TheVariants as num
use Rattle.p3_task.specs.declared.task.Task.{Task}
use Rattle.p3_metric.specs.Evaluation.{IsFit}
use Rattle.p3_metric.specs.Factors.{has_mention, have_two_mentions}
use Rattle.p3_metric.proofs.EvaluationLemmas.{quantity-Sum, quantity-Product}
use Rattle.p3_metric.proofs.FactorLemmas.{nonlinear-Sub, nonlinear-Sum, nonlinear-Product, mention-Product, two_more}
use borrow.Author.Tests.{ltb-true}

abbrev places : Quantity → ℕ
places quantity = quantity.places

most_more : (n : ℕ) (before : List ℕ) (own : ℕ) (after : List ℕ) → own ≤ fold max n (before ++ own ∷ after)
most_more n [] own after = let one = le-max_right n own in let rest = most_least (max n own) after in omega (arith, one, rest)
  where
    most_least : (n : ℕ) (list : List ℕ) → n ≤ fold max n list
    most_least n [] = omega arith
    most_least n (x ∷ list) = let one = le-max_left n x in let rest = most_least (max n x) list in omega (arith, one, rest)
most_more n (x ∷ before) own after = most_more (max n x) before own after

sum_start : (n : ℕ) (list : List ℕ) → n ≤ fold (λ a b. a + b) n list
sum_start n [] = omega arith
sum_start n (x ∷ list) = let rest = sum_start (n + x) list in omega (arith, rest)

module _ (T : Task) where
  abbrev own : Num → Quantity
  own tree = quantity T no_counts 0 tree

  pub fit_negated : (at : ℕ) (part : Num) → IsFit T (num.Neg at part) → IsFit T part
  unfolding nonlinear quantity hidden-the_row-Num-0 hidden
  fit_negated at part fit = record { linear = fit.linear; places = fit.places }

  places-Sub : (at : ℕ) (first second : Num) → (own (num.Sub at first second)).places ≡ max (max 0 (own first).places) (own second).places
  unfolding quantity hidden-the_row-Num-0 hidden
  places-Sub at first second = refl

  pub fit_first : (at : ℕ) (first second : Num) → IsFit T (num.Sub at first second) → IsFit T first
  fit_first at first second fit =
      let is = places-Sub at first second in
      let one = le-max_left (max 0 (own first).places) (own second).places in
      let two = le-max_right 0 (own first).places in
      let all = fit.places in
      record { linear = nil_left (nonlinear first) (nonlinear second) (sym (nonlinear-Sub at first second) ∙ fit.linear); places = omega (arith, is, one, two, all) }

  pub fit_second : (at : ℕ) (first second : Num) → IsFit T (num.Sub at first second) → IsFit T second
  fit_second at first second fit =
      let is = places-Sub at first second in
      let one = le-max_right (max 0 (own first).places) (own second).places in
      let all = fit.places in
      record { linear = nil_right (nonlinear first) (nonlinear second) (sym (nonlinear-Sub at first second) ∙ fit.linear); places = omega (arith, is, one, all) }

  -- ---- parts of sums and products

  module _ (at : ℕ) (parts done : List Num) (part : Num) (rest : List Num) (is : parts ≡ done ++ part ∷ rest) where
    part_linear : flat_map nonlinear parts ≡ [] → nonlinear part ≡ []
    part_linear none =
        nil_left (nonlinear part) (flat_map nonlinear rest)
        (nil_right (flat_map nonlinear done) (nonlinear part ++ flat_map nonlinear rest) (sym (flat_map-append nonlinear done (part ∷ rest)) ∙ ap (flat_map nonlinear) (sym is) ∙ none))

    places_are : map places (map own parts) ≡ map places (map own done) ++ (own part).places ∷ map places (map own rest)
    places_are = ap (λ list. map places (map own list)) is ∙ ap (map places) (map-append own done (part ∷ rest)) ∙ map-append places (map own done) (map own (part ∷ rest))

    pub fit_term : IsFit T (num.Sum at parts) → IsFit T part
    fit_term fit =
        let most = most_more 0 (map places (map own done)) (own part).places (map places (map own rest)) in
        let whole : (own (num.Sum at parts)).places ≡ fold max 0 (map places (map own done) ++ (own part).places ∷ map places (map own rest)) = ap places (quantity-Sum T no_counts 0 at parts) ∙ ap (fold max 0) places_are in
        let all = fit.places in
        record { linear = part_linear (sym (nonlinear-Sum at parts) ∙ fit.linear); places = omega (arith, most, whole, all) }

    -- the places of what is done and of the next factor together
    pub factor_places : IsFit T (num.Product at parts) → (own (num.Product at done)).places + (own part).places ≤ 6
    factor_places fit =
        let before : (own (num.Product at done)).places ≡ sum (map places (map own done)) = ap places (quantity-Product T no_counts 0 at done) in
        let whole : (own (num.Product at parts)).places ≡ fold (λ a b. a + b) (sum (map places (map own done)) + (own part).places) (map places (map own rest)) =
        ap places (quantity-Product T no_counts 0 at parts) ∙ ap sum places_are ∙ fold-append (λ a b. a + b) 0 (map places (map own done)) ((own part).places ∷ map places (map own rest)) in
        let least = sum_start (sum (map places (map own done)) + (own part).places) (map places (map own rest)) in
        let all = fit.places in
        omega (arith, before, whole, least, all)

    pub fit_factor : IsFit T (num.Product at parts) → IsFit T part
    fit_factor fit =
        let least = factor_places fit in
        record { linear = part_linear (nil_right (if have_two_mentions parts then at ∷ [] else []) (flat_map nonlinear parts) (sym (nonlinear-Product at parts) ∙ fit.linear)); places = omega (arith, least) }

    -- not both of what is done and the next factor mention a quantity
    pub factors_apart : IsFit T (num.Product at parts) → (has_mention (num.Product at done) && has_mention part) ≡ false
    factors_apart fit = ap (λ t. t && has_mention part) (mention-Product at done) ∙ by (list_any has_mention done && has_mention part) refl
      where
        own_none : (if have_two_mentions parts then at ∷ [] else []) ≡ []
        own_none = nil_left (if have_two_mentions parts then at ∷ [] else []) (flat_map nonlinear parts) (sym (nonlinear-Product at parts) ∙ fit.linear)

        more : (xs ys : List Num) → have_two_mentions xs ≡ true → have_two_mentions (xs ++ ys) ≡ true
        more xs ys e = let many : count_by has_mention (xs ++ ys) ≡ count_by has_mention xs + count_by has_mention ys = sum_by-append (λ y. cond (has_mention y) 1 0) xs ys in let two = ltb-true 1 (count_by has_mention xs) e in let P : ℕ → Type 0 = λ n. nat_lt 1 n ≡ true in subst P (sym many) (grind (arith, two))

        or_true : (a b : Bool) → b ≡ true → (a || b) ≡ true
        or_true true b e = refl
        or_true false b e = e

        by : (t : Bool) → (list_any has_mention done && has_mention part) ≡ t → t ≡ false
        by false e = refl
        by true e = let two : have_two_mentions (done ++ part ∷ []) ≡ true = two_more done part ∙ or_true (have_two_mentions done) _ e in
            let all : have_two_mentions parts ≡ true = ap have_two_mentions (is ∙ sym (append_assoc done (part ∷ []) rest)) ∙ more (done ++ part ∷ []) rest two in
            absurd (wrong (have_two_mentions parts) all own_none)
          where
            wrong : (b : Bool) → b ≡ true → (if b then at ∷ [] else []) ≡ [] → ⊥
            wrong true e f = cc
            wrong false e f = cc
