-- The decimal places of expressions by their forms, and of one part more.
use Rattle.std.proofs.Common.{◌≡◌, ◌∙◌, ℕ, ◌+◌, refl, ap, List, [], ◌∷◌, ◌++◌, map, arith}
use Rattle.std.specs.Prelude.{min, max}
use Rattle.std.proofs.lemmas.List.{map-append}
use denote.Hole.Carrier.{hidden}
use Rattle.p3_task.specs.Costs.{cost_places}
use Rattle.p3_task.specs.Metrics.{Quantity, no_counts, quantity, sum_of, product_of}
use Rattle.p3_task.specs.declared.effect.Numeral.{Numeral}
use Rattle.p3_task.specs.declared.metric.Num.{Num}
use Rattle.p3_task.specs.declared.metric.Num.TheBlock.{hidden-the_row-Num-0}
use Rattle.p3_task.specs.declared.metric.Num.TheVariants as num
use Rattle.p3_task.specs.declared.task.Task.{Task}
use Rattle.p3_task.specs.declared.term.Ref.{Ref}
use Rattle.p3_metric.specs.Cut.{cut, cut_places, cut_most, cut_total}
use Rattle.p3_metric.proofs.EvaluationLemmas.{quantity-Sum, quantity-Product}
use Rattle.p3_metric.proofs.QuantityLemmas.{sum_more, product_more}

pub cut-Number : (T : Task) (numeral : Numeral) → cut_places T (num.Number numeral) ≡ cut numeral.places
unfolding cut_places quantity
cut-Number T numeral = refl

pub cut-TotalCost : (T : Task) (at : ℕ) → cut_places T (num.TotalCost at) ≡ cut (cost_places T)
unfolding cut_places quantity
cut-TotalCost T at = refl

pub cut-Violated : (T : Task) (name : Ref) → cut_places T (num.Violated name) ≡ 0
unfolding cut_places quantity
cut-Violated T name = refl

pub cut-Neg : (T : Task) (at : ℕ) (part : Num) → cut_places T (num.Neg at part) ≡ cut_places T part
unfolding cut_places quantity hidden-the_row-Num-0 hidden
cut-Neg T at part = refl

pub cut-Sub : (T : Task) (at : ℕ) (first second : Num) → cut_places T (num.Sub at first second) ≡ max (cut_places T first) (cut_places T second)
unfolding cut_places quantity hidden-the_row-Num-0 hidden
cut-Sub T at first second = by (quantity T no_counts 0 first).places (quantity T no_counts 0 second).places
  where
    by : (a b : ℕ) → cut (max (max 0 a) b) ≡ max (cut a) (cut b)
    by a b = omega arith

pub cut-Sum : (T : Task) (at : ℕ) (parts : List Num) → cut_places T (num.Sum at parts) ≡ cut_most T parts
unfolding cut_places cut_most
cut-Sum T at parts = ap (λ (q : Quantity). cut q.places) (quantity-Sum T no_counts 0 at parts)

pub cut-Product : (T : Task) (at : ℕ) (parts : List Num) → cut_places T (num.Product at parts) ≡ cut_total T parts
unfolding cut_places cut_total
cut-Product T at parts = ap (λ (q : Quantity). cut q.places) (quantity-Product T no_counts 0 at parts)

pub ruleset cut_laws = (cut-Number, cut-TotalCost, cut-Violated, cut-Neg, cut-Sub, cut-Sum, cut-Product)

-- ---- one part more

pub no_most : (T : Task) → cut_most T [] ≡ 0
unfolding cut_most
no_most T = refl

pub no_total : (T : Task) → cut_total T [] ≡ 0
unfolding cut_total
no_total T = refl

pub most_more : (T : Task) (parts : List Num) (part : Num) → cut_most T (parts ++ part ∷ []) ≡ max (cut_most T parts) (cut_places T part)
unfolding cut_most cut_places
most_more T parts part =
    ap (λ list. cut (sum_of list).places) (map-append (quantity T no_counts 0) parts (part ∷ []))
    ∙ ap (λ (q : Quantity). cut q.places) (sum_more (map (quantity T no_counts 0) parts) (quantity T no_counts 0 part))
    ∙ by (sum_of (map (quantity T no_counts 0) parts)).places (quantity T no_counts 0 part).places
  where
    by : (a b : ℕ) → cut (max a b) ≡ max (cut a) (cut b)
    by a b = omega arith

pub total_more : (T : Task) (parts : List Num) (part : Num) → cut_total T (parts ++ part ∷ []) ≡ min (cut_total T parts + cut_places T part) 4294967295
unfolding cut_total cut_places
total_more T parts part =
    ap (λ list. cut (product_of list).places) (map-append (quantity T no_counts 0) parts (part ∷ []))
    ∙ ap (λ (q : Quantity). cut q.places) (product_more (map (quantity T no_counts 0) parts) (quantity T no_counts 0 part))
    ∙ by (product_of (map (quantity T no_counts 0) parts)).places (quantity T no_counts 0 part).places
  where
    by : (a b : ℕ) → cut (a + b) ≡ min (cut a + cut b) 4294967295
    by a b = omega arith
