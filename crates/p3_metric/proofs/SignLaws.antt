-- The first mention with a negative weight, by the forms of expressions, and in one part more.
use Rattle.std.proofs.Common.{◌≡◌, ◌∙◌, ℕ, zero, suc, refl, ap, Bool, true, false, cond, List, [], ◌∷◌, ◌++◌, append-nil, Option, Some, None, pos, neg_ℤ, length, arith}
use Rattle.std.specs.Prelude.{ℤ, negsuc, int_lt, find, flat_map, option_map, if◌then◌else◌, codes}
use Rattle.std.specs.Option.{option_or}
use Rattle.std.proofs.lemmas.Grind.{flat_map-append}
use Rattle.std.proofs.lemmas.List.Folds.{find-append}
use Rattle.std.proofs.lemmas.Int.{ints}
use denote.Hole.Carrier.{hidden}
use Rattle.p3_base.specs.declared.refusal.Direction.{Direction}
use Rattle.p3_task.proofs.FoldLemmas.{fold_num-Product}
use Rattle.p3_task.specs.Metrics.{signed}
use Rattle.p3_task.specs.Refusals.Metric.{Mention, Count, Cost, mentions, mentions_layer}
use Rattle.p3_task.specs.declared.effect.Numeral.{Numeral}
use Rattle.p3_task.specs.declared.metric.Num.{Num}
use Rattle.p3_task.specs.declared.metric.Num.TheBlock.{hidden-the_row-Num-0}
use Rattle.p3_task.specs.declared.metric.Num.TheVariants as num
use Rattle.p3_task.specs.declared.term.Ref.{Ref}
use Rattle.p3_metric.specs.Entries.{number_at}
use Rattle.p3_metric.specs.Signs.{first_spot, is_negative, negative_spot, negative_spot_in, spot_of}
use Rattle.p3_metric.specs.declared.linear.Linear.{Linear}
use Rattle.p3_metric.specs.declared.spot.Spot.{Spot}
use Rattle.p3_metric.proofs.FactorLemmas.{flat_map-map}
use Rattle.p3_metric.proofs.NumLemmas.{fold_num-Sum}

pub is_above : (z : ℤ) → int_lt (neg_ℤ z) (pos 0) ≡ int_lt (pos 0) z
is_above (pos zero) = refl
is_above (pos (suc n)) = grind (arith, ints)
is_above (negsuc n) = grind (arith, ints)

abbrev pub spot_if : Bool → ℕ → ℕ → Option Spot
spot_if negative at len = if negative then Some (record { at = at; len = len }) else None

module _ (form : Linear) (direction : Direction) where
  spots-append : (xs ys : List Mention) → first_spot form direction (xs ++ ys) ≡ option_or (first_spot form direction xs) (first_spot form direction ys)
  spots-append xs ys = ap (option_map spot_of) (find-append (is_negative form direction) xs ys) ∙ by (find (is_negative form direction) xs) (find (is_negative form direction) ys)
    where
      by : (a b : Option Mention) → option_map spot_of (option_or a b) ≡ option_or (option_map spot_of a) (option_map spot_of b)
      by None b = refl
      by (Some m) b = refl

  one_spot : (m : Mention) → first_spot form direction (m ∷ []) ≡ (if is_negative form direction m then Some (spot_of m) else None)
  one_spot m = by (is_negative form direction m)
    where
      by : (t : Bool) → option_map spot_of (cond t (Some m) None) ≡ (if t then Some (spot_of m) else None)
      by true = refl
      by false = refl

  pub negative-Number : (numeral : Numeral) → negative_spot form direction (num.Number numeral) ≡ None
  unfolding negative_spot mentions
  negative-Number numeral = refl

  pub negative-TotalCost : (at : ℕ) → negative_spot form direction (num.TotalCost at) ≡ (if int_lt (signed direction form.cost) (pos 0) then Some (record { at = at; len = length (codes "total-cost") }) else None)
  unfolding negative_spot mentions
  negative-TotalCost at = one_spot (Cost at)

  pub negative-Violated : (name : Ref) → negative_spot form direction (num.Violated name) ≡ (if int_lt (signed direction (number_at form.counts name.name)) (pos 0) then Some (record { at = name.at; len = length name.name }) else None)
  unfolding negative_spot mentions
  negative-Violated name = one_spot (Count name)

  pub negative-Neg : (at : ℕ) (part : Num) → negative_spot form direction (num.Neg at part) ≡ negative_spot form direction part
  unfolding negative_spot mentions hidden-the_row-Num-0 hidden
  negative-Neg at part = refl

  pub negative-Sub : (at : ℕ) (first second : Num) → negative_spot form direction (num.Sub at first second) ≡ option_or (negative_spot form direction first) (negative_spot form direction second)
  unfolding negative_spot mentions hidden-the_row-Num-0 hidden
  negative-Sub at first second = spots-append (mentions first) (mentions second)

  pub negative-Sum : (at : ℕ) (parts : List Num) → negative_spot form direction (num.Sum at parts) ≡ negative_spot_in form direction parts
  unfolding negative_spot negative_spot_in mentions
  negative-Sum at parts = ap (first_spot form direction) (fold_num-Sum mentions_layer at parts ∙ flat_map-map (λ list. list) mentions parts)

  pub negative-Product : (at : ℕ) (parts : List Num) → negative_spot form direction (num.Product at parts) ≡ negative_spot_in form direction parts
  unfolding negative_spot negative_spot_in mentions
  negative-Product at parts = ap (first_spot form direction) (fold_num-Product mentions_layer at parts ∙ flat_map-map (λ list. list) mentions parts)

  pub negative_more : (parts : List Num) (part : Num) → negative_spot_in form direction (parts ++ part ∷ []) ≡ option_or (negative_spot_in form direction parts) (negative_spot form direction part)
  unfolding negative_spot negative_spot_in
  negative_more parts part =
      ap (first_spot form direction) (flat_map-append mentions parts (part ∷ []) ∙ ap (λ list. flat_map mentions parts ++ list) (append-nil (mentions part)))
      ∙ spots-append (flat_map mentions parts) (mentions part)

  pub none_negative : negative_spot_in form direction [] ≡ None
  unfolding negative_spot_in
  none_negative = refl

pub ruleset sign_laws = (negative-Number, negative-TotalCost, negative-Violated, negative-Neg, negative-Sub, negative-Sum, negative-Product)
