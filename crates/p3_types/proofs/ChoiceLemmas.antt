-- The choices in order are those of rising numbers.
use Rattle.std.proofs.Common.{◌≡◌, ◌∙◌, ℕ, ◌+◌, ◌*◌, ◌/◌, ◌%◌, ◌<◌, List, [], ◌∷◌, ◌++◌, map, length, take, get_or, refl, sym, ap, subst, arith, zero, suc, length-append, Some}
use Rattle.std.specs.Prelude.{flat_map, slice_get}
use Rattle.std.proofs.Math.Nat.{suc-mul, mul_assoc}
use Rattle.std.proofs.lemmas.Nat.{div_below, mod_below, div-add-mod'}
use Rattle.std.proofs.lemmas.List.Concat.{get_or-flat_map}
use Rattle.std.proofs.lemmas.List.{get_or-map, length-take, length-map}
use Rattle.p3_numbers.specs.Slots.{range_at, tuples_of}
use Rattle.p3_numbers.specs.declared.numbers.Numbers.{Numbers}
use Rattle.p3_types.proofs.NameOrderLemmas.{slice_at}
use Rattle.p3_numbers.specs.Choices.{choice_count, choice}

pub positive : (rest length stride : ℕ) → rest < length * stride → 0 < stride
positive rest length zero within = absurd (omega arith)
positive rest length (suc stride) within = omega arith

length-take-within : {A : Type 0} (k : ℕ) (xs : List A) → k < length xs → length (take k xs) ≡ k
length-take-within {A} k xs within = grind (arith, length-take {A = A})

module _ {A : Type 0} (tuples : List (List A)) where
  abbrev begun : A → List (List A)
  begun x = map (λ rest. x ∷ rest) tuples

  length-begun : (xs : List A) → length (flat_map begun xs) ≡ length xs * length tuples
  length-begun [] = omega arith
  length-begun (x ∷ xs) =
      length-append (begun x) (flat_map begun xs) ∙ (λ i. length-map tuples (λ rest. x ∷ rest) i + length-begun xs i)
      ∙ omega (arith, suc-mul (length xs) (length tuples))

module _ (N : Numbers) where
  pub length-tuples : (ranges : List ℕ) → length (tuples_of N ranges) ≡ choice_count N ranges
  unfolding tuples_of choice_count
  length-tuples [] = refl
  length-tuples (range ∷ ranges) = length-begun (tuples_of N ranges) (range_at N range) ∙ ap (λ count. length (range_at N range) * count) (length-tuples ranges)

  choice-tuples : (ranges : List ℕ) (number : ℕ) → number < choice_count N ranges → get_or (tuples_of N ranges) number [] ≡ choice N ranges number
  unfolding tuples_of choice_count choice
  choice-tuples [] zero within = refl
  choice-tuples [] (suc number) within = absurd (omega arith)
  choice-tuples (range ∷ ranges) number within =
      let objects = range_at N range in
      let count = choice_count N ranges in
      let tuples = tuples_of N ranges in
      let some : 0 < count = positive number (length objects) count within in
      let digit : number / count < length objects = div_below number count (length objects) some within in
      let low : number % count < count = mod_below number count some in
      let long : length tuples ≡ count = length-tuples ranges in
      let inside : number % count < length tuples = omega (arith, low, long) in
      let object = get_or objects (number / count) 0 in
      let before : length (flat_map (begun tuples) (take (number / count) objects)) ≡ (number / count) * count =
      length-begun tuples (take (number / count) objects) ∙ (λ i. length-take-within (number / count) objects digit i * long i)
      in
      let here : number ≡ length (flat_map (begun tuples) (take (number / count) objects)) + number % count = omega (arith, before, div-add-mod' number count) in
      ap (λ k. get_or (flat_map (begun tuples) objects) k []) here
      ∙ get_or-flat_map (begun tuples) objects (number / count) (number % count) 0 [] digit (subst (λ n. number % count < n) (sym (length-map tuples (λ rest. object ∷ rest))) inside)
      ∙ get_or-map (λ rest. object ∷ rest) tuples (number % count) [] [] inside ∙ ap (λ rest. object ∷ rest) (choice-tuples ranges (number % count) low)

  pub choice_at : (ranges : List ℕ) (number : ℕ) → number < choice_count N ranges → slice_get (tuples_of N ranges) number ≡ Some (choice N ranges number)
  choice_at ranges number within = slice_at (tuples_of N ranges) number [] (omega (arith, within, length-tuples ranges)) ∙ ap Some (choice-tuples ranges number within)

  -- ---- one range more

  pub count_more : (ranges : List ℕ) (range : ℕ) → choice_count N (ranges ++ range ∷ []) ≡ choice_count N ranges * length (range_at N range)
  unfolding choice_count
  count_more [] range = omega arith
  count_more (first ∷ ranges) range = ap (λ n. length (range_at N first) * n) (count_more ranges range) ∙ sym (mul_assoc (length (range_at N first)) (choice_count N ranges) (length (range_at N range)))
