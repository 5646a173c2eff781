-- The choices in order are those of rising numbers.
use Rattle.std.proofs.Common.{◌≡◌, ◌∙◌, ℕ, ◌+◌, ◌*◌, ◌/◌, ◌%◌, ◌<◌, ◌≤◌, List, [], ◌∷◌, ◌++◌, map, length, take, drop, get_or, refl, sym, ap, subst, arith, zero, suc, length-append, add-one}
use Rattle.std.specs.Prelude.{flat_map, slice_index_or}
use Rattle.std.proofs.Math.Seq.{drop-cons}
use Rattle.std.proofs.Math.Nat.{le-mul_of_pos_right, mul-pos, mul_assoc, suc-mul}
use Rattle.std.proofs.lemmas.Nat.{div_below, mod_below, div-add-mod', div-mul-add}
use Rattle.std.proofs.lemmas.List.{get_or-map, length-map, length-take}
use Rattle.std.proofs.lemmas.List.Concat.{get_or-flat_map}
use Rattle.p3_numbers.specs.Slots.{range_at, tuples_of, bound}
use Rattle.p3_numbers.specs.declared.numbers.Numbers.{Numbers}
use Rattle.p3_numbers.specs.Choices.{choice_count, choice}

positive : (rest length stride : ℕ) → rest < length * stride → (0 < stride) × (0 < length)
positive rest zero stride within = absurd (omega arith)
positive rest (suc length) zero within = absurd (omega arith)
positive rest (suc length) (suc stride) within = (omega arith, omega arith)

length-take-within : {A : Type 0} (k : ℕ) (xs : List A) → k < length xs → length (take k xs) ≡ k
length-take-within {A} k xs within = grind (arith, length-take {A = A})

module _ {A : Type 0} (tuples : List (List A)) where
  abbrev begun : A → List (List A)
  begun x = map (λ rest. x ∷ rest) tuples

  length-begun : (xs : List A) → length (flat_map begun xs) ≡ length xs * length tuples
  length-begun [] = omega arith
  length-begun (x ∷ xs) =
      length-append (begun x) (flat_map begun xs) ∙ (λ i. length-map tuples (λ rest. x ∷ rest) i + length-begun xs i)
      ∙ omega (arith, suc-mul (length xs) (length tuples))

drop-past : {A : Type 0} (xs : List A) (i : ℕ) → length xs ≤ i → drop i xs ≡ []
drop-past [] zero past = refl
drop-past [] (suc i) past = refl
drop-past (x ∷ xs) zero past = absurd (omega arith)
drop-past (x ∷ xs) (suc i) past = drop-past xs i (omega arith)

module _ (N : Numbers) where
  length-tuples : (ranges : List ℕ) → length (tuples_of N ranges) ≡ choice_count N ranges
  unfolding tuples_of choice_count
  length-tuples [] = refl
  length-tuples (range ∷ ranges) = length-begun (tuples_of N ranges) (range_at N range) ∙ ap (λ count. length (range_at N range) * count) (length-tuples ranges)

  choice-tuples : (ranges : List ℕ) (number : ℕ) → number < choice_count N ranges → get_or (tuples_of N ranges) number [] ≡ choice N ranges number
  unfolding tuples_of choice_count choice
  choice-tuples [] zero within = refl
  choice-tuples [] (suc number) within = absurd (omega arith)
  choice-tuples (range ∷ ranges) number within =
      let objects = range_at N range in
      let count = choice_count N ranges in
      let tuples = tuples_of N ranges in
      let some : 0 < count = (positive number (length objects) count within).0 in
      let digit : number / count < length objects = div_below number count (length objects) some within in
      let low : number % count < count = mod_below number count some in
      let long : length tuples ≡ count = length-tuples ranges in
      let inside : number % count < length tuples = omega (arith, low, long) in
      let object = get_or objects (number / count) 0 in
      let before : length (flat_map (begun tuples) (take (number / count) objects)) ≡ (number / count) * count =
      length-begun tuples (take (number / count) objects) ∙ (λ i. length-take-within (number / count) objects digit i * long i)
      in
      let here : number ≡ length (flat_map (begun tuples) (take (number / count) objects)) + number % count = omega (arith, before, div-add-mod' number count) in
      ap (λ k. get_or (flat_map (begun tuples) objects) k []) here
      ∙ get_or-flat_map (begun tuples) objects (number / count) (number % count) 0 [] digit (subst (λ n. number % count < n) (sym (length-map tuples (λ rest. object ∷ rest))) inside)
      ∙ get_or-map (λ rest. object ∷ rest) tuples (number % count) [] [] inside ∙ ap (λ rest. object ∷ rest) (choice-tuples ranges (number % count) low)

  pub count-empty : (ranges : List ℕ) (i d : ℕ) → i < length ranges → length (range_at N (get_or ranges i d)) ≡ 0 → choice_count N ranges ≡ 0
  unfolding choice_count
  count-empty [] i d within empty = absurd (omega arith)
  count-empty (range ∷ ranges) zero d within empty = ap (λ n. n * choice_count N ranges) empty ∙ omega arith
  count-empty (range ∷ ranges) (suc i) d within empty = ap (λ n. length (range_at N range) * n) (count-empty ranges i d (omega arith) empty) ∙ omega arith

  pub count-end : (ranges : List ℕ) (i : ℕ) → length ranges ≤ i → choice_count N (drop i ranges) ≡ 1
  unfolding choice_count
  count-end ranges i past = ap (choice_count N) (drop-past ranges i past)

  next : (ranges : List ℕ) (i d : ℕ) → i < length ranges → drop i ranges ≡ get_or ranges i d ∷ drop (i + 1) ranges
  next ranges i d within = drop-cons ranges i d within ∙ ap (λ k. get_or ranges i d ∷ drop k ranges) (sym (add-one i))

  pub count-next : (ranges : List ℕ) (i d : ℕ) → i < length ranges → choice_count N (drop i ranges) ≡ length (range_at N (get_or ranges i d)) * choice_count N (drop (i + 1) ranges)
  unfolding choice_count
  count-next ranges i d within = ap (choice_count N) (next ranges i d within)

  pub product-next : (ranges : List ℕ) (i d before after : ℕ) (objects : List ℕ) → i < length ranges → objects ≡ range_at N (get_or ranges i d) → after ≡ before * length objects
      → after * choice_count N (drop (i + 1) ranges) ≡ before * choice_count N (drop i ranges)
  product-next ranges i d before after objects within here is =
      ap (λ n. n * choice_count N (drop (i + 1) ranges)) (is ∙ ap (λ items. before * length items) here)
      ∙ mul_assoc before (length (range_at N (get_or ranges i d))) (choice_count N (drop (i + 1) ranges)) ∙ ap (λ n. before * n) (sym (count-next ranges i d within))

  -- where a range has an object, it has no choices only where those behind it have none
  pub some-next : (ranges : List ℕ) (i d : ℕ) (objects : List ℕ) → i < length ranges → objects ≡ range_at N (get_or ranges i d) → 0 < length objects
      → 0 < choice_count N (drop (i + 1) ranges) → 0 < choice_count N (drop i ranges)
  some-next ranges i d objects within here some behind =
      subst (λ n. 0 < n) (sym (count-next ranges i d within)) (mul-pos (subst (λ items. 0 < length items) here some) behind)

  -- where there are choices at all, the objects of the first ranges give no more of them
  pub count-least : (ranges : List ℕ) (i d before : ℕ) (objects : List ℕ) → i < length ranges → objects ≡ range_at N (get_or ranges i d)
      → before * choice_count N (drop i ranges) ≡ choice_count N ranges → 0 < choice_count N ranges → before * length objects ≤ choice_count N ranges
  count-least ranges i d before objects within here is some =
      let whole : (before * length objects) * choice_count N (drop (i + 1) ranges) ≡ choice_count N ranges = product-next ranges i d before (before * length objects) objects within here refl ∙ is in
      subst (λ n. before * length objects ≤ n) whole
      (le-mul_of_pos_right (before * length objects) (positive 0 (before * length objects) (choice_count N (drop (i + 1) ranges)) (subst (λ n. 0 < n) (sym whole) some)).0)

  pub choice-end : (ranges : List ℕ) (i rest : ℕ) → length ranges ≤ i → choice N (drop i ranges) rest ≡ []
  unfolding choice
  choice-end ranges i rest past = ap (λ left. choice N left rest) (drop-past ranges i past)

  choice-next : (ranges : List ℕ) (i d rest : ℕ) → i < length ranges
      → choice N (drop i ranges) rest ≡ slice_index_or (range_at N (get_or ranges i d)) (rest / choice_count N (drop (i + 1) ranges)) 0 ∷ choice N (drop (i + 1) ranges) (rest % choice_count N (drop (i + 1) ranges))
  unfolding choice
  choice-next ranges i d rest within = ap (λ left. choice N left rest) (next ranges i d within)

  -- one range more: how many choices are left behind it, and its object
  pub record Step (ranges : List ℕ) (i left rest : ℕ) (objects : List ℕ) : Type 0 where
    pub some : 0 < length objects
    pub stretch : 0 < left / length objects
    pub behind : left / length objects ≡ choice_count N (drop (i + 1) ranges)
    pub within : rest % (left / length objects) < left / length objects
    pub choice : choice N (drop i ranges) rest ≡ slice_index_or objects (rest / (left / length objects)) 0 ∷ choice N (drop (i + 1) ranges) (rest % (left / length objects))

  pub step-at : (ranges : List ℕ) (i left rest d : ℕ) (objects : List ℕ) → objects ≡ range_at N (get_or ranges i d) → i < length ranges → left ≡ choice_count N (drop i ranges) → rest < left → Step ranges i left rest objects
  step-at ranges i left rest d objects here inside is within = subst (Step ranges i left rest) (sym here) by
    where
      by : Step ranges i left rest (range_at N (get_or ranges i d))
      by =
          let size = length (range_at N (get_or ranges i d)) in
          let stride = choice_count N (drop (i + 1) ranges) in
          let product : left ≡ size * stride = is ∙ count-next ranges i d inside in
          let some = positive rest size stride (omega (arith, product, within)) in
          let swap : size * stride ≡ stride * size + 0 = omega arith in
          let quotient : left / size ≡ stride = ap (λ n. n / size) (product ∙ swap) ∙ div-mul-add stride size 0 some.1 in
          record {
            some = some.1;
            stretch = subst (λ n. 0 < n) (sym quotient) some.0;
            behind = quotient;
            within = mod_below rest (left / size) (subst (λ n. 0 < n) (sym quotient) some.0);
            choice = choice-next ranges i d rest inside ∙ (λ j. slice_index_or (range_at N (get_or ranges i d)) (rest / sym quotient j) 0 ∷ choice N (drop (i + 1) ranges) (rest % sym quotient j));
          }

  pub length-bound : (slots ranges : List ℕ) → length (bound N slots ranges) ≡ choice_count N ranges
  length-bound slots ranges = length-map (tuples_of N ranges) (λ tuple. slots ++ tuple) ∙ length-tuples ranges

  pub bound-at : (slots ranges inner : List ℕ) (number : ℕ) → number < choice_count N ranges → inner ≡ slots ++ choice N ranges number → inner ≡ get_or (bound N slots ranges) number inner
  bound-at slots ranges inner number within is =
      is ∙ ap (λ tuple. slots ++ tuple) (sym (choice-tuples ranges number within))
      ∙ sym (get_or-map (λ tuple. slots ++ tuple) (tuples_of N ranges) number [] inner (subst (λ n. number < n) (sym (length-tuples ranges)) within))
