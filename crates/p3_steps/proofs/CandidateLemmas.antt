-- The candidates of one range more are those that come behind the candidates of the ranges before.
use Rattle.std.proofs.Common.{◌≡◌, ◌∙◌, ℕ, ◌+◌, ◌*◌, ◌/◌, ◌%◌, ◌<◌, ◌≤◌, Bool, true, false, List, [], ◌∷◌, ◌++◌, map, length, take, drop, get_or, refl, sym, ap, subst, add-one, arith, append_assoc, zero, suc, if◌then◌else◌}
use Rattle.std.specs.Prelude.{flat_map}
use Rattle.std.specs.List.{All, filter, range_with_len}
use Rattle.std.proofs.Math.Nat.{add-mul, suc-mul, mul-suc, mul-le-mul_right, mul_assoc, mul_comm, div-div-eq-div-mul}
use Rattle.std.proofs.lemmas.Grind.{flat_map-append}
use Rattle.std.proofs.lemmas.List.{append-nil, drop-append-le, drop_all, length-take-le, map-append, map-id, take-append-drop, take_more}
use Rattle.std.proofs.lemmas.List.Elements.{All-filter}
use Rattle.std.proofs.lemmas.List.FromFn.{filter_of_map_range_with_len_more, get_or-range_with_len, length-range_with_len}
use Rattle.std.proofs.lemmas.Nat.{div-add-mod', div-mul-add, mod_below, mod-mul-add}
use Rattle.p3_task.specs.Sides.{step_count_limit}
use Rattle.p3_numbers.specs.Choices.{choice_count, choice}
use Rattle.p3_numbers.specs.Slots.{range_at}
use Rattle.p3_numbers.specs.declared.goal.NumberedGoal.{NumberedGoal}
use Rattle.p3_numbers.specs.declared.numbers.Numbers.{Numbers}
use Rattle.p3_expansion.specs.declared.statics.Statics.{Statics}
use Rattle.p3_steps.specs.Candidates.{first_open, open_choices, may_take, first_taken, taken_behind}
use Rattle.p3_steps.specs.Possible.{may_yet_begin}
use Rattle.p3_steps.proofs.PossibleLaws.{cannot-narrower}

-- ---- numbers that pass a test

filter-more : (p : ℕ → Bool) (n : ℕ) → filter p (range_with_len 0 (n + 1)) ≡ filter p (range_with_len 0 n) ++ (if p n then n ∷ [] else [])
filter-more p n =
    sym (ap (filter p) (map-id (range_with_len 0 (n + 1)))) ∙ filter_of_map_range_with_len_more p (λ k. k) 0 n n (omega arith)
    ∙ ap (λ all. filter p all ++ (if p n then n ∷ [] else [])) (map-id (range_with_len 0 n))

-- those behind the first so many are those of another test, moved
filter-behind : (p q : ℕ → Bool) (base n : ℕ) → ((k : ℕ) → k < n → p (base + k) ≡ q k)
    → filter p (range_with_len 0 (base + n)) ≡ filter p (range_with_len 0 base) ++ map (λ k. base + k) (filter q (range_with_len 0 n))
filter-behind p q base zero same = ap (λ n. filter p (range_with_len 0 n)) (omega arith) ∙ sym (append-nil (filter p (range_with_len 0 base)))
filter-behind p q base (suc n) same =
    ap (λ n. filter p (range_with_len 0 n)) (omega arith) ∙ filter-more p (base + n)
    ∙ (λ i. filter-behind p q base n (λ k below. same k (omega (arith, below))) i ++ one (q n) (same n (omega arith)) i)
    ∙ append_assoc (filter p (range_with_len 0 base)) (map (λ k. base + k) (filter q (range_with_len 0 n))) _
    ∙ ap (λ more. filter p (range_with_len 0 base) ++ more)
    (sym (map-append (λ k. base + k) (filter q (range_with_len 0 n)) (if q n then n ∷ [] else [])) ∙ ap (map (λ k. base + k)) (sym (filter-more q n) ∙ ap (λ n. filter q (range_with_len 0 n)) (add-one n)))
  where
    one : (passes : Bool) → p (base + n) ≡ passes → (if p (base + n) then (base + n) ∷ [] else []) ≡ map (λ k. base + k) (if passes then n ∷ [] else [])
    one true is = ap (λ passes. if passes then (base + n) ∷ [] else []) is
    one false is = ap (λ passes. if passes then (base + n) ∷ [] else []) is

filter-nothing : (xs : List ℕ) → filter (λ _. false) xs ≡ []
filter-nothing [] = refl
filter-nothing (x ∷ xs) = filter-nothing xs

none-behind : (p : ℕ → Bool) (base n : ℕ) → ((k : ℕ) → k < n → p (base + k) ≡ false) → filter p (range_with_len 0 (base + n)) ≡ filter p (range_with_len 0 base)
none-behind p base n fails =
    filter-behind p (λ _. false) base n fails
    ∙ ap (λ more. filter p (range_with_len 0 base) ++ map (λ k. base + k) more) (filter-nothing (range_with_len 0 n)) ∙ append-nil (filter p (range_with_len 0 base))

pub range-below : (count : ℕ) → All (λ number. number < count) (range_with_len 0 count)
range-below count k d within =
    let inside : k < count = subst (λ n. k < n) (length-range_with_len 0 count) within in
    subst (λ n. n < count) (sym (get_or-range_with_len 0 count k d inside)) (omega (arith, inside))

-- those that pass a test are below the count of all
pub passing-below : (test : ℕ → Bool) (count : ℕ) → All (λ number. number < count) (filter test (range_with_len 0 count))
passing-below test count = All-filter test (λ number. number < count) (range_with_len 0 count) (range-below count)

-- ---- choices of some ranges and then others

positive : (q length count : ℕ) → q < length * count → 0 < count
positive q length zero within = absurd (omega (arith, within))
positive q length (suc count) within = omega arith

stretch-inside : (digit count inner r : ℕ) → digit < count → r < inner → digit * inner + r < count * inner
stretch-inside digit count inner r below within = omega (arith, within, mul-le-mul_right {m = suc digit} {n = count} inner (omega (arith, below)), suc-mul digit inner)

module _ (N : Numbers) where
  count-append : (before behind : List ℕ) → choice_count N (before ++ behind) ≡ choice_count N before * choice_count N behind
  unfolding choice_count
  count-append [] behind = omega arith
  count-append (range ∷ before) behind = ap (λ n. length (range_at N range) * n) (count-append before behind) ∙ sym (mul_assoc (length (range_at N range)) (choice_count N before) (choice_count N behind))

  choice-append : (before behind : List ℕ) (q r : ℕ) → q < choice_count N before → r < choice_count N behind → choice N (before ++ behind) (q * choice_count N behind + r) ≡ choice N before q ++ choice N behind r
  unfolding choice_count choice
  choice-append [] behind zero r below within = ap (choice N behind) (omega arith)
  choice-append [] behind (suc q) r below within = absurd (omega (arith, below))
  choice-append (range ∷ before) behind q r below within =
      let objects = range_at N range in
      let outer = choice_count N before in
      let inner = choice_count N behind in
      let whole : choice_count N (before ++ behind) ≡ outer * inner = count-append before behind in
      let some : 0 < outer = positive q (length objects) outer below in
      let digit : (q * inner + r) / choice_count N (before ++ behind) ≡ q / outer =
      ap (λ n. (q * inner + r) / n) (whole ∙ mul_comm outer inner) ∙ sym (div-div-eq-div-mul (q * inner + r) inner outer) ∙ ap (λ n. n / outer) (div-mul-add q inner r within)
      in
      let low : q % outer < outer = mod_below q outer some in
      let parts : q * inner + r ≡ (q / outer) * (outer * inner) + ((q % outer) * inner + r) =
      ap (λ n. n * inner + r) (sym (div-add-mod' q outer)) ∙ ap (λ n. n + r) (add-mul ((q / outer) * outer) (q % outer) inner)
      ∙ ap (λ n. n + (q % outer) * inner + r) (mul_assoc (q / outer) outer inner) ∙ omega arith
      in
      let rest : (q * inner + r) % choice_count N (before ++ behind) ≡ (q % outer) * inner + r =
      (λ i. parts i % whole i) ∙ mod-mul-add (q / outer) (outer * inner) ((q % outer) * inner + r) (stretch-inside (q % outer) outer inner r low within)
      in
      (λ i. get_or objects (digit i) 0 ∷ choice N (before ++ behind) (rest i)) ∙ ap (λ more. get_or objects (q / outer) 0 ∷ more) (choice-append before behind (q % outer) r low within)

  count-one : (range : ℕ) → choice_count N (range ∷ []) ≡ length (range_at N range)
  unfolding choice_count
  count-one range = omega arith

  pub count-none : 1 ≡ choice_count N []
  unfolding choice_count
  count-none = refl

  pub choice-length : (ranges : List ℕ) (number : ℕ) → length (choice N ranges number) ≡ length ranges
  unfolding choice
  choice-length [] number = refl
  choice-length (range ∷ ranges) number = ap suc (choice-length ranges (number % choice_count N ranges))

  choice-one : (range place : ℕ) → choice N (range ∷ []) place ≡ get_or (range_at N range) place 0 ∷ []
  unfolding choice_count choice
  choice-one range place = ap (λ n. get_or (range_at N range) n 0 ∷ []) (omega arith)

  -- of one range alone
  pub choice-single : (ranges : List ℕ) (number : ℕ) → 1 ≤ length ranges → length ranges < 2 → choice N ranges number ≡ get_or (range_at N (get_or ranges 0 0)) number 0 ∷ []
  choice-single [] number some few = absurd (omega (arith, some))
  choice-single (range ∷ []) number some few = choice-one range number
  choice-single (range ∷ other ∷ more) number some few = absurd (omega (arith, few))

  pub count-more : (ranges : List ℕ) (place : ℕ) → place < length ranges → choice_count N (take (place + 1) ranges) ≡ choice_count N (take place ranges) * length (range_at N (get_or ranges place 0))
  count-more ranges place within =
      ap (choice_count N) (take_more ranges place 0 within) ∙ count-append (take place ranges) (get_or ranges place 0 ∷ []) ∙ ap (λ n. choice_count N (take place ranges) * n) (count-one (get_or ranges place 0))

  pub count-within : (ranges : List ℕ) (place : ℕ) → 0 < choice_count N ranges → choice_count N (take place ranges) ≤ choice_count N ranges
  count-within ranges place some = by (choice_count N (take place ranges)) (choice_count N (drop place ranges)) (ap (choice_count N) (sym (take-append-drop place ranges)) ∙ count-append (take place ranges) (drop place ranges))
    where
      by : (before behind : ℕ) → choice_count N ranges ≡ before * behind → before ≤ choice_count N ranges
      by before zero is = absurd (omega (arith, is, some))
      by before (suc behind) is = omega (arith, is, mul-suc before behind)

-- ---- one range more

module _ (N : Numbers) (S : Statics) (goal : NumberedGoal) (start ones : List ℕ) (range : ℕ) (single : choice_count N ones ≡ 1) where
  abbrev objects : List ℕ
  objects = range_at N range

  count-before : choice_count N (start ++ ones) ≡ choice_count N start
  count-before = count-append N start ones ∙ ap (λ n. choice_count N start * n) single ∙ omega arith

  choice-before : (q : ℕ) → q < choice_count N start → choice N (start ++ ones) q ≡ choice N start q ++ choice N ones 0
  choice-before q below =
      let here : q ≡ q * choice_count N ones + 0 = sym ((λ i. q * single i + 0) ∙ omega arith) in
      ap (choice N (start ++ ones)) here ∙ choice-append N start ones q 0 below (omega (arith, single))

  choice-behind : (q place : ℕ) → q < choice_count N start → place < length objects
      → choice N ((start ++ ones) ++ range ∷ []) (q * length objects + place) ≡ choice N (start ++ ones) q ++ get_or objects place 0 ∷ []
  choice-behind q place below within =
      ap (λ n. choice N ((start ++ ones) ++ range ∷ []) (q * n + place)) (sym (count-one N range))
      ∙ choice-append N (start ++ ones) (range ∷ []) q place (omega (arith, below, count-before)) (omega (arith, within, count-one N range))
      ∙ ap (λ more. choice N (start ++ ones) q ++ more) (choice-one N range place)

  behind-fails : (q place : ℕ) → q < choice_count N start → place < length objects → may_yet_begin N S (choice N start q) goal ≡ false
      → may_yet_begin N S (choice N ((start ++ ones) ++ range ∷ []) (q * length objects + place)) goal ≡ false
  behind-fails q place below within fails =
      ap (λ slots. may_yet_begin N S slots goal)
      (choice-behind q place below within ∙ ap (λ slots. slots ++ get_or objects place 0 ∷ []) (choice-before q below) ∙ append_assoc (choice N start q) (choice N ones 0) (get_or objects place 0 ∷ []))
      ∙ cannot-narrower N S (choice N start q) (choice N ones 0 ++ get_or objects place 0 ∷ []) goal fails

  abbrev wide : ℕ → List ℕ
  wide n = first_open N S ((start ++ ones) ++ range ∷ []) goal n

  up-to : (count : ℕ) → count ≤ choice_count N start
      → flat_map (taken_behind N S goal (start ++ ones) objects) (first_open N S start goal count) ≡ first_open N S ((start ++ ones) ++ range ∷ []) goal (count * length objects)
  up-to zero within = ap (first_open N S ((start ++ ones) ++ range ∷ []) goal) none
    where
      none : 0 ≡ 0 * length (range_at N range)
      none = omega arith
  up-to (suc count) within =
      ap (λ n. flat_map (taken_behind N S goal (start ++ ones) objects) (first_open N S start goal n)) (sym (add-one count))
      ∙ ap (flat_map (taken_behind N S goal (start ++ ones) objects)) (filter-more (λ number. may_yet_begin N S (choice N start number) goal) count)
      ∙ flat_map-append (taken_behind N S goal (start ++ ones) objects) (first_open N S start goal count) _
      ∙ ap (λ front. front ++ flat_map (taken_behind N S goal (start ++ ones) objects) (if may_yet_begin N S (choice N start count) goal then count ∷ [] else [])) (up-to count (omega (arith, within)))
      ∙ by (may_yet_begin N S (choice N start count) goal) refl
      ∙ ap (first_open N S ((start ++ ones) ++ range ∷ []) goal) whole
    where
      whole : count * length (range_at N range) + length (range_at N range) ≡ suc count * length (range_at N range)
      whole = omega (arith, suc-mul count (length (range_at N range)))

      by : (may : Bool) → may_yet_begin N S (choice N start count) goal ≡ may
          → wide (count * length objects) ++ flat_map (taken_behind N S goal (start ++ ones) objects) (if may then count ∷ [] else []) ≡ wide (count * length objects + length objects)
      by true is =
          ap (λ more. wide (count * length objects) ++ more) (append-nil (taken_behind N S goal (start ++ ones) objects count))
          ∙ sym (filter-behind (λ number. may_yet_begin N S (choice N ((start ++ ones) ++ range ∷ []) number) goal) (may_take N S goal (choice N (start ++ ones) count) objects) (count * length objects) (length objects)
          (λ place below. ap (λ slots. may_yet_begin N S slots goal) (choice-behind count place (omega (arith, within)) below)))
      by false is =
          append-nil (wide (count * length objects))
          ∙ sym (none-behind (λ number. may_yet_begin N S (choice N ((start ++ ones) ++ range ∷ []) number) goal) (count * length objects) (length objects) (λ place below. behind-fails count place (omega (arith, within)) below is))

  all-behind : flat_map (taken_behind N S goal (start ++ ones) objects) (open_choices N S start goal) ≡ open_choices N S ((start ++ ones) ++ range ∷ []) goal
  all-behind =
      up-to (choice_count N start) (omega arith)
      ∙ ap (first_open N S ((start ++ ones) ++ range ∷ []) goal) (sym (count-append N (start ++ ones) (range ∷ []) ∙ (λ i. count-before i * count-one N range i)))

-- ---- places of ranges

module _ (N : Numbers) (ranges : List ℕ) where
  -- no range between
  pub none-between : (place : ℕ) → choice_count N (drop place (take place ranges)) ≡ 1
  unfolding choice_count
  none-between place = ap (choice_count N) (drop_all place (take place ranges) (short place ranges))
    where
      short : (n : ℕ) (xs : List ℕ) → length (take n xs) ≤ n
      short zero xs = omega arith
      short (suc n) [] = omega arith
      short (suc n) (x ∷ xs) = let rest = short n xs in omega (arith, rest)

  -- a range of one object more
  pub one-between : (place last : ℕ) → place ≤ last → last < length ranges → choice_count N (drop place (take last ranges)) ≡ 1 → length (range_at N (get_or ranges last 0)) ≡ 1
      → choice_count N (drop place (take (last + 1) ranges)) ≡ 1
  one-between place last on within ones one =
      ap (λ more. choice_count N (drop place more)) (take_more ranges last 0 within)
      ∙ ap (choice_count N) (drop-append-le place (take last ranges) (get_or ranges last 0 ∷ []) (subst (λ n. place ≤ n) (sym (length-take-le last ranges (omega (arith, within)))) on))
      ∙ count-append N (drop place (take last ranges)) (get_or ranges last 0 ∷ [])
      ∙ (λ i. ones i * (count-one N (get_or ranges last 0) ∙ one) i)

  before-last : (place last : ℕ) → place ≤ last → last < length ranges → take last ranges ≡ take place ranges ++ drop place (take last ranges)
  before-last place last on within =
      sym (take-append-drop place (take last ranges)) ∙ ap (λ front. front ++ drop place (take last ranges)) (take-less place last ranges on)
    where
      take-less : (n m : ℕ) (xs : List ℕ) → n ≤ m → take n (take m xs) ≡ take n xs
      take-less zero m xs less = refl
      take-less (suc n) zero xs less = absurd (omega (arith, less))
      take-less (suc n) (suc m) [] less = refl
      take-less (suc n) (suc m) (x ∷ xs) less = ap (λ more. x ∷ more) (take-less n m xs (omega (arith, less)))

  module _ (S : Statics) (goal : NumberedGoal) (place last : ℕ) (on : place ≤ last) (within : last < length ranges) (ones : choice_count N (drop place (take last ranges)) ≡ 1) where
    pub count-between : choice_count N (take last ranges) ≡ choice_count N (take place ranges)
    count-between = ap (choice_count N) (before-last place last on within) ∙ count-before N S goal (take place ranges) (drop place (take last ranges)) 0 ones

    -- the candidates of all ranges up to the last are those that come behind the ones of the ranges before the place
    pub candidates-more : flat_map (taken_behind N S goal (take last ranges) (range_at N (get_or ranges last 0))) (open_choices N S (take place ranges) goal) ≡ open_choices N S (take (last + 1) ranges) goal
    candidates-more =
        ap (λ before. flat_map (taken_behind N S goal before (range_at N (get_or ranges last 0))) (open_choices N S (take place ranges) goal)) (before-last place last on within)
        ∙ all-behind N S goal (take place ranges) (drop place (take last ranges)) (get_or ranges last 0) ones
        ∙ ap (λ front. open_choices N S (front ++ get_or ranges last 0 ∷ []) goal) (sym (before-last place last on within))
        ∙ ap (λ all. open_choices N S all goal) (sym (take_more ranges last 0 within))

    -- how many choices of all ranges up to the last there are
    module _ (items : List ℕ) (count : ℕ) (here : items ≡ range_at N (get_or ranges last 0)) (counted : count ≡ choice_count N (take place ranges)) where
      pub whole-behind : count * length items ≡ choice_count N (take (last + 1) ranges)
      whole-behind = (λ i. (counted ∙ sym count-between) i * length (here i)) ∙ sym (count-more N ranges last within)

      pub few-behind : 0 < choice_count N ranges → choice_count N ranges ≤ step_count_limit → count * length items ≤ step_count_limit
      few-behind some few = let less = count-within N ranges (last + 1) some in let whole = whole-behind in omega (arith, whole, less, few)

-- ---- one object more

pub taken-more : (N : Numbers) (S : Statics) (goal : NumberedGoal) (slots objects : List ℕ) (first count : ℕ) (taken : List ℕ)
    → (taken ++ first_taken N S goal slots objects first count) ++ (if may_take N S goal slots objects count then (first + count) ∷ [] else []) ≡ taken ++ first_taken N S goal slots objects first (count + 1)
taken-more N S goal slots objects first count taken =
    append_assoc taken (first_taken N S goal slots objects first count) _
    ∙ ap (λ more. taken ++ more)
    (ap (λ more. first_taken N S goal slots objects first count ++ more) (by (may_take N S goal slots objects count))
    ∙ sym (ap (map (λ place. first + place)) (filter-more (may_take N S goal slots objects) count)
    ∙ map-append (λ place. first + place) (filter (may_take N S goal slots objects) (range_with_len 0 count)) (if may_take N S goal slots objects count then count ∷ [] else [])))
  where
    by : (may : Bool) → (if may then (first + count) ∷ [] else []) ≡ map (λ place. first + place) (if may then count ∷ [] else [])
    by true = refl
    by false = refl

-- the choice of no object
pub none-chosen : (N : Numbers) (S : Statics) (goal : NumberedGoal) (may : Bool) → may_yet_begin N S [] goal ≡ may → (if may then 0 ∷ [] else []) ≡ open_choices N S [] goal
unfolding choice_count choice
none-chosen N S goal may is = ap (λ passes. if passes then 0 ∷ [] else []) (sym is)
