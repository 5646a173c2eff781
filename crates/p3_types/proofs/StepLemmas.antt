-- Steps by number.
use Rattle.std.proofs.Common.{◌≡◌, ◌∙◌, ℕ, zero, suc, ◌+◌, ◌*◌, ◌/◌, ◌%◌, ◌<◌, ◌≤◌, min, refl, sym, ap, subst, Bool, true, false, List, [], ◌∷◌, ◌++◌, map, length, get_or, take, drop, Some, arith, length-append}
use Rattle.std.specs.Prelude.{flat_map, slice_get, sum, nat_lt}
use Rattle.std.specs.List.{list_all}
use Rattle.std.proofs.lemmas.Nat.{div_below, mod_below}
use Rattle.std.proofs.lemmas.List.{drop_more, drop_all, length-map, take_more, take-map}
use Rattle.std.proofs.lemmas.List.Sums.{sum_by-cons, sum_by_push}
use Rattle.std.proofs.lemmas.Bool.{and_parts, and_from}
use borrow.Author.Tests.{ltb-true, ltb-false}
use Rattle.std.proofs.Math.Nat.{mul-div_cancel_left, mul-suc}
use Rattle.p3_task.proofs.OnceLemmas.{map_at, Some-injective}
use Rattle.p3_task.specs.Bindings.{tuples}
use Rattle.p3_task.specs.Lifting.{steps, steps_of}
use Rattle.p3_task.specs.Limits.{step_count}
use Rattle.p3_task.specs.declared.task.Action.{Action}
use Rattle.p3_task.specs.declared.task.Task.{Task}
use Rattle.p3_task.specs.declared.term.Typed.{Typed}
use Rattle.p3_numbers.proofs.BindingLemmas.{tuples_mean}
use Rattle.p3_numbers.specs.Places.{IsNumbering, ranges_of, are_known_types}
use Rattle.p3_numbers.specs.Slots.{range_at, object_names, tuples_of}
use Rattle.p3_numbers.specs.declared.numbers.Numbers.{Numbers}
use Rattle.p3_types.proofs.ChoiceLemmas.{positive, length-tuples, choice_at, count_more}
use Rattle.p3_numbers.specs.Choices.{choice_count, choice}
use Rattle.p3_types.specs.FirstSteps.{firsts_from, too_many}

-- ---- capped counts

min_product : (n m : ℕ) → min (min n too_many * m) too_many ≡ min (n * m) too_many
min_product n zero = omega arith
min_product n (suc m) = by (nat_lt too_many n) refl
  where
    many : too_many < n → min n too_many ≡ too_many
    many above = omega (arith, above)

    few : n ≤ too_many → min n too_many ≡ n
    few below = omega (arith, below)

    by : (t : Bool) → nat_lt too_many n ≡ t → min (min n too_many * suc m) too_many ≡ min (n * suc m) too_many
    by true e = let above = ltb-true too_many n e in let is = ap (λ k. k * suc m) (many above) in let first = mul-suc too_many m in let second = mul-suc n m in omega (arith, above, is, first, second)
    by false e = ap (λ k. min (k * suc m) too_many) (few (ltb-false too_many n e))

-- the count of one range more
pub capped_more : (N : Numbers) (ranges : List ℕ) (i count range : ℕ) → i < length ranges → range ≡ get_or ranges i 0 → count ≡ min (choice_count N (take i ranges)) too_many → min (count * length (range_at N range)) too_many ≡ min (choice_count N (take (i + 1) ranges)) too_many
capped_more N ranges i count range within at is =
    ap (λ k. min (k * length (range_at N range)) too_many) is ∙ min_product (choice_count N (take i ranges)) (length (range_at N range))
    ∙ ap (λ k. min k too_many) (sym (ap (choice_count N) (take_more ranges i 0 within ∙ ap (λ r. take i ranges ++ r ∷ []) (sym at)) ∙ count_more N (take i ranges) range))

pub capped_none : (N : Numbers) → 1 ≡ min (choice_count N []) too_many
unfolding choice_count
capped_none N = refl

pub next_first : (counts : List ℕ) (first count : ℕ) → first ≡ min (sum counts) too_many → min (first + min count too_many) too_many ≡ min (sum (counts ++ count ∷ [])) too_many
next_first counts first count is = omega (arith, is, sum_by_push (λ n. n) counts count)

pub firsts_more : (passed : ℕ) (counts : List ℕ) (count : ℕ) → firsts_from passed (counts ++ count ∷ []) ≡ firsts_from passed counts ++ min (passed + sum (counts ++ count ∷ [])) too_many ∷ []
firsts_more passed [] count = ap (λ k. min passed too_many ∷ min k too_many ∷ []) (omega (arith, sum_by-cons (λ n. n) count []))
firsts_more passed (first ∷ counts) count = ap (λ rest. min passed too_many ∷ rest) (firsts_more (passed + first) counts count ∙ ap (λ k. firsts_from (passed + first) counts ++ min k too_many ∷ []) (omega (arith, sum_by-cons (λ n. n) first (counts ++ count ∷ []))))

pub first_at : (passed : ℕ) (counts : List ℕ) (k : ℕ) → k ≤ length counts → get_or (firsts_from passed counts) k 0 ≡ min (passed + sum (take k counts)) too_many
first_at passed [] zero within = omega arith
first_at passed [] (suc k) within = absurd (omega arith)
first_at passed (count ∷ counts) zero within = omega arith
first_at passed (count ∷ counts) (suc k) within = first_at (passed + count) counts k (omega arith) ∙ ap (λ n. min n too_many) (omega (arith, sum_by-cons (λ n. n) count (take k counts)))

-- the first numbers with one action more
pub firsts_next : (counts : List ℕ) (count first : ℕ) → first ≡ min (sum (counts ++ count ∷ [])) too_many → firsts_from 0 counts ++ first ∷ [] ≡ firsts_from 0 (counts ++ count ∷ [])
firsts_next counts count first is =
    let at : min (sum (counts ++ count ∷ [])) too_many ≡ min (0 + sum (counts ++ count ∷ [])) too_many = omega arith in
    ap (λ n. firsts_from 0 counts ++ n ∷ []) (is ∙ at) ∙ sym (firsts_more 0 counts count)

pub firsts_length : (passed : ℕ) (counts : List ℕ) → length (firsts_from passed counts) ≡ length counts + 1
firsts_length passed [] = refl
firsts_length passed (count ∷ counts) = omega (arith, firsts_length (passed + count) counts)

-- ---- one argument more

pub record Next (N : Numbers) (ranges : List ℕ) (i rest block : ℕ) (objects : List ℕ) : Type 0 where
  pub some : 0 < length objects
  pub inner : block / length objects ≡ choice_count N (drop (i + 1) ranges)
  pub stretch : 0 < block / length objects
  pub digit : rest / (block / length objects) < length objects
  pub within : rest % (block / length objects) < block / length objects
  pub choice : choice N (drop i ranges) rest ≡ get_or objects (rest / (block / length objects)) 0 ∷ choice N (drop (i + 1) ranges) (rest % (block / length objects))

positive_left : (rest length stride : ℕ) → rest < length * stride → 0 < length
positive_left rest zero stride within = absurd (omega (arith, within))
positive_left rest (suc length) stride within = omega arith

next_by : (N : Numbers) (ranges : List ℕ) (i rest block range : ℕ) → drop i ranges ≡ range ∷ drop (i + 1) ranges → block ≡ length (range_at N range) * choice_count N (drop (i + 1) ranges) → rest < block → Next N ranges i rest block (range_at N range)
unfolding choice
next_by N ranges i rest block range cons is below =
    let len = length (range_at N range) in
    let others = drop (i + 1) ranges in
    let under : rest < len * choice_count N others = subst (λ n. rest < n) is below in
    let some : 0 < len = positive_left rest len (choice_count N others) under in
    let stretch : 0 < choice_count N others = positive rest len (choice_count N others) under in
    let inner : block / len ≡ choice_count N others = ap (λ n. n / len) is ∙ mul-div_cancel_left (choice_count N others) some in
    record {
      some = some;
      inner = inner;
      stretch = subst (λ n. 0 < n) (sym inner) stretch;
      digit = subst (λ n. rest / n < len) (sym inner) (div_below rest (choice_count N others) len stretch under);
      within = subst (λ n. rest % n < n) (sym inner) (mod_below rest (choice_count N others) stretch);
      choice = ap (λ all. choice N all rest) cons ∙ (λ k. get_or (range_at N range) (rest / sym inner k) 0 ∷ choice N others (rest % sym inner k));
    }

pub next_argument : (N : Numbers) (ranges objects : List ℕ) (i rest block : ℕ) → i < length ranges → objects ≡ range_at N (get_or ranges i 0) → block ≡ choice_count N (drop i ranges) → rest < block → Next N ranges i rest block objects
unfolding choice_count
next_argument N ranges objects i rest block within at is below =
    let cons : drop i ranges ≡ get_or ranges i 0 ∷ drop (i + 1) ranges = drop_more ranges i 0 within in
    subst (Next N ranges i rest block) (sym at) (next_by N ranges i rest block (get_or ranges i 0) cons (is ∙ ap (choice_count N) cons) below)

pub no_argument : (N : Numbers) (ranges : List ℕ) (i rest : ℕ) → length ranges ≤ i → choice N (drop i ranges) rest ≡ []
unfolding choice
no_argument N ranges i rest past = ap (λ left. choice N left rest) (drop_all i ranges past)

-- ---- the step of a number

slice_left : {X : Type 0} (xs ys : List X) (i : ℕ) (y : X) → slice_get xs i ≡ Some y → slice_get (xs ++ ys) i ≡ Some y
slice_left [] ys i y e = absurd (cc)
slice_left (x ∷ xs) ys zero y e = e
slice_left (x ∷ xs) ys (suc i) y e = slice_left xs ys i y e

slice_right : {X : Type 0} (xs ys : List X) (i j : ℕ) → j ≡ length xs + i → slice_get (xs ++ ys) j ≡ slice_get ys i
slice_right [] ys i j e = ap (slice_get ys) (e ∙ omega arith)
slice_right (x ∷ xs) ys i zero e = absurd (omega (arith, e))
slice_right (x ∷ xs) ys i (suc j) e = slice_right xs ys i j (omega (arith, e))

flat_at : {X Y : Type 0} (f : X → List Y) (xs : List X) (a rest j : ℕ) (x : X) (y : Y) → slice_get xs a ≡ Some x → slice_get (f x) rest ≡ Some y → j ≡ length (flat_map f (take a xs)) + rest → slice_get (flat_map f xs) j ≡ Some y
flat_at f [] a rest j x y e is at = absurd (cc)
flat_at f (z ∷ xs) zero rest j x y e is at =
    ap (slice_get (f z ++ flat_map f xs)) (at ∙ omega arith) ∙ slice_left (f z) (flat_map f xs) rest y (ap (λ v. slice_get (f v) rest) (Some-injective z x e) ∙ is)
flat_at f (z ∷ xs) (suc a) rest j x y e is at =
    let behind = length (flat_map f (take a xs)) + rest in
    slice_right (f z) (flat_map f xs) behind j (at ∙ omega (arith, length-append (f z) (flat_map f (take a xs))))
    ∙ flat_at f xs a rest behind x y e is refl

flat_length : {X Y : Type 0} (f : X → List Y) (xs : List X) → length (flat_map f xs) ≡ sum (map (λ x. length (f x)) xs)
flat_length f [] = refl
flat_length f (x ∷ xs) = length-append (f x) (flat_map f xs) ∙ ap (λ n. length (f x) + n) (flat_length f xs) ∙ sym (sum_by-cons (λ n. n) (length (f x)) (map (λ x. length (f x)) xs))

module _ (T : Task) (N : Numbers) (ties : IsNumbering T N) where
  abbrev pub count_at : Action → ℕ
  count_at action = choice_count N (ranges_of N action.params)

  abbrev pub AreKnown : List Action → Type 0
  AreKnown actions = list_all (λ (action : Action). are_known_types N action.params) actions ≡ true

  count_is : (action : Action) → are_known_types N action.params ≡ true → length (steps_of T action) ≡ count_at action
  count_is action known =
      length-map (tuples T action.params) (λ tuple. record { action = action.name.name; args = tuple })
      ∙ ap length (sym (tuples_mean T N ties action.params known)) ∙ length-map (tuples_of N (ranges_of N action.params)) (object_names N) ∙ length-tuples N (ranges_of N action.params)

  counts_are : (actions : List Action) → AreKnown actions → map (λ action. length (steps_of T action)) actions ≡ map count_at actions
  counts_are [] known = refl
  counts_are (action ∷ actions) known = let parts = and_parts _ _ known in (λ i. count_is action parts.0 i ∷ counts_are actions parts.1 i)

  known_first : (actions : List Action) (k : ℕ) → AreKnown actions → AreKnown (take k actions)
  known_first actions zero known = refl
  known_first [] (suc k) known = refl
  known_first (action ∷ actions) (suc k) known = let parts = and_parts _ _ known in and_from _ _ parts.0 (known_first actions k parts.1)

  first_steps_are : (actions : List Action) (k : ℕ) → AreKnown actions → length (flat_map (steps_of T) (take k actions)) ≡ sum (take k (map count_at actions))
  first_steps_are actions k known = flat_length (steps_of T) (take k actions) ∙ ap sum (counts_are (take k actions) (known_first actions k known) ∙ sym (take-map count_at k actions))

  pub step_count_is : AreKnown T.domain.actions → step_count T ≡ sum (map count_at T.domain.actions)
  unfolding steps
  step_count_is known = flat_length (steps_of T) T.domain.actions ∙ ap sum (counts_are T.domain.actions known)

  pub known_at : (actions : List Action) (a : ℕ) (action : Action) → AreKnown actions → slice_get actions a ≡ Some action → are_known_types N action.params ≡ true
  known_at [] a action known e = absurd (cc)
  known_at (other ∷ actions) zero action known e = ap (λ (v : Action). are_known_types N v.params) (sym (Some-injective other action e)) ∙ (and_parts _ _ known).0
  known_at (other ∷ actions) (suc a) action known e = known_at actions a action (and_parts (are_known_types N other.params) _ known).1 e

  tuple_at : (params : List Typed) (rest : ℕ) → are_known_types N params ≡ true → rest < choice_count N (ranges_of N params) → slice_get (tuples T params) rest ≡ Some (object_names N (choice N (ranges_of N params) rest))
  tuple_at params rest known within =
      ap (λ all. slice_get all rest) (sym (tuples_mean T N ties params known))
      ∙ map_at (object_names N) (tuples_of N (ranges_of N params)) rest (choice N (ranges_of N params) rest) (choice_at N (ranges_of N params) rest within)

  pub step_at : (a rest number : ℕ) (action : Action) → AreKnown T.domain.actions → slice_get T.domain.actions a ≡ Some action → rest < count_at action → number ≡ sum (take a (map count_at T.domain.actions)) + rest
      → slice_get (steps T) number ≡ Some (record { action = action.name.name; args = object_names N (choice N (ranges_of N action.params) rest) })
  unfolding steps
  step_at a rest number action known at within is =
      flat_at (steps_of T) T.domain.actions a rest number action _ at
      (map_at (λ tuple. record { action = action.name.name; args = tuple }) (tuples T action.params) rest _ (tuple_at action.params rest (known_at T.domain.actions a action known at) within))
      (is ∙ ap (λ n. n + rest) (sym (first_steps_are T.domain.actions a known)))
