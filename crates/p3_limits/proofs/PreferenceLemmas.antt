-- The instances of trees that are built of given parts, and how the one at a place is found.
use Rattle.std.proofs.Common.{◌≡◌, ◌∙◌, ℕ, ◌+◌, ◌*◌, ◌-◌, ◌/◌, ◌%◌, ◌<◌, ◌≤◌, ◌^◌, nat_lt, Bool, true, false, Option, Some, None, List, [], ◌∷◌, ◌++◌, map, length, refl, sym, ap, subst, arith, zero, suc, ◌⊎◌, inl, inr, length-append}
use Rattle.std.specs.Bool.{Decides}
use Rattle.std.specs.Prelude.{flat_map, slice_get, if◌then◌else◌}
use Rattle.std.proofs.Math.Nat.{suc-mul, le-mul_of_pos_right}
use Rattle.std.proofs.lemmas.Bool.Decides.{Decides-ltb, not_from_Decides}
use Rattle.std.proofs.lemmas.List.Folds.{flat_map-map}
use Rattle.std.proofs.lemmas.Nat.{div-add-mod', mod_below, mul-le}
use Rattle.std.proofs.lemmas.Option.{slice_get_past}
use denote.Hole.Carrier.{hidden}
use Rattle.p3_numbers.specs.Choices.{choice_count}
use Rattle.p3_numbers.specs.Folds.{fold_goal, fold_constraint}
use Rattle.p3_numbers.specs.declared.condition.NumberedCondition.{NumberedCondition}
use Rattle.p3_numbers.specs.declared.goal.NumberedPreference.{NumberedPreference}
use Rattle.p3_numbers.specs.declared.goal.NumberedGoal.{NumberedGoal}
use Rattle.p3_numbers.specs.declared.goal.NumberedGoal.TheBlock.{hidden-the_row-NumberedGoal-1}
use Rattle.p3_numbers.specs.declared.goal.NumberedGoal.TheVariants as goal
use Rattle.p3_numbers.specs.NumberedModal.{NumberedModal}
use Rattle.p3_numbers.specs.declared.constraint.NumberedConstraint.{NumberedConstraint}
use Rattle.p3_numbers.specs.declared.constraint.NumberedConstraint.TheBlock.{hidden-the_row-NumberedConstraint-1}
use Rattle.p3_numbers.specs.declared.constraint.NumberedConstraint.TheVariants as constraint
use Rattle.p3_numbers.specs.declared.numbers.Numbers.{Numbers}
use Rattle.p3_limits.specs.Cuts.{cut, cut_choices, cut_total, cut_sum}
use Rattle.p3_limits.specs.Preferences.{repeated, goal_offsets_layer, goal_offsets, constraint_offsets_layer, constraint_offsets, goal_count_layer, goal_count, constraint_count_layer, constraint_count, place_behind, place_within, item_at}
use Rattle.p3_limits.proofs.CutLaws.{cut-below, cut-least, cut-cases, cut-empty}
use Rattle.p3_limits.proofs.SizeLemmas.{hidden_goals, hidden_constraints, cut_total-map}

-- ---- repeated lists

pub length-repeated : {A : Type 0} (n : ℕ) (items : List A) → length (repeated n items) ≡ n * length items
length-repeated zero items = omega arith
length-repeated (suc n) items = length-append items (repeated n items) ∙ ap (λ k. length items + k) (length-repeated n items) ∙ omega (arith, suc-mul n (length items))

get-left : {A : Type 0} (xs ys : List A) (place : ℕ) → place < length xs → slice_get (xs ++ ys) place ≡ slice_get xs place
get-left [] ys place within = absurd (omega arith)
get-left (x ∷ xs) ys zero within = refl
get-left (x ∷ xs) ys (suc place) within = get-left xs ys place (omega arith)

pub get-right : {A : Type 0} (xs ys : List A) (place : ℕ) → slice_get (xs ++ ys) (length xs + place) ≡ slice_get ys place
get-right [] ys place = let e : 0 + place ≡ place = omega arith in ap (slice_get ys) e
get-right (x ∷ xs) ys place =
    let e : suc (length xs) + place ≡ suc (length xs + place) = omega arith in
    ap (slice_get (x ∷ (xs ++ ys))) e ∙ get-right xs ys place

-- the items of one of the times
get-repeated : {A : Type 0} (items : List A) (n times rest : ℕ) → rest < length items → times < n → slice_get (repeated n items) (times * length items + rest) ≡ slice_get items rest
get-repeated items zero times rest within below = absurd (omega arith)
get-repeated items (suc n) zero rest within below =
    let e : zero * length items + rest ≡ rest = omega arith in
    ap (slice_get (items ++ repeated n items)) e ∙ get-left items (repeated n items) rest within
get-repeated items (suc n) (suc times) rest within below =
    let e : suc times * length items + rest ≡ length items + (times * length items + rest) = omega (arith, suc-mul times (length items)) in
    ap (slice_get (items ++ repeated n items)) e ∙ get-right items (repeated n items) (times * length items + rest) ∙ get-repeated items n times rest within (omega arith)

-- ---- places behind

behind-none : (count place : ℕ) → place_behind count place ≡ None → place < count
behind-none count place = by (nat_lt place count) (Decides-ltb place count)
  where
    by : (t : Bool) → Decides t (place < count) → (if t then None else Some (place - count)) ≡ None → place < count
    by true told e = told.0 refl
    by false told e = absurd (cc)

pub behind-some : (count place left : ℕ) → place_behind count place ≡ Some left → (count ≤ place) × (left ≡ place - count)
behind-some count place left = by (nat_lt place count) (Decides-ltb place count)
  where
    by : (t : Bool) → Decides t (place < count) → (if t then None else Some (place - count)) ≡ Some left → (count ≤ place) × (left ≡ place - count)
    by true told e = absurd (cc)
    by false told e = let out = not_from_Decides false told refl in (omega (arith, out), cc)

pub get-here : {A : Type 0} (xs ys : List A) (count place : ℕ) → place < 2 ^ 32 → count ≡ cut (length xs) → place_behind count place ≡ None → slice_get (xs ++ ys) place ≡ slice_get xs place
get-here xs ys count place low is e = get-left xs ys place (cut-below place (length xs) low (subst (λ n. place < n) is (behind-none count place e)))

pub get-behind : {A : Type 0} (xs ys : List A) (count place left : ℕ) → place < 2 ^ 32 → count ≡ cut (length xs) → place_behind count place ≡ Some left → slice_get (xs ++ ys) place ≡ slice_get ys left
get-behind xs ys count place left low is e =
    let found = behind-some count place left e in
    let whole : length xs ≡ count = cut-least (length xs) count place low is found.0 in
    let place-is : place ≡ length xs + left = omega (arith, whole, found.0, found.1) in
    ap (slice_get (xs ++ ys)) place-is ∙ get-right xs ys left

-- ---- places within one of the choices

-- where a count was cut, the place stands in the first choice
digits : (q r c size place : ℕ) → q * c + r ≡ place → place < 2 ^ 32 → (c ≡ size) ⊎ (2 ^ 32 ≤ c) → place ≡ q * size + r
digits zero r c size place e low whole = omega arith
digits (suc q) r c size place e low (inl same) = sym e ∙ ap (λ n. suc q * n + r) same
digits (suc q) r c size place e low (inr great) = absurd (omega (arith, suc-mul q c))

past : (n q r c size place : ℕ) → q * c + r ≡ place → place < 2 ^ 32 → (c ≡ size) ⊎ (2 ^ 32 ≤ c) → n ≤ q → n * size ≤ place
past n q r c size place e low whole most =
    let is = digits q r c size place e low whole in
    let grows = mul-le n size q size most (omega arith) in
    omega (arith, is, grows)

module _ {A : Type 0} (items : List A) (n : ℕ) where
  get-some : (q r c place : ℕ) → q * c + r ≡ place → r < c → place < 2 ^ 32 → c ≡ cut (length items) → q < n → slice_get (repeated n items) place ≡ slice_get items r
  get-some q r c place e within low is below =
      let whole = cut-cases (length items) c is in
      ap (slice_get (repeated n items)) (digits q r c (length items) place e low whole.0) ∙ get-repeated items n q r (omega (arith, whole.1)) below

  get-none : (q r c place : ℕ) → q * c + r ≡ place → place < 2 ^ 32 → c ≡ cut (length items) → n ≤ q → slice_get (repeated n items) place ≡ None
  get-none q r c place e low is most =
      let whole = cut-cases (length items) c is in
      let bound = past n q r c (length items) place e low whole.0 most in
      slice_get_past (repeated n items) place (omega (arith, length-repeated n items, bound))

  pub get-within : (choices count place : ℕ) → place < 2 ^ 32 → choices ≡ cut n → count ≡ cut (length items) → slice_get (repeated n items) place ≡ item_at items (place_within choices count place)
  get-within choices zero place low chosen is =
      let none : length items ≡ 0 = cut-empty (length items) (sym is) in
      let nothing : n * length items ≡ 0 = ap (λ k. n * k) none ∙ omega arith in
      slice_get_past (repeated n items) place (omega (arith, length-repeated n items, nothing))
  get-within choices (suc count) place low chosen is = by (nat_lt (place / suc count) choices) (Decides-ltb (place / suc count) choices)
    where
      split : place / suc count * suc count + place % suc count ≡ place
      split = div-add-mod' place (suc count)

      small : place / suc count < 2 ^ 32
      small = let grows : place / suc count ≤ place / suc count * suc count = le-mul_of_pos_right (place / suc count) (omega arith) in omega (arith, split, grows)

      by : (t : Bool) → Decides t (place / suc count < choices) → slice_get (repeated n items) place ≡ item_at items (if t then Some (place % suc count) else None)
      by true told = get-some (place / suc count) (place % suc count) (suc count) place split (mod_below place (suc count) (omega arith)) low is (cut-below (place / suc count) n small (subst (λ k. place / suc count < k) chosen (told.0 refl)))
      by false told =
          let out = not_from_Decides false told refl in
          let least : choices ≤ place / suc count = omega (arith, out) in
          let whole : n ≡ choices = cut-least n choices (place / suc count) small chosen least in
          get-none (place / suc count) (place % suc count) (suc count) place split low is (omega (arith, whole, least))

-- ---- goals

module _ (N : Numbers) where
  pub goal_count-Both : (parts : List NumberedGoal) → goal_count N (goal.Both parts) ≡ cut_total (goal_count N) 0 parts
  unfolding goal_count
  goal_count-Both parts = ap (cut_sum 0) (hidden_goals (goal_count_layer N) parts) ∙ cut_total-map (fold_goal (goal_count_layer N)) 0 parts

  pub goal_count-Each : (ranges : List ℕ) (body : NumberedGoal) → goal_count N (goal.Each ranges body) ≡ cut (cut_choices N ranges * goal_count N body)
  unfolding goal_count hidden-the_row-NumberedGoal-1 hidden
  goal_count-Each ranges body = refl

  pub goal_count-Plain : (body : NumberedCondition) → goal_count N (goal.Plain body) ≡ 0
  unfolding goal_count
  goal_count-Plain body = refl

  pub goal_count-Soft : (preference : NumberedPreference) → goal_count N (goal.Soft preference) ≡ 1
  unfolding goal_count
  goal_count-Soft preference = refl

  pub goal_offsets-Both : (parts : List NumberedGoal) → goal_offsets N (goal.Both parts) ≡ flat_map (goal_offsets N) parts
  unfolding goal_offsets
  goal_offsets-Both parts = ap (flat_map (λ part. part)) (hidden_goals (goal_offsets_layer N) parts) ∙ flat_map-map (λ part. part) _ parts

  pub goal_offsets-Each : (ranges : List ℕ) (body : NumberedGoal) → goal_offsets N (goal.Each ranges body) ≡ repeated (choice_count N ranges) (goal_offsets N body)
  unfolding goal_offsets hidden-the_row-NumberedGoal-1 hidden
  goal_offsets-Each ranges body = refl

  pub goal_offsets-Plain : (body : NumberedCondition) → goal_offsets N (goal.Plain body) ≡ []
  unfolding goal_offsets
  goal_offsets-Plain body = refl

  pub goal_offsets-Soft : (preference : NumberedPreference) → goal_offsets N (goal.Soft preference) ≡ preference.at ∷ []
  unfolding goal_offsets
  goal_offsets-Soft preference = refl

  -- ---- constraints

  pub constraint_count-Both : (parts : List NumberedConstraint) → constraint_count N (constraint.Both parts) ≡ cut_total (constraint_count N) 0 parts
  unfolding constraint_count
  constraint_count-Both parts = ap (cut_sum 0) (hidden_constraints (constraint_count_layer N) parts) ∙ cut_total-map (fold_constraint (constraint_count_layer N)) 0 parts

  pub constraint_count-Each : (ranges : List ℕ) (body : NumberedConstraint) → constraint_count N (constraint.Each ranges body) ≡ cut (cut_choices N ranges * constraint_count N body)
  unfolding constraint_count hidden-the_row-NumberedConstraint-1 hidden
  constraint_count-Each ranges body = refl

  pub constraint_count-Single : (operator : NumberedModal) → constraint_count N (constraint.Single operator) ≡ 0
  unfolding constraint_count
  constraint_count-Single operator = refl

  pub constraint_count-Soft : (at : ℕ) (name : Option ℕ) (body : NumberedConstraint) → constraint_count N (constraint.Soft at name body) ≡ 1
  unfolding constraint_count
  constraint_count-Soft at name body = refl

  pub constraint_offsets-Both : (parts : List NumberedConstraint) → constraint_offsets N (constraint.Both parts) ≡ flat_map (constraint_offsets N) parts
  unfolding constraint_offsets
  constraint_offsets-Both parts = ap (flat_map (λ part. part)) (hidden_constraints (constraint_offsets_layer N) parts) ∙ flat_map-map (λ part. part) _ parts

  pub constraint_offsets-Each : (ranges : List ℕ) (body : NumberedConstraint) → constraint_offsets N (constraint.Each ranges body) ≡ repeated (choice_count N ranges) (constraint_offsets N body)
  unfolding constraint_offsets hidden-the_row-NumberedConstraint-1 hidden
  constraint_offsets-Each ranges body = refl

  pub constraint_offsets-Single : (operator : NumberedModal) → constraint_offsets N (constraint.Single operator) ≡ []
  unfolding constraint_offsets
  constraint_offsets-Single operator = refl

  pub constraint_offsets-Soft : (at : ℕ) (name : Option ℕ) (body : NumberedConstraint) → constraint_offsets N (constraint.Soft at name body) ≡ at ∷ []
  unfolding constraint_offsets
  constraint_offsets-Soft at name body = refl

pub ruleset goal_counts = (goal_count-Both, goal_count-Each, goal_count-Plain, goal_count-Soft)

pub ruleset constraint_counts = (constraint_count-Both, constraint_count-Each, constraint_count-Single, constraint_count-Soft)

pub ruleset goal_places = (goal_offsets-Both, goal_offsets-Each, goal_offsets-Plain, goal_offsets-Soft)

pub ruleset constraint_places = (constraint_offsets-Both, constraint_offsets-Each, constraint_offsets-Single, constraint_offsets-Soft)
