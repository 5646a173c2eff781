-- How the instance at a place is found among parts, and among the choices of objects.
use Rattle.std.proofs.Common.{◌≡◌, ◌∙◌, ℕ, ◌+◌, ◌-◌, ◌<◌, ◌≤◌, ◌^◌, nat_lt, Bool, true, false, Option, Some, None, List, [], ◌∷◌, ◌++◌, map, length, drop, get_or, refl, sym, ap, arith, zero, suc}
use Rattle.std.specs.Option.{option_map}
use Rattle.std.specs.Prelude.{flat_map, slice_get}
use Rattle.std.proofs.lemmas.List.{at_drop_more, length-map}
use Rattle.std.proofs.lemmas.Option.{slice_get-map}
use Rattle.p3_numbers.specs.Choices.{choice_count}
use Rattle.p3_numbers.specs.declared.constraint.NumberedConstraint.{NumberedConstraint}
use Rattle.p3_numbers.specs.declared.constraint.NumberedConstraint.TheVariants as constraint
use Rattle.p3_numbers.specs.declared.goal.NumberedGoal.{NumberedGoal}
use Rattle.p3_numbers.specs.declared.goal.NumberedGoal.TheVariants as goal
use Rattle.p3_numbers.specs.declared.numbers.Numbers.{Numbers}
use Rattle.p3_limits.specs.Cuts.{cut, cut_choices}
use Rattle.p3_limits.specs.Preferences.{goal_offsets, constraint_offsets, goal_count, constraint_count, place_behind, place_within, item_at}
use Rattle.p3_limits.proofs.CutLaws.{cut-choices}
use Rattle.p3_limits.proofs.PreferenceLaws.{goal-counted, constraint-counted}
use Rattle.p3_limits.proofs.PreferenceLemmas.{get-here, get-behind, behind-some, get-within, goal_offsets-Each, constraint_offsets-Each}

-- a place in what is left is no greater
pub behind-least : (count place left : ℕ) → place_behind count place ≡ Some left → left ≤ place
behind-least count place left e = let found = behind-some count place left e in omega (arith, found.0, found.1)

-- ---- parts

module _ {A : Type 0} (offsets : A → List ℕ) (count : A → ℕ) (counted : (x : A) → count x ≡ cut (length (offsets x))) (parts : List A) (i : ℕ) (x : A) (place n : ℕ) where
  next-part : i < length parts → x ≡ get_or parts i x → slice_get (flat_map offsets (drop i parts)) place ≡ slice_get (offsets x ++ flat_map offsets (drop (i + 1) parts)) place
  next-part within at =
      at_drop_more (λ rest. slice_get (flat_map offsets rest) place) parts i x within
      ∙ ap (λ y. slice_get (offsets y ++ flat_map offsets (drop (i + 1) parts)) place) (sym at)

  part-here : i < length parts → x ≡ get_or parts i x → place < 2 ^ 32 → n ≡ count x → place_behind n place ≡ None → slice_get (flat_map offsets (drop i parts)) place ≡ slice_get (offsets x) place
  part-here within at low is e = next-part within at ∙ get-here (offsets x) (flat_map offsets (drop (i + 1) parts)) n place low (is ∙ counted x) e

  part-behind : (left : ℕ) → i < length parts → x ≡ get_or parts i x → place < 2 ^ 32 → n ≡ count x → place_behind n place ≡ Some left
      → slice_get (flat_map offsets (drop i parts)) place ≡ slice_get (flat_map offsets (drop (i + 1) parts)) left
  part-behind left within at low is e = next-part within at ∙ get-behind (offsets x) (flat_map offsets (drop (i + 1) parts)) n place left low (is ∙ counted x) e

module _ (N : Numbers) where
  pub goal-here : (parts : List NumberedGoal) (i : ℕ) (x : NumberedGoal) (place n : ℕ) → i < length parts → x ≡ get_or parts i x → place < 2 ^ 32 → n ≡ goal_count N x → place_behind n place ≡ None
      → slice_get (flat_map (goal_offsets N) (drop i parts)) place ≡ slice_get (goal_offsets N x) place
  goal-here = part-here (goal_offsets N) (goal_count N) (goal-counted N)

  pub goal-behind : (parts : List NumberedGoal) (i : ℕ) (x : NumberedGoal) (place n left : ℕ) → i < length parts → x ≡ get_or parts i x → place < 2 ^ 32 → n ≡ goal_count N x → place_behind n place ≡ Some left
      → slice_get (flat_map (goal_offsets N) (drop i parts)) place ≡ slice_get (flat_map (goal_offsets N) (drop (i + 1) parts)) left
  goal-behind = part-behind (goal_offsets N) (goal_count N) (goal-counted N)

  pub constraint-here : (parts : List NumberedConstraint) (i : ℕ) (x : NumberedConstraint) (place n : ℕ) → i < length parts → x ≡ get_or parts i x → place < 2 ^ 32 → n ≡ constraint_count N x → place_behind n place ≡ None
      → slice_get (flat_map (constraint_offsets N) (drop i parts)) place ≡ slice_get (constraint_offsets N x) place
  constraint-here = part-here (constraint_offsets N) (constraint_count N) (constraint-counted N)

  pub constraint-behind : (parts : List NumberedConstraint) (i : ℕ) (x : NumberedConstraint) (place n left : ℕ) → i < length parts → x ≡ get_or parts i x → place < 2 ^ 32 → n ≡ constraint_count N x → place_behind n place ≡ Some left
      → slice_get (flat_map (constraint_offsets N) (drop i parts)) place ≡ slice_get (flat_map (constraint_offsets N) (drop (i + 1) parts)) left
  constraint-behind = part-behind (constraint_offsets N) (constraint_count N) (constraint-counted N)

  -- ---- choices

  pub goal-each : (tree : NumberedGoal) (ranges : List ℕ) (body : NumberedGoal) (choices count place : ℕ) (found : Option ℕ) → tree ≡ goal.Each ranges body → choices ≡ cut_choices N ranges → count ≡ goal_count N body
      → place < 2 ^ 32 → found ≡ place_within choices count place → slice_get (goal_offsets N tree) place ≡ item_at (goal_offsets N body) found
  goal-each tree ranges body choices count place found is chosen counted low at =
      ap (λ tree. slice_get (goal_offsets N tree) place) is ∙ ap (λ items. slice_get items place) (goal_offsets-Each N ranges body)
      ∙ get-within (goal_offsets N body) (choice_count N ranges) choices count place low (chosen ∙ cut-choices N ranges) (counted ∙ goal-counted N body)
      ∙ ap (item_at (goal_offsets N body)) (sym at)

  pub constraint-each : (tree : NumberedConstraint) (ranges : List ℕ) (body : NumberedConstraint) (choices count place : ℕ) (found : Option ℕ) → tree ≡ constraint.Each ranges body → choices ≡ cut_choices N ranges
      → count ≡ constraint_count N body → place < 2 ^ 32 → found ≡ place_within choices count place → slice_get (constraint_offsets N tree) place ≡ item_at (constraint_offsets N body) found
  constraint-each tree ranges body choices count place found is chosen counted low at =
      ap (λ tree. slice_get (constraint_offsets N tree) place) is ∙ ap (λ items. slice_get items place) (constraint_offsets-Each N ranges body)
      ∙ get-within (constraint_offsets N body) (choice_count N ranges) choices count place low (chosen ∙ cut-choices N ranges) (counted ∙ constraint-counted N body)
      ∙ ap (item_at (constraint_offsets N body)) (sym at)

-- ---- what is made of the items of two lists

module _ {A B : Type 0} (f g : A → B) (xs ys : List A) (count place : ℕ) (low : place < 2 ^ 32) (is : count ≡ cut (length xs)) where
  length-is : count ≡ cut (length (map f xs))
  length-is = is ∙ ap cut (sym (length-map xs f))

  pub made-here : place_behind count place ≡ None → slice_get (map f xs ++ map g ys) place ≡ option_map f (slice_get xs place)
  made-here e = get-here (map f xs) (map g ys) count place low length-is e ∙ slice_get-map f xs place

  pub made-behind : (left : ℕ) → place_behind count place ≡ Some left → slice_get (map f xs ++ map g ys) place ≡ option_map g (slice_get ys left)
  made-behind left e = get-behind (map f xs) (map g ys) count place left low length-is e ∙ slice_get-map g ys left
