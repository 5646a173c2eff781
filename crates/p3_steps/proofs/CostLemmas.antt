-- Sums of increases, and a table of values.
use Rattle.std.proofs.Common.{◌≡◌, ◌∙◌, ℕ, ◌+◌, ◌<◌, ◌==◌, Bool, true, false, ◌&&◌, if◌then◌else◌, List, [], ◌∷◌, ◌++◌, Option, Some, None, map, length, take, get_or, refl, sym, ap, arith}
use Rattle.std.specs.Prelude.{filter_map, flat_map, slice_get, option_map, bytes_eq}
use Rattle.std.specs.HashMap.{HashMap, get}
use Rattle.std.specs.Option.{option_or}
use Rattle.std.proofs.lemmas.Bool.{and_parts}
use Rattle.std.proofs.lemmas.Bool.Decides.{Decides-eqb}
use Rattle.std.proofs.lemmas.Slice.Eq.{bytes_eq-Decides}
use Rattle.std.proofs.lemmas.List.{map-append, take_more}
use Rattle.std.proofs.lemmas.List.Elements.{filter_map-append}
use denote.Hole.Carrier.{hidden}
use Rattle.p3_task.specs.Costs.{total}
use Rattle.p3_numbers.specs.Effects.{numbered_increases}
use Rattle.p3_numbers.specs.Slots.{Slots}
use Rattle.p3_numbers.specs.Units.{units_at}
use Rattle.p3_numbers.specs.declared.effect.NumberedAmount.{NumberedAmount}
use Rattle.p3_numbers.specs.declared.effect.NumberedEffect.{NumberedEffect}
use Rattle.p3_numbers.specs.declared.effect.NumberedEffect.TheVariants.{Add, Del, All, Each, If, Cost}
use Rattle.p3_numbers.specs.declared.condition.NumberedArgument.{NumberedArgument}
use Rattle.p3_numbers.specs.declared.condition.NumberedCondition.{NumberedCondition}
use Rattle.p3_numbers.specs.declared.task.NumberedValue.{NumberedValue}
use Rattle.p3_numbers.proofs.EffectLemmas.{numbered_increases-All}
use Rattle.p3_steps.specs.Costs.{Key, key, is_same_key, units_given, given_at, amount_at, cost_of, HasValues, AddsValue, entry_at}

-- ---- the first value

first-append : (xs ys : List ℕ) → slice_get (xs ++ ys) 0 ≡ option_or (slice_get xs 0) (slice_get ys 0)
first-append [] ys = refl
first-append (x ∷ xs) ys = refl

first-one : {A : Type 0} (of : A → Option ℕ) (x : A) → slice_get (filter_map of (x ∷ [])) 0 ≡ of x
first-one of x = by (of x) refl
  where
    by : (found : Option ℕ) → of x ≡ found → slice_get (filter_map of (x ∷ [])) 0 ≡ found
    by None is = rw is refl
    by (Some value) is = rw is refl

given-more : (places : ℕ) (values : List NumberedValue) (value : NumberedValue) (function : ℕ) (objects : List ℕ)
    → given_at places (values ++ value ∷ []) function objects ≡ option_or (given_at places values function objects) (units_given places function objects value)
given-more places values value function objects =
    ap (λ all. slice_get all 0) (filter_map-append (units_given places function objects) values (value ∷ []))
    ∙ first-append (filter_map (units_given places function objects) values) (filter_map (units_given places function objects) (value ∷ []))
    ∙ ap (option_or (given_at places values function objects)) (first-one (units_given places function objects) value)

module _ {S : Type 0} (places : ℕ) where
  pub values-more : (values : List NumberedValue) (i : ℕ) (value : NumberedValue) (old new : HashMap Key ℕ S) → i < length values → value ≡ get_or values i value
      → HasValues places (take i values) old → AddsValue places old value new → HasValues places (take (i + 1) values) new
  values-more values i value old new within read has adds function objects =
      adds function objects
      ∙ ap (λ found. option_or found (units_given places function objects value)) (has function objects)
      ∙ sym (given-more places (take i values) value function objects)
      ∙ ap (λ all. given_at places all function objects) (sym (take_more values i value within ∙ ap (λ item. take i values ++ item ∷ []) (sym read)))

-- the value of a key that is not there goes in
same-there : (f g : ℕ) (first second : List ℕ) → (f == g && bytes_eq first second) ≡ true → (f ≡ g) × (first ≡ second)
same-there f g first second same =
    let parts = and_parts (f == g) (bytes_eq first second) same in
    ((Decides-eqb f g).0 parts.0, (bytes_eq-Decides first second).0 parts.1)

or-none : (found : Option ℕ) → found ≡ option_or found None
or-none None = refl
or-none (Some x) = refl

module _ {S : Type 0} (places : ℕ) (value : NumberedValue) (old new : HashMap Key ℕ S) where
  pub adds-new : (own : Key) → own.0 ≡ value.function → own.1.now ≡ value.objects → get is_same_key old own ≡ None
      → ((other : Key) → get is_same_key new other ≡ (if is_same_key own other then Some (units_at places value.number) else get is_same_key old other)) → AddsValue places old value new
  unfolding entry_at
  adds-new own function objects absent updates f os =
      updates (key f os) ∙ by (is_same_key own (key f os)) refl
    where
      same : is_same_key own (key f os) ≡ (value.function == f && bytes_eq value.objects os)
      same = λ i. function i == f && bytes_eq (objects i) os

      by : (here : Bool) → is_same_key own (key f os) ≡ here
          → (if here then Some (units_at places value.number) else entry_at old f os) ≡ option_or (entry_at old f os) (units_given places f os value)
      by false is = or-none (entry_at old f os) ∙ ap (option_or (entry_at old f os)) (ap (λ here. if here then Some (units_at places value.number) else None) (sym is ∙ same))
      by true is =
          let are = same-there own.0 f own.1.now os is in
          let none : entry_at old f os ≡ None = (λ i. entry_at old (sym are.0 i) (sym are.1 i)) ∙ absent in
          ap (λ here. if here then Some (units_at places value.number) else None) (sym is ∙ same) ∙ (λ i. option_or (sym none i) (units_given places f os value))

-- ---- sums

-- the sum of both, where both have one
abbrev plus : Option ℕ → Option ℕ → Option ℕ
plus None second = None
plus (Some first) second = option_map (λ rest. first + rest) second

plus-total : (first : Option ℕ) (others : List (Option ℕ)) → total (first ∷ others) ≡ plus first (total others)
plus-total None others = refl
plus-total (Some value) others = refl

plus-nested : (a b c : Option ℕ) → plus (plus a b) c ≡ plus a (plus b c)
plus-nested None b c = refl
plus-nested (Some x) None c = refl
plus-nested (Some x) (Some y) None = refl
plus-nested (Some x) (Some y) (Some z) = ap Some (omega arith)

plus-zero : (a : Option ℕ) → plus (Some 0) a ≡ a
plus-zero None = refl
plus-zero (Some x) = ap Some (omega arith)

total-append : (xs ys : List (Option ℕ)) → total (xs ++ ys) ≡ plus (total xs) (total ys)
total-append [] ys = sym (plus-zero (total ys))
total-append (x ∷ xs) ys = plus-total x (xs ++ ys) ∙ ap (plus x) (total-append xs ys) ∙ sym (plus-nested x (total xs) (total ys)) ∙ ap (λ sum. plus sum (total ys)) (sym (plus-total x xs))

module _ (places : ℕ) (values : List NumberedValue) (slots : Slots) where
  totals : (parts : List NumberedEffect) → total (map (amount_at places values slots) (flat_map numbered_increases parts)) ≡ total (map (cost_of places values slots) parts)
  unfolding cost_of
  totals [] = refl
  totals (part ∷ parts) =
      ap total (map-append (amount_at places values slots) (numbered_increases part) (flat_map numbered_increases parts))
      ∙ total-append (map (amount_at places values slots) (numbered_increases part)) (map (amount_at places values slots) (flat_map numbered_increases parts))
      ∙ ap (plus (cost_of places values slots part)) (totals parts)
      ∙ sym (plus-total (cost_of places values slots part) (map (cost_of places values slots) parts))

  pub cost-All : (parts : List NumberedEffect) → cost_of places values slots (All parts) ≡ total (map (cost_of places values slots) parts)
  unfolding cost_of
  cost-All parts = ap (λ increases. total (map (amount_at places values slots) increases)) (numbered_increases-All parts) ∙ totals parts

  pub cost-Cost : (amount : NumberedAmount) → cost_of places values slots (Cost amount) ≡ amount_at places values slots amount
  unfolding cost_of numbered_increases
  cost-Cost amount = plus-total (amount_at places values slots amount) [] ∙ by (amount_at places values slots amount)
    where
      by : (value : Option ℕ) → plus value (Some 0) ≡ value
      by None = refl
      by (Some x) = ap Some (omega arith)

  pub cost-Add : (predicate : ℕ) (args : List NumberedArgument) → cost_of places values slots (Add predicate args) ≡ Some 0
  unfolding cost_of numbered_increases
  cost-Add predicate args = refl

  pub cost-Del : (predicate : ℕ) (args : List NumberedArgument) → cost_of places values slots (Del predicate args) ≡ Some 0
  unfolding cost_of numbered_increases
  cost-Del predicate args = refl

  pub cost-Each : (ranges : List ℕ) (body : NumberedEffect) → cost_of places values slots (Each ranges body) ≡ Some 0
  unfolding cost_of numbered_increases hidden
  cost-Each ranges body = refl

  pub cost-If : (condition : NumberedCondition) (body : NumberedEffect) → cost_of places values slots (If condition body) ≡ Some 0
  unfolding cost_of numbered_increases hidden
  cost-If condition body = refl

-- what is summed up so far, and what is left
abbrev pub sum_with : ℕ → Option ℕ → Option ℕ
sum_with whole left = option_map (λ rest. whole + rest) left

pub ruleset cost_laws = (cost-All, cost-Cost, cost-Add, cost-Del, cost-Each, cost-If)
