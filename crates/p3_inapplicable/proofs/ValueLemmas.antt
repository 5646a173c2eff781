-- Missing values: equations by form of an effect, and that they are found by number.
use Rattle.std.proofs.Common.{◌≡◌, ◌∙◌, ℕ, ◌+◌, ◌<◌, Bool, true, false, not, ◌||◌, if◌then◌else◌, List, [], ◌∷◌, ◌++◌, map, length, Option, Some, None, is_some, refl, sym, ap}
use Rattle.std.specs.Prelude.{filter_map, flat_map, option_map, slice_get}
use Rattle.std.specs.List.{cons_option, list_all}
use Rattle.std.specs.Option.{option_or}
use Rattle.std.proofs.lemmas.Bool.{and_parts}
use Rattle.std.proofs.lemmas.List.Elements.{All-cons, All-nil, filter_map-append}
use denote.Hole.Carrier.{hidden}
use mathlib.Core.Former.{Count}
use Rattle.p3_task.specs.Costs as named
use Rattle.p3_task.specs.Costs.{amount_value, cost_places, effect_cost, given_value, increases, total}
use Rattle.p3_task.specs.Folds.{fold_effects}
use Rattle.p3_task.specs.Names.{has_name}
use Rattle.p3_task.specs.States.{Environment, meanings}
use Rattle.p3_task.specs.declared.effect.Amount.{Amount}
use Rattle.p3_task.specs.declared.effect.Amount.TheVariants as amount
use Rattle.p3_task.specs.declared.effect.Effect.{Effect, Row_of-Effect, end_of-Effect, more_of-Effect}
use Rattle.p3_task.specs.declared.effect.Effect.TheVariants as effect
use Rattle.p3_task.specs.declared.state.Fact.{Fact}
use Rattle.p3_task.specs.declared.task.Task.{Task}
use Rattle.p3_task.specs.declared.term.Term.{Term}
use Rattle.p3_numbers.specs.Effects.{amount_of, effect_layer, effect_of, is_known_amount, known_effect_layer, is_known_effect, numbered_increases}
use Rattle.p3_numbers.specs.Places.{AreObjects, Fills, Variables, are_known_terms, environment_of, is_known_term, number_in, numbered_terms}
use Rattle.p3_numbers.specs.Slots.{Slots, name_at, object_names, values_of}
use Rattle.p3_numbers.specs.Starts.{is_known_entry}
use Rattle.p3_numbers.specs.Tasks.{IsNumberedTask}
use Rattle.p3_numbers.specs.declared.condition.NumberedArgument.{NumberedArgument}
use Rattle.p3_numbers.specs.declared.condition.NumberedCondition.{NumberedCondition}
use Rattle.p3_numbers.specs.declared.effect.NumberedAmount.{NumberedAmount}
use Rattle.p3_numbers.specs.declared.effect.NumberedEffect.{NumberedEffect}
use Rattle.p3_numbers.specs.declared.effect.NumberedEffect.TheVariants.{Add, Del, All, Each, If, Cost}
use Rattle.p3_numbers.specs.declared.numbers.Numbers.{Numbers}
use Rattle.p3_numbers.specs.declared.task.NumberedTask.{NumberedTask}
use Rattle.p3_numbers.specs.declared.task.NumberedValue.{NumberedValue}
use Rattle.p3_numbers.proofs.EffectLemmas.{numbered_increases-All}
use Rattle.p3_numbers.proofs.JoinLemmas.{joined}
use Rattle.p3_numbers.proofs.PlaceLemmas.{found_name, found_within, term_means, terms_mean}
use Rattle.p3_steps.specs.Costs.{given_at}
use Rattle.p3_steps.proofs.CostLaws.{given-means}
use Rattle.p3_inapplicable.specs.Values.{MissingWhereNoCost, first_missing, missing, missing_at, missing_value, value_fact}

-- ---- the first that is there

abbrev first_of : {A B : Type 0} → (A → Option B) → List A → Option B
first_of see xs = slice_get (filter_map see xs) 0

first-append : {A : Type 0} (xs ys : List A) → slice_get (xs ++ ys) 0 ≡ option_or (slice_get xs 0) (slice_get ys 0)
first-append [] ys = refl
first-append (x ∷ xs) ys = refl

first-cons : {A : Type 0} (here : Option A) (later : List A) → slice_get (cons_option here later) 0 ≡ option_or here (slice_get later 0)
first-cons None later = refl
first-cons (Some x) later = refl

first-flat : {A B C : Type 0} (see : B → Option C) (parts : A → List B) (xs : List A) → first_of see (flat_map parts xs) ≡ first_of (λ x. first_of see (parts x)) xs
first-flat see parts [] = refl
first-flat see parts (x ∷ xs) =
    ap (λ all. slice_get all 0) (filter_map-append see (parts x) (flat_map parts xs))
    ∙ first-append (filter_map see (parts x)) (filter_map see (flat_map parts xs))
    ∙ ap (option_or (first_of see (parts x))) (first-flat see parts xs)
    ∙ sym (first-cons (first_of see (parts x)) (filter_map (λ x. first_of see (parts x)) xs))

-- the first of what is seen of each
abbrev seen_first : {B : Type 0} → List (Option B) → Option B
seen_first found = first_of (λ one. one) found

first-seen : {A B : Type 0} (see : A → Option B) (xs : List A) → first_of see xs ≡ seen_first (map see xs)
first-seen see [] = refl
first-seen see (x ∷ xs) = first-cons (see x) (filter_map see xs) ∙ ap (option_or (see x)) (first-seen see xs) ∙ sym (first-cons (see x) (filter_map (λ one. one) (map see xs)))

map-or : {A B : Type 0} (f : A → B) (first second : Option A) → option_map f (option_or first second) ≡ option_or (option_map f first) (option_map f second)
map-or f None second = refl
map-or f (Some x) second = refl

first-mapped : {A B C : Type 0} (f : B → C) (see : A → Option B) (xs : List A) → option_map f (first_of see xs) ≡ first_of (λ x. option_map f (see x)) xs
first-mapped f see [] = refl
first-mapped f see (x ∷ xs) =
    ap (option_map f) (first-cons (see x) (filter_map see xs)) ∙ map-or f (see x) (first_of see xs)
    ∙ ap (option_or (option_map f (see x))) (first-mapped f see xs) ∙ sym (first-cons (option_map f (see x)) (filter_map (λ x. option_map f (see x)) xs))

-- ---- by form

module _ (places : ℕ) (values : List NumberedValue) (slots : Slots) where
  pub missing-All : (parts : List NumberedEffect) → first_missing places values slots (All parts) ≡ slice_get (filter_map (first_missing places values slots) parts) 0
  unfolding first_missing
  missing-All parts = ap (first_of (missing_at places values slots)) (numbered_increases-All parts) ∙ first-flat (missing_at places values slots) numbered_increases parts

  pub missing-Cost : (amount : NumberedAmount) → first_missing places values slots (Cost amount) ≡ missing_at places values slots amount
  unfolding first_missing numbered_increases
  missing-Cost amount = first-cons (missing_at places values slots amount) [] ∙ by (missing_at places values slots amount)
    where
      by : (value : Option (List ℕ)) → option_or value None ≡ value
      by None = refl
      by (Some x) = refl

  pub missing-Add : (predicate : ℕ) (args : List NumberedArgument) → first_missing places values slots (Add predicate args) ≡ None
  unfolding first_missing numbered_increases
  missing-Add predicate args = refl

  pub missing-Del : (predicate : ℕ) (args : List NumberedArgument) → first_missing places values slots (Del predicate args) ≡ None
  unfolding first_missing numbered_increases
  missing-Del predicate args = refl

  pub missing-Each : (ranges : List ℕ) (body : NumberedEffect) → first_missing places values slots (Each ranges body) ≡ None
  unfolding first_missing numbered_increases hidden
  missing-Each ranges body = refl

  pub missing-If : (condition : NumberedCondition) (body : NumberedEffect) → first_missing places values slots (If condition body) ≡ None
  unfolding first_missing numbered_increases hidden
  missing-If condition body = refl

pub ruleset missing_laws = (missing-All, missing-Cost, missing-Add, missing-Del, missing-Each, missing-If)

-- ---- one of the parts more

-- ---- by number

mapped-if : {A B : Type 0} (f : A → B) (given : Bool) (x : A) → option_map f (if given then None else Some x) ≡ (if given then None else Some (f x))
mapped-if f true x = refl
mapped-if f false x = refl

module _ (T : Task) (X : NumberedTask) (is : IsNumberedTask T X) (entries : list_all (is_known_entry X.numbers) T.problem.init ≡ true) (scope : Variables) (slots : Slots) (fills : Fills X.numbers scope slots) where
  abbrev N : Numbers
  N = X.numbers

  abbrev env : Environment
  env = environment_of N scope slots

  known-within : (args : List Term) → are_known_terms N scope args ≡ true → AreObjects N (values_of slots (numbered_terms N scope args))
  known-within [] known = All-nil (λ number. number < length N.objects)
  known-within (term ∷ args) known =
      let parts = and_parts (is_known_term N scope term) (are_known_terms N scope args) known in
      All-cons (λ number. number < length N.objects) _ _ (term_means N scope slots fills term parts.0).1 (known-within args parts.1)

  abbrev see : NumberedAmount → Option Fact
  see increase = option_map (value_fact N) (missing_at (cost_places T) X.values slots increase)

  amount-seen : (increase : Amount) → is_known_amount N increase scope ≡ true → see (amount_of N increase scope) ≡ missing T env increase
  amount-seen (amount.Number numeral) known = refl
  amount-seen (amount.Value function args) known =
      let parts = and_parts (has_name N.functions function.name) (are_known_terms N scope args) known in
      let number = number_in N.functions function.name in
      let objects = values_of slots (numbered_terms N scope args) in
      let found : name_at N.functions number ≡ function.name = found_name N.functions function.name parts.0 in
      let means : object_names N objects ≡ meanings env args = terms_mean N scope slots fills args parts.1 in
      let given : given_at (cost_places T) X.values number objects ≡ given_value T function.name (meanings env args) =
      given-means T X is number objects (found_within N.functions function.name parts.0) (known-within args parts.1) entries ∙ (λ i. given_value T (found i) (means i)) in
      mapped-if (value_fact N) (is_some (given_at (cost_places T) X.values number objects)) (number ∷ objects)
      ∙ (λ i. if is_some (given i) then None else Some (record { name = found i; args = means i }))

  mutual
    unfolding increases effect_of is_known_effect numbered_increases

    increases-seen : (tree : Effect) → is_known_effect N tree scope ≡ true → map see (numbered_increases (effect_of N tree scope)) ≡ map (missing T env) (increases tree)
    increases-seen (effect.Add pred args) known = refl
    increases-seen (effect.Del pred args) known = refl
    increases-seen (effect.All' _ parts) known =
        let made = map (λ part. part scope) (fold_effects (effect_layer N) parts) in
        ap (map see) (numbered_increases-All made)
        ∙ joined see numbered_increases made
        ∙ ap (flat_map (λ found. found)) (all-increases-seen parts known)
        ∙ sym (joined (missing T env) (λ part. part) (fold_effects named.increases_layer parts))
    increases-seen (effect.Each' variables _ (more_of-Effect body _)) known = refl
    increases-seen (effect.If' formula _ (more_of-Effect body _)) known = refl
    increases-seen (effect.Cost at increase) known = ap (λ value. value ∷ []) (amount-seen increase known)

    all-increases-seen : {n : Count} (parts : Row_of-Effect n) → list_all (λ part. part scope) (fold_effects (known_effect_layer N) parts) ≡ true
        → map (λ part. map see (numbered_increases part)) (map (λ part. part scope) (fold_effects (effect_layer N) parts)) ≡ map (map (missing T env)) (fold_effects named.increases_layer parts)
    all-increases-seen end_of-Effect known = refl
    all-increases-seen (more_of-Effect part rest) known =
        let parts = and_parts (is_known_effect N part scope) (list_all (λ part. part scope) (fold_effects (known_effect_layer N) rest)) known in
        λ i. increases-seen part parts.0 i ∷ all-increases-seen rest parts.1 i

  pub missing-means : (tree : Effect) → is_known_effect N tree scope ≡ true → option_map (value_fact N) (first_missing (cost_places T) X.values slots (effect_of N tree scope)) ≡ missing_value T env (increases tree)
  unfolding first_missing
  missing-means tree known =
      first-mapped (value_fact N) (missing_at (cost_places T) X.values slots) (numbered_increases (effect_of N tree scope))
      ∙ first-seen see (numbered_increases (effect_of N tree scope)) ∙ ap seen_first (increases-seen tree known) ∙ sym (first-seen (missing T env) (increases tree))

-- ---- a step without a cost lacks a value

module _ (T : Task) (env : Environment) where
  -- an amount has no value exactly where its function is missing
  one-missing : (increase : Amount) → is_some (missing T env increase) ≡ not (is_some (amount_value T env increase))
  one-missing (amount.Number numeral) = refl
  one-missing (amount.Value function args) = by (given_value T function.name (meanings env args))
    where
      by : (given : Option ℕ) → is_some {T = Fact} (if is_some given then None else Some (record { name = function.name; args = meanings env args })) ≡ not (is_some given)
      by None = refl
      by (Some value) = refl

  some-of-either : {A : Type 0} (first second : Option A) → is_some (option_or first second) ≡ (is_some first || is_some second)
  some-of-either None second = refl
  some-of-either (Some x) second = refl

  some-of-both : (here : Option ℕ) (rest : List (Option ℕ)) → (not (is_some here) || not (is_some (total rest))) ≡ not (is_some (total (here ∷ rest)))
  some-of-both None rest = refl
  some-of-both (Some value) rest = by (total rest)
    where
      by : (sum : Option ℕ) → not (is_some sum) ≡ not (is_some (option_map (λ rest. value + rest) sum))
      by None = refl
      by (Some x) = refl

  pub missing-where-no-total : (amounts : List Amount) → is_some (missing_value T env amounts) ≡ not (is_some (total (map (amount_value T env) amounts)))
  missing-where-no-total [] = refl
  missing-where-no-total (increase ∷ amounts) =
      ap is_some (first-cons (missing T env increase) (filter_map (missing T env) amounts))
      ∙ some-of-either (missing T env increase) (missing_value T env amounts)
      ∙ (λ i. one-missing increase i || missing-where-no-total amounts i)
      ∙ some-of-both (amount_value T env increase) (map (amount_value T env) amounts)

pub missing-where-no-cost : MissingWhereNoCost
unfolding effect_cost
missing-where-no-cost T env tree = missing-where-no-total T env (increases tree)
