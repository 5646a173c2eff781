-- The decimal places of a task's costs, and the greatest values of its functions, as one pass finds them.
use denote.Hole.Carrier.{hidden}
use Rattle.std.proofs.Common.{◌≡◌, ◌∙◌, ℕ, ◌<◌, ◌≤◌, ◌==◌, max, refl, sym, ap, subst, Bool, true, false, if◌then◌else◌, List, [], ◌∷◌, ◌++◌, fold, length, Option, Some, None, arith}
use borrow.Author.Tests.{leb-true}
use Rattle.std.specs.Prelude.{◌^◌, IsTrue, nat_lt, filter_map, flat_map, unwrap_or}
use Rattle.p3_base.specs.declared.refusal.Side.{Side}
use Rattle.p3_base.specs.declared.refusal.Side.TheVariants.{Source, Written}
use Rattle.p3_task.specs.Sides.{digit_limit, place_limit}
use Rattle.p3_types.specs.Texts.{is_short, has_short_numbers, metric_numerals}
use Rattle.std.specs.Bool.{one_answer}
use Rattle.std.specs.List.{All, list_all, cons_option}
use Rattle.std.specs.Option.{option_map_or}
use Rattle.std.proofs.lemmas.Bool.{and_parts}
use Rattle.std.proofs.lemmas.Bool.Decides.{Decides-eqb}
use Rattle.std.proofs.lemmas.List.{length-map, get_or-map}
use Rattle.std.proofs.lemmas.List.Elements.{All-nil, All-cons}
use Rattle.std.proofs.lemmas.List.Folds.{fold-map, list_all-append}
use Rattle.std.proofs.lemmas.List.FromFn.{fill_by_all}
use Rattle.std.proofs.lemmas.List.Sums.{fold-append}
use Rattle.std.proofs.lemmas.Slice.Eq.{bytes_eq-Decides}
use Rattle.p3_task.proofs.MeaningLemmas.{increases-All}
use Rattle.p3_task.proofs.OnceLemmas.{AreOnce, each_once}
use Rattle.p3_task.specs.Costs.{increases, amount_numeral, value_numeral, amount_numerals, value_numerals, cost_places}
use Rattle.p3_task.specs.Limits.{value_of_entry}
use Rattle.p3_task.specs.Names.{Name, same_name, has_name}
use Rattle.p3_task.specs.declared.effect.Amount.{Amount}
use Rattle.p3_task.specs.declared.effect.Effect.{Effect}
use Rattle.p3_task.specs.declared.effect.Effect.TheBlock.{hidden-the_row-Effect-1}
use Rattle.p3_task.specs.declared.effect.Effect.TheVariants as effect
use Rattle.p3_task.specs.declared.effect.Numeral.{Numeral}
use Rattle.p3_task.specs.declared.formula.Formula.{Formula}
use Rattle.p3_task.specs.declared.task.Action.{Action}
use Rattle.p3_task.specs.declared.task.Init.{Init}
use Rattle.p3_task.specs.declared.task.Init.TheVariants.{True, False, Value}
use Rattle.p3_task.specs.declared.task.Task.{Task}
use Rattle.p3_task.specs.declared.term.Ref.{Ref}
use Rattle.p3_task.specs.declared.term.Term.{Term}
use Rattle.p3_task.specs.declared.term.Typed.{Typed}
use Rattle.p3_numbers.proofs.PlaceLemmas.{found_within, found_name}
use Rattle.p3_numbers.specs.Places.{number_in}
use Rattle.p3_numbers.specs.Slots.{name_at}
use Rattle.p3_numbers.specs.Starts.{entry_value, initial_values_of, is_known_entry}
use Rattle.p3_numbers.specs.Tasks.{HasNames}
use Rattle.p3_numbers.specs.Units.{units_at}
use Rattle.p3_numbers.specs.declared.numbers.Numbers.{Numbers}
use Rattle.p3_numbers.specs.declared.task.NumberedValue.{NumberedValue}
use Rattle.p3_types.proofs.NameOrderLemmas.{slice_at}
use Rattle.p3_types.specs.Tables.{greatest_value_of, greatest_values}
use Rattle.p3_types.specs.Costs.{most_of, amount_places, entry_places, effect_places, action_places, units_of, greatest_of, greatest_of_all}

-- ---- the greatest of some numbers

module _ {A : Type 0} (number : A → ℕ) where
  abbrev up : ℕ → A → ℕ
  up most item = max most (number item)

  most_from : (start : ℕ) (items : List A) → fold up start items ≡ max start (most_of number items)
  most_from start [] = omega arith
  most_from start (item ∷ items) =
      let one = most_from (max start (number item)) items in
      let other = most_from (max 0 (number item)) items in
      omega (arith, one, other)

  most_of-cons : (item : A) (items : List A) → most_of number (item ∷ items) ≡ max (number item) (most_of number items)
  most_of-cons item items = let from = most_from (max 0 (number item)) items in omega (arith, from)

  pub most_of-append : (items others : List A) → most_of number (items ++ others) ≡ max (most_of number items) (most_of number others)
  most_of-append items others = fold-append up 0 items others ∙ most_from (most_of number items) others

module _ {A B : Type 0} (number : A → ℕ) where
  most_of-flat_map : (parts : B → List A) (items : List B) → most_of number (flat_map parts items) ≡ most_of (λ item. most_of number (parts item)) items
  most_of-flat_map parts [] = refl
  most_of-flat_map parts (item ∷ items) =
      most_of-append number (parts item) (flat_map parts items) ∙ ap (max (most_of number (parts item))) (most_of-flat_map parts items)
      ∙ sym (most_of-cons (λ (other : B). most_of number (parts other)) item items)

  most_of-filter_map : (found : B → Option A) (items : List B) → most_of number (filter_map found items) ≡ most_of (λ item. option_map_or number (found item) 0) items
  most_of-filter_map found [] = refl
  most_of-filter_map found (item ∷ items) = by (found item) (most_of-filter_map found items) ∙ sym (most_of-cons (λ (other : B). option_map_or number (found other) 0) item items)
    where
      by : (here : Option A) → most_of number (filter_map found items) ≡ most_of (λ item. option_map_or number (found item) 0) items
          → most_of number (cons_option here (filter_map found items)) ≡ max (option_map_or number here 0) (most_of (λ item. option_map_or number (found item) 0) items)
      by None rest = rest ∙ omega arith
      by (Some x) rest = most_of-cons number x (filter_map found items) ∙ ap (max (number x)) rest

-- two numbers that are the same at each item
most_of_same : {A : Type 0} (first second : A → ℕ) (test : A → Bool) (items : List A) → ((item : A) → test item ≡ true → first item ≡ second item) → list_all test items ≡ true → most_of first items ≡ most_of second items
most_of_same first second test [] same all = refl
most_of_same first second test (item ∷ items) same all =
    let parts = and_parts (test item) (list_all test items) all in
    most_of-cons first item items ∙ (λ i. max (same item parts.0 i) (most_of_same first second test items same parts.1 i)) ∙ sym (most_of-cons second item items)

-- ---- the decimal places of costs

pub places-Add : (pred : Ref) (args : List Term) → effect_places (effect.Add pred args) ≡ 0
unfolding effect_places increases
places-Add pred args = refl

pub places-Del : (pred : Ref) (args : List Term) → effect_places (effect.Del pred args) ≡ 0
unfolding effect_places increases
places-Del pred args = refl

pub places-All : (parts : List Effect) → effect_places (effect.All parts) ≡ most_of effect_places parts
unfolding effect_places
places-All parts = ap (most_of amount_places) (increases-All parts) ∙ most_of-flat_map amount_places increases parts

pub places-Each : (variables : List Typed) (body : Effect) → effect_places (effect.Each variables body) ≡ 0
unfolding effect_places increases hidden-the_row-Effect-1 hidden
places-Each variables body = refl

pub places-If : (condition : Formula) (body : Effect) → effect_places (effect.If condition body) ≡ 0
unfolding effect_places increases hidden-the_row-Effect-1 hidden
places-If condition body = refl

pub places-Cost : (at : ℕ) (amount : Amount) → effect_places (effect.Cost at amount) ≡ amount_places amount
unfolding effect_places increases
places-Cost at amount = omega arith

pub ruleset effect_forms = (places-Add, places-Del, places-All, places-Each, places-If, places-Cost)

abbrev numeral_places : Numeral → ℕ
numeral_places numeral = numeral.places

pub places_are : (T : Task) → max (most_of action_places T.domain.actions) (most_of entry_places T.problem.init) ≡ cost_places T
unfolding cost_places effect_places
places_are T =
    let places : Numeral → ℕ = numeral_places in
    let numerals : Action → List Numeral = λ (action : Action). filter_map amount_numeral (increases action.effect.body) in
    let of_action : (action : Action) → most_of places (numerals action) ≡ action_places action = λ action. most_of-filter_map places amount_numeral (increases action.effect.body) in
    let actions : most_of places (amount_numerals T) ≡ most_of action_places T.domain.actions =
    most_of-flat_map places numerals T.domain.actions ∙ most_of_same (λ action. most_of places (numerals action)) action_places (λ action. true) T.domain.actions (λ action _. of_action action) (all_true T.domain.actions) in
    let entries : most_of places (value_numerals T) ≡ most_of entry_places T.problem.init = most_of-filter_map places value_numeral T.problem.init in
    (λ i. max (sym actions i) (sym entries i)) ∙ sym (most_of-append places (amount_numerals T) (value_numerals T)) ∙ sym (fold-map max places 0 (amount_numerals T ++ value_numerals T))
  where
    all_true : {A : Type 0} (items : List A) → list_all (λ item. true) items ≡ true
    all_true [] = refl
    all_true (item ∷ items) = all_true items

-- ---- short numbers have few places

short_places : (side : Side) (numerals : List Numeral) → list_all (is_short side) numerals ≡ true → most_of numeral_places numerals ≤ unwrap_or (place_limit side) 0
short_places side [] short = omega arith
short_places side (numeral ∷ numerals) short =
    let parts = and_parts (is_short side numeral) (list_all (is_short side) numerals) short in
    let here = leb-true numeral.places (unwrap_or (place_limit side) 0) (and_parts (nat_lt numeral.digits (10 ^ digit_limit side)) _ parts.0).1 in
    let rest = short_places side numerals parts.1 in
    omega (arith, here, rest, most_of-cons numeral_places numeral numerals)

few_of : (side : Side) → unwrap_or (place_limit side) 0 ≤ 6
few_of Source = omega arith
few_of Written = omega arith

pub few_places : (side : Side) (T : Task) → IsTrue (has_short_numbers side T) → cost_places T ≤ 6
unfolding has_short_numbers cost_places
few_places side T short =
    let costs = amount_numerals T ++ value_numerals T in
    let each = (and_parts (list_all (is_short side) costs) _ (sym (list_all-append (is_short side) costs (metric_numerals T.problem.metric)) ∙ short)).0 in
    let few = short_places side costs each in
    let most = fold-map max numeral_places 0 costs in
    omega (arith, few, few_of side, most)

-- ---- the greatest values

module _ (T : Task) (N : Numbers) where
  values_known : (entries : List Init) → list_all (is_known_entry N) entries ≡ true → All (λ (value : NumberedValue). value.function < length N.functions) (filter_map (entry_value N) entries)
  values_known [] known = All-nil (λ (value : NumberedValue). value.function < length N.functions)
  values_known (True pred args ∷ entries) known = values_known entries (and_parts (is_known_entry N (True pred args)) (list_all (is_known_entry N) entries) known).1
  values_known (False pred args ∷ entries) known = values_known entries (and_parts (is_known_entry N (False pred args)) (list_all (is_known_entry N) entries) known).1
  values_known (Value function args number ∷ entries) known =
      let parts = and_parts (is_known_entry N (Value function args number)) (list_all (is_known_entry N) entries) known in
      All-cons (λ (value : NumberedValue). value.function < length N.functions) _ (filter_map (entry_value N) entries) (found_within N.functions function.name (and_parts (has_name N.functions function.name) _ parts.0).0) (values_known entries parts.1)

  pub functions_known : list_all (is_known_entry N) T.problem.init ≡ true → All (λ (value : NumberedValue). value.function < length N.functions) (initial_values_of N T)
  unfolding initial_values_of
  functions_known known = values_known T.problem.init known

  module _ (once : AreOnce N.functions) (function : ℕ) (within : function < length N.functions) where
    -- a name is that of a number where it has that number
    same_function : (name : Name) → has_name N.functions name ≡ true → same_name name (name_at N.functions function) ≡ (number_in N.functions name == function)
    same_function name known = one_answer {P = name ≡ name_at N.functions function} _ _ (bytes_eq-Decides name (name_at N.functions function)) (
      λ same. sym (found_name N.functions name known) ∙ ap (name_at N.functions) ((Decides-eqb _ _).0 same),
      λ is. (Decides-eqb _ _).1 (once (number_in N.functions name) function name
          (slice_at N.functions (number_in N.functions name) [] (found_within N.functions name known) ∙ ap Some (found_name N.functions name known))
          (slice_at N.functions function [] within ∙ ap Some (sym is))),
    )

    chosen : (test : Bool) (units : ℕ) → option_map_or (λ n. n) (if test then Some units else None) 0 ≡ (if test then units else 0)
    chosen true units = refl
    chosen false units = refl

    same_units : (entry : Init) → is_known_entry N entry ≡ true
        → option_map_or (λ n. n) (value_of_entry T (name_at N.functions function) entry) 0 ≡ option_map_or (units_of (cost_places T) function) (entry_value N entry) 0
    same_units (True pred args) known = refl
    same_units (False pred args) known = refl
    same_units (Value other args number) known =
        chosen (same_name other.name (name_at N.functions function)) (units_at (cost_places T) number)
        ∙ ap (λ test. if test then units_at (cost_places T) number else 0) (same_function other.name (and_parts (has_name N.functions other.name) _ known).0)

    greatest_is : list_all (is_known_entry N) T.problem.init ≡ true → greatest_value_of T (name_at N.functions function) ≡ greatest_of (cost_places T) (initial_values_of N T) function
    unfolding initial_values_of
    greatest_is known =
        most_of-filter_map (λ n. n) (value_of_entry T (name_at N.functions function)) T.problem.init
        ∙ most_of_same (λ entry. option_map_or (λ n. n) (value_of_entry T (name_at N.functions function) entry) 0) (λ entry. option_map_or (units_of (cost_places T) function) (entry_value N entry) 0) (is_known_entry N) T.problem.init same_units known
        ∙ sym (most_of-filter_map (units_of (cost_places T) function) (entry_value N) T.problem.init)

  pub greatest_are : HasNames T N → list_all (is_known_entry N) T.problem.init ≡ true → greatest_of_all (cost_places T) (initial_values_of N T) (length N.functions) ≡ greatest_values T N.functions
  greatest_are names known =
      let once : AreOnce N.functions = subst AreOnce (sym names.functions) (each_once _) in
      sym (fill_by_all (greatest_of (cost_places T) (initial_values_of N T)) (greatest_values T N.functions) (length N.functions) 0 (length-map N.functions (greatest_value_of T))
      (λ function within. get_or-map (greatest_value_of T) N.functions function [] 0 within ∙ greatest_is once function within known))
