-- Choices and steps found by their names.
use Rattle.std.proofs.Common.{◌≡◌, ◌∙◌, ℕ, zero, suc, ◌+◌, ◌-◌, ◌*◌, ◌/◌, ◌<◌, ◌≤◌, refl, sym, ap, subst, Bool, true, false, not, ◌&&◌, List, [], ◌∷◌, ◌++◌, map, cond, length, get_or, take, drop, Some, None, arith, append_assoc}
use Rattle.std.specs.Prelude.{slice_get, filter, find, nat_lt}
use Rattle.std.specs.List.{All}
use Rattle.std.proofs.lemmas.Bool.{true≢false, and_parts, or_left, or_right, or_parts, not-true}
use Rattle.std.proofs.lemmas.List.Elements.{All-nil, All-cons}
use Rattle.std.proofs.lemmas.Slice.Eq.{bytes_eq-Decides}
use borrow.Author.Tests.{ltb-true, ltb-false}
use Rattle.std.proofs.Math.Nat.{mul_comm, suc-mul}
use Rattle.std.proofs.lemmas.List.{drop_more, take_more, take_all, append-nil, length-map, get_or-map}
use Rattle.std.proofs.lemmas.Nat.{div-mul-add, mod-mul-add, mul-add-lt}
use Rattle.p3_task.proofs.OnceLemmas.{Some-injective, AreOnce, each_once, filter_found, map_at, in_map, nil_left, nil_right}
use Rattle.p3_task.specs.Bindings.{are_arguments}
use Rattle.p3_task.specs.Offences.{WellFormed, domain_duplicates, repeated, repeated_after, unless, action_words}
use Rattle.p3_task.specs.Plans.{action_named}
use Rattle.p3_task.specs.StepNumbers.{HasNumber}
use Rattle.p3_task.specs.declared.task.Action.{Action}
use Rattle.p3_task.specs.declared.task.Step.{Step}
use Rattle.p3_task.specs.Names.{Name, same_name, has_name}
use Rattle.p3_task.specs.Types.{objects, is_object_of}
use Rattle.p3_task.specs.declared.task.Task.{Task}
use Rattle.p3_task.specs.declared.term.Ref.{Ref}
use Rattle.p3_task.specs.declared.term.Typed.{Typed}
use Rattle.p3_numbers.specs.Places.{IsNumbering, has_types, range_of, ranges_of, are_known_types}
use Rattle.p3_numbers.specs.Slots.{name_at, object_names, range_at}
use Rattle.p3_numbers.specs.Tasks.{HasNames}
use Rattle.p3_numbers.specs.declared.numbers.Numbers.{Numbers}
use Rattle.p3_types.proofs.NameOrderLemmas.{slice_at, slice_within, place_of_word, apart_at}
use Rattle.p3_types.proofs.StepLemmas.{next_argument, no_argument}
use Rattle.p3_numbers.specs.Choices.{choice_count, choice}
use Rattle.p3_types.specs.Finds.{are_among, AreDistinct, IsRange, IsPlaceOf, IsNarrowed, IsStretch, IsChoice, IsNumberAt, HasOtherArguments}
use Rattle.p3_types.specs.declared.finding.Stretch.{Stretch}

-- ---- ranges rise

-- two items of a filtered list stand in the same order in the list
record AreOrdered {A : Type 0} (xs : List A) (x y : A) : Type 0 where
  pub low : ℕ
  pub high : ℕ
  pub apart : low < high
  pub first : slice_get xs low ≡ Some x
  pub second : slice_get xs high ≡ Some y

behind : {A : Type 0} (z : A) (xs : List A) (x y : A) → AreOrdered xs x y → AreOrdered (z ∷ xs) x y
behind z xs x y found = record { low = suc found.low; high = suc found.high; apart = omega (arith, found.apart); first = found.first; second = found.second }

filter_ordered : {A : Type 0} (p : A → Bool) (xs : List A) (i j : ℕ) (x y : A) → i < j → slice_get (filter p xs) i ≡ Some x → slice_get (filter p xs) j ≡ Some y → AreOrdered xs x y
filter_ordered p [] i j x y below e f = absurd (cc)
filter_ordered {A = A} p (z ∷ xs) i j x y below e f = by (p z) i j below e f (λ k l. filter_ordered p xs k l x y)
  where
    by : (t : Bool) (i j : ℕ) → i < j → slice_get (cond t (z ∷ filter p xs) (filter p xs)) i ≡ Some x → slice_get (cond t (z ∷ filter p xs) (filter p xs)) j ≡ Some y
        → ((k l : ℕ) → k < l → slice_get (filter p xs) k ≡ Some x → slice_get (filter p xs) l ≡ Some y → AreOrdered xs x y) → AreOrdered (z ∷ xs) x y
    by true i zero below e f rest = absurd (omega arith)
    by true zero (suc j) below e f rest = let (k, at, passes) = filter_found p xs j y f in record { low = 0; high = suc k; apart = omega arith; first = e; second = at }
    by true (suc i) (suc j) below e f rest = behind z xs x y (rest i j (omega (arith, below)) e f)
    by false i j below e f rest = behind z xs x y (rest i j below e f)

module _ (p : Name → Bool) (names : List Name) (numbers : List ℕ) (once : AreOnce names) (within : All (λ number. number < length names) numbers) (is : map (name_at names) numbers ≡ filter p names) where
  name_there : (k : ℕ) → k < length numbers → slice_get (filter p names) k ≡ Some (name_at names (get_or numbers k 0))
  name_there k inside = ap (λ all. slice_get all k) (sym is) ∙ map_at (name_at names) numbers k (get_or numbers k 0) (slice_at numbers k 0 inside)

  number_is : (k place : ℕ) → k < length numbers → slice_get names place ≡ Some (name_at names (get_or numbers k 0)) → place ≡ get_or numbers k 0
  number_is k place inside at = once place (get_or numbers k 0) _ at (slice_at names (get_or numbers k 0) [] (within k 0 inside))

  rises : (i j : ℕ) → i < j → j < length numbers → get_or numbers i 0 ≤ get_or numbers j 0
  rises i j below inside =
      let here : i < length numbers = omega (arith, below, inside) in
      let found = filter_ordered p names i j _ _ below (name_there i here) (name_there j inside) in
      let low = number_is i found.low here found.first in
      let high = number_is j found.high inside found.second in
      omega (arith, low, high, found.apart)

  rises_or_same : (i j : ℕ) (t : Bool) → nat_lt i j ≡ t → i ≤ j → j < length numbers → get_or numbers i 0 ≤ get_or numbers j 0
  rises_or_same i j true e upto inside = rises i j (ltb-true i j e) inside
  rises_or_same i j false e upto inside =
      let least : j ≤ i = ltb-false i j e in
      let same : i ≡ j = omega (arith, upto, least) in
      let equal = ap (λ k. get_or numbers k 0) same in
      omega (arith, equal)

  filtered_range : IsRange names numbers
  filtered_range = record { within = within; rising = λ i j upto inside. rises_or_same i j (nat_lt i j) refl upto inside }

module _ (T : Task) (N : Numbers) (names : HasNames T N) (ties : IsNumbering T N) where
  objects_once : AreOnce N.objects
  objects_once = subst AreOnce (sym names.objects) (each_once _)

  range_is : (types : List Ref) → has_types N types ≡ true → IsRange N.objects (range_at N (range_of N types))
  unfolding objects
  range_is types known =
      filtered_range (is_object_of T types) N.objects (range_at N (range_of N types)) objects_once (ties.within (range_of N types))
      (ties.named types known ∙ ap (filter (is_object_of T types)) (sym names.objects))

  pub ranges_are : (params : List Typed) → are_known_types N params ≡ true → All (λ range. IsRange N.objects (range_at N range)) (ranges_of N params)
  ranges_are [] known = All-nil (λ range. IsRange N.objects (range_at N range))
  ranges_are (param ∷ params) known =
      let parts = and_parts _ (are_known_types N params) known in
      All-cons (λ range. IsRange N.objects (range_at N range)) (range_of N param.types) (ranges_of N params) (range_is param.types parts.0) (ranges_are params parts.1)

  pub among_is : (params : List Typed) (args : List Name) → are_known_types N params ≡ true → are_among N (ranges_of N params) args ≡ are_arguments T params args
  unfolding are_among are_arguments
  among_is [] [] known = refl
  among_is [] (arg ∷ args) known = refl
  among_is (param ∷ params) [] known = refl
  among_is (param ∷ params) (arg ∷ args) known =
      let parts = and_parts _ (are_known_types N params) known in
      λ i. has_name (ties.named param.types parts.0 i) arg && among_is params args parts.1 i

-- ---- the place of an object in a range

has_there : (names : List Name) (word : Name) (k : ℕ) → k < length names → get_or names k [] ≡ word → has_name names word ≡ true
has_there [] word k within at = absurd (omega arith)
has_there (name ∷ names) word zero within at = or_left _ _ ((bytes_eq-Decides name word).1 at)
has_there (name ∷ names) word (suc k) within at = or_right (same_name name word) _ (has_there names word k (omega arith) at)

and_false : (first second : Bool) → second ≡ false → (first && second) ≡ false
and_false true second none = none
and_false false second none = refl

no_product : (n count : ℕ) → suc n * count ≡ 0 → count ≡ 0
no_product n zero none = refl
no_product n (suc count) none = absurd (omega (arith, none, suc-mul n (suc count)))

module _ (names : List Name) (objects : List ℕ) (range : IsRange names objects) where
  name_of : (k : ℕ) → k < length objects → get_or (map (name_at names) objects) k [] ≡ name_at names (get_or objects k 0)
  name_of k inside = get_or-map (name_at names) objects k 0 [] inside

  -- an object that is not in the range has a name that none in the range has
  pub none_there : (object : ℕ) (word : Name) → AreDistinct names → slice_get names object ≡ Some word → ((k : ℕ) → k < length objects → get_or objects k 0 ≡ object → ⊥) → has_name (map (name_at names) objects) word ≡ false
  none_there object word distinct at apart = by (has_name (map (name_at names) objects) word) refl
    where
      by : (t : Bool) → has_name (map (name_at names) objects) word ≡ t → t ≡ false
      by true has =
          let found = place_of_word (map (name_at names) objects) word has in
          let inside : found.place < length objects = omega (arith, found.within, length-map objects (name_at names)) in
          let within = slice_within names object word at in
          let named : name_at names object ≡ word = Some-injective _ _ (sym (slice_at names object [] within) ∙ at) in
          absurd (apart found.place inside (distinct (get_or objects found.place 0) object (range.within found.place 0 inside) within (sym (name_of found.place inside) ∙ found.is ∙ sym named)))
      by false has = refl

  -- a name that no object has is that of none in the range
  pub none_named : (word : Name) → has_name names word ≡ false → has_name (map (name_at names) objects) word ≡ false
  none_named word none = by (has_name (map (name_at names) objects) word) refl
    where
      by : (t : Bool) → has_name (map (name_at names) objects) word ≡ t → t ≡ false
      by true has =
          let found = place_of_word (map (name_at names) objects) word has in
          let inside : found.place < length objects = omega (arith, found.within, length-map objects (name_at names)) in
          absurd (true≢false (sym ((bytes_eq-Decides _ word).1 (sym (name_of found.place inside) ∙ found.is)) ∙ apart_at names word (get_or objects found.place 0) none (range.within found.place 0 inside)))
      by false has = refl

  pub there : (object place : ℕ) (word : Name) → slice_get names object ≡ Some word → place < length objects → get_or objects place 0 ≡ object → IsPlaceOf names objects word place
  there object place word at inside is = record {
    within = inside;
    named = ap (name_at names) is ∙ Some-injective _ _ (sym (slice_at names object [] (slice_within names object word at)) ∙ at);
  }

  -- what a search by halving does not find is not there
  pub not_there : (object i : ℕ) → (i ≤ length objects) × ((k : ℕ) → k < i → get_or objects k 0 < object) × ((k : ℕ) → i ≤ k → k < length objects → object < get_or objects k 0) → (k : ℕ) → k < length objects → get_or objects k 0 ≡ object → ⊥
  not_there object i parts k inside same = by (nat_lt k i) refl
    where
      by : (t : Bool) → nat_lt k i ≡ t → ⊥
      by true e = let before = parts.1 k (ltb-true k i e) in omega (arith, before, same)
      by false e = let past = parts.2 k (ltb-false k i e) inside in omega (arith, past, same)

-- ---- a choice, object by object

module _ (N : Numbers) (ranges : List ℕ) (args : List Name) where
  module _ (place : ℕ) (stretch inner : Stretch) (objects : List ℕ) (arg : Name) (in_ranges : place < length ranges) (in_args : place < length args) (are : objects ≡ range_at N (get_or ranges place 0)) (at : arg ≡ get_or args place arg) where
    ranges_left : drop place ranges ≡ get_or ranges place 0 ∷ drop (place + 1) ranges
    ranges_left = drop_more ranges place 0 in_ranges

    args_left : drop place args ≡ arg ∷ drop (place + 1) args
    args_left = drop_more args place arg in_args ∙ ap (λ first. first ∷ drop (place + 1) args) (sym at)

    left_is : are_among N (drop place ranges) (drop place args) ≡ (has_name (object_names N objects) arg && are_among N (drop (place + 1) ranges) (drop (place + 1) args))
    unfolding are_among
    left_is = (λ i. are_among N (ranges_left i) (args_left i)) ∙ ap (λ all. has_name (object_names N all) arg && are_among N (drop (place + 1) ranges) (drop (place + 1) args)) (sym are)

    pub stretch_none : IsStretch N ranges args place stretch → has_name (object_names N objects) arg ≡ false → are_among N ranges args ≡ false
    stretch_none is none = is.left ∙ left_is ∙ ap (λ t. t && are_among N (drop (place + 1) ranges) (drop (place + 1) args)) none

    count_is : stretch.count ≡ choice_count N (drop place ranges) → stretch.count ≡ length objects * choice_count N (drop (place + 1) ranges)
    unfolding choice_count
    count_is count = count ∙ ap (choice_count N) ranges_left ∙ ap (λ all. length all * choice_count N (drop (place + 1) ranges)) (sym are)

    pub stretch_more : IsStretch N ranges args place stretch → IsNarrowed N.objects objects stretch arg inner → IsStretch N ranges args (place + 1) inner
    stretch_more is narrow =
        let block = stretch.count / length objects in
        let digit = narrow.place in
        let zero_first = next_argument N ranges objects place 0 stretch.count in_ranges are is.count is.some in
        let whole : stretch.count ≡ block * length objects = omega (arith, count_is is.count, ap (λ n. n * length objects) zero_first.inner, mul_comm (length objects) (choice_count N (drop (place + 1) ranges))) in
        let inside : (rest : ℕ) → rest < block → digit * block + rest < stretch.count = λ rest below. omega (arith, whole, mul-add-lt digit block rest (length objects) narrow.is.within below) in
        let last : digit * block + (block - 1) < stretch.count = inside (block - 1) (omega (arith, zero_first.stretch)) in
        record {
          some = omega (arith, narrow.count, zero_first.stretch);
          count = narrow.count ∙ zero_first.inner;
          within = omega (arith, narrow.first, narrow.count, is.within, zero_first.stretch, last);
          names = λ rest below.
              let low : rest < block = subst (λ n. rest < n) narrow.count below in
              let number = digit * block + rest in
              let others = object_names N (choice N (drop (place + 1) ranges) rest) in
              let next = next_argument N ranges objects place number stretch.count in_ranges are is.count (inside rest low) in
              let here : inner.first + rest ≡ stretch.first + number = omega (arith, narrow.first) in
              ap (λ n. object_names N (choice N ranges n)) here ∙ is.names number (inside rest low)
              ∙ ap (λ all. take place args ++ object_names N all) next.choice
              ∙ (λ i. take place args ++ (name_at N.objects (get_or objects (div-mul-add digit block rest low i) 0) ∷ object_names N (choice N (drop (place + 1) ranges) (mod-mul-add digit block rest low i))))
              ∙ ap (λ first. take place args ++ (first ∷ others)) (narrow.is.named ∙ at)
              ∙ sym (append_assoc (take place args) (get_or args place arg ∷ []) others)
              ∙ ap (λ all. all ++ others) (sym (take_more args place arg in_args));
          left = is.left ∙ left_is ∙ ap (λ t. t && are_among N (drop (place + 1) ranges) (drop (place + 1) args)) (has_there (map (name_at N.objects) objects) arg digit (omega (arith, narrow.is.within, length-map objects (name_at N.objects))) (get_or-map (name_at N.objects) objects digit 0 [] narrow.is.within ∙ narrow.is.named));
        }

  pub stretch_end : (place : ℕ) (stretch : Stretch) → length ranges ≤ place → length args ≡ length ranges → IsStretch N ranges args place stretch → IsChoice N ranges args stretch.first
  stretch_end place stretch past lengths is = record {
    within = omega (arith, is.some, is.within);
    names = ap (λ n. object_names N (choice N ranges n)) (omega arith) ∙ is.names 0 is.some ∙ ap (λ all. take place args ++ object_names N all) (no_argument N ranges place 0 past) ∙ append-nil (take place args) ∙ take_all place args (omega (arith, past, lengths));
  }

-- ---- no choice

pub none_among : (N : Numbers) (ranges : List ℕ) (args : List Name) → choice_count N ranges ≡ 0 → are_among N ranges args ≡ false
unfolding are_among choice_count
none_among N [] args none = absurd (omega (arith, none))
none_among N (range ∷ ranges) [] none = refl
none_among N (range ∷ ranges) (arg ∷ args) none = by (range_at N range) refl (none_among N ranges args)
  where
    by : (all : List ℕ) → range_at N range ≡ all → (choice_count N ranges ≡ 0 → are_among N ranges args ≡ false) → (has_name (object_names N (range_at N range)) arg && are_among N ranges args) ≡ false
    by [] is rest = ap (λ all. has_name (object_names N all) arg && are_among N ranges args) is
    by (object ∷ all) is rest = and_false (has_name (object_names N (range_at N range)) arg) _ (rest (no_product (length all) (choice_count N ranges) (sym (ap (λ list. length list * choice_count N ranges) is) ∙ none)))

pub too_few : (N : Numbers) (ranges : List ℕ) (args : List Name) → (length args ≡ length ranges → ⊥) → are_among N ranges args ≡ false
unfolding are_among
too_few N [] [] apart = absurd (apart refl)
too_few N [] (arg ∷ args) apart = refl
too_few N (range ∷ ranges) [] apart = refl
too_few N (range ∷ ranges) (arg ∷ args) apart = and_false (has_name (object_names N (range_at N range)) arg) _ (too_few N ranges args (λ same. apart (ap suc same)))

-- ---- actions

unless_nil : (passes : Bool) (word : Ref) → unless passes word ≡ [] → passes ≡ true
unless_nil true word e = refl
unless_nil false word e = absurd (cc)

fresh : (seen : List Name) (actions : List Action) → repeated_after seen (action_words actions) ≡ [] → (k : ℕ) (action : Action) → slice_get actions k ≡ Some action → has_name seen action.name.name ≡ false
fresh seen [] e k action at = absurd (cc)
fresh seen (first ∷ actions) e zero action at =
    not-true (has_name seen action.name.name)
    (ap (λ (other : Action). not (has_name seen other.name.name)) (sym (Some-injective first action at)) ∙ unless_nil (not (has_name seen first.name.name)) first.name (nil_left _ (repeated_after (first.name.name ∷ seen) (action_words actions)) e))
fresh seen (first ∷ actions) e (suc k) action at =
    (or_parts (same_name first.name.name action.name.name) _ (fresh (first.name.name ∷ seen) actions (nil_right (unless (not (has_name seen first.name.name)) first.name) _ e) k action at)).1

-- where no name is repeated, an action is found by its name
find_by_name : (seen : List Name) (actions : List Action) → repeated_after seen (action_words actions) ≡ [] → (k : ℕ) (action : Action) → slice_get actions k ≡ Some action → find (λ (other : Action). same_name other.name.name action.name.name) actions ≡ Some action
find_by_name seen [] e k action at = absurd (cc)
find_by_name seen (first ∷ actions) e zero action at =
    ap (λ t. cond t (Some first) (find (λ (other : Action). same_name other.name.name action.name.name) actions)) ((bytes_eq-Decides first.name.name action.name.name).1 (ap (λ (other : Action). other.name.name) (Some-injective first action at))) ∙ at
find_by_name seen (first ∷ actions) e (suc k) action at =
    let others = nil_right (unless (not (has_name seen first.name.name)) first.name) _ e in
    ap (λ t. cond t (Some first) (find (λ (other : Action). same_name other.name.name action.name.name) actions)) (or_parts (same_name first.name.name action.name.name) _ (fresh (first.name.name ∷ seen) actions others k action at)).0
    ∙ find_by_name (first.name.name ∷ seen) actions others k action at

abbrev pub action_name : Action → Name
action_name action = action.name.name

not_found : (actions : List Action) (word : Name) → has_name (map (λ (action : Action). action.name.name) actions) word ≡ false → find (λ (other : Action). same_name other.name.name word) actions ≡ None
not_found [] word none = refl
not_found (first ∷ actions) word none =
    let parts = or_parts (same_name first.name.name word) _ none in
    ap (λ t. cond t (Some first) (find (λ (other : Action). same_name other.name.name word) actions)) parts.0 ∙ not_found actions word parts.1

pub unknown_action : (T : Task) (actions : List Action) → actions ≡ T.domain.actions → (word : Name) → has_name (map action_name actions) word ≡ false → action_named T word ≡ None
unfolding action_named
unknown_action T actions same word none = not_found T.domain.actions word (ap (λ all. has_name (map action_name all) word) (sym same) ∙ none)

pub record FoundAction (T : Task) (word : Name) (place : ℕ) : Type 0 where
  pub action : Action
  pub at : slice_get T.domain.actions place ≡ Some action
  pub is : action.name.name ≡ word
  pub named : action_named T word ≡ Some action

no_repeats : (T : Task) → WellFormed T → repeated (action_words T.domain.actions) ≡ []
unfolding domain_duplicates
no_repeats T well = nil_right _ _ (nil_left _ _ (nil_left _ _ well.duplicates))

pub found_action : (T : Task) → WellFormed T → (actions : List Action) → actions ≡ T.domain.actions → (word : Name) (place : ℕ) → slice_get (map action_name actions) place ≡ Some word → FoundAction T word place
unfolding action_named
found_action T well actions same word place there =
    let (action, at, is) = in_map action_name T.domain.actions place word (ap (λ all. slice_get (map action_name all) place) (sym same) ∙ there) in
    record {
      action = action;
      at = at;
      is = is;
      named = ap (λ (name : Name). find (λ (other : Action). same_name other.name.name name) T.domain.actions) (sym is) ∙ find_by_name [] T.domain.actions (no_repeats T well) place action at;
    }

pub found_number : (T : Task) (step : Step) (place number : ℕ) (args : List Name) → FoundAction T step.action place → args ≡ step.args → IsNumberAt T place args (Some number) → HasNumber T step number
found_number T step place number args found same numbered =
    numbered found.action found.at ∙ (λ i. Some (record { action = found.is i; args = same i }))

pub other_arguments : (T : Task) (step : Step) (place : ℕ) (args : List Name) → FoundAction T step.action place → args ≡ step.args → IsNumberAt T place args None → HasOtherArguments T step
other_arguments T step place args found same none = record {
  action = found.action;
  named = found.named;
  args = ap (are_arguments T found.action.params) (sym same) ∙ none found.action found.at;
}
