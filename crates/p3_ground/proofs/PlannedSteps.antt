-- The ground steps that are made of the wanted steps of a task are all of them that may begin.
use Rattle.std.proofs.Common.{◌≡◌, ◌∙◌, ℕ, ◌+◌, ◌<◌, ◌≤◌, ◌≢◌, ◌==◌, nat_lt, Bool, true, false, ◌&&◌, cond, List, [], ◌∷◌, ◌++◌, map, length, take, slice_get, get_or, Option, Some, None, is_some, refl, sym, ap, subst, arith, zero, suc, true≢false}
use Rattle.std.specs.Prelude.{filter, find, sum, Contains}
use Rattle.std.specs.List.{All, range_with_len}
use Rattle.std.proofs.lemmas.Bool.{and_parts, and_from, lt-ltb}
use Rattle.std.proofs.lemmas.Bool.Decides.{Decides-eqb, nat_tests}
use Rattle.std.proofs.lemmas.List.{get_or_default, map-append}
use Rattle.std.proofs.lemmas.List.Elements.{All-nil, All-cons, All-head, All-tail, All-append, All-filter, All-map, All-weaker, filter_passes}
use Rattle.std.proofs.lemmas.List.Folds.{Any-from_list_any, list_all-append, list_any_at}
use Rattle.std.proofs.lemmas.List.Sums.{sum_by-cons}
use Rattle.p3_task.specs.Costs.{cost_places}
use Rattle.p3_task.specs.Lifting.{steps}
use Rattle.p3_task.specs.Offences.{WellFormed}
use Rattle.p3_task.specs.StepNumbers.{HasNumber}
use Rattle.p3_task.specs.declared.task.Action.{Action}
use Rattle.p3_task.specs.declared.task.Task.{Task}
use Rattle.p3_task.proofs.OnceLemmas.{Has, Some-injective, in_left, in_right, map_at}
use Rattle.p3_formula.specs.Conditions.{rises}
use Rattle.p3_formula.specs.declared.task.GroundStep.{GroundStep}
use Rattle.p3_formula.specs.declared.task.GroundTask.{GroundTask}
use Rattle.p3_numbers.specs.Choices.{choice_count}
use Rattle.p3_numbers.specs.Places.{ranges_of}
use Rattle.p3_numbers.specs.Tasks.{IsNumberedTask, numbered_action}
use Rattle.p3_numbers.specs.declared.task.NumberedAction.{NumberedAction}
use Rattle.p3_numbers.specs.declared.task.NumberedTask.{NumberedTask}
use Rattle.p3_numbers.proofs.KnownLaws.{task-known}
use Rattle.p3_types.proofs.StepLemmas.{step_count_is}
use Rattle.p3_expansion.specs.Atoms.{GroundAtom, is_named, are_named}
use Rattle.p3_expansion.specs.Changes.{effect_atoms}
use Rattle.p3_expansion.specs.Hard.{hard_atoms}
use Rattle.p3_expansion.specs.NamedReads.{IsNamedStep}
use Rattle.p3_expansion.specs.Preferences.{preference_atoms}
use Rattle.p3_expansion.specs.declared.statics.Statics.{Statics}
use Rattle.p3_expansion.proofs.NamedReads.{reads-named}
use Rattle.p3_steps.specs.Possible.{may_begin}
use Rattle.p3_steps.specs.Candidates.{candidates_of}
use Rattle.p3_steps.specs.Steps.{PlannedStep, StepIsMade, StepsAreMade, action_steps, all_atoms, count_of_steps, planned_step, planned_steps, step_atoms, steps_from, is_among, planned_among}
use Rattle.p3_ground.specs.Expanded.{AreExpanded, IsAtChoice, IsKept, OfExpanded, choice_of, step_of as step_at, steps_before}
use Rattle.p3_ground.specs.Grounding.{KeepsAt, MayBegin}
use Rattle.p3_ground.specs.Planned.{IsWanted, PlannedStepsAreAll, PlannedStepsReadNames, StepsAreCounted, wanted_steps}
use Rattle.p3_ground.specs.StepParts.{IsKnownWhole}
use Rattle.p3_ground.proofs.StepChoices.{parameters-known, steps-are-at-choices}
use Rattle.p3_ground.proofs.StepParts.{steps-cost-alike}

-- ---- lists of numbers

sum-cons : (x : ℕ) (xs : List ℕ) → sum (x ∷ xs) ≡ x + sum xs
sum-cons x xs = sum_by-cons (λ n. n) x xs

picked : {Q R : ℕ → Type 0} (test : ℕ → Bool) → ((n : ℕ) → test n ≡ true → Q n → R n) → (xs : List ℕ) → All Q xs → All R (filter test xs)
picked {R = R} test both [] all = All-nil R
picked {Q = Q} {R = R} test both (x ∷ xs) all = by (test x) refl (picked test both xs (All-tail Q x xs all))
  where
    by : (t : Bool) → test x ≡ t → All R (filter test xs) → All R (cond t (x ∷ filter test xs) (filter test xs))
    by true is rest = All-cons R x (filter test xs) (both x is (All-head Q x xs all)) rest
    by false is rest = rest

range-below : (from len : ℕ) → All (λ n. n < from + len) (range_with_len from len)
range-below from zero = All-nil (λ n. n < from + zero)
range-below from (suc len) =
    All-cons (λ n. n < from + suc len) from (range_with_len (from + 1) len) (omega arith) (All-weaker (λ n. n < (from + 1) + len) (λ n. n < from + suc len) (λ n low. omega (arith, low)) (range_with_len (from + 1) len) (range-below (from + 1) len))

range-has : (from len n : ℕ) → from ≤ n → n < from + len → Has (range_with_len from len) n
range-has from zero n low high = absurd (omega (arith, low, high))
range-has from (suc len) n low high = by (from == n) refl (λ above. range-has (from + 1) len n above (omega (arith, high)))
  where
    by : (t : Bool) → (from == n) ≡ t → (from + 1 ≤ n → Has (range_with_len (from + 1) len) n) → Has (from ∷ range_with_len (from + 1) len) n
    by true is rest = (0, ap Some ((Decides-eqb from n).0 is))
    by false is rest =
        let apart : from ≢ n = λ same. true≢false (sym ((Decides-eqb from n).1 same) ∙ is) in
        let found = rest (omega (arith, low, apart)) in
        (suc found.0, found.1)

filter-has : {A : Type 0} (test : A → Bool) (xs : List A) (k : ℕ) (x : A) → slice_get xs k ≡ Some x → test x ≡ true → Has (filter test xs) x
filter-has test [] k x at passes = absurd (cc)
filter-has test (y ∷ xs) zero x at passes = subst (λ t. Has (cond t (y ∷ filter test xs) (filter test xs)) x) (sym (ap test (Some-injective y x at) ∙ passes)) (0, at)
filter-has {A = A} test (y ∷ xs) (suc k) x at passes = by (test y) (filter-has test xs k x at passes)
  where
    by : (t : Bool) → Has (filter test xs) x → Has (cond t (y ∷ filter test xs) (filter test xs)) x
    by true found = (suc found.0, found.1)
    by false found = found

find-some : {A : Type 0} (test : A → Bool) (xs : List A) (k : ℕ) (x : A) → slice_get xs k ≡ Some x → test x ≡ true → is_some (find test xs) ≡ true
find-some test [] k x at passes = absurd (cc)
find-some test (y ∷ xs) zero x at passes = ap (λ t. is_some (cond t (Some y) (find test xs))) (ap test (Some-injective y x at) ∙ passes)
find-some test (y ∷ xs) (suc k) x at passes = by (test y) (find-some test xs k x at passes)
  where
    by : (t : Bool) → is_some (find test xs) ≡ true → is_some (cond t (Some y) (find test xs)) ≡ true
    by true rest = refl
    by false rest = rest

among : (those : List ℕ) (number : ℕ) → Contains those number → is_among those number ≡ true
among those number (k, within, at) = list_any_at (λ one. one == number) those k number within ((Decides-eqb (get_or those k number) number).1 at)

contained : (those : List ℕ) (number : ℕ) → is_among those number ≡ true → Contains those number
contained those number is =
    let (k, one, within, at, same) = Any-from_list_any (λ one. one == number) those is in
    (k, within, get_or_default those k number one within ∙ at ∙ (Decides-eqb one number).0 same)

from-test : (a b : ℕ) → nat_lt a b ≡ true → a < b
from-test a b test = grind (arith, nat_tests)

-- the numbers rise, from one on and below the count
abbrev rise : ℕ → ℕ → List ℕ → Bool
rise from count [] = true
rise from count (number ∷ numbers) = nat_lt number count && nat_lt from (number + 1) && rise (number + 1) count numbers

rise-lower : (low high count : ℕ) (numbers : List ℕ) → low ≤ high → rise high count numbers ≡ true → rise low count numbers ≡ true
rise-lower low high count [] less up = refl
rise-lower low high count (number ∷ numbers) less up =
    let parts = and_parts (nat_lt number count && nat_lt high (number + 1)) (rise (number + 1) count numbers) up in
    let more = and_parts (nat_lt number count) (nat_lt high (number + 1)) parts.0 in
    let above : high < number + 1 = from-test high (number + 1) more.1 in
    and_from (nat_lt number count && nat_lt low (number + 1)) (rise (number + 1) count numbers) (and_from (nat_lt number count) (nat_lt low (number + 1)) more.0 (lt-ltb low (number + 1) (omega (arith, less, above)))) parts.1

rise-filter : {A : Type 0} (number_of : A → ℕ) (test : A → Bool) (low count : ℕ) (xs : List A) → rise low count (map number_of xs) ≡ true → rise low count (map number_of (filter test xs)) ≡ true
rise-filter number_of test low count [] up = refl
rise-filter number_of test low count (x ∷ xs) up =
    let parts = and_parts (nat_lt (number_of x) count && nat_lt low (number_of x + 1)) (rise (number_of x + 1) count (map number_of xs)) up in
    by (test x) parts.0 (rise-filter number_of test (number_of x + 1) count xs parts.1)
  where
    by : (t : Bool) → (nat_lt (number_of x) count && nat_lt low (number_of x + 1)) ≡ true → rise (number_of x + 1) count (map number_of (filter test xs)) ≡ true → rise low count (map number_of (cond t (x ∷ filter test xs) (filter test xs))) ≡ true
    by true here later = and_from (nat_lt (number_of x) count && nat_lt low (number_of x + 1)) (rise (number_of x + 1) count (map number_of (filter test xs))) here later
    by false here later =
        let above : low < number_of x + 1 = from-test low (number_of x + 1) (and_parts (nat_lt (number_of x) count) (nat_lt low (number_of x + 1)) here).1 in
        rise-lower low (number_of x + 1) count (map number_of (filter test xs)) (omega (arith, above)) later

rise-append : (low mid count : ℕ) (first second : List ℕ) → low ≤ mid → mid ≤ count → rise low mid first ≡ true → rise mid count second ≡ true → rise low count (first ++ second) ≡ true
rise-append low mid count [] second less within up more = rise-lower low mid count second less more
rise-append low mid count (number ∷ first) second less within up more =
    let parts = and_parts (nat_lt number mid && nat_lt low (number + 1)) (rise (number + 1) mid first) up in
    let rest = and_parts (nat_lt number mid) (nat_lt low (number + 1)) parts.0 in
    let below : number < mid = from-test number mid rest.0 in
    and_from (nat_lt number count && nat_lt low (number + 1)) (rise (number + 1) count (first ++ second))
    (and_from (nat_lt number count) (nat_lt low (number + 1)) (lt-ltb number count (omega (arith, below, within))) rest.1)
    (rise-append (number + 1) mid count first second (omega (arith, below)) within parts.1 more)

rise-range : (first from len count : ℕ) (test : ℕ → Bool) → count ≡ first + (from + len) → rise (first + from) count (map (λ n. first + n) (filter test (range_with_len from len))) ≡ true
rise-range first from zero count test is = refl
rise-range first from (suc len) count test is = by (test from) (rise-range first (from + 1) len count test (omega (arith, is)))
  where
    by : (t : Bool) → rise (first + (from + 1)) count (map (λ n. first + n) (filter test (range_with_len (from + 1) len))) ≡ true
        → rise (first + from) count (map (λ n. first + n) (cond t (from ∷ filter test (range_with_len (from + 1) len)) (filter test (range_with_len (from + 1) len)))) ≡ true
    by true later =
        and_from (nat_lt (first + from) count && nat_lt (first + from) (first + from + 1)) (rise (first + from + 1) count (map (λ n. first + n) (filter test (range_with_len (from + 1) len))))
        (and_from (nat_lt (first + from) count) (nat_lt (first + from) (first + from + 1)) (lt-ltb (first + from) count (omega (arith, is))) (lt-ltb (first + from) (first + from + 1) (omega arith)))
        (rise-lower (first + from + 1) (first + (from + 1)) count (map (λ n. first + n) (filter test (range_with_len (from + 1) len))) (omega arith) later)
    by false later = rise-lower (first + from) (first + (from + 1)) count (map (λ n. first + n) (filter test (range_with_len (from + 1) len))) (omega arith) later

-- ---- where planned steps come from

module _ (T : Task) (X : NumberedTask) (S : Statics) where
  abbrev count_at : Action → ℕ
  count_at action = choice_count X.numbers (ranges_of X.numbers action.params)

  -- the action and the choice of objects of a planned step, which may begin
  record Origin (planned : PlannedStep) : Type 0 where
    place : ℕ
    action : Action
    here : slice_get T.domain.actions place ≡ Some action
    rest : ℕ
    within : rest < choice_count X.numbers (ranges_of X.numbers action.params)
    may : may_begin X.numbers S (choice_of X.numbers action rest) (numbered_action X.numbers action).pre ≡ true
    is : planned ≡ planned_step (numbered_action X.numbers action) (steps_before X.numbers T place) rest

  counts-next : (actions : List Action) (a : ℕ) (action : Action) → slice_get actions a ≡ Some action → sum (take (suc a) (map count_at actions)) ≡ sum (take a (map count_at actions)) + count_at action
  counts-next [] a action here = absurd (cc)
  counts-next (first ∷ actions) zero action here =
      let same = ap count_at (Some-injective first action here) in
      let one = sum-cons (count_at first) [] in
      omega (arith, same, one)
  counts-next (first ∷ actions) (suc a) action here =
      let rest = counts-next actions a action here in
      let one = sum-cons (count_at first) (take (suc a) (map count_at actions)) in
      let other = sum-cons (count_at first) (take a (map count_at actions)) in
      omega (arith, rest, one, other)

  -- the actions from the place on are those
  abbrev AreFrom : ℕ → List Action → Type 0
  AreFrom a suffix = (k : ℕ) (action : Action) → slice_get suffix k ≡ Some action → slice_get T.domain.actions (k + a) ≡ Some action

  from-next : (a : ℕ) (action : Action) (suffix : List Action) → AreFrom a (action ∷ suffix) → AreFrom (suc a) suffix
  from-next a action suffix tells k other at = subst (λ n. slice_get T.domain.actions n ≡ Some other) (omega arith) (tells (suc k) other at)

  from-here : (a : ℕ) (action : Action) (suffix : List Action) → AreFrom a (action ∷ suffix) → slice_get T.domain.actions a ≡ Some action
  from-here a action suffix tells = subst (λ n. slice_get T.domain.actions n ≡ Some action) (omega arith) (tells 0 action refl)

  abbrev planned_from : ℕ → List Action → List PlannedStep
  planned_from first suffix = steps_from X.numbers S first (map (numbered_action X.numbers) suffix)

  before-next : (a : ℕ) (action : Action) → slice_get T.domain.actions a ≡ Some action → steps_before X.numbers T a + count_at action ≡ steps_before X.numbers T (suc a)
  before-next a action here = sym (counts-next T.domain.actions a action here)

  origins : (suffix : List Action) (a : ℕ) → AreFrom a suffix → All Origin (planned_from (steps_before X.numbers T a) suffix)
  origins [] a tells = All-nil Origin
  origins (action ∷ suffix) a tells =
      let first = steps_before X.numbers T a in
      let made = numbered_action X.numbers action in
      let here = from-here a action suffix tells in
      let test : ℕ → Bool = λ n. may_begin X.numbers S (choice_of X.numbers action n) made.pre in
      All-append Origin (action_steps X.numbers S made first) (planned_from (first + count_at action) suffix)
      (
      All-map Origin (planned_step made first) (candidates_of X.numbers S made.ranges made.pre)
      (
      picked {Q = λ n. n < 0 + count_at action} {R = λ n. Origin (planned_step made first n)} test
      (λ n may low. record { place = a; action = action; here = here; rest = n; within = omega (arith, low); may = may; is = refl })
      (range_with_len 0 (count_at action)) (range-below 0 (count_at action))
      )
      )
      (subst (λ n. All Origin (planned_from n suffix)) (sym (before-next a action here)) (origins suffix (suc a) (from-next a action suffix tells)))

  -- each choice that may begin is planned
  planned-has : (suffix : List Action) (a k : ℕ) (action : Action) (rest : ℕ) → AreFrom a suffix → slice_get suffix k ≡ Some action → rest < count_at action
      → may_begin X.numbers S (choice_of X.numbers action rest) (numbered_action X.numbers action).pre ≡ true
      → Has (planned_from (steps_before X.numbers T a) suffix) (planned_step (numbered_action X.numbers action) (steps_before X.numbers T (k + a)) rest)
  planned-has [] a k action rest tells at low may = absurd (cc)
  planned-has (other ∷ suffix) a zero action rest tells at low may =
      let same : other ≡ action = Some-injective other action at in
      let first = steps_before X.numbers T a in
      let made = numbered_action X.numbers other in
      let test : ℕ → Bool = λ n. may_begin X.numbers S (choice_of X.numbers other n) made.pre in
      let inside = range-has 0 (count_at other) rest (omega arith) (subst (λ one. rest < 0 + count_at one) (sym same) (omega (arith, low))) in
      let found = filter-has test (range_with_len 0 (count_at other)) inside.0 rest inside.1 (subst (λ one. may_begin X.numbers S (choice_of X.numbers one rest) (numbered_action X.numbers one).pre ≡ true) (sym same) may) in
      subst (λ n. Has (planned_from first (other ∷ suffix)) (planned_step (numbered_action X.numbers action) (steps_before X.numbers T n) rest)) (omega arith)
      (
      subst (λ one. Has (planned_from first (other ∷ suffix)) (planned_step (numbered_action X.numbers one) first rest)) same
      (
      in_left (action_steps X.numbers S made first) (planned_from (first + count_at other) suffix) found.0 (planned_step made first rest)
      (map_at (planned_step made first) (candidates_of X.numbers S made.ranges made.pre) found.0 rest found.1)
      )
      )
  planned-has (other ∷ suffix) a (suc k) action rest tells at low may =
      let first = steps_before X.numbers T a in
      let made = numbered_action X.numbers other in
      let further = planned-has suffix (suc a) k action rest (from-next a other suffix tells) at low may in
      let one = planned_step (numbered_action X.numbers action) (steps_before X.numbers T (suc k + a)) rest in
      in_right (action_steps X.numbers S made first) (planned_from (first + count_at other) suffix) one
      (
      subst (λ n. Has (planned_from n suffix) one) (sym (before-next a other (from-here a other suffix tells)))
      (subst (λ n. Has (planned_from (steps_before X.numbers T (suc a)) suffix) (planned_step (numbered_action X.numbers action) (steps_before X.numbers T n) rest)) (omega arith) further)
      )

  -- their numbers rise
  numbers-rise : (suffix : List Action) (first : ℕ) → rise first (first + count_of_steps X.numbers (map (numbered_action X.numbers) suffix)) (map (λ (planned : PlannedStep). planned.number) (planned_from first suffix)) ≡ true
  numbers-rise [] first = refl
  numbers-rise (action ∷ suffix) first =
      let made = numbered_action X.numbers action in
      let mid = first + count_at action in
      let total = count_of_steps X.numbers (map (numbered_action X.numbers) suffix) in
      let test : ℕ → Bool = λ n. may_begin X.numbers S (choice_of X.numbers action n) made.pre in
      ap (rise first (first + (count_at action + total))) (map-append (λ (planned : PlannedStep). planned.number) (action_steps X.numbers S made first) (planned_from mid suffix))
      ∙ rise-append first mid (first + (count_at action + total)) (map (λ (planned : PlannedStep). planned.number) (action_steps X.numbers S made first)) (map (λ (planned : PlannedStep). planned.number) (planned_from mid suffix)) (omega arith) (omega arith)
      (
      ap (rise first mid) (numbers-of made first (candidates_of X.numbers S made.ranges made.pre))
      ∙ rise-lower first (first + 0) mid (map (λ n. first + n) (candidates_of X.numbers S made.ranges made.pre)) (omega arith) (rise-range first 0 (count_at action) mid test (omega arith))
      )
      (subst (λ n. rise mid n (map (λ (planned : PlannedStep). planned.number) (planned_from mid suffix)) ≡ true) (omega arith) (numbers-rise suffix mid))
    where
      numbers-of : (made : NumberedAction) (first : ℕ) (choices : List ℕ) → map (λ (planned : PlannedStep). planned.number) (map (planned_step made first) choices) ≡ map (λ n. first + n) choices
      numbers-of made first [] = refl
      numbers-of made first (n ∷ choices) = ap (λ rest. (first + n) ∷ rest) (numbers-of made first choices)

  -- ---- steps that are made of them

  module _ (places : ℕ) (atoms : List GroundAtom) where
    made-at : (planned : List PlannedStep) (made : List GroundStep) → StepsAreMade X S places atoms planned made → (k : ℕ) (one : PlannedStep) → slice_get planned k ≡ Some one → (step : GroundStep) × (slice_get made k ≡ Some step) × (step.number ≡ one.number)
    made-at [] made all k one at = absurd (cc)
    made-at (first ∷ planned) [] all k one at = absurd all
    made-at (first ∷ planned) (step ∷ made) all zero one at = (step, refl, all.0.number ∙ ap (λ (planned : PlannedStep). planned.number) (Some-injective first one at))
    made-at (first ∷ planned) (step ∷ made) all (suc k) one at = made-at planned made all.1 k one at

    made-rise : (from count : ℕ) (planned : List PlannedStep) (made : List GroundStep) → StepsAreMade X S places atoms planned made → rises from count made ≡ rise from count (map (λ (planned : PlannedStep). planned.number) planned)
    made-rise from count [] [] all = refl
    made-rise from count [] (step ∷ made) all = absurd all
    made-rise from count (first ∷ planned) [] all = absurd all
    made-rise from count (first ∷ planned) (step ∷ made) all =
        (λ i. nat_lt (all.0.number i) count && nat_lt from (all.0.number i + 1) && rises (all.0.number i + 1) count made)
        ∙ ap (λ rest. nat_lt first.number count && nat_lt from (first.number + 1) && rest) (made-rise (first.number + 1) count planned made all.1)

module _ (T : Task) (X : NumberedTask) (S : Statics) (well : WellFormed T) (numbered : IsNumberedTask T X) where
  at-choice : (planned : PlannedStep) (origin : Origin T X S planned) → IsAtChoice T X.numbers origin.place origin.action origin.rest
  at-choice planned origin = steps-are-at-choices T X origin.place origin.rest origin.action well numbered origin.here origin.within

  planned-origins : All (Origin T X S) (planned_steps X S)
  planned-origins = subst (λ actions. All (Origin T X S) (steps_from X.numbers S 0 actions)) (sym numbered.actions) (origins T X S T.domain.actions 0 (λ k action at. subst (λ n. slice_get T.domain.actions n ≡ Some action) (omega arith) at))

  all-origins : (wanted : Option (List ℕ)) → All (Origin T X S) (wanted_steps X S wanted)
  all-origins None = planned-origins
  all-origins (Some those) = All-filter (λ (one : PlannedStep). is_among those one.number) (Origin T X S) (planned_steps X S) planned-origins

  -- ---- names

  step-named : (planned : PlannedStep) → Origin T X S planned → are_named X.numbers (step_atoms X.numbers planned) ≡ true
  step-named planned origin =
      let slots = choice_of X.numbers origin.action origin.rest in
      let action = numbered_action X.numbers origin.action in
      let names : IsNamedStep X.numbers slots action = (reads-named T X well numbered).steps origin.place origin.action slots origin.here (at-choice planned origin).at.fills in
      let pre = hard_atoms X.numbers slots action.pre in
      let prefs = preference_atoms X.numbers slots action.pre in
      let effects = effect_atoms X.numbers slots action.effect in
      ap (λ one. are_named X.numbers (step_atoms X.numbers one)) origin.is
      ∙ list_all-append (is_named X.numbers) pre (prefs ++ effects)
      ∙ and_from (are_named X.numbers pre) (are_named X.numbers (prefs ++ effects)) names.pre (list_all-append (is_named X.numbers) prefs effects ∙ and_from (are_named X.numbers prefs) (are_named X.numbers effects) names.prefs names.effects)

  steps-named : (planned : List PlannedStep) → All (Origin T X S) planned → are_named X.numbers (all_atoms X.numbers planned) ≡ true
  steps-named [] all = refl
  steps-named (one ∷ planned) all =
      list_all-append (is_named X.numbers) (step_atoms X.numbers one) (all_atoms X.numbers planned)
      ∙ and_from (are_named X.numbers (step_atoms X.numbers one)) _ (step-named one (All-head (Origin T X S) one planned all)) (steps-named planned (All-tail (Origin T X S) one planned all))

  planned-named : (wanted : Option (List ℕ)) → are_named X.numbers (all_atoms X.numbers (wanted_steps X S wanted)) ≡ true
  planned-named wanted = steps-named (wanted_steps X S wanted) (all-origins wanted)

  -- ---- counts

  counts-sum : (actions : List Action) → count_of_steps X.numbers (map (numbered_action X.numbers) actions) ≡ sum (map (count_at T X S) actions)
  counts-sum [] = refl
  counts-sum (action ∷ actions) = ap (λ n. count_at T X S action + n) (counts-sum actions) ∙ sym (sum-cons (count_at T X S action) (map (count_at T X S) actions))

  counted : count_of_steps X.numbers X.actions ≡ length (steps T)
  counted =
      ap (count_of_steps X.numbers) numbered.actions ∙ counts-sum T.domain.actions
      ∙ sym (step_count_is T X.numbers numbered.numbering (parameters-known X.numbers T.domain.actions (task-known T X.numbers well numbered.covers).actions))

module _ (T : Task) (X : NumberedTask) (S : Statics) (atoms : List GroundAtom) (ex : AreExpanded T X S atoms) where
  whole-known : IsKnownWhole T X S
  whole-known = record { well = ex.well; numbered = ex.numbered; statics = ex.statics }

  abbrev places : ℕ
  places = cost_places T

  one-kept : (planned : PlannedStep) (made : GroundStep) → Origin T X S planned → StepIsMade X S (cost_places T) atoms planned made → IsKept T X S atoms made
  one-kept planned made origin stands =
      let slots = choice_of X.numbers origin.action origin.rest in
      let step = step_at X.numbers origin.action slots in
      let chosen = at-choice T X S ex.well ex.numbered planned origin in
      let number : made.number ≡ steps_before X.numbers T origin.place + origin.rest = stands.number ∙ ap (λ (one : PlannedStep). one.number) origin.is in
      let own : StepIsMade X S (cost_places T) atoms (planned_step (numbered_action X.numbers origin.action) (steps_before X.numbers T origin.place) origin.rest) made = subst (λ one. StepIsMade X S (cost_places T) atoms one made) origin.is stands in
      record {
        action = origin.action;
        slots = slots;
        step = step;
        number = subst (HasNumber T step) (sym number) chosen.has;
        at = chosen.at;
        is = record { pre = own.pre; prefs = own.prefs; effects = own.effects; cost = own.cost ∙ steps-cost-alike T X S origin.action slots step whole-known chosen.at };
      }

  one-may : (planned : PlannedStep) (made : GroundStep) → Origin T X S planned → StepIsMade X S (cost_places T) atoms planned made → MayBegin T X S made
  unfolding one-kept
  one-may planned made origin stands =
      let kept = one-kept planned made origin stands in
      record { action = kept.action; slots = kept.slots; step = kept.step; number = kept.number; at = kept.at; may = origin.may }

  -- what each planned step tells of the one that is made of it is so of all
  of-all : (Tells : PlannedStep → Type 0) (Says : GroundStep → Type 0) → ((one : PlannedStep) (made : GroundStep) → Tells one → StepIsMade X S (cost_places T) atoms one made → Says made)
      → (planned : List PlannedStep) (made : List GroundStep) → All Tells planned → StepsAreMade X S (cost_places T) atoms planned made → All Says made
  of-all Tells Says each [] [] from all = All-nil Says
  of-all Tells Says each [] (step ∷ made) from all = absurd all
  of-all Tells Says each (one ∷ planned) [] from all = absurd all
  of-all Tells Says each (one ∷ planned) (step ∷ made) from all =
      All-cons Says step made (each one step (All-head Tells one planned from) all.0) (of-all Tells Says each planned made (All-tail Tells one planned from) all.1)

  -- ---- the wanted steps

  planned-rise : rise 0 (length (steps T)) (map (λ (one : PlannedStep). one.number) (planned_steps X S)) ≡ true
  planned-rise =
      ap (λ n. rise 0 n (map (λ (one : PlannedStep). one.number) (planned_steps X S))) (sym (counted T X S ex.well ex.numbered))
      ∙ ap (λ actions. rise 0 (count_of_steps X.numbers actions) (map (λ (one : PlannedStep). one.number) (steps_from X.numbers S 0 actions))) ex.numbered.actions
      ∙ subst (λ n. rise 0 n (map (λ (one : PlannedStep). one.number) (planned_from T X S 0 T.domain.actions)) ≡ true) (omega arith) (numbers-rise T X S T.domain.actions 0)

  wanted-rise : (wanted : Option (List ℕ)) → rise 0 (length (steps T)) (map (λ (one : PlannedStep). one.number) (wanted_steps X S wanted)) ≡ true
  wanted-rise None = planned-rise
  wanted-rise (Some those) = rise-filter (λ (one : PlannedStep). one.number) (λ (one : PlannedStep). is_among those one.number) 0 (length (steps T)) (planned_steps X S) planned-rise

  only-wanted : (wanted : Option (List ℕ)) → All (λ (one : PlannedStep). IsWanted wanted one.number) (wanted_steps X S wanted)
  only-wanted None = λ k d within. tt
  only-wanted (Some those) =
      All-weaker (λ (one : PlannedStep). is_among those one.number ≡ true) (λ (one : PlannedStep). Contains those one.number) (λ one. contained those one.number) (planned_among X S those)
      (filter_passes (λ (one : PlannedStep). is_among those one.number) (planned_steps X S))

  abbrev step_there : ℕ → ℕ → Action → PlannedStep
  step_there place rest action = planned_step (numbered_action X.numbers action) (steps_before X.numbers T place) rest

  planned-there : (place rest : ℕ) (action : Action) → slice_get T.domain.actions place ≡ Some action → rest < count_at T X S action → may_begin X.numbers S (choice_of X.numbers action rest) (numbered_action X.numbers action).pre ≡ true
      → Has (planned_steps X S) (step_there place rest action)
  planned-there place rest action here low may =
      subst (λ actions. Has (steps_from X.numbers S 0 actions) (step_there place rest action)) (sym ex.numbered.actions)
      (
      subst (λ n. Has (steps_from X.numbers S 0 (map (numbered_action X.numbers) T.domain.actions)) (step_there n rest action)) (omega arith)
      (planned-has T X S T.domain.actions 0 place action rest (λ k action at. subst (λ n. slice_get T.domain.actions n ≡ Some action) (omega arith) at) here low may)
      )

  wanted-there : (wanted : Option (List ℕ)) (place rest : ℕ) (action : Action) → IsWanted wanted (steps_before X.numbers T place + rest) → Has (planned_steps X S) (step_there place rest action) → Has (wanted_steps X S wanted) (step_there place rest action)
  wanted-there None place rest action want found = found
  wanted-there (Some those) place rest action want found =
      filter-has (λ (one : PlannedStep). is_among those one.number) (planned_steps X S) found.0 (step_there place rest action) found.1 (among those (steps_before X.numbers T place + rest) want)

  keeps : (wanted : Option (List ℕ)) (made : List GroundStep) → StepsAreMade X S (cost_places T) atoms (wanted_steps X S wanted) made → (G : GroundTask) → G.steps ≡ made → (number : ℕ) → IsWanted wanted number → KeepsAt T X S G number
  keeps wanted made all G is number want place rest action here low at may =
      let found = wanted-there wanted place rest action (subst (IsWanted wanted) (sym at) want) (planned-there place rest action here low may) in
      let (step, there, same) = made-at T X S (cost_places T) atoms (wanted_steps X S wanted) made all found.0 (step_there place rest action) found.1 in
      ap (λ steps. is_some (find (λ (step : GroundStep). step.number == number) steps)) is
      ∙ find-some (λ (step : GroundStep). step.number == number) made found.0 step there ((Decides-eqb step.number number).1 (same ∙ at))

  planned-are-all : PlannedStepsAreAll T X S atoms
  planned-are-all wanted made all =
      let planned = wanted_steps X S wanted in
      let origins = all-origins T X S ex.well ex.numbered wanted in
      record {
        kept = of-all (Origin T X S) (IsKept T X S atoms) one-kept planned made origins all;
        may = of-all (Origin T X S) (MayBegin T X S) one-may planned made origins all;
        only =
            of-all (λ (one : PlannedStep). IsWanted wanted one.number) (λ (step : GroundStep). IsWanted wanted step.number) (λ one made want stands. subst (IsWanted wanted) (sym stands.number) want) planned made
            (only-wanted wanted) all;
        rising = made-rise T X S (cost_places T) atoms 0 (length (steps T)) planned made all ∙ wanted-rise wanted;
        whole = keeps wanted made all;
      }

pub planned-steps-are-all : OfExpanded PlannedStepsAreAll
planned-steps-are-all = planned-are-all

pub planned-steps-read-names : PlannedStepsReadNames
planned-steps-read-names T X S wanted well numbered = planned-named T X S well numbered wanted

pub steps-are-counted : StepsAreCounted
steps-are-counted T X well numbered = counted T X (record { changed = []; facts = [] }) well numbered
