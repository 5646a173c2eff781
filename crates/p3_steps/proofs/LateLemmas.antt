-- The parts of a precondition that are tested late, and the choices that are left.
use Rattle.std.proofs.Common.{◌≡◌, ◌∙◌, ℕ, ◌<◌, Bool, true, false, not, ◌&&◌, cond, List, [], ◌∷◌, refl, sym, ap, subst}
use Rattle.std.specs.Bool.{OnFalse, OnTrue}
use Rattle.std.specs.List.{All, filter, list_all}
use Rattle.std.proofs.lemmas.Bool.{and_from, false≢true}
use Rattle.std.proofs.lemmas.List.Elements.{All-cons, All-head, All-nil, All-tail, All-weaker}
use denote.Ref.{Bor}
use Rattle.p3_numbers.specs.Choices.{choice, choice_count}
use Rattle.p3_numbers.specs.Slots.{bound}
use Rattle.p3_numbers.specs.declared.condition.NumberedCondition.{NumberedCondition}
use Rattle.p3_numbers.specs.declared.condition.NumberedCondition.TheVariants as condition
use Rattle.p3_numbers.specs.declared.goal.NumberedGoal.{NumberedGoal}
use Rattle.p3_numbers.specs.declared.goal.NumberedGoal.TheVariants as goal
use Rattle.p3_numbers.specs.declared.numbers.Numbers.{Numbers}
use Rattle.p3_expansion.specs.declared.statics.Statics.{Statics}
use Rattle.p3_expansion.proofs.ChoiceLemmas.{length-bound}
use Rattle.p3_steps.specs.Late.{AreLate, BodyMayAlways, IsTestedEarly, JoinsAllLate, JoinsLate, MayAlways, MayAlwaysBegin, PartsMayAlways, all_begin}
use Rattle.p3_steps.specs.Possible.{may_be, may_begin, may_yet_be, may_yet_begin}
use Rattle.p3_steps.proofs.EachLemmas.{each-alike, each-always}
use Rattle.p3_steps.proofs.PossibleLaws.{may-begin-yet}
use Rattle.p3_steps.proofs.PossibleLemmas.{begin-Both, begin-Each, may-And, may-Or}
use Rattle.p3_steps.proofs.RisingNumbers.{filter-same}

-- ---- what need not be tested

pub on-false : (b : Bool) {P Q : Type 0} → (P → Q) → OnFalse b P → OnFalse b Q
on-false true follow is = is
on-false false follow is = follow is

pub on-true : (b : Bool) {P Q : Type 0} → (P → Q) → OnTrue b P → OnTrue b Q
on-true true follow is = follow is
on-true false follow is = is

pub on-not : (b : Bool) {P Q : Type 0} → (P → Q) → OnTrue b P → OnFalse (not b) Q
on-not true follow is = follow is
on-not false follow is = is

pub where-true : (b : Bool) {P : Type 0} → OnTrue b P → b ≡ true → P
where-true true is same = is
where-true false is same = absurd (false≢true same)

pub early-And : (parts : List NumberedCondition) → All IsTestedEarly parts → IsTestedEarly (condition.And parts)
early-And parts early N S slots wish =
    may-And N S true slots parts wish ∙ each-alike (λ part. may_be N S slots part wish) (λ part. may_yet_be N S slots part wish) parts
    (All-weaker IsTestedEarly (λ part. may_be N S slots part wish ≡ may_yet_be N S slots part wish) (λ part is. is N S slots wish) parts early) wish ∙ sym (may-And N S false slots parts wish)

pub early-Or : (parts : List NumberedCondition) → All IsTestedEarly parts → IsTestedEarly (condition.Or parts)
early-Or parts early N S slots wish =
    may-Or N S true slots parts wish ∙ each-alike (λ part. may_be N S slots part wish) (λ part. may_yet_be N S slots part wish) parts
    (All-weaker IsTestedEarly (λ part. may_be N S slots part wish ≡ may_yet_be N S slots part wish) (λ part is. is N S slots wish) parts early) (not wish) ∙ sym (may-Or N S false slots parts wish)

module _ (N : Numbers) (S : Statics) where
  pub always-And : (parts : List NumberedCondition) (wish : Bool) → PartsMayAlways N S wish parts wish → MayAlways N S (condition.And parts) wish
  always-And parts wish always slots = may-And N S true slots parts wish ∙ always slots

  pub always-Or : (parts : List NumberedCondition) (wish : Bool) → PartsMayAlways N S (not wish) parts wish → MayAlways N S (condition.Or parts) wish
  always-Or parts wish always slots = may-Or N S true slots parts wish ∙ always slots

  module _ (ranges : List ℕ) (body : NumberedCondition) (every wish : Bool) where
    pub body-at-each : every ≡ true → MayAlways N S body wish → BodyMayAlways N S every ranges body wish
    body-at-each is always slots = each-always (λ inner. may_be N S inner body wish) (bound N slots ranges) (λ inner. always inner) every (λ none. absurd (false≢true (sym none ∙ is)))

    pub body-at-some : 0 < choice_count N ranges → MayAlways N S body wish → BodyMayAlways N S every ranges body wish
    body-at-some some always slots = each-always (λ inner. may_be N S inner body wish) (bound N slots ranges) (λ inner. always inner) every (λ _. subst (λ n. 0 < n) (sym (length-bound N slots ranges)) some)

  pub always-Each : (ranges : List ℕ) (body : NumberedGoal) → MayAlwaysBegin N S body → MayAlwaysBegin N S (goal.Each ranges body)
  always-Each ranges body always slots = begin-Each N S true slots ranges body ∙ each-always (λ inner. may_begin N S inner body) (bound N slots ranges) (λ inner. always inner) true (λ none. absurd (false≢true (sym none)))

  pub always-Both : (parts : List NumberedGoal) → All (MayAlwaysBegin N S) parts → MayAlwaysBegin N S (goal.Both parts)
  always-Both parts always slots = begin-Both N S true slots parts ∙ by parts always
    where
      by : (rest : List NumberedGoal) → All (MayAlwaysBegin N S) rest → list_all (λ part. may_begin N S slots part) rest ≡ true
      by [] always = refl
      by (part ∷ rest) always = and_from (may_begin N S slots part) (list_all (λ one. may_begin N S slots one) rest) (All-head (MayAlwaysBegin N S) part rest always slots) (by rest (All-tail (MayAlwaysBegin N S) part rest always))

-- ---- the parts

module _ (N : Numbers) (S : Statics) where
  pub joins-Both : (parts : List NumberedGoal) (old new : List (Bor NumberedGoal)) → JoinsAllLate N S parts old new → JoinsLate N S (goal.Both parts) old new
  joins-Both parts old new joins slots yet = joins slots (sym (begin-Both N S false slots parts) ∙ yet) ∙ ap (λ more. all_begin N S slots old && more) (sym (begin-Both N S true slots parts))

-- ---- the choices

filter-within : (p q : ℕ → Bool) → ((x : ℕ) → q x ≡ true → p x ≡ true) → (xs : List ℕ) → filter q (filter p xs) ≡ filter q xs
filter-within p q narrow [] = refl
filter-within p q narrow (x ∷ xs) = by (p x) (q x) refl refl (filter-within p q narrow xs)
  where
    by : (here there : Bool) → p x ≡ here → q x ≡ there → filter q (filter p xs) ≡ filter q xs → filter q (cond here (x ∷ filter p xs) (filter p xs)) ≡ cond there (x ∷ filter q xs) (filter q xs)
    by true true _ too rest = (λ i. cond (too i) (x ∷ filter q (filter p xs)) (filter q (filter p xs))) ∙ ap (λ kept. x ∷ kept) rest
    by true false _ too rest = (λ i. cond (too i) (x ∷ filter q (filter p xs)) (filter q (filter p xs))) ∙ rest
    by false true at too rest = absurd (false≢true (sym at ∙ narrow x too))
    by false false _ _ rest = rest

passes-filter : (p : ℕ → Bool) (xs : List ℕ) → All (λ x. p x ≡ true) (filter p xs)
passes-filter p [] = All-nil (λ x. p x ≡ true)
passes-filter p (x ∷ xs) = by (p x) refl (passes-filter p xs)
  where
    by : (here : Bool) → p x ≡ here → All (λ x. p x ≡ true) (filter p xs) → All (λ x. p x ≡ true) (cond here (x ∷ filter p xs) (filter p xs))
    by true is rest = All-cons (λ x. p x ≡ true) x (filter p xs) is rest
    by false is rest = rest

filter-all : (xs : List ℕ) → filter (λ _. true) xs ≡ xs
filter-all [] = refl
filter-all (x ∷ xs) = ap (λ kept. x ∷ kept) (filter-all xs)

module _ (N : Numbers) (S : Statics) (ranges : List ℕ) (pre : NumberedGoal) where
  abbrev begins : ℕ → Bool
  begins number = may_begin N S (choice N ranges number) pre

  abbrev yet : ℕ → Bool
  yet number = may_yet_begin N S (choice N ranges number) pre

  pub open-pass : (numbers : List ℕ) → All (λ number. may_yet_begin N S (choice N ranges number) pre ≡ true) (filter (λ number. may_yet_begin N S (choice N ranges number) pre) numbers)
  open-pass numbers = passes-filter yet numbers

  -- those among the open ones that may begin are those among all
  pub begin-within : (numbers : List ℕ)
      → filter (λ number. may_begin N S (choice N ranges number) pre) (filter (λ number. may_yet_begin N S (choice N ranges number) pre) numbers) ≡ filter (λ number. may_begin N S (choice N ranges number) pre) numbers
  begin-within numbers = filter-within yet begins (λ number may. may-begin-yet N S (choice N ranges number) pre may) numbers

  module _ (parts : List (Bor NumberedGoal)) (numbers : List ℕ) (late : AreLate N S pre parts) (are : All (λ number. may_yet_begin N S (choice N ranges number) pre ≡ true) numbers) where
    -- they are those at which the late parts may
    pub late-decide : filter (λ number. all_begin N S (choice N ranges number) parts) numbers ≡ filter (λ number. may_begin N S (choice N ranges number) pre) numbers
    late-decide =
        filter-same (λ number. all_begin N S (choice N ranges number) parts) begins numbers
        (All-weaker (λ number. yet number ≡ true) (λ number. all_begin N S (choice N ranges number) parts ≡ begins number) (λ number may. late (choice N ranges number) may) numbers are)

    pub none-late : parts ≡ [] → numbers ≡ filter (λ number. may_begin N S (choice N ranges number) pre) numbers
    none-late none = sym (filter-all numbers) ∙ ap (λ those. filter (λ number. all_begin N S (choice N ranges number) those) numbers) (sym none) ∙ late-decide
