-- What each reason of a plan is of is there, and shows what the reason says.
use Rattle.std.proofs.Common.{◌≡◌, ◌∙◌, ℕ, zero, suc, ◌+◌, ◌-◌, ◌<◌, Bool, true, false, not, List, [], ◌∷◌, ◌++◌, length, map, get_or, refl, sym, ap, arith, Some, cond}
use Rattle.std.specs.Prelude.{filter, flat_map, slice_get}
use Rattle.std.specs.List.{AllByRecursion, enumerate_from}
use Rattle.p3_base.specs.declared.showing.Reason.{Reason}
use Rattle.p3_base.specs.declared.showing.Showing.{Showing}
use Rattle.p3_base.specs.declared.showing.Showing.TheVariants.{FailsAt}
use Rattle.p3_base.specs.declared.showing.Subject.{Subject}
use Rattle.p3_base.specs.declared.showing.Subject.TheVariants.{Hard, Soft, Pre}
use Rattle.p3_task.specs.Constraints.{HardModal, Instance, hard_list, instances, operators}
use Rattle.p3_task.specs.Explanations.{hard_reasons, instance_reasons, is_false_in, move_reasons, reasons, shown}
use Rattle.p3_task.specs.Formulas.{holds}
use Rattle.p3_task.specs.Goals.{StatePref}
use Rattle.p3_task.specs.Metrics.{step_prefs}
use Rattle.p3_task.specs.Plans.{Move, Plan, moves, moves_from, state_after, state_at, visited, visited_from}
use Rattle.p3_task.specs.States.{State, start}
use Rattle.p3_task.specs.declared.task.Step.{Step}
use Rattle.p3_task.specs.declared.task.Task.{Task}
use Rattle.p3_task.proofs.OnceLemmas.{Some-injective}
use Rattle.p3_types.proofs.Gives.{each_appended}

-- ---- what a reason is of

pub record IsHardReason (T : Task) (W : List State) (number : ℕ) (showing : Showing) : Type 0 where
  pub hard : HardModal
  pub at : slice_get (hard_list T) number ≡ Some hard
  pub is : showing ≡ shown T W hard.env hard.modal

pub record IsSoftReason (T : Task) (W : List State) (number part : ℕ) (showing : Showing) : Type 0 where
  pub instance : Instance
  pub hard : HardModal
  pub at : slice_get (instances T) number ≡ Some instance
  pub part_at : slice_get (operators T instance.env instance.body) part ≡ Some hard
  pub is : showing ≡ shown T W hard.env hard.modal

pub record IsStepReason (T : Task) (plan : Plan) (step number : ℕ) : Type 0 where
  pub own : Step
  pub pref : StatePref
  pub step_at : slice_get plan (step - 1) ≡ Some own
  pub within : step - 1 < length plan
  pub at : slice_get (step_prefs T own) number ≡ Some pref
  pub fails : holds T (state_at (visited T plan) (step - 1)) pref.env pref.body ≡ false

abbrev pub IsReasonBy : Task → Plan → Subject → Showing → Type 0
IsReasonBy T plan (Hard number) showing = IsHardReason T (visited T plan) number showing
IsReasonBy T plan (Soft number part) showing = IsSoftReason T (visited T plan) number part showing
IsReasonBy T plan (Pre step number) showing = IsStepReason T plan step number

abbrev pub IsReason : Task → Plan → Reason → Type 0
IsReason T plan reason = IsReasonBy T plan reason.subject reason.showing

-- ---- lists

module _ {A : Type 0} (P : ℕ × A → Type 0) where
  -- what holds of each item with its number
  each-numbered : (n : ℕ) (xs : List A) → ((k m : ℕ) (x : A) → slice_get xs k ≡ Some x → m ≡ n + k → P (m, x)) → AllByRecursion P (enumerate_from n xs)
  each-numbered n [] each = tt
  each-numbered n (x ∷ xs) each = (each 0 n x refl (omega arith), each-numbered (n + 1) xs (λ k m y at is. each (suc k) m y at (omega (arith, is))))

module _ {A B : Type 0} (Q : B → Type 0) where
  each-map : (f : A → B) (xs : List A) → AllByRecursion (λ x. Q (f x)) xs → AllByRecursion Q (map f xs)
  each-map f [] all = tt
  each-map f (x ∷ xs) all = (all.0, each-map f xs all.1)

  each-flat : (f : A → List B) (xs : List A) → AllByRecursion (λ x. AllByRecursion Q (f x)) xs → AllByRecursion Q (flat_map f xs)
  each-flat f [] all = tt
  each-flat f (x ∷ xs) all = each_appended Q (f x) (flat_map f xs) all.0 (each-flat f xs all.1)

-- what holds of each item that passes
each-passing : {A : Type 0} (P : A → Type 0) (p : A → Bool) (xs : List A) → AllByRecursion (λ x. p x ≡ true → P x) xs → AllByRecursion P (filter p xs)
each-passing P p [] all = tt
each-passing P p (x ∷ xs) all = by (p x) refl (each-passing P p xs all.1)
  where
    by : (t : Bool) → p x ≡ t → AllByRecursion P (filter p xs) → AllByRecursion P (cond t (x ∷ filter p xs) (filter p xs))
    by true passes rest = (all.0 passes, rest)
    by false fails rest = rest

not-true : (t : Bool) → not t ≡ true → t ≡ false
not-true true e = sym e
not-true false e = refl

-- ---- the reasons

module _ (T : Task) where
  -- a step stands in the plan, and in the state before it
  move-at : (s : State) (plan : Plan) (k : ℕ) (move : Move) → slice_get (moves_from T s plan) k ≡ Some move → (slice_get plan k ≡ Some move.step) × (k < length plan) × (get_or (visited_from T s plan) k [] ≡ move.state)
  move-at s [] k move at = absurd (cc)
  move-at s (step ∷ plan) zero move at =
      let same : record { state = s; step = step } ≡ move = Some-injective (record { state = s; step = step }) move at in
      (ap (λ (one : Move). Some one.step) same, omega arith, ap (λ (one : Move). one.state) same)
  move-at s (step ∷ plan) (suc k) move at =
      let (here, within, state) = move-at (state_after T s step) plan k move at in
      (here, omega (arith, within), state)

  module _ (plan : Plan) where
    abbrev W : List State
    W = visited T plan

    hard-reasons : AllByRecursion (IsReason T plan) (hard_reasons T plan)
    hard-reasons = each-map (IsReason T plan) (λ (numbered : ℕ × HardModal). record { subject = Hard numbered.0; showing = shown T W numbered.1.env numbered.1.modal }) (enumerate_from 0 (hard_list T))
        (each-numbered (λ (numbered : ℕ × HardModal). IsHardReason T W numbered.0 (shown T W numbered.1.env numbered.1.modal)) 0 (hard_list T)
        (λ k m hard at is. let place : m ≡ k = omega (arith, is) in record { hard = hard; at = ap (slice_get (hard_list T)) place ∙ at; is = refl }))

    own-reasons : (number : ℕ) (instance : Instance) → slice_get (instances T) number ≡ Some instance → AllByRecursion (IsReason T plan) (instance_reasons T plan (number, instance))
    own-reasons number instance here =
        let list = operators T instance.env instance.body in
        each-map (IsReason T plan) (λ (numbered : ℕ × HardModal). record { subject = Soft number numbered.0; showing = shown T W numbered.1.env numbered.1.modal }) (enumerate_from 0 list)
        (each-numbered (λ (numbered : ℕ × HardModal). IsSoftReason T W number numbered.0 (shown T W numbered.1.env numbered.1.modal)) 0 list
        (λ k m hard at is. let place : m ≡ k = omega (arith, is) in record { instance = instance; hard = hard; at = here; part_at = ap (slice_get list) place ∙ at; is = refl }))

    soft-reasons : AllByRecursion (IsReason T plan) (flat_map (instance_reasons T plan) (enumerate_from 0 (instances T)))
    soft-reasons = each-flat (IsReason T plan) (instance_reasons T plan) (enumerate_from 0 (instances T))
        (each-numbered (λ (numbered : ℕ × Instance). AllByRecursion (IsReason T plan) (instance_reasons T plan numbered)) 0 (instances T)
        (λ k m instance at is. let place : m ≡ k = omega (arith, is) in own-reasons m instance (ap (slice_get (instances T)) place ∙ at)))

    step-reasons : (number : ℕ) (move : Move) → slice_get plan (number - 1) ≡ Some move.step → number - 1 < length plan → state_at W (number - 1) ≡ move.state → AllByRecursion (IsReason T plan) (move_reasons T (number, move))
    step-reasons number move here within before =
        let prefs = step_prefs T move.step in
        each-map (IsReason T plan) (λ (pref : ℕ × StatePref). record { subject = Pre number pref.0; showing = FailsAt (number - 1) }) (filter (is_false_in T move.state) (enumerate_from 0 prefs))
        (each-passing (λ (pref : ℕ × StatePref). IsStepReason T plan number pref.0) (is_false_in T move.state) (enumerate_from 0 prefs)
        (each-numbered (λ (pref : ℕ × StatePref). is_false_in T move.state pref ≡ true → IsStepReason T plan number pref.0) 0 prefs
        (λ k m pref at is false_there. let place : m ≡ k = omega (arith, is) in record {
          own = move.step;
          pref = pref;
          step_at = here;
          within = within;
          at = ap (slice_get prefs) place ∙ at;
          fails = ap (λ s. holds T s pref.env pref.body) before ∙ not-true (holds T move.state pref.env pref.body) false_there;
        })))

    steps-reasons : AllByRecursion (IsReason T plan) (flat_map (move_reasons T) (enumerate_from 1 (moves T plan)))
    unfolding visited
    steps-reasons = each-flat (IsReason T plan) (move_reasons T) (enumerate_from 1 (moves T plan))
        (each-numbered (λ (numbered : ℕ × Move). AllByRecursion (IsReason T plan) (move_reasons T numbered)) 1 (moves T plan)
        (λ k m move at is.
        let (here, within, before) = move-at (start T) plan k move at in
        let place : m - 1 ≡ k = omega (arith, is) in
        step-reasons m move (ap (slice_get plan) place ∙ here) (omega (arith, place, within)) (ap (λ i. get_or (visited_from T (start T) plan) i []) place ∙ before)))

    pub all-reasons : AllByRecursion (IsReason T plan) (reasons T plan)
    unfolding reasons
    all-reasons =
        let soft = flat_map (instance_reasons T plan) (enumerate_from 0 (instances T)) in
        each_appended (IsReason T plan) (hard_reasons T plan ++ soft) (flat_map (move_reasons T) (enumerate_from 1 (moves T plan))) (each_appended (IsReason T plan) (hard_reasons T plan) soft hard-reasons soft-reasons) steps-reasons
