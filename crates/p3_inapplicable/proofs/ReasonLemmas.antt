-- What is found by number of a step that does not fit is what is meant by name.
use Rattle.std.proofs.Common.{arith, ◌≡◌, ◌∙◌, ℕ, ◌+◌, ◌-◌, ◌<◌, ◌≤◌, true, false, not, ◌&&◌, List, [], ◌∷◌, length, drop, get_or, cond, take, Option, Some, None, is_some, refl, sym, ap, subst, zero, suc}
use Rattle.std.specs.Prelude.{option_map, slice_get}
use Rattle.std.specs.List.{AllZip}
use Rattle.std.proofs.lemmas.Bool.{and_parts}
use Rattle.std.proofs.lemmas.List.{drop_more}
use Rattle.std.proofs.lemmas.Option.{slice_get-get_or}
use Rattle.std.proofs.lemmas.Slice.Zip.{AllZip-long}
use Rattle.p3_task.specs.Bindings.{are_arguments}
use Rattle.p3_task.specs.Costs.{cost_places, increases}
use Rattle.p3_task.specs.Names.{Name, same_name}
use Rattle.p3_task.specs.Offences.{WellFormed}
use Rattle.p3_task.specs.Plans.{Plan, action_named, arguments, cost_by, state_at, visited}
use Rattle.p3_task.specs.Validity as validity
use Rattle.p3_task.specs.Validity.{AtStep, first_fault, misfit}
use Rattle.p3_task.specs.declared.task.Action.{Action}
use Rattle.p3_task.specs.declared.task.Step.{Step}
use Rattle.p3_task.specs.declared.task.Task.{Task}
use Rattle.p3_task.proofs.OnceLemmas.{Some-injective, map_at}
use Rattle.p3_numbers.specs.Effects.{is_known_effect}
use Rattle.p3_numbers.specs.Goals.{is_known_goal}
use Rattle.p3_numbers.specs.Known.{is_known_action}
use Rattle.p3_numbers.specs.Places.{are_known_types, ranges_of, words_of}
use Rattle.p3_numbers.specs.Tasks.{IsNumberedTask, numbered_action}
use Rattle.p3_numbers.specs.declared.task.NumberedAction.{NumberedAction}
use Rattle.p3_numbers.specs.declared.task.NumberedTask.{NumberedTask}
use Rattle.p3_numbers.proofs.KnownLaws.{task-known}
use Rattle.p3_types.specs.Finds.{HasOtherArguments}
use Rattle.p3_expansion.proofs.NextLemmas.{all-at}
use Rattle.p3_reasons.specs.Decisions.{IsDecision, hard_matter}
use Rattle.p3_reasons.specs.Visits.{IsPlaced, test_after}
use Rattle.p3_reasons.specs.declared.visited.PlacedStep.{PlacedStep}
use Rattle.p3_scenes.specs.Questions.{AreSteps, hard_decided}
use Rattle.p3_scenes.proofs.QuestionLaws.{preconditions-answered}
use Rattle.p3_scenes.proofs.StepLaws.{placed-env}
use Rattle.p3_reports.specs.Faults.{misfit_of}
use Rattle.p3_reports.specs.declared.fault.Misfit.{Misfit}
use Rattle.p3_accounts.specs.declared.state.Shown.TheVariants.{States}
use Rattle.p3_accounts.specs.declared.subject.StepFault.{StepFault}
use Rattle.p3_inapplicable.specs.Arguments.{argument_fault, fault_by}
use Rattle.p3_inapplicable.specs.Headings.{FailsBy, HasFaultyArguments, IsMisfitIn, IsReason, IsUnknown, LacksValue}
use Rattle.p3_inapplicable.specs.Reasons.{IsDone, IsPlain, NamesValue, ShowsStep, action_in, deciding}
use Rattle.p3_inapplicable.specs.Values.{first_missing, missing_value, value_fact}
use Rattle.p3_inapplicable.specs.declared.reason.Reason.{Reason}
use Rattle.p3_inapplicable.proofs.ArgumentLemmas.{by-number, faulty-where-no-arguments}
use Rattle.p3_inapplicable.proofs.MisfitLemmas.{arguments-why, first-state, misfit-at, no-cost-why, precondition-why, unknown-why, visits-as-many}
use Rattle.p3_inapplicable.proofs.ValueLemmas.{missing-means, missing-where-no-cost}

-- ---- the action

pub item-at : {A : Type 0} (xs ys : List A) (k : ℕ) (item : A) → ys ≡ xs → k < length ys → item ≡ get_or ys k item → slice_get xs k ≡ Some item
item-at xs ys k item same within is = ap (λ all. slice_get all k) (sym same) ∙ slice_get-get_or ys k item within ∙ ap Some (sym is)

pub no-action : (T : Task) (step : Step) → action_in T.domain.actions step.action ≡ None → HasOtherArguments T step → ⊥
unfolding action_named
no-action T step none has = let some : action_in T.domain.actions step.action ≡ Some has.action = has.named in cc

pub own-action : (T : Task) (step : Step) (place : ℕ) (action : Action) → slice_get T.domain.actions place ≡ action_in T.domain.actions step.action → slice_get T.domain.actions place ≡ Some action → action_named T step.action ≡ Some action
unfolding action_named
own-action T step place action found at = sym found ∙ at

pub found-here : (actions : List Action) (name : Name) (k : ℕ) (item : Action) → k < length actions → item ≡ get_or actions k item → same_name item.name.name name ≡ true → action_in (drop k actions) name ≡ action_in actions name → slice_get actions k ≡ action_in actions name
found-here actions name k item within is same rest =
    slice_get-get_or actions k item within ∙ ap Some (sym is)
    ∙ sym (ap (λ test. cond test (Some item) (action_in (drop (k + 1) actions) name)) same)
    ∙ ap (λ all. action_in all name) (sym (drop_more actions k item within ∙ ap (λ one. one ∷ drop (k + 1) actions) (sym is))) ∙ rest

module _ (T : Task) (X : NumberedTask) (well : WellFormed T) (numbered : IsNumberedTask T X) where
  known-at : (place : ℕ) (action : Action) → slice_get T.domain.actions place ≡ Some action → is_known_action X.numbers action ≡ true
  known-at place action at = all-at (is_known_action X.numbers) T.domain.actions place action (task-known T X.numbers well numbered.covers).actions at

  known-types : (place : ℕ) (action : Action) → slice_get T.domain.actions place ≡ Some action → are_known_types X.numbers action.params ≡ true
  known-types place action at =
      let N = X.numbers in
      let scope = words_of action.params in
      (and_parts (are_known_types N action.params) (is_known_goal N action.pre.body scope)
      (and_parts (are_known_types N action.params && is_known_goal N action.pre.body scope) (is_known_effect N action.effect.body scope) (known-at place action at)).0).0

  known-effect : (place : ℕ) (action : Action) → slice_get T.domain.actions place ≡ Some action → is_known_effect X.numbers action.effect.body (words_of action.params) ≡ true
  known-effect place action at =
      let N = X.numbers in
      let scope = words_of action.params in
      (and_parts (are_known_types N action.params && is_known_goal N action.pre.body scope) (is_known_effect N action.effect.body scope) (known-at place action at)).1

  pub numbered-at : (place : ℕ) (action : Action) → slice_get T.domain.actions place ≡ Some action → slice_get X.actions place ≡ Some (numbered_action X.numbers action)
  numbered-at place action at = ap (λ actions. slice_get actions place) numbered.actions ∙ map_at (numbered_action X.numbers) T.domain.actions place action at

  pub numbered-is : (place : ℕ) (action : Action) (other : NumberedAction) → slice_get T.domain.actions place ≡ Some action → slice_get X.actions place ≡ Some other → other.ranges ≡ ranges_of X.numbers action.params
  numbered-is place action other at there =
      let same : other ≡ numbered_action X.numbers action = Some-injective other (numbered_action X.numbers action) (sym there ∙ numbered-at place action at) in
      ap (λ (one : NumberedAction). one.ranges) same

  -- ---- arguments

  module _ (step : Step) (has : HasOtherArguments T step) (action : Action) (named : action_named T step.action ≡ Some action) (place : ℕ) (at : slice_get T.domain.actions place ≡ Some action) where
    fault-is : fault_by X.numbers action.params (ranges_of X.numbers action.params) step.args ≡ argument_fault T action.params step.args
    fault-is = by-number T X.numbers numbered.names numbered.numbering action.params step.args (known-types place action at)

    is-faulty : is_some (argument_fault T action.params step.args) ≡ true
    is-faulty =
        let same : has.action ≡ action = Some-injective has.action action (sym has.named ∙ named) in
        faulty-where-no-arguments T action.params step.args ∙ ap not (ap (λ (one : Action). are_arguments T one.params step.args) (sym same) ∙ has.args)

    no-fault : fault_by X.numbers action.params (ranges_of X.numbers action.params) step.args ≡ None → ⊥
    no-fault none = let some : false ≡ true = ap is_some (sym none ∙ fault-is) ∙ is-faulty in cc

    pub arguments-are-faulty : (found : Option StepFault) (reason : Reason) → fault_by X.numbers action.params (ranges_of X.numbers action.params) step.args ≡ found → ((own : StepFault) → found ≡ Some own → IsPlain own reason) → HasFaultyArguments T step reason
    arguments-are-faulty None reason is plain = absurd (no-fault is)
    arguments-are-faulty (Some own) reason is plain =
        let told = plain own refl in
        record { action = action; named = named; fault = sym fault-is ∙ is ∙ ap Some (sym told.fault); shown = told.shown }

-- ---- the step

-- in the state before it the step does not fit
before-step : (T : Task) (plan : Plan) (number : ℕ) (kind : validity.Misfit) (step : Step) → slice_get plan (number - 1) ≡ Some step → first_fault T plan ≡ Some (AtStep number kind)
    → (0 < number) × (misfit T (state_at (visited T plan) (number - 1)) step ≡ Some kind)
before-step T plan number kind step at first =
    let found = misfit-at T plan number kind first in
    let same : found.step ≡ step = Some-injective found.step step (sym found.at ∙ at) in
    (found.counted, ap (misfit T (state_at (visited T plan) (number - 1))) (sym same) ∙ found.why)

pub unknown-reason : (T : Task) (plan : Plan) (number : ℕ) (step : Step) (reason : Reason) → slice_get plan (number - 1) ≡ Some step → first_fault T plan ≡ Some (AtStep number validity.UnknownAction)
    → reason.fault ≡ StepFault.UnknownAction → reason.shown ≡ States [] → IsUnknown T step reason
unknown-reason T plan number step reason at first fault shown = record { named = unknown-why T (state_at (visited T plan) (number - 1)) step (before-step T plan number validity.UnknownAction step at first).1; fault = fault; shown = shown }

pub has-other-arguments : (T : Task) (plan : Plan) (number : ℕ) (step : Step) → slice_get plan (number - 1) ≡ Some step → first_fault T plan ≡ Some (AtStep number validity.Arguments) → HasOtherArguments T step
has-other-arguments T plan number step at first = arguments-why T (state_at (visited T plan) (number - 1)) step (before-step T plan number validity.Arguments step at first).1

-- ---- the step by number

zip-at : {A B : Type 0} (R : A → B → Type 0) (n : ℕ) (xs : List A) (ys : List B) → AllZip R (take n xs) ys → (k : ℕ) (x : A) → slice_get xs k ≡ Some x → k < n → k < length ys → (y : B) × (slice_get ys k ≡ Some y) × R x y
zip-at R zero xs ys zipped k x at below within = absurd (omega (arith, below))
zip-at R (suc n) [] ys zipped k x at below within = absurd (cc)
zip-at R (suc n) (z ∷ xs) [] zipped k x at below within = absurd zipped
zip-at R (suc n) (z ∷ xs) (y ∷ ys) zipped zero x at below within = (y, refl, subst (λ one. R one y) (Some-injective z x at) zipped.0)
zip-at R (suc n) (z ∷ xs) (y ∷ ys) zipped (suc k) x at below within = zip-at R n xs ys zipped.1 k x at (omega (arith, below)) (omega (arith, within))

module _ (T : Task) (X : NumberedTask) (well : WellFormed T) (numbered : IsNumberedTask T X) (plan : Plan) (steps : List PlacedStep) (number : ℕ) (step : Step) (at : slice_get plan (number - 1) ≡ Some step) where
  -- the step of the plan stands among those by number
  record Stands : Type 0 where
    pub placed : PlacedStep
    pub there : slice_get steps (number - 1) ≡ Some placed
    pub is : IsPlaced T X step placed

  stands-there : AllZip (IsPlaced T X) (take (length steps) plan) steps → 0 < number → number ≤ length steps → Stands
  stands-there all some within =
      let (placed, there, is) = zip-at (IsPlaced T X) (length steps) plan steps all (number - 1) step at (omega (arith, some, within)) (omega (arith, some, within)) in
      record { placed = placed; there = there; is = is }

  is-done : (stands : Stands) → IsDone X steps (number - 1) stands.placed (numbered_action X.numbers stands.is.action)
  is-done stands = record { at = stands.there; own = numbered-at T X well numbered stands.placed.action stands.is.action stands.is.at }

  -- the decision of its precondition, in the state before it
  decided-before : AllZip (IsPlaced T X) (take (length steps) plan) steps → 0 < number → number ≤ length steps → (stands : Stands)
      → IsDecision X.numbers (hard_matter T (arguments stands.is.action step) stands.is.action.pre.body) (state_at (visited T plan) (number - 1))
      (hard_decided X (test_after X (take (number - 1) steps)) stands.placed.objects (numbered_action X.numbers stands.is.action).pre)
  decided-before all some within stands =
      let first = take (length steps) plan in
      let are : AreSteps T X first steps = record { well = well; numbered = numbered; placed = all } in
      let many : length (visited T first) ≡ suc (length first) = visits-as-many T first in
      let long : length steps ≡ length first = AllZip-long (IsPlaced T X) first steps all in
      subst (λ s. IsDecision X.numbers (hard_matter T (arguments stands.is.action step) stands.is.action.pre.body) s (hard_decided X (test_after X (take (number - 1) steps)) stands.placed.objects (numbered_action X.numbers stands.is.action).pre))
      (first-state T plan (length steps) (number - 1) (omega (arith, within)))
      (preconditions-answered T X first steps are (number - 1) (omega (arith, many, long, some, within)) step stands.placed stands.is)

  pub precondition-reason : (reason : Reason) → ShowsStep X steps (number - 1) reason → IsMisfitIn T X plan steps number validity.Precondition → FailsBy T X plan number step reason
  precondition-reason reason shows in_plan =
      let (some, why) = before-step T plan number validity.Precondition step at in_plan.first in
      let stands = stands-there in_plan.placed some in_plan.among in
      let action = stands.is.action in
      let shown = shows stands.placed (numbered_action X.numbers action) (is-done stands) in
      let s = state_at (visited T plan) (number - 1) in
      let decided = decided-before in_plan.placed some in_plan.among stands in
      record {
        action = action;
        named = stands.is.named;
        fault = shown.fault;
        literals = deciding X steps (number - 1) stands.placed (numbered_action X.numbers action);
        shown = shown.shown;
        decide = record { truth = sym (precondition-why T s step action stands.is.named why); decide = decided.decide };
      }

  pub cost-reason : (reason : Reason) → NamesValue (cost_places T) X steps (number - 1) reason → IsMisfitIn T X plan steps number validity.NoCost → LacksValue T X step reason
  cost-reason reason names in_plan =
      let (some, why) = before-step T plan number validity.NoCost step at in_plan.first in
      let stands = stands-there in_plan.placed some in_plan.among in
      let action = stands.is.action in
      let N = X.numbers in
      let none : is_some (cost_by T step action) ≡ false = no-cost-why T (state_at (visited T plan) (number - 1)) step action stands.is.named why in
      let lacks : is_some (missing_value T (arguments action step) (increases action.effect.body)) ≡ true = missing-where-no-cost T (arguments action step) action.effect.body ∙ ap not none in
      let means : option_map (value_fact N) (first_missing (cost_places T) X.values stands.placed.objects (numbered_action N action).effect) ≡ missing_value T (arguments action step) (increases action.effect.body) =
      missing-means T X numbered (task-known T N well numbered.covers).initial (words_of action.params) stands.placed.objects stands.is.fills action.effect.body (known-effect T X well numbered stands.placed.action action stands.is.at)
      ∙ ap (λ env. missing_value T env (increases action.effect.body)) (placed-env T X well numbered step stands.placed stands.is) in
      by stands (first_missing (cost_places T) X.values stands.placed.objects (numbered_action N action).effect) refl lacks means
    where
      by : (stands : Stands) (found : Option (List ℕ)) → first_missing (cost_places T) X.values stands.placed.objects (numbered_action X.numbers stands.is.action).effect ≡ found
          → is_some (missing_value T (arguments stands.is.action step) (increases stands.is.action.effect.body)) ≡ true
          → option_map (value_fact X.numbers) found ≡ missing_value T (arguments stands.is.action step) (increases stands.is.action.effect.body) → LacksValue T X step reason
      by stands None is lacks means = let wrong : false ≡ true = ap is_some means ∙ lacks in absurd (cc)
      by stands (Some value) is lacks means =
          let named = names stands.placed (numbered_action X.numbers stands.is.action) value (is-done stands) is in
          record { action = stands.is.action; named = stands.is.named; value = value; fault = named.fault; missing = sym means; shown = named.shown }

-- ---- of that kind

pub of-kind : (T : Task) (X : NumberedTask) (plan : Plan) (steps : List PlacedStep) (number : ℕ) (step : Step) (reason : Reason) (kind own : Misfit) → kind ≡ own
    → (IsMisfitIn T X plan steps number (misfit_of own) → IsReason T X plan number step (misfit_of own) reason) → IsMisfitIn T X plan steps number (misfit_of kind) → IsReason T X plan number step (misfit_of kind) reason
of-kind T X plan steps number step reason kind own same is = subst (λ one. IsMisfitIn T X plan steps number (misfit_of one) → IsReason T X plan number step (misfit_of one) reason) (sym same) is
