-- The steps of a plan by number, where all of them fit and where one does not.
use Rattle.std.proofs.Common.{arith, ◌≡◌, ◌∙◌, ℕ, zero, suc, ◌+◌, ◌<◌, ◌≤◌, nat_lt, Bool, true, false, not, List, [], ◌∷◌, ◌++◌, length, take, Option, Some, None, is_some, refl, sym, ap, subst}
use Rattle.std.specs.Prelude.{filter_map, slice_get, option_map, if◌then◌else◌}
use Rattle.std.specs.List.{AllZip, cons_option, enumerate_from}
use Rattle.std.proofs.Math.Seq.{take-append_seam}
use Rattle.std.proofs.lemmas.Bool.{ltb-false, ltb-true, true≢false}
use Rattle.std.proofs.lemmas.List.{append-nil}
use Rattle.std.proofs.lemmas.Slice.Zip.{AllZip-long}
use Rattle.p3_task.specs.Bindings.{are_arguments}
use Rattle.p3_task.specs.Goals.{hard_holds}
use Rattle.p3_task.specs.Offences.{WellFormed}
use Rattle.p3_task.specs.Plans.{Plan, action_named, arguments, cost_by, moves_from, state_after, steps_fit}
use Rattle.p3_task.specs.States.{State, start}
use Rattle.p3_task.specs.StepNumbers.{HasStepNumbers, IsOwn}
use Rattle.p3_task.specs.Validity.{Fault, AtStep, Misfit, UnknownAction, Arguments, Precondition, NoCost, fault_at, misfit, misfit_by, step_fault}
use Rattle.p3_task.specs.declared.task.Action.{Action}
use Rattle.p3_task.specs.declared.task.Step.{Step}
use Rattle.p3_task.specs.declared.task.Task.{Task}
use Rattle.p3_task.proofs.OnceLemmas.{Some-injective}
use Rattle.p3_task.proofs.StepNumberLaws.{steps_have_numbers}
use Rattle.p3_numbers.specs.declared.task.NumberedTask.{NumberedTask}
use Rattle.p3_types.specs.declared.finding.Found.{Found}
use Rattle.p3_types.specs.declared.finding.Found.TheVariants as found
use Rattle.p3_ground.proofs.PlanNumbers.{has_numbers}
use Rattle.p3_reasons.specs.Visits.{IsPlaced}
use Rattle.p3_reasons.specs.declared.visited.PlacedStep.{PlacedStep}
use Rattle.p3_eval.specs.Steps.{AreStepsOf, GoesOnAs, LacksNumber}
use Rattle.p3_eval.specs.declared.steps.Steps.{Steps}
use Rattle.p3_eval.proofs.StepsLemmas.{all_numbered}
use Rattle.p3_inapplicable.specs.Headings.{IsAmong}
use Rattle.p3_findings.specs.Accounts.{ArePlaced}

-- ---- which steps are the task's own

-- the step of an own action at objects of its parameters' types
abbrev IsOwnKind : Option Misfit → Type 0
IsOwnKind None = Unit {0}
IsOwnKind (Some UnknownAction) = ⊥
IsOwnKind (Some Arguments) = ⊥
IsOwnKind (Some Precondition) = Unit {0}
IsOwnKind (Some NoCost) = Unit {0}

abbrev kind_of : Bool → Bool → Bool → Option Misfit
kind_of fit hold cost = if not fit then Some Arguments else (if not hold then Some Precondition else (if not cost then Some NoCost else None))

has_arguments : (fit hold cost : Bool) → IsOwnKind (kind_of fit hold cost) → fit ≡ true
has_arguments true hold cost own = refl
has_arguments false hold cost own = absurd own

module _ (T : Task) where
  own_step : (s : State) (step : Step) → IsOwnKind (misfit T s step) → IsOwn T step
  unfolding misfit
  own_step s step own = by (action_named T step.action) refl own
    where
      by : (named : Option Action) → action_named T step.action ≡ named → IsOwnKind (misfit_by T s step named) → IsOwn T step
      by None is own = absurd own
      by (Some action) is own = record {
        action = action;
        named = is;
        args = has_arguments (are_arguments T action.params step.args) (hard_holds T s (arguments action step) action.pre.body) (is_some (cost_by T step action)) own;
      }

  -- the faults of steps from a state on, the first of them of that number
  abbrev faults_from : ℕ → State → Plan → List Fault
  faults_from first s plan = filter_map (fault_at T) (enumerate_from first (moves_from T s plan))

  -- the first fault is of a step, and that is one of the plan
  pub record IsStepFault (first : ℕ) (plan : Plan) (fault : Fault) : Type 0 where
    pub number : ℕ
    pub kind : Misfit
    pub is : fault ≡ AtStep number kind
    pub within : number < first + length plan

  pub of_step : (first : ℕ) (s : State) (plan : Plan) (fault : Fault) → slice_get (faults_from first s plan) 0 ≡ Some fault → IsStepFault first plan fault
  of_step first s [] fault e = absurd (cc)
  of_step first s (step ∷ plan) fault e = by (misfit T s step) (of_step (first + 1) (state_after T s step) plan fault) e
    where
      by : (here : Option Misfit) → (slice_get (faults_from (first + 1) (state_after T s step) plan) 0 ≡ Some fault → IsStepFault (first + 1) plan fault)
          → slice_get (cons_option (option_map (AtStep first) here) (faults_from (first + 1) (state_after T s step) plan)) 0 ≡ Some fault → IsStepFault first (step ∷ plan) fault
      by None later e = let found = later e in record { number = found.number; kind = found.kind; is = found.is; within = let within = found.within in omega (arith, within) }
      by (Some own) later e = record { number = first; kind = own; is = sym (Some-injective (AtStep first own) fault e); within = omega arith }

  -- the steps up to the first fault are own ones, where that is of a kind of own steps
  own_until : (first : ℕ) (s : State) (plan : Plan) (number : ℕ) (kind : Misfit) → IsOwnKind (Some kind) → slice_get (faults_from first s plan) 0 ≡ Some (AtStep number kind)
      → (place : ℕ) → first + place ≤ number → (step : Step) → slice_get plan place ≡ Some step → IsOwn T step
  own_until first s [] number kind own e place before step at = absurd (cc)
  own_until first s (here ∷ plan) number kind own e place before step at = by (misfit T s here) refl (own_until (first + 1) (state_after T s here) plan number kind own) e place before at
    where
      head : IsOwnKind (misfit T s here) → slice_get (here ∷ plan) zero ≡ Some step → IsOwn T step
      head fits at = subst (IsOwn T) (Some-injective here step at) (own_step s here fits)

      by : (found : Option Misfit) → misfit T s here ≡ found
          → (slice_get (faults_from (first + 1) (state_after T s here) plan) 0 ≡ Some (AtStep number kind) → (place : ℕ) → first + 1 + place ≤ number → (step : Step) → slice_get plan place ≡ Some step → IsOwn T step)
          → slice_get (cons_option (option_map (AtStep first) found) (faults_from (first + 1) (state_after T s here) plan)) 0 ≡ Some (AtStep number kind)
          → (place : ℕ) → first + place ≤ number → slice_get (here ∷ plan) place ≡ Some step → IsOwn T step
      by None is later e zero before at = head (subst IsOwnKind (sym is) tt) at
      by None is later e (suc place) before at = later e place (omega (arith, before)) step at
      by (Some one) is later e zero before at =
          let kinds : one ≡ kind = cc in
          head (subst IsOwnKind (sym (is ∙ ap Some kinds)) own) at
      by (Some one) is later e (suc place) before at =
          let same : first ≡ number = cc in
          absurd (omega (arith, before, same))

-- ---- the steps of a plan

module _ (T : Task) (well : WellFormed T) (X : NumberedTask) (steps : Steps) (placed : List PlacedStep) (are_placed : ArePlaced T X steps placed) (plan : Plan) (are : AreStepsOf T plan steps) where
  K : HasStepNumbers T
  K = steps_have_numbers T well

  -- they are placed whole where they fit
  pub all_placed : steps_fit T plan ≡ true → AllZip (IsPlaced T X) plan placed
  all_placed fit =
      let (numbers, own) = has_numbers T K plan fit in
      are_placed plan (all_numbered T K plan numbers own steps.numbers.items steps.rest are)

  front_placed : AllZip (IsPlaced T X) are.front placed
  front_placed = are_placed are.front are.are

  front_long : length placed ≡ length are.front
  front_long = AllZip-long (IsPlaced T X) are.front placed front_placed

  -- and else up to one that has no number
  pub first_placed : AllZip (IsPlaced T X) (take (length placed) plan) placed
  first_placed =
      let whole : take (length placed) plan ≡ are.front = (λ i. take (front_long i) (are.parts i)) ∙ take-append_seam are.front are.rest in
      subst (λ list. AllZip (IsPlaced T X) list placed) (sym whole) front_placed

  lacks_own : (step : Step) → IsOwn T step → (answer : Found) → LacksNumber T step answer → ⊥
  lacks_own step own (found.Number number) lacks = lacks
  lacks_own step own found.UnknownAction lacks = let named = sym own.named ∙ lacks in cc
  lacks_own step own found.Arguments lacks =
      let same = Some-injective own.action lacks.action (sym own.named ∙ lacks.named) in
      true≢false (sym own.args ∙ ap (λ (action : Action). are_arguments T action.params step.args) same ∙ lacks.args)

  module _ (number : ℕ) (kind : Misfit) (first : step_fault T plan ≡ Some (AtStep number kind)) where
    faulty : slice_get (faults_from T 1 (start T) plan) 0 ≡ Some (AtStep number kind)
    unfolding step_fault
    faulty = first

    short : number ≤ length plan
    short = let one = of_step T 1 (start T) plan (AtStep number kind) faulty in by one.number one.kind one.is one.within
      where
        by : (other : ℕ) (why : Misfit) → AtStep number kind ≡ AtStep other why → other < 1 + length plan → number ≤ length plan
        by other why is within = let same : number ≡ other = cc in omega (arith, same, within)

    seam : (step : Step) (more : Plan) → are.rest ≡ step ∷ more → slice_get plan (length are.front) ≡ Some step
    seam step more cuts = (λ i. slice_get ((are.parts ∙ ap (λ rest. are.front ++ rest) cuts) i) (length are.front)) ∙ at_seam are.front step more
      where
        at_seam : (front : Plan) (step : Step) (more : Plan) → slice_get (front ++ step ∷ more) (length front) ≡ Some step
        at_seam [] step more = refl
        at_seam (one ∷ front) step more = at_seam front step more

    own_within : IsOwnKind (Some kind) → number ≤ length placed
    own_within own = by steps.rest are.behind
      where
        by : (next : Option Found) → GoesOnAs T are.rest next → number ≤ length placed
        by None ends =
            let whole : length plan ≡ length are.front = ap length (are.parts ∙ ap (λ rest. are.front ++ rest) ends ∙ append-nil are.front) in
            let long = front_long in
            let small = short in
            omega (arith, whole, long, small)
        by (Some answer) (step, more, cuts, lacks) = decide (nat_lt (length are.front) number) refl
          where
            decide : (past : Bool) → nat_lt (length are.front) number ≡ past → number ≤ length placed
            decide false is = let long = front_long in let small = ltb-false (length are.front) number is in omega (arith, long, small)
            decide true is =
                let less = ltb-true (length are.front) number is in
                absurd (lacks_own step (own_until T 1 (start T) plan number kind own faulty (length are.front) (omega (arith, less)) step (seam step more cuts)) answer lacks)

    -- a step that has arguments of its action is among them
    pub is_among : IsAmong kind number placed
    is_among = by kind refl
      where
        by : (own : Misfit) → kind ≡ own → IsAmong own number placed
        by UnknownAction is = tt
        by Arguments is = tt
        by Precondition is = own_within (subst (λ why. IsOwnKind (Some why)) (sym is) tt)
        by NoCost is = own_within (subst (λ why. IsOwnKind (Some why)) (sym is) tt)
