-- What is so of the ground plan of a plan's numbers is so of the plan: why its next step does not fit, and its first fault.
use Rattle.std.proofs.Common.{◌≡◌, ◌∙◌, ℕ, zero, suc, ◌+◌, ◌-◌, ◌<◌, refl, sym, ap, subst, nat_lt, Bool, true, false, not, ◌&&◌, cond, List, [], ◌∷◌, length, ◌++◌, arith, Option, Some, None, pos, ◌+ℤ◌}
use Rattle.std.specs.Prelude.{ℤ, filter_map, slice_get, slice_index_or, zip, is_some, option_and_then, option_map, position, if◌then◌else◌}
use Rattle.std.specs.List.{AllZip, cons_option, list_all, enumerate_from, prefix_len}
use Rattle.std.specs.Option.{option_or}
use Rattle.std.proofs.lemmas.Bool.{and_parts}
use Rattle.std.proofs.lemmas.Int.{ints}
use Rattle.std.proofs.lemmas.List.{append-nil}
use Rattle.p3_base.specs.declared.refusal.Direction.{Direction}
use Rattle.p3_base.specs.declared.refusal.Direction.TheVariants.{Minimize, Maximize}
use Rattle.p3_task.specs.States as named
use Rattle.p3_task.specs.States.{start}
use Rattle.p3_task.specs.Goals.{hard_holds}
use Rattle.p3_task.specs.Metrics.{cost, direction, loss, loss_at, metric_quantity, signed, value, violated}
use Rattle.p3_task.specs.Plans.{Plan, arguments, action_named, cost_by, fits, fits_by, last_state, moves_from, state_after, step_cost, steps_fit, visited}
use Rattle.p3_task.specs.Constraints.{hard_list}
use Rattle.p3_task.specs.StepNumbers.{HasNumber, HasStepNumbers}
use Rattle.p3_task.specs.Validity.{Misfit, Fault, AtStep, AtGoal, AtConstraint, Arguments, Precondition, NoCost, constraint_fault, fault_at, first_fault, goal_fault, goal_holds, is_met, misfit, misfit_by, step_fault}
use Rattle.p3_task.specs.declared.state.Fact.{Fact}
use Rattle.p3_task.specs.declared.task.Action.{Action}
use Rattle.p3_task.specs.declared.task.Step.{Step}
use Rattle.p3_task.specs.declared.task.Task.{Task}
use Rattle.p3_formula.specs.Forms.{State, truth}
use Rattle.p3_formula.specs.GroundSat.{ground_sat}
use Rattle.p3_formula.specs.GroundPlans.{GroundPlan, ground_cost, ground_loss, ground_fits, ground_visited, state_by, step_of, visited_from}
use Rattle.p3_formula.specs.declared.target.Weights.{Weights}
use Rattle.p3_formula.specs.declared.task.GroundStep.{GroundStep}
use Rattle.p3_formula.specs.declared.task.GroundTask.{GroundTask}
use Rattle.p3_ground.specs.PlansByNumber.{AreAsked, CountsAgree}
use Rattle.p3_ground.specs.StandsFor.{HardStands, IsAsked, StandsBy, can_begin, can_begin_by}
use Rattle.p3_ground.proofs.Counts.{counts_agree, losses_alike}
use Rattle.p3_ground.proofs.Validity.{AreMet, are_met, same_modal, some_visited}
use Rattle.p3_ground.proofs.Walk.{Met, all_fit, begun, fit_same, made_of, reached}
use Rattle.p3_task.proofs.PlanLemmas.{fit_from, state_from, steps_fit-walk, last_state-walk}
use Rattle.p3_run.specs.Runs as run
use Rattle.p3_run.specs.Runs.{ground_fit, ground_metric, ground_misfit, ground_state, ground_total, ground_verdict, first_unmet, unmet_by, signed_by, stepped_by}
use Rattle.p3_run.specs.declared.answers.Verdict.TheVariants.{Goal}
use Rattle.p3_metric.specs.Weighed.{IsWeights}
use Rattle.p3_eval.specs.Runs.{misfit_of, fault_of}

-- ---- lists whose items go together

zip_at : {A B : Type 0} (R : A → B → Type 0) (xs : List A) (ys : List B) → AllZip R xs ys → (place : ℕ) (x : A) (y : B) → place < length xs → R (slice_index_or xs place x) (slice_index_or ys place y)
zip_at R [] [] all place x y lt = absurd (omega (arith, lt))
zip_at R [] (b ∷ ys) all place x y lt = absurd all
zip_at R (a ∷ xs) [] all place x y lt = absurd all
zip_at R (a ∷ xs) (b ∷ ys) all zero x y lt = all.0
zip_at R (a ∷ xs) (b ∷ ys) all (suc place) x y lt = zip_at R xs ys all.1 place x y (omega (arith, lt))

zip_long : {A B : Type 0} (R : A → B → Type 0) (xs : List A) (ys : List B) → AllZip R xs ys → length xs ≡ length ys
zip_long R [] [] all = refl
zip_long R [] (y ∷ ys) all = absurd all
zip_long R (x ∷ xs) [] all = absurd all
zip_long R (x ∷ xs) (y ∷ ys) all = ap suc (zip_long R xs ys all.1)

module _ {A B : Type 0} (R : A → B → Type 0) (p : A → Bool) (q : B → Bool) (same : (x : A) (y : B) → R x y → p x ≡ q y) where
  same_prefix : (xs : List A) (ys : List B) → AllZip R xs ys → prefix_len (λ x. not (p x)) xs ≡ prefix_len (λ y. not (q y)) ys
  same_prefix [] [] all = refl
  same_prefix [] (y ∷ ys) all = absurd all
  same_prefix (x ∷ xs) [] all = absurd all
  same_prefix (x ∷ xs) (y ∷ ys) all = λ i. cond (not (same x y all.0 i)) (1 + same_prefix xs ys all.1 i) 0

  -- the first that passes stands at the same place
  same_position : (xs : List A) (ys : List B) → AllZip R xs ys → position p xs ≡ position q ys
  same_position xs ys all = λ i. cond (nat_lt (same_prefix xs ys all i) (zip_long R xs ys all i)) (Some (same_prefix xs ys all i)) None

-- ---- faults step by step

all_three : (a b c : Bool) → (a && b && c) ≡ true → (if not a then Some Arguments else (if not b then Some Precondition else (if not c then Some NoCost else None))) ≡ None
all_three true true true e = refl
all_three true true false e = absurd (cc)
all_three true false c e = absurd (cc)
all_three false b c e = absurd (cc)

module _ (T : Task) where
  no_misfit : (s : named.State) (step : Step) → fits T s step ≡ true → misfit T s step ≡ None
  unfolding fits misfit
  no_misfit s step f = by (action_named T step.action) f
    where
      by : (o : Option Action) → fits_by T s step o ≡ true → misfit_by T s step o ≡ None
      by None f = absurd (cc)
      by (Some action) f = all_three _ _ _ f

  abbrev faults_from : ℕ → named.State → Plan → List Fault
  faults_from number s plan = filter_map (fault_at T) (enumerate_from number (moves_from T s plan))

  -- steps that fit have none
  behind_fitting : (number : ℕ) (s : named.State) (plan rest : Plan) → fit_from T s plan ≡ true → slice_get (faults_from number s (plan ++ rest)) 0 ≡ slice_get (faults_from (number + length plan) (state_from T s plan) rest) 0
  behind_fitting number s [] rest f = ap (λ n. slice_get (faults_from n s rest) 0) (omega arith)
  behind_fitting number s (step ∷ plan) rest f =
      let h = and_parts (fits T s step) _ f in
      ap (λ o. slice_get (cons_option (option_map (AtStep number) o) (faults_from (number + 1) (state_after T s step) (plan ++ rest))) 0) (no_misfit s step h.0)
      ∙ behind_fitting (number + 1) (state_after T s step) plan rest h.1
      ∙ ap (λ n. slice_get (faults_from n (state_from T (state_after T s step) plan) rest) 0) (omega arith)

  fitting_fault : (plan rest : Plan) → steps_fit T plan ≡ true → step_fault T (plan ++ rest) ≡ slice_get (faults_from (1 + length plan) (last_state (visited T plan)) rest) 0
  unfolding step_fault
  fitting_fault plan rest f =
      behind_fitting 1 (start T) plan rest (sym (steps_fit-walk T plan) ∙ f)
      ∙ ap (λ s. slice_get (faults_from (1 + length plan) s rest) 0) (sym (last_state-walk T plan))

  pub no_step_fault : (plan : Plan) → steps_fit T plan ≡ true → step_fault T plan ≡ None
  no_step_fault plan f = ap (step_fault T) (sym (append-nil plan)) ∙ fitting_fault plan [] f

  -- the step behind those that fit is the first fault where it does not fit
  pub first_misfit : (plan : Plan) (step : Step) (rest : Plan) (kind : Misfit) → steps_fit T plan ≡ true → misfit T (last_state (visited T plan)) step ≡ Some kind
      → first_fault T (plan ++ step ∷ rest) ≡ Some (AtStep (length plan + 1) kind)
  unfolding first_fault
  first_misfit plan step rest kind f e =
      ap (λ o. option_or o (option_or (goal_fault T (plan ++ step ∷ rest)) (constraint_fault T (plan ++ step ∷ rest))))
      (fitting_fault plan (step ∷ rest) f
      ∙ ap (λ o. slice_get (cons_option (option_map (AtStep (1 + length plan)) o) (faults_from (1 + length plan + 1) (state_after T (last_state (visited T plan)) step) rest)) 0) e
      ∙ ap (λ n. Some (AtStep n kind)) (omega arith))

module _ (T : Task) (atoms : List Fact) (G : GroundTask) (S : StandsBy T atoms G) (K : HasStepNumbers T) where
  -- ---- one step

  abbrev why : Bool → Bool → Option Misfit
  why begins costs = if not begins then Some Precondition else (if not costs then Some NoCost else None)

  misfit_is : (s : named.State) (number : ℕ) (step : Step) → HasNumber T step number → misfit T s step ≡ why (can_begin T s step) (is_some (step_cost T step))
  unfolding misfit step_cost
  misfit_is s number step e =
      let own = K.own number step e in
      ap (misfit_by T s step) own.named
      ∙ (λ i. if not (own.args i) then Some Arguments else why (hard_holds T s (arguments own.action step) own.action.pre.body) (is_some (cost_by T step own.action)))
      ∙ sym (λ i. why (can_begin_by T s step (own.named i)) (is_some (option_and_then (cost_by T step) (own.named i))))

  why_by : (begins costs : Bool) → why begins costs ≡ misfit_of (stepped_by (if not begins then Some run.FalsePrecondition else (if not costs then Some run.MissingCost else None)))
  why_by true true = refl
  why_by true false = refl
  why_by false costs = refl

  pub misfit_alike : (s : named.State) (bits : State) (number : ℕ) (step : Step) → Met T atoms G S K s bits → IsAsked T G step number → misfit T s step ≡ misfit_of (stepped_by (ground_misfit G bits number))
  misfit_alike s bits number step m e = by (step_of G number) refl
    where
      by : (o : Option GroundStep) → step_of G number ≡ o → misfit T s step ≡ misfit_of (stepped_by (run.misfit_by bits o))
      by None out = misfit_is s number step e.0 ∙ ap (λ t. why t (is_some (step_cost T step))) (e.1 step e.0 out s (reached T atoms G S K s bits m))
      by (Some made) found =
          let is = made_of T atoms G S K number step made e.0 found in
          misfit_is s number step e.0
          ∙ sym (λ i. why (is.pre s bits (reached T atoms G S K s bits m) m.matched i) (is_some (is.cost i)))
          ∙ why_by (truth bits made.pre) (is_some made.cost)

  -- ---- the last state

  module _ (plan : Plan) (numbers : GroundPlan) (are : AreAsked T G plan numbers) (fit : steps_fit T plan ≡ true) where
    met : AreMet T atoms G S K (visited T plan) (ground_visited G numbers)
    met = are_met T atoms G S K plan numbers are fit

    some_state : 0 < length (visited T plan)
    unfolding visited
    some_state = some_visited T atoms G S K (start T) plan

    pub last_met : Met T atoms G S K (last_state (visited T plan)) (ground_state G numbers)
    unfolding ground_state
    last_met =
        let here = zip_at (Met T atoms G S K) (visited T plan) (ground_visited G numbers) met (length (visited T plan) - 1) [] [] (omega (arith, some_state)) in
        subst (λ n. Met T atoms G S K (last_state (visited T plan)) (slice_index_or (ground_visited G numbers) (n - 1) [])) (zip_long (Met T atoms G S K) (visited T plan) (ground_visited G numbers) met) here

    -- ---- the first fault

    same_goal : goal_holds T plan ≡ truth (ground_state G numbers) G.goal
    unfolding goal_holds
    same_goal = sym (S.goal (last_state (visited T plan)) (ground_state G numbers) (reached T atoms G S K _ _ last_met) last_met.matched)

    same_unmet : position (λ entry. not (is_met T plan entry)) (hard_list T) ≡ first_unmet (ground_visited G numbers) G
    same_unmet =
        same_position (HardStands T atoms) (λ entry. not (is_met T plan entry)) (λ modal. not (ground_sat (ground_visited G numbers) modal))
        (λ entry modal stands. ap not (same_modal T atoms G S K (visited T plan) (ground_visited G numbers) met some_state entry.env entry.modal modal stands))
        (hard_list T) G.hard S.hard

    verdict_by : (goal : Bool) (unmet : Option ℕ) → option_or (if goal then None else Some AtGoal) (option_map AtConstraint unmet) ≡ fault_of (if goal then unmet_by unmet else Goal)
    verdict_by true None = refl
    verdict_by true (Some place) = refl
    verdict_by false unmet = refl

    pub fault_alike : first_fault T plan ≡ fault_of (ground_verdict G numbers)
    unfolding first_fault goal_fault constraint_fault ground_verdict
    fault_alike =
        ap (λ o. option_or o (option_or (goal_fault T plan) (constraint_fault T plan))) (no_step_fault T plan fit)
        ∙ (λ i. option_or (if same_goal i then None else Some AtGoal) (option_map AtConstraint (same_unmet i)))
        ∙ verdict_by (truth (ground_state G numbers) G.goal) (first_unmet (ground_visited G numbers) G)

    -- ---- costs, counts and the value

    agree : CountsAgree T G plan numbers
    agree = counts_agree T atoms G S K plan numbers are fit

    pub total_alike : cost T plan ≡ ground_total G numbers
    unfolding ground_total
    total_alike = agree.costs ∙ ap (λ n. n + ground_cost G numbers) (sym S.initial_cost)

    module _ (w : Weights) (weighs : IsWeights T w) where
      loss_alike : loss T plan ≡ w.base +ℤ pos (ground_loss G w numbers)
      unfolding loss
      loss_alike =
          ap (loss_at T (violated T plan)) agree.costs
          ∙ weighs.linear (violated T plan) (ground_cost G numbers)
          ∙ (λ i. sym weighs.base i +ℤ pos (sym (losses_alike T atoms G S K w weighs.count plan numbers are fit) i))

      signed_twice : (way : Direction) (value : ℤ) → signed_by way (signed way value) ≡ value
      signed_twice Minimize value = refl
      signed_twice Maximize value = omega (arith, ints)

      pub value_alike : value T plan ≡ ground_metric G w numbers
      unfolding value loss ground_metric
      value_alike =
          sym (signed_twice (direction T) (metric_quantity T (violated T plan) (cost T plan)).units)
          ∙ (λ i. signed_by (sym weighs.direction i) (loss_alike i))

  -- ---- whether the steps fit

  all_fit_is : (bits : State) (numbers : GroundPlan) → list_all (λ (move : State × ℕ). ground_fits G move.0 move.1) (zip (visited_from G bits numbers) numbers) ≡ all_fit T atoms G S K bits numbers
  unfolding visited_from
  all_fit_is bits [] = refl
  all_fit_is bits (number ∷ numbers) = ap (λ rest. ground_fits G bits number && rest) (all_fit_is (state_by bits (step_of G number)) numbers)

  pub fit_alike : (plan : Plan) (numbers : GroundPlan) → AreAsked T G plan numbers → steps_fit T plan ≡ ground_fit G numbers
  unfolding ground_fit
  fit_alike plan numbers are = steps_fit-walk T plan ∙ fit_same T atoms G S K plan numbers are (start T) G.initial (begun T atoms G S K) ∙ sym (all_fit_is G.initial numbers)
