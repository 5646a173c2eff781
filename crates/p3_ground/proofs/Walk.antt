-- A plan and the list of its steps' numbers, walked together.
use Rattle.std.proofs.Common.{◌≡◌, ◌∙◌, ℕ, ◌+◌, refl, sym, ap, subst, Bool, true, false, ◌&&◌, List, [], ◌∷◌, ◌++◌, Option, Some, None}
use Rattle.std.specs.Prelude.{◌==◌, is_some, option_and_then, slice_get, sum_by, zip, Contains}
use Rattle.std.specs.List.{AllZip}
use Rattle.std.proofs.lemmas.Bool.{and_parts, and_from, eqb-true, true≢false}
use Rattle.std.proofs.lemmas.List.Elements.{Contains-get_or}
use Rattle.std.proofs.lemmas.List.Sums.{sum_by-cons}
use Rattle.std.proofs.lemmas.Option.{slice_get_within, get_or_from_slice_get}
use Rattle.p3_task.specs.States as named
use Rattle.p3_task.specs.States.{has_fact, start}
use Rattle.p3_task.specs.Goals.{hard_holds}
use Rattle.p3_task.specs.Plans as plans
use Rattle.p3_task.specs.Plans.{Plan, Reached, arguments, fits, state_after, step_cost, cost_by, Move, moves_from}
use Rattle.p3_task.specs.Lifting.{steps}
use Rattle.p3_task.specs.StepNumbers.{HasNumber, HasStepNumbers}
use Rattle.p3_task.specs.declared.state.Fact.{Fact}
use Rattle.p3_task.specs.declared.task.Step.{Step}
use Rattle.p3_task.specs.declared.task.Task.{Task}
use Rattle.p3_task.proofs.OnceLemmas.{Some-injective, find_found}
use Rattle.p3_task.proofs.PlanLemmas.{fit_from, state_from, steps_fit-walk, last_state-walk}
use Rattle.p3_formula.specs.Forms.{State}
use Rattle.p3_formula.specs.Next.{after}
use Rattle.p3_formula.specs.GroundPlans.{GroundPlan, step_of, fits_by, ground_fits, state_by, visited_from}
use Rattle.p3_formula.specs.declared.task.GroundStep.{GroundStep}
use Rattle.p3_formula.specs.declared.task.GroundTask.{GroundTask}
use Rattle.p3_ground.specs.StandsFor.{Matched, StandsBy, StepStands, IsAsked, IsMadeOf, can_begin, can_begin_by}
use Rattle.p3_ground.specs.PlansByNumber.{AreAsked}

-- the second test is asked only where the first passes
pub two_tests : (a b c d : Bool) → a ≡ b → (a ≡ true → c ≡ d) → (a && c) ≡ (b && d)
two_tests true b c d e f = λ i. e i && f refl i
two_tests false b c d e f = λ i. e i && d

module _ (T : Task) (atoms : List Fact) (G : GroundTask) (S : StandsBy T atoms G) (K : HasStepNumbers T) where
  -- a state that fitting steps lead to, and bits that are matched with it
  pub record Met (s : named.State) (bits : State) : Type 0 where
    pub done : Plan
    pub fit : fit_from T (start T) done ≡ true
    pub here : state_from T (start T) done ≡ s
    pub matched : Matched atoms s bits

  pub reached : (s : named.State) (bits : State) → Met s bits → Reached T s
  reached s bits m = record { plan = m.done; fit = steps_fit-walk T m.done ∙ m.fit; last = λ fact. ap (λ s. has_fact s fact) (sym m.here ∙ sym (last_state-walk T m.done)) }

  fit_more : (s : named.State) (p : Plan) (step : Step) → fit_from T s p ≡ true → fits T (state_from T s p) step ≡ true → fit_from T s (p ++ step ∷ []) ≡ true
  fit_more s [] step f g = and_from _ _ g refl
  fit_more s (first ∷ p) step f g = let h = and_parts _ _ f in and_from _ _ h.0 (fit_more (state_after T s first) p step h.1 g)

  state_more : (s : named.State) (p : Plan) (step : Step) → state_from T s (p ++ step ∷ []) ≡ state_after T (state_from T s p) step
  state_more s [] step = refl
  state_more s (first ∷ p) step = state_more (state_after T s first) p step

  pub begun : Met (start T) G.initial
  begun = record { done = []; fit = refl; here = refl; matched = S.initial }

  next : (s : named.State) (bits later : State) (step : Step) → Met s bits → fits T s step ≡ true → Matched atoms (state_after T s step) later → Met (state_after T s step) later
  next s bits later step m f matched = record {
    done = m.done ++ step ∷ [];
    fit = fit_more (start T) m.done step m.fit (ap (λ s. fits T s step) m.here ∙ f);
    here = state_more (start T) m.done step ∙ ap (λ s. state_after T s step) m.here;
    matched = matched;
  }

  -- ---- one step

  -- what is kept at a number is made of the step of that number
  pub made_of : (number : ℕ) (step : Step) (made : GroundStep) → HasNumber T step number → step_of G number ≡ Some made → IsMadeOf T atoms step made
  made_of number step made e found =
      let (k, at, same) = find_found (λ (other : GroundStep). other.number == number) G.steps made found in
      let kept : StepStands T atoms made = subst (StepStands T atoms) (get_or_from_slice_get G.steps k made made at) (S.kept k made (slice_get_within G.steps k made at)) in
      let is : kept.step ≡ step = Some-injective kept.step step (sym kept.number ∙ ap (slice_get (steps T)) (eqb-true made.number number same) ∙ e) in
      subst (λ other. IsMadeOf T atoms other made) is kept.is

  pub fits_is : (s : named.State) (number : ℕ) (step : Step) → HasNumber T step number → fits T s step ≡ (can_begin T s step && is_some (step_cost T step))
  unfolding fits step_cost
  fits_is s number step e =
      let own = K.own number step e in
      ap (plans.fits_by T s step) own.named
      ∙ (λ i. own.args i && hard_holds T s (arguments own.action step) own.action.pre.body && is_some (cost_by T step own.action))
      ∙ sym (λ i. can_begin_by T s step (own.named i) && is_some (option_and_then (cost_by T step) (own.named i)))

  pub one_step : (s : named.State) (bits : State) (number : ℕ) (step : Step) → Met s bits → IsAsked T G step number → fits T s step ≡ ground_fits G bits number
  one_step s bits number step m e = by (step_of G number) refl
    where
      by : (o : Option GroundStep) → step_of G number ≡ o → fits T s step ≡ fits_by bits o
      by None out = fits_is s number step e.0 ∙ ap (λ t. t && is_some (step_cost T step)) (e.1 step e.0 out s (reached s bits m))
      by (Some made) found =
          let is = made_of number step made e.0 found in
          fits_is s number step e.0 ∙ sym (λ i. is.pre s bits (reached s bits m) m.matched i && is_some (is.cost i))

  -- a step that fits is kept
  pub kept_at : (s : named.State) (bits : State) (number : ℕ) (step : Step) → Met s bits → IsAsked T G step number → fits T s step ≡ true
      → (made : GroundStep) × (step_of G number ≡ Some made) × Contains G.steps made
  kept_at s bits number step m e f = by (step_of G number) refl
    where
      by : (o : Option GroundStep) → step_of G number ≡ o → (made : GroundStep) × (step_of G number ≡ Some made) × Contains G.steps made
      by None out = absurd (true≢false (sym f ∙ one_step s bits number step m e ∙ ap (fits_by bits) out))
      by (Some made) found =
          let (k, at, same) = find_found (λ (other : GroundStep). other.number == number) G.steps made found in
          (made, found, subst (Contains G.steps) (get_or_from_slice_get G.steps k made made at) (Contains-get_or G.steps k made (slice_get_within G.steps k made at)))

  pub kept_where_fits : (A : Option GroundStep → Type 0) (s : named.State) (bits : State) (number : ℕ) (step : Step) → Met s bits → IsAsked T G step number → fits T s step ≡ true
      → ((made : GroundStep) → IsMadeOf T atoms step made → A (Some made)) → A (step_of G number)
  kept_where_fits A s bits number step m e f where_kept =
      let (made, found, own) = kept_at s bits number step m e f in
      subst A (sym found) (where_kept made (made_of number step made e.0 found))

  pub next_met : (s : named.State) (bits : State) (number : ℕ) (step : Step) → Met s bits → IsAsked T G step number → fits T s step ≡ true → Met (state_after T s step) (state_by bits (step_of G number))
  next_met s bits number step m e f =
      kept_where_fits (λ o. Met (state_after T s step) (state_by bits o)) s bits number step m e f
      (λ made is. next s bits (after bits made.effects) step m f (is.effects s bits (reached s bits m) m.matched))

  -- ---- whole plans

  abbrev pub all_fit : State → GroundPlan → Bool
  all_fit bits [] = true
  all_fit bits (number ∷ numbers) = ground_fits G bits number && all_fit (state_by bits (step_of G number)) numbers

  pub fit_same : (plan : Plan) (numbers : GroundPlan) → AreAsked T G plan numbers → (s : named.State) (bits : State) → Met s bits → fit_from T s plan ≡ all_fit bits numbers
  fit_same [] [] e s bits m = refl
  fit_same [] (number ∷ numbers) e s bits m = absurd e
  fit_same (step ∷ plan) [] e s bits m = absurd e
  fit_same (step ∷ plan) (number ∷ numbers) (e, es) s bits m =
      two_tests (fits T s step) (ground_fits G bits number) _ _ (one_step s bits number step m e)
      (λ f. fit_same plan numbers es (state_after T s step) (state_by bits (step_of G number)) (next_met s bits number step m e f))

  pub both_visited : (plan : Plan) (numbers : GroundPlan) → AreAsked T G plan numbers → (s : named.State) (bits : State) → Met s bits → fit_from T s plan ≡ true
      → AllZip Met (plans.visited_from T s plan) (visited_from G bits numbers)
  unfolding visited_from
  both_visited [] [] e s bits m f = (m, tt)
  both_visited [] (number ∷ numbers) e s bits m f = absurd e
  both_visited (step ∷ plan) [] e s bits m f = absurd e
  both_visited (step ∷ plan) (number ∷ numbers) (e, es) s bits m f =
      let h = and_parts _ _ f in
      (m, both_visited plan numbers es (state_after T s step) (state_by bits (step_of G number)) (next_met s bits number step m e h.0) h.1)

  -- ---- sums over the steps of a fitting plan, and over their numbers

  -- what agrees at a step that fits, and its number
  abbrev pub AgreeWhereFits : (named.State → State → ℕ → Step → Type 0) → Type 0
  AgreeWhereFits Agree = (s : named.State) (bits : State) (number : ℕ) (step : Step) → Met s bits → IsAsked T G step number → fits T s step ≡ true → Agree s bits number step

  pub sums_same : (of_step : Step → ℕ) (of_number : ℕ → ℕ) → AgreeWhereFits (λ s bits number step. of_step step ≡ of_number number)
      → (plan : Plan) (numbers : GroundPlan) → AreAsked T G plan numbers → (s : named.State) (bits : State) → Met s bits → fit_from T s plan ≡ true → sum_by of_step plan ≡ sum_by of_number numbers
  sums_same of_step of_number same [] [] e s bits m f = refl
  sums_same of_step of_number same [] (number ∷ numbers) e s bits m f = absurd e
  sums_same of_step of_number same (step ∷ plan) [] e s bits m f = absurd e
  sums_same of_step of_number same (step ∷ plan) (number ∷ numbers) (e, es) s bits m f =
      let h = and_parts _ _ f in
      sum_by-cons of_step step plan
      ∙ (λ i. same s bits number step m e h.0 i + sums_same of_step of_number same plan numbers es (state_after T s step) (state_by bits (step_of G number)) (next_met s bits number step m e h.0) h.1 i)
      ∙ sym (sum_by-cons of_number number numbers)

  -- the same of moves, at the state before each
  pub move_sums_same : (of_step : named.State → Step → ℕ) (of_number : State → ℕ → ℕ) → AgreeWhereFits (λ s bits number step. of_step s step ≡ of_number bits number)
      → (plan : Plan) (numbers : GroundPlan) → AreAsked T G plan numbers → (s : named.State) (bits : State) → Met s bits → fit_from T s plan ≡ true
      → sum_by (λ (move : Move). of_step move.state move.step) (moves_from T s plan) ≡ sum_by (λ (move : State × ℕ). of_number move.0 move.1) (zip (visited_from G bits numbers) numbers)
  unfolding visited_from
  move_sums_same of_step of_number same [] [] e s bits m f = refl
  move_sums_same of_step of_number same [] (number ∷ numbers) e s bits m f = absurd e
  move_sums_same of_step of_number same (step ∷ plan) [] e s bits m f = absurd e
  move_sums_same of_step of_number same (step ∷ plan) (number ∷ numbers) (e, es) s bits m f =
      let h = and_parts _ _ f in
      let later = state_by bits (step_of G number) in
      sum_by-cons (λ (move : Move). of_step move.state move.step) (record { state = s; step = step }) (moves_from T (state_after T s step) plan)
      ∙ (λ i. same s bits number step m e h.0 i + move_sums_same of_step of_number same plan numbers es (state_after T s step) later (next_met s bits number step m e h.0) h.1 i)
      ∙ sym (sum_by-cons (λ (move : State × ℕ). of_number move.0 move.1) (bits, number) (zip (visited_from G later numbers) numbers))
