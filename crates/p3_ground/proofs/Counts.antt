-- The counts of preference names and the costs of a plan are those of the list of its steps' numbers.
use Rattle.std.proofs.Common.{◌≡◌, ◌∙◌, ℕ, zero, suc, ◌+◌, ◌*◌, ◌<◌, arith, sum_by, refl, sym, ap, true, not, ◌&&◌, List, [], ◌∷◌, length, Some, cond}
use Rattle.std.specs.Prelude.{slice_get, slice_index_or, count_by, unwrap_or}
use Rattle.std.specs.List.{list_all, range_with_len, AllZip}
use Rattle.std.proofs.lemmas.Option.{slice_get-get_or}
use Rattle.std.proofs.lemmas.List.Sums.{sum_by-cons}
use Rattle.p3_task.specs.Names.{Name}
use Rattle.p3_task.specs.States as named
use Rattle.p3_task.specs.States.{start}
use Rattle.p3_task.specs.Formulas.{holds}
use Rattle.p3_task.specs.Goals.{StatePref}
use Rattle.p3_task.specs.Costs.{initial_cost}
use Rattle.p3_task.specs.Plans.{Plan, step_cost, visited, steps_fit}
use Rattle.p3_task.specs.Constraints.{Instance, sat, instances}
use Rattle.p3_task.specs.Metrics.{is_called, false_in, step_prefs, unsatisfied, violated, cost}
use Rattle.p3_task.specs.PreferenceNames.{ordered_names}
use Rattle.p3_task.specs.StepNumbers.{HasStepNumbers}
use Rattle.p3_task.proofs.PlanLemmas.{steps_fit-walk}
use Rattle.p3_task.proofs.OperatorLaws.{sat-operators}
use Rattle.p3_task.specs.declared.state.Fact.{Fact}
use Rattle.p3_task.specs.declared.task.Task.{Task}
use Rattle.p3_formula.specs.Forms.{State, truth}
use Rattle.p3_formula.specs.GroundSat.{ground_sat}
use Rattle.p3_formula.specs.GroundPlans.{GroundPlan, step_of, cost_by, ground_cost, ground_loss, ground_visited, is_numbered, false_prefs, ground_violated}
use Rattle.p3_formula.specs.declared.modal.GroundPref.{GroundPref}
use Rattle.p3_formula.specs.declared.modal.GroundSoft.{GroundSoft}
use Rattle.p3_formula.specs.declared.target.Weights.{Weights}
use Rattle.p3_formula.specs.declared.task.GroundTask.{GroundTask}
use Rattle.p3_ground.specs.StandsFor.{StandsBy, PrefStands, SoftStands}
use Rattle.p3_ground.specs.PlansByNumber.{AreAsked, CountsAgree, weighed_violations}
use Rattle.p3_ground.proofs.NameNumbers.{same_called}
use Rattle.p3_ground.proofs.Walk.{Met, reached, begun, kept_where_fits, sums_same, move_sums_same, AgreeWhereFits}
use Rattle.p3_ground.proofs.Validity.{AreMet, are_met, same_modals, some_visited}

module _ (T : Task) (atoms : List Fact) (G : GroundTask) (S : StandsBy T atoms G) (K : HasStepNumbers T) where
  -- ---- counts

  module _ (k : ℕ) (name : Name) (at : slice_get (ordered_names T) k ≡ Some name) where
    same_unsatisfied : (W : List named.State) (V : List State) → AreMet T atoms G S K W V → 0 < length W → (found : List Instance) (made : List GroundSoft) → AllZip (SoftStands T atoms) found made
        → unsatisfied T W name found ≡ count_by (λ (soft : GroundSoft). is_numbered k soft.name && not (list_all (ground_sat V) soft.parts)) made
    same_unsatisfied W V m some_state [] [] stands = refl
    same_unsatisfied W V m some_state [] (y ∷ made) stands = absurd stands
    same_unsatisfied W V m some_state (x ∷ found) [] stands = absurd stands
    same_unsatisfied W V m some_state (x ∷ found) (y ∷ made) stands =
        let named_same = same_called T k name at x.name ∙ ap (is_numbered k) (sym stands.0.name) in
        let sat_same = sat-operators T W x.body x.env ∙ same_modals T atoms G S K W V m some_state _ y.parts stands.0.parts in
        sum_by-cons (λ (instance : Instance). cond (is_called name instance.name && not (sat T W instance.env instance.body)) 1 0) x found
        ∙ (λ i. cond (named_same i && not (sat_same i)) 1 0 + same_unsatisfied W V m some_state found made stands.1 i)
        ∙ sym (sum_by-cons (λ (soft : GroundSoft). cond (is_numbered k soft.name && not (list_all (ground_sat V) soft.parts)) 1 0) y made)

    same_false : (s : named.State) (bits : State) → Met T atoms G S K s bits → (found : List StatePref) (made : List GroundPref) → AllZip (PrefStands T atoms) found made
        → false_in T s name found ≡ count_by (λ (pref : GroundPref). is_numbered k pref.name && not (truth bits pref.body)) made
    same_false s bits m [] [] stands = refl
    same_false s bits m [] (y ∷ made) stands = absurd stands
    same_false s bits m (x ∷ found) [] stands = absurd stands
    same_false s bits m (x ∷ found) (y ∷ made) stands =
        let named_same = same_called T k name at x.name ∙ ap (is_numbered k) (sym stands.0.name) in
        let held_same = sym (stands.0.body s bits (reached T atoms G S K s bits m) m.matched) in
        sum_by-cons (λ (pref : StatePref). cond (is_called name pref.name && not (holds T s pref.env pref.body)) 1 0) x found
        ∙ (λ i. cond (named_same i && not (held_same i)) 1 0 + same_false s bits m found made stands.1 i)
        ∙ sym (sum_by-cons (λ (pref : GroundPref). cond (is_numbered k pref.name && not (truth bits pref.body)) 1 0) y made)

    step_false : AgreeWhereFits T atoms G S K (λ s bits number step. false_in T s name (step_prefs T step) ≡ false_prefs bits k (step_of G number))
    step_false s bits number step m e f =
        kept_where_fits T atoms G S K (λ o. false_in T s name (step_prefs T step) ≡ false_prefs bits k o) s bits number step m e f
        (λ made is. same_false s bits m _ made.prefs is.prefs)

    counts_alike : (plan : Plan) (numbers : GroundPlan) → AreAsked T G plan numbers → steps_fit T plan ≡ true → violated T plan name ≡ ground_violated G numbers k
    unfolding violated ground_violated visited
    counts_alike plan numbers e f = λ i.
        same_unsatisfied (visited T plan) (ground_visited G numbers) (are_met T atoms G S K plan numbers e f) (some_visited T atoms G S K (start T) plan) (instances T) G.soft S.soft i
        + move_sums_same T atoms G S K (λ s step. false_in T s name (step_prefs T step)) (λ bits number. false_prefs bits k (step_of G number)) step_false
        plan numbers e (start T) G.initial (begun T atoms G S K) (sym (steps_fit-walk T plan) ∙ f) i

  -- ---- costs

  same_costs : AgreeWhereFits T atoms G S K (λ s bits number step. unwrap_or (step_cost T step) 0 ≡ cost_by (step_of G number))
  same_costs s bits number step m e f =
      kept_where_fits T atoms G S K (λ o. unwrap_or (step_cost T step) 0 ≡ cost_by o) s bits number step m e f
      (λ made is. ap (λ c. unwrap_or c 0) (sym is.cost))

  costs_alike : (plan : Plan) (numbers : GroundPlan) → AreAsked T G plan numbers → steps_fit T plan ≡ true → cost T plan ≡ initial_cost T + ground_cost G numbers
  unfolding cost ground_cost
  costs_alike plan numbers e f = ap (λ n. initial_cost T + n)
      (sums_same T atoms G S K (λ step. unwrap_or (step_cost T step) 0) (λ number. cost_by (step_of G number)) same_costs plan numbers e (start T) G.initial (begun T atoms G S K) (sym (steps_fit-walk T plan) ∙ f))

  pub counts_agree : (plan : Plan) (numbers : GroundPlan) → AreAsked T G plan numbers → steps_fit T plan ≡ true → CountsAgree T G plan numbers
  counts_agree plan numbers e f = record { counts = λ k name at. counts_alike k name at plan numbers e f; costs = costs_alike plan numbers e f }

  -- ---- the loss

  same_weighed : (by_name : List ℕ) (first second : ℕ → ℕ) (from count : ℕ) → ((k : ℕ) → k < from + count → first k ≡ second k)
      → sum_by (λ k. slice_index_or by_name k 0 * first k) (range_with_len from count) ≡ sum_by (λ k. slice_index_or by_name k 0 * second k) (range_with_len from count)
  same_weighed by_name first second from zero same = refl
  same_weighed by_name first second from (suc count) same =
      sum_by-cons (λ k. slice_index_or by_name k 0 * first k) from (range_with_len (from + 1) count)
      ∙ (λ i. slice_index_or by_name from 0 * same from (omega arith) i + same_weighed by_name first second (from + 1) count (λ k lt. same k (omega (arith, lt))) i)
      ∙ sym (sum_by-cons (λ k. slice_index_or by_name k 0 * second k) from (range_with_len (from + 1) count))

  pub losses_alike : (weights : Weights) → length weights.by_name ≡ length (ordered_names T) → (plan : Plan) (numbers : GroundPlan) → AreAsked T G plan numbers → steps_fit T plan ≡ true
      → ground_loss G weights numbers ≡ weights.total_cost * ground_cost G numbers + weighed_violations T weights.by_name plan
  unfolding ground_loss
  losses_alike weights long plan numbers e f = sym (ap (λ n. weights.total_cost * ground_cost G numbers + n)
      (same_weighed weights.by_name (λ k. violated T plan (slice_index_or (ordered_names T) k [])) (ground_violated G numbers) 0 (length weights.by_name)
      (λ k lt. counts_alike k (slice_index_or (ordered_names T) k []) (slice_get-get_or (ordered_names T) k [] (omega (arith, lt, long))) plan numbers e f)))
