-- The weighted cost of a kept step, with the weights of all its preferences, is at most the cost bound of its action.
use Rattle.std.proofs.Common.{◌≡◌, ◌∙◌, ℕ, suc, ◌+◌, ◌*◌, ◌<◌, ◌≤◌, max, refl, sym, ap, Bool, true, false, ◌&&◌, if◌then◌else◌, List, [], ◌∷◌, map, filter_map, fold, sum_by, slice_get, option_map, Option, Some, None, arith, pos, ◌+ℤ◌, ◌*ℤ◌}
use Rattle.std.specs.Prelude.{int_lt, option_and_then, unwrap_or}
use Rattle.std.specs.List.{AllZip, cons_option}
use mathlib.Core.List.{map-map}
use Rattle.std.proofs.lemmas.Bool.{ltb-true}
use Rattle.std.proofs.lemmas.List.Sums.{sum_by-cons}
use Rattle.std.proofs.lemmas.Nat.{mul-le}
use Rattle.p3_task.specs.Names.{Name, same_name, same_names}
use Rattle.p3_task.specs.States.{Environment, meanings}
use Rattle.p3_task.specs.Goals.{StatePref, prefs, pref_names}
use Rattle.p3_task.specs.Costs.{amount_value, cost_units, effect_cost, entry_value, given_value, increases, total}
use Rattle.p3_task.specs.Plans.{action_named, arguments, cost_by, step_cost}
use Rattle.p3_task.specs.Metrics.{prefs_by, step_prefs}
use Rattle.p3_task.specs.Limits.{action_prefs, cost_bound, greatest_amount, value_of_entry, weight_of}
use Rattle.p3_task.specs.StepNumbers.{HasNumber, HasStepNumbers}
use Rattle.p3_task.specs.declared.effect.Amount.{Amount}
use Rattle.p3_task.specs.declared.effect.Amount.TheVariants as amount
use Rattle.p3_task.specs.declared.state.Fact.{Fact}
use Rattle.p3_task.specs.declared.task.Action.{Action}
use Rattle.p3_task.specs.declared.task.Init.{Init}
use Rattle.p3_task.specs.declared.task.Init.TheVariants.{True, False, Value}
use Rattle.p3_task.specs.declared.task.Step.{Step}
use Rattle.p3_task.specs.declared.task.Task.{Task}
use Rattle.p3_task.proofs.OnceLemmas.{Some-injective}
use Rattle.p3_task.proofs.PreferenceNameLaws.{prefs-names}
use Rattle.p3_formula.specs.Weighted as weighted
use Rattle.p3_formula.specs.declared.modal.GroundPref.{GroundPref}
use Rattle.p3_formula.specs.declared.target.Weights.{Weights}
use Rattle.p3_formula.specs.declared.task.GroundStep.{GroundStep}
use Rattle.p3_ground.specs.StandsFor.{IsMadeOf, PrefStands}
use Rattle.p3_ground.proofs.Extras.{AreOrdered, weight_is}
use Rattle.p3_ground.proofs.Mentioned.{step_name_is_ordered}
use Rattle.p3_metric.specs.Weighed.{HasWeights}

-- ---- amounts

greatest_from : (n : ℕ) (list : List ℕ) → n ≤ fold max n list
greatest_from n [] = omega arith
greatest_from n (x ∷ list) = let rest = greatest_from (max n x) list in omega (arith, rest)

module _ (T : Task) where
  module _ (function : Name) (objects : List Name) where
    abbrev own_values : List Init → List ℕ
    own_values entries = filter_map (entry_value T function objects) entries

    abbrev all_values : List Init → List ℕ
    all_values entries = filter_map (value_of_entry T function) entries

    -- the first value at the objects is at most the greatest value of the function
    value_within : (entries : List Init) (n v : ℕ) → slice_get (own_values entries) 0 ≡ Some v → v ≤ fold max n (all_values entries)
    value_within [] n v e = absurd (cc)
    value_within (True pred args ∷ entries) n v e = value_within entries n v e
    value_within (False pred args ∷ entries) n v e = value_within entries n v e
    value_within (Value other args number ∷ entries) n v e = by (same_name other.name function) (same_names (meanings [] args) objects) e (value_within entries)
      where
        by : (named at : Bool) → slice_get (cons_option (if named && at then Some (cost_units T number) else None) (own_values entries)) 0 ≡ Some v
            → ((n v : ℕ) → slice_get (own_values entries) 0 ≡ Some v → v ≤ fold max n (all_values entries)) → v ≤ fold max n (cons_option (if named then Some (cost_units T number) else None) (all_values entries))
        by true true e rest = let is = Some-injective (cost_units T number) v e in let most = greatest_from (max n (cost_units T number)) (all_values entries) in omega (arith, is, most)
        by true false e rest = rest (max n (cost_units T number)) v e
        by false at e rest = rest n v e

  amount_within : (env : Environment) (a : Amount) (v : ℕ) → amount_value T env a ≡ Some v → v ≤ greatest_amount T a
  unfolding given_value
  amount_within env (amount.Number numeral) v e = let is = Some-injective (cost_units T numeral) v e in omega (arith, is)
  amount_within env (amount.Value function args) v e = value_within function.name (meanings env args) T.problem.init 0 v e

  total_within : (env : Environment) (amounts : List Amount) (c : ℕ) → total (map (amount_value T env) amounts) ≡ Some c → c ≤ sum_by (greatest_amount T) amounts
  total_within env [] c e = let is = Some-injective 0 c e in omega (arith, is)
  total_within env (first ∷ amounts) c e = by (amount_value T env first) refl e (total_within env amounts)
    where
      behind : (v : ℕ) → v ≤ greatest_amount T first → (o : Option ℕ) → option_map (λ rest. v + rest) o ≡ Some c → ((d : ℕ) → o ≡ Some d → d ≤ sum_by (greatest_amount T) amounts) → c ≤ sum_by (greatest_amount T) (first ∷ amounts)
      behind v within None e rest = absurd (cc)
      behind v within (Some d) e rest =
          let is = Some-injective (v + d) c e in
          let others = rest d refl in
          let both = sum_by-cons (greatest_amount T) first amounts in
          omega (arith, within, is, others, both)

      by : (o : Option ℕ) → amount_value T env first ≡ o → total (o ∷ map (amount_value T env) amounts) ≡ Some c → ((d : ℕ) → total (map (amount_value T env) amounts) ≡ Some d → d ≤ sum_by (greatest_amount T) amounts)
          → c ≤ sum_by (greatest_amount T) (first ∷ amounts)
      by None at e rest = absurd (cc)
      by (Some v) at e rest = behind v (amount_within env first v at) (total (map (amount_value T env) amounts)) e rest

  abbrev greatest_cost : Action → ℕ
  greatest_cost action = sum_by (greatest_amount T) (increases action.effect.body)

  pub step_cost_within : (step : Step) (action : Action) (c : ℕ) → action_named T step.action ≡ Some action → step_cost T step ≡ Some c → c ≤ greatest_cost action
  unfolding step_cost effect_cost
  step_cost_within step action c named e = total_within (arguments action step) (increases action.effect.body) c (sym (ap (option_and_then (cost_by T step)) named) ∙ e)

  -- ---- weights

  weights_by_name : (list : List StatePref) → map (λ (pref : StatePref). weight_of T pref.name) list ≡ map (weight_of T) (pref_names list)
  weights_by_name list = sym (map-map (weight_of T) (λ (pref : StatePref). pref.name) list)

  module _ (w : Weights) (has : HasWeights T w) where
    weights_summed : (atoms : List Fact) (found : List StatePref) (made : List GroundPref) → AllZip (PrefStands T atoms) found made → AreOrdered T found
        → (n : ℕ) → fold ◌+ℤ◌ (pos n) (map (λ (pref : StatePref). weight_of T pref.name) found) ≡ pos (n + sum_by (weighted.weight_of w.by_name) made)
    weights_summed atoms [] [] stands ordered n = ap pos (omega arith)
    weights_summed atoms [] (y ∷ made) stands ordered n = absurd stands
    weights_summed atoms (x ∷ found) [] stands ordered n = absurd stands
    weights_summed atoms (x ∷ found) (y ∷ made) stands ordered n =
        ap (λ weight. fold ◌+ℤ◌ (pos n +ℤ weight) (map (λ (pref : StatePref). weight_of T pref.name) found)) here
        ∙ weights_summed atoms found made stands.1 (λ k pref name at e. ordered (suc k) pref name at e) (n + weighted.weight_of w.by_name y)
        ∙ ap pos (let both = sum_by-cons (weighted.weight_of w.by_name) y made in omega (arith, both))
      where
        here : weight_of T x.name ≡ pos (weighted.weight_of w.by_name y)
        here = weight_is T w has.by_name x.name (λ name e. ordered 0 x name refl e) ∙ ap (λ name. pos (weighted.named_weight w.by_name name)) (sym stands.0.name)

    module _ (atoms : List Fact) (K : HasStepNumbers T) (number : ℕ) (step : Step) (made : GroundStep) (e : HasNumber T step number) (is : IsMadeOf T atoms step made) where
      abbrev action : Action
      action = (K.own number step e).action

      abbrev all_weights : ℕ
      all_weights = sum_by (weighted.weight_of w.by_name) made.prefs

      weights_are : fold ◌+ℤ◌ (pos 0) (map (λ (pref : StatePref). weight_of T pref.name) (action_prefs T action)) ≡ pos all_weights
      unfolding step_prefs
      weights_are =
          ap (λ list. fold ◌+ℤ◌ (pos 0) list)
          (weights_by_name (action_prefs T action) ∙ ap (map (weight_of T)) (prefs-names T action.pre.body [] (arguments action step)) ∙ sym (weights_by_name (prefs T (arguments action step) action.pre.body))
          ∙ ap (λ o. map (λ (pref : StatePref). weight_of T pref.name) (prefs_by T step o)) (sym (K.own number step e).named))
          ∙ weights_summed atoms (step_prefs T step) made.prefs is.prefs (step_name_is_ordered T step) 0
          ∙ ap pos (omega arith)

      -- the cost bound of the action in the weights
      cost_bound_is : cost_bound T action ≡ pos (w.total_cost * greatest_cost action + all_weights)
      unfolding cost_bound
      cost_bound_is = λ i. sym has.total_cost i *ℤ pos (greatest_cost action) +ℤ weights_are i

      pub below_cost_bound : (limit c : ℕ) → int_lt (cost_bound T action) (pos limit) ≡ true → made.cost ≡ Some c → weighted.weighted_cost w made + all_weights < limit
      below_cost_bound limit c low at =
          let within = step_cost_within step action c (K.own number step e).named (sym is.cost ∙ at) in
          let paid : weighted.weighted_cost w made ≡ w.total_cost * c = ap (λ o. w.total_cost * unwrap_or o 0) at in
          let product = mul-le w.total_cost c w.total_cost (greatest_cost action) (omega arith) within in
          let below = ltb-true (w.total_cost * greatest_cost action + all_weights) limit (ap (λ bound. int_lt bound (pos limit)) (sym cost_bound_is) ∙ low) in
          omega (arith, paid, product, below)
