-- What the steps add to the counters and to the loss, one step after another.
use Rattle.std.proofs.Common.{◌≡◌, ◌∙◌, ℕ, suc, ◌+◌, ◌*◌, Bool, true, false, not, ◌&&◌, cond, List, [], ◌∷◌, length, map, Option, Some, None, sum_by, refl, sym, ap, arith}
use Rattle.std.specs.Prelude.{count_by, slice_index_or, fold, zip}
use Rattle.std.specs.List.{range_with_len, list_all}
use native.Mathlib.Nat.{mul-add, mul-zero}
use Rattle.std.proofs.lemmas.List.Folds.{list_all-map}
use Rattle.std.proofs.lemmas.List.Sums.{sum_by-cons}
use Rattle.p3_formula.specs.Forms.{State, truth}
use Rattle.p3_formula.specs.GroundPlans.{GroundPlan, step_of, state_by, visited_from, ground_visited, is_numbered, false_prefs, ground_violated, cost_by, ground_cost, ground_loss}
use Rattle.p3_formula.specs.GroundSat.{ground_sat}
use Rattle.p3_formula.specs.Weighted.{AreNamedBelow, named_weight, weighted_cost}
use Rattle.p3_formula.specs.GroundModal.{GroundModal}
use Rattle.p3_formula.specs.declared.modal.GroundPref.{GroundPref}
use Rattle.p3_formula.specs.declared.modal.GroundSoft.{GroundSoft}
use Rattle.p3_formula.specs.declared.target.Weights.{Weights}
use Rattle.p3_formula.specs.declared.task.GroundStep.{GroundStep}
use Rattle.p3_formula.specs.declared.task.GroundTask.{GroundTask}
use Rattle.p3_formula.proofs.LossLaws.{loss_by_instances}
use Rattle.p3_run.specs.Groups.{Watch, accepts, is_met, watch_of, watches_of, violating, violating_weight}
use Rattle.p3_run.specs.Stages.{stage_of}
use Rattle.p3_run.specs.Steps.{added_if, false_weight, counted_step, step_weight, prefs_violated, steps_weight}
use Rattle.p3_run.specs.Tallies.{Counted, added, IsTally}
use Rattle.p3_run.proofs.TallyLaws.{add_law, tally_like}

-- ---- sums

sum_same : {A : Type 0} (f g : A → ℕ) (xs : List A) → ((x : A) → f x ≡ g x) → sum_by f xs ≡ sum_by g xs
sum_same f g [] same = refl
sum_same f g (x ∷ xs) same = sum_by-cons f x xs ∙ (λ i. same x i + sum_same f g xs same i) ∙ sym (sum_by-cons g x xs)

sum_mapped : {A B : Type 0} (f : B → ℕ) (h : A → B) (xs : List A) → sum_by f (map h xs) ≡ sum_by (λ x. f (h x)) xs
sum_mapped f h [] = refl
sum_mapped f h (x ∷ xs) = sum_by-cons f (h x) (map h xs) ∙ ap (λ n. f (h x) + n) (sum_mapped f h xs) ∙ sym (sum_by-cons (λ y. f (h y)) x xs)

sum_of_sums : {A : Type 0} (f g : A → ℕ) (xs : List A) → sum_by (λ x. f x + g x) xs ≡ sum_by f xs + sum_by g xs
sum_of_sums f g [] = refl
sum_of_sums f g (x ∷ xs) =
    let a = sum_by-cons (λ y. f y + g y) x xs in let b = sum_by-cons f x xs in let c = sum_by-cons g x xs in let d = sum_of_sums f g xs in
    omega (arith, a, b, c, d)

sum_of_none : {A : Type 0} (f : A → ℕ) (xs : List A) → ((x : A) → f x ≡ 0) → sum_by f xs ≡ 0
sum_of_none f [] none = refl
sum_of_none f (x ∷ xs) none = let a = sum_by-cons f x xs in let b = none x in let d = sum_of_none f xs none in omega (arith, a, b, d)

-- ---- the groups of a task after the states visited so far

module _ (G : GroundTask) (W : List State) where
  pub met_is : (modals : List GroundModal) → is_met (map (stage_of W) modals) ≡ list_all (ground_sat W) modals
  met_is modals = list_all-map accepts (stage_of W) modals

  abbrev bad : GroundSoft → Bool
  bad soft = not (list_all (ground_sat W) soft.parts)

  -- as many instances of the name have an unsatisfied part
  pub violating_is : (name : ℕ) → violating name (watches_of W G) ≡ count_by (λ (soft : GroundSoft). is_numbered name soft.name && bad soft) G.soft
  violating_is name =
      let f : Watch → ℕ = λ watch. cond (is_numbered name watch.name && not (is_met watch.stages)) 1 0 in
      let softs = map (λ (soft : GroundSoft). watch_of W soft.name soft.parts) G.soft in
      let a = sum_by-cons f (watch_of W None G.hard) softs in
      let b = sum_mapped f (λ (soft : GroundSoft). watch_of W soft.name soft.parts) G.soft in
      let c = sum_same (λ (soft : GroundSoft). cond {A = ℕ} (is_numbered name soft.name && not (is_met (map (stage_of W) soft.parts))) 1 0) (λ (soft : GroundSoft). cond {A = ℕ} (is_numbered name soft.name && bad soft) 1 0) G.soft
      (λ soft. ap (λ b. cond {A = ℕ} (is_numbered name soft.name && not b) 1 0) (met_is soft.parts)) in
      omega (arith, a, b, c)

  none_weighs : (b : Bool) → ◌≡◌ {A = ℕ} (cond b 0 0) 0
  none_weighs true = refl
  none_weighs false = refl

  pub violating_weight_is : (by_name : List ℕ) → violating_weight by_name (watches_of W G)
      ≡ sum_by (λ name. slice_index_or by_name name 0 * count_by (λ (soft : GroundSoft). is_numbered name soft.name && bad soft) G.soft) (range_with_len 0 (length by_name))
  violating_weight_is by_name =
      let f : Watch → ℕ = λ watch. cond (not (is_met watch.stages)) (named_weight by_name watch.name) 0 in
      let softs = map (λ (soft : GroundSoft). watch_of W soft.name soft.parts) G.soft in
      let a = sum_by-cons f (watch_of W None G.hard) softs in
      let n = none_weighs (not (is_met (map (stage_of W) G.hard))) in
      let b = sum_mapped f (λ (soft : GroundSoft). watch_of W soft.name soft.parts) G.soft in
      let c = sum_same (λ (soft : GroundSoft). cond (not (is_met (map (stage_of W) soft.parts))) (named_weight by_name soft.name) 0) (λ (soft : GroundSoft). cond (bad soft) (named_weight by_name soft.name) 0) G.soft
      (λ soft. ap (λ b. cond (not b) (named_weight by_name soft.name) 0) (met_is soft.parts)) in
      let d = loss_by_instances (λ (soft : GroundSoft). soft.name) bad by_name G.soft in
      omega (arith, a, n, b, c, d)

-- ---- the counters of one step

module _ (by_name : List ℕ) (state : State) where
  prefs_counted : (prefs : List GroundPref) (count : ℕ → ℕ) (weight : ℕ) (tally : Counted) → AreNamedBelow (length by_name) prefs → IsTally by_name count weight tally
      → IsTally by_name (λ n. count n + count_by (λ (pref : GroundPref). is_numbered n pref.name && not (truth state pref.body)) prefs) (weight + false_weight state by_name prefs) (fold (added_if state by_name) tally prefs)
  prefs_counted [] count weight tally named is = tally_like by_name (λ n. omega arith) (omega arith) is
  prefs_counted (pref ∷ prefs) count weight tally named is =
      tally_like by_name
      (λ n. let a = sum_by-cons (λ (p : GroundPref). cond (is_numbered n p.name && not (truth state p.body)) 1 0) pref prefs in omega (arith, a))
      (let a = sum_by-cons (λ (p : GroundPref). cond (not (truth state p.body)) (named_weight by_name p.name) 0) pref prefs in omega (arith, a))
      (prefs_counted prefs (λ n. count n + cond (is_numbered n pref.name && not (truth state pref.body)) 1 0) (weight + cond (not (truth state pref.body)) (named_weight by_name pref.name) 0)
      (added_if state by_name tally pref) (λ k d lt. named (suc k) d (omega (arith, lt))) (by (not (truth state pref.body))))
    where
      both : (a : Bool) → (a && true) ≡ a
      both true = refl
      both false = refl

      none : (a : Bool) → (a && false) ≡ false
      none true = refl
      none false = refl

      by : (b : Bool) → IsTally by_name (λ n. count n + cond (is_numbered n pref.name && b) 1 0) (weight + cond b (named_weight by_name pref.name) 0) (cond b (added by_name pref.name tally) tally)
      by true = tally_like by_name (λ n. ap (λ b. count n + cond {A = ℕ} b 1 0) (sym (both (is_numbered n pref.name)))) refl (add_law by_name count weight pref.name tally is (named 0 pref (omega arith)))
      by false = tally_like by_name (λ n. let z = ap (λ b. cond {A = ℕ} b 1 0) (none (is_numbered n pref.name)) in omega (arith, z)) (omega arith) is

pub step_counted : (weights : Weights) (state : State) (step : GroundStep) (count : ℕ → ℕ) (weight : ℕ) (tally : Counted) → AreNamedBelow (length weights.by_name) step.prefs → IsTally weights.by_name count weight tally
    → IsTally weights.by_name (λ n. count n + false_prefs state n (Some step)) (weight + step_weight state weights (Some step)) (counted_step state weights tally step)
step_counted weights state step count weight tally named is =
    let all = prefs_counted weights.by_name state step.prefs count weight tally named is in
    record { names = all.names; counts = all.counts; worth = let w = all.worth in omega (arith, w) }

-- ---- the loss of all steps

module _ (G : GroundTask) (weights : Weights) where
  abbrev by_name : List ℕ
  by_name = weights.by_name

  abbrev names : List ℕ
  names = range_with_len 0 (length by_name)

  abbrev weight : ℕ → ℕ
  weight name = slice_index_or by_name name 0

  abbrev moves_from : State → GroundPlan → List (State × ℕ)
  moves_from state plan = zip (visited_from G state plan) plan

  abbrev prefs_from : State → GroundPlan → ℕ → ℕ
  prefs_from state plan name = sum_by (λ (move : State × ℕ). false_prefs move.0 name (step_of G move.1)) (moves_from state plan)

  abbrev weight_from : State → GroundPlan → ℕ
  weight_from state plan = sum_by (λ (move : State × ℕ). step_weight move.0 weights (step_of G move.1)) (moves_from state plan)

  one_step : (state : State) (step : Option GroundStep) → weights.total_cost * cost_by step + sum_by (λ name. weight name * false_prefs state name step) names ≡ step_weight state weights step
  one_step state None = let a = sum_of_none (λ name. weight name * 0) names (λ name. mul-zero (weight name)) in let b = mul-zero weights.total_cost in omega (arith, a, b)
  one_step state (Some step) = ap (λ n. weighted_cost weights step + n) (loss_by_instances (λ (pref : GroundPref). pref.name) (λ (pref : GroundPref). not (truth state pref.body)) by_name step.prefs)

  steps_loss : (state : State) (plan : GroundPlan) → weights.total_cost * sum_by (λ number. cost_by (step_of G number)) plan + sum_by (λ name. weight name * prefs_from state plan name) names ≡ weight_from state plan
  unfolding visited_from
  steps_loss state [] = let a = sum_of_none (λ name. weight name * 0) names (λ name. mul-zero (weight name)) in let b = mul-zero weights.total_cost in omega (arith, a, b)
  steps_loss state (number ∷ plan) =
      let rest = moves_from (state_by state (step_of G number)) plan in
      let costs = sum_by-cons (λ n. cost_by (step_of G n)) number plan in
      let moves = sum_by-cons (λ (move : State × ℕ). step_weight move.0 weights (step_of G move.1)) (state, number) rest in
      let prefs : (name : ℕ) → prefs_from state (number ∷ plan) name ≡ false_prefs state name (step_of G number) + prefs_from (state_by state (step_of G number)) plan name =
      λ name. sum_by-cons (λ (move : State × ℕ). false_prefs move.0 name (step_of G move.1)) (state, number) rest in
      let parted =
      sum_same (λ name. weight name * prefs_from state (number ∷ plan) name) (λ name. weight name * false_prefs state name (step_of G number) + weight name * prefs_from (state_by state (step_of G number)) plan name) names
      (λ name. ap (λ n. weight name * n) (prefs name) ∙ mul-add (weight name) (false_prefs state name (step_of G number)) (prefs_from (state_by state (step_of G number)) plan name))
      ∙ sum_of_sums (λ name. weight name * false_prefs state name (step_of G number)) (λ name. weight name * prefs_from (state_by state (step_of G number)) plan name) names in
      let spread = ap (λ n. weights.total_cost * n) costs ∙ mul-add weights.total_cost (cost_by (step_of G number)) (sum_by (λ n. cost_by (step_of G n)) plan) in
      let here = one_step state (step_of G number) in
      let later = steps_loss (state_by state (step_of G number)) plan in
      omega (arith, moves, parted, spread, here, later)

  -- the loss is what the groups weigh, with what the steps weigh
  pub loss_is : (plan : GroundPlan) → ground_loss G weights plan ≡ violating_weight by_name (watches_of (ground_visited G plan) G) + steps_weight G weights plan
  unfolding ground_loss ground_violated ground_cost
  loss_is plan =
      let W = ground_visited G plan in
      let counts : ℕ → ℕ = λ name. count_by (λ (soft : GroundSoft). is_numbered name soft.name && not (list_all (ground_sat W) soft.parts)) G.soft in
      let parted =
      sum_same (λ name. weight name * (counts name + prefs_from G.initial plan name)) (λ name. weight name * counts name + weight name * prefs_from G.initial plan name) names
      (λ name. mul-add (weight name) (counts name) (prefs_from G.initial plan name))
      ∙ sum_of_sums (λ name. weight name * counts name) (λ name. weight name * prefs_from G.initial plan name) names in
      let soft = violating_weight_is G W by_name in
      let steps = steps_loss G.initial plan in
      omega (arith, parted, soft, steps)

  pub violated_is : (plan : GroundPlan) (name : ℕ) → ground_violated G plan name ≡ violating name (watches_of (ground_visited G plan) G) + prefs_violated G plan name
  unfolding ground_violated
  violated_is plan name = ap (λ n. n + prefs_violated G plan name) (sym (violating_is G (ground_visited G plan) name))
