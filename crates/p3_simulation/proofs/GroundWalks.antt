-- Ground plans from a visited state on, with those visited before: whether they are valid, their loss, and how many more actions they take.
use Rattle.std.proofs.Common.{◌≡◌, ◌∙◌, inl, inr, ℕ, zero, suc, ◌+◌, ◌*◌, ◌<◌, ◌≤◌, Bool, true, false, not, ◌&&◌, cond, List, [], ◌∷◌, ◌++◌, length, sum_by, refl, sym, ap, arith, Option, Some, None, append_assoc}
use Rattle.std.specs.Prelude.{◌==◌, Contains, count_by, zip, slice_index_or}
use Rattle.std.specs.List.{list_all, range_with_len}
use Rattle.std.proofs.Math.Bool.{and-true}
use Rattle.std.proofs.Math.Nat.{mul-add}
use Rattle.std.proofs.lemmas.Bool.{and_parts, and_right, cases_eq, eq-eqb, ne_eqb}
use Rattle.std.proofs.lemmas.List.Sums.{sum_by-cons}
use Rattle.p3_formula.specs.Forms.{State, truth}
use Rattle.p3_formula.specs.GroundSat.{ground_sat}
use Rattle.p3_formula.specs.GroundPlans.{GroundPlan, step_of, ground_fits, state_by, visited_from, last_of, is_ground_valid, is_numbered, false_prefs, ground_violated, cost_by, ground_cost, ground_loss, ground_visited, ground_moves}
use Rattle.p3_formula.specs.Weighted.{ground_extra, extra_by, HasNameBelow}
use Rattle.p3_formula.specs.declared.modal.GroundPref.{GroundPref}
use Rattle.p3_formula.specs.declared.modal.GroundSoft.{GroundSoft}
use Rattle.p3_formula.specs.declared.target.Weights.{Weights}
use Rattle.p3_formula.specs.declared.task.GroundStep.{GroundStep}
use Rattle.p3_formula.specs.declared.task.GroundTask.{GroundTask}
use Rattle.p3_simulation.proofs.Walks.{is_head, is_behind}
pub use Rattle.p3_simulation.specs.Parts.{weigh, may_end, is_bad, end_loss}

-- ---- sums over names

module _ (by_name : List ℕ) where
  -- what the counts of all names weigh
  abbrev pub named_sum : ℕ → ℕ → (ℕ → ℕ) → ℕ
  named_sum from count counts = sum_by (λ name. slice_index_or by_name name 0 * counts name) (range_with_len from count)

  named_more : (from count : ℕ) (counts : ℕ → ℕ) → named_sum from (suc count) counts ≡ slice_index_or by_name from 0 * counts from + named_sum (from + 1) count counts
  named_more from count counts = sum_by-cons (λ name. slice_index_or by_name name 0 * counts name) from (range_with_len (from + 1) count)

  named_zero : (from count : ℕ) → named_sum from count (λ name. 0) ≡ 0
  named_zero from zero = refl
  named_zero from (suc count) = named_more from count (λ name. 0) ∙ (let e = named_zero (from + 1) count in omega (arith, e))

  named_both : (from count : ℕ) (first second : ℕ → ℕ) → named_sum from count (λ name. first name + second name) ≡ named_sum from count first + named_sum from count second
  named_both from zero first second = refl
  named_both from (suc count) first second =
      named_more from count (λ name. first name + second name)
      ∙ (let e = named_both (from + 1) count first second in
      let d : slice_index_or by_name from 0 * (first from + second from) ≡ slice_index_or by_name from 0 * first from + slice_index_or by_name from 0 * second from = mul-add (slice_index_or by_name from 0) (first from) (second from) in
      let f = named_more from count first in
      let g = named_more from count second in omega (arith, e, d, f, g))

  abbrev one_name : Option ℕ → ℕ → ℕ
  one_name name number = cond (is_numbered number name) 1 0

  -- only the name itself counts
  past : (from count number : ℕ) → number < from → named_sum from count (one_name (Some number)) ≡ 0
  past from zero number before = refl
  past from (suc count) number before =
      let e = past (from + 1) count number (omega arith) in
      let differ : (number == from) ≡ false = ne_eqb number from (λ same. omega (arith, same, before)) in
      named_more from count (one_name (Some number))
      ∙ (λ i. slice_index_or by_name from 0 * cond (differ i) 1 0 + e i) ∙ omega arith

  within : (from count number : ℕ) → from ≤ number → number < from + count → named_sum from count (one_name (Some number)) ≡ slice_index_or by_name number 0
  within from zero number low high = absurd (omega (arith, low, high))
  within from (suc count) number low high = elim (cases_eq number from) [
    | inl same ↦
        let e = past (from + 1) count number (omega (arith, same)) in
        let yes : (number == from) ≡ true = eq-eqb number from same in
        named_more from count (one_name (Some number))
        ∙ (λ i. slice_index_or by_name (sym same i) 0 * cond (yes i) 1 0 + e i) ∙ omega arith
    | inr apart ↦
        let e = within (from + 1) count number (omega (arith, apart, low)) (omega (arith, high)) in
        let differ : (number == from) ≡ false = ne_eqb number from apart in
        named_more from count (one_name (Some number))
        ∙ (λ i. slice_index_or by_name from 0 * cond (differ i) 1 0 + e i) ∙ omega arith
  ]

  abbrev pub total : (ℕ → ℕ) → ℕ
  total counts = named_sum 0 (length by_name) counts

  one_weighs : (name : Option ℕ) (bad : Bool) → HasNameBelow (length by_name) name → total (λ number. cond (is_numbered number name && bad) 1 0) ≡ weigh by_name bad name
  one_weighs None true inside = named_zero 0 (length by_name)
  one_weighs None false inside = named_zero 0 (length by_name)
  one_weighs (Some name) true inside = (λ i. total (λ number. cond (and-true (name == number) i) 1 0)) ∙ within 0 (length by_name) name (omega arith) (omega (arith, inside))
  one_weighs (Some name) false inside = (λ i. total (λ number. cond (and_right (name == number) false refl i) 1 0)) ∙ named_zero 0 (length by_name)

  -- the counts of all that is bad weigh as much as each of it by itself
  pub count_weighs : {A : Type 0} (name : A → Option ℕ) (bad : A → Bool) (xs : List A) → ((x : A) → Contains xs x → HasNameBelow (length by_name) (name x))
      → total (λ number. count_by (λ x. is_numbered number (name x) && bad x) xs) ≡ sum_by (λ x. weigh by_name (bad x) (name x)) xs
  count_weighs name bad [] inside = named_zero 0 (length by_name)
  count_weighs name bad (x ∷ xs) inside =
      (λ i. total (λ number. sum_by-cons (λ y. cond (is_numbered number (name y) && bad y) 1 0) x xs i))
      ∙ named_both 0 (length by_name) (λ number. cond (is_numbered number (name x) && bad x) 1 0) (λ number. count_by (λ y. is_numbered number (name y) && bad y) xs)
      ∙ (λ i. one_weighs (name x) (bad x) (inside x (is_head x xs)) i + count_weighs name bad xs (λ y member. inside y (is_behind x xs y member)) i)
      ∙ sym (sum_by-cons (λ y. weigh by_name (bad y) (name y)) x xs)

  -- a sum over the steps of the counts of all names, step by step
  pub total_swaps : {A : Type 0} (counts : A → ℕ → ℕ) (xs : List A) → total (λ number. sum_by (λ x. counts x number) xs) ≡ sum_by (λ x. total (counts x)) xs
  total_swaps counts [] = named_zero 0 (length by_name)
  total_swaps counts (x ∷ xs) =
      (λ i. total (λ number. sum_by-cons (λ y. counts y number) x xs i))
      ∙ named_both 0 (length by_name) (counts x) (λ number. sum_by (λ y. counts y number) xs)
      ∙ ap (λ n. total (counts x) + n) (total_swaps counts xs)
      ∙ sym (sum_by-cons (λ y. total (counts y)) x xs)

-- ---- plans from a state on

module _ (G : GroundTask) (weights : Weights) where
  abbrev pub stepped : State → ℕ → State
  stepped state number = state_by state (step_of G number)

  abbrev pub prefs_loss : State → Option GroundStep → ℕ
  prefs_loss state None = 0
  prefs_loss state (Some step) = sum_by (λ (pref : GroundPref). weigh weights.by_name (not (truth state pref.body)) pref.name) step.prefs

  -- what one step adds to the loss
  abbrev pub step_loss : State → Option GroundStep → ℕ
  step_loss state step = weights.total_cost * cost_by step + prefs_loss state step

  -- each step fits, and the plan may end, the states of the front having been visited before
  abbrev pub valid_from : List State → State → GroundPlan → Bool
  valid_from front state [] = may_end G weights (front ++ state ∷ [])
  valid_from front state (number ∷ plan) = ground_fits G state number && valid_from (front ++ state ∷ []) (stepped state number) plan

  abbrev pub loss_from : List State → State → GroundPlan → ℕ
  loss_from front state [] = end_loss G weights (front ++ state ∷ [])
  loss_from front state (number ∷ plan) = step_loss state (step_of G number) + loss_from (front ++ state ∷ []) (stepped state number) plan

  abbrev pub extra_from : GroundPlan → ℕ
  extra_from plan = sum_by (λ number. extra_by weights.by_name (step_of G number)) plan

  regroup : (a b c d : Bool) → ((a && b) && c && d) ≡ (a && (b && c && d))
  regroup true b c d = refl
  regroup false b c d = refl

  abbrev moves_from : State → GroundPlan → List (State × ℕ)
  moves_from state plan = zip (visited_from G state plan) plan

  abbrev all_fit : List (State × ℕ) → Bool
  all_fit moves = list_all (λ (move : State × ℕ). ground_fits G move.0 move.1) moves

  valid_walk : (front : List State) (state : State) (plan : GroundPlan)
      → (all_fit (moves_from state plan) && truth (last_of (front ++ visited_from G state plan)) G.goal && list_all (ground_sat (front ++ visited_from G state plan)) G.hard) ≡ valid_from front state plan
  unfolding visited_from
  valid_walk front state [] = refl
  valid_walk front state (number ∷ plan) =
      (let assoc = sym (append_assoc front (state ∷ []) (visited_from G (stepped state number) plan)) in
      λ i. (ground_fits G state number && all_fit (moves_from (stepped state number) plan)) && truth (last_of (assoc i)) G.goal && list_all (ground_sat (assoc i)) G.hard)
      ∙ regroup (ground_fits G state number) (all_fit (moves_from (stepped state number) plan)) _ _
      ∙ ap (λ b. ground_fits G state number && b) (valid_walk (front ++ state ∷ []) (stepped state number) plan)

  pub valid_is : (plan : GroundPlan) → is_ground_valid G plan ≡ valid_from [] G.initial plan
  unfolding is_ground_valid
  valid_is plan = valid_walk [] G.initial plan

  -- over the states that are visited at its end, a valid plan satisfies each hard constraint
  pub satisfied_at_end : (front : List State) (state : State) (plan : GroundPlan) → valid_from front state plan ≡ true → (rest : List State) × (list_all (ground_sat (front ++ state ∷ rest)) G.hard ≡ true)
  satisfied_at_end front state [] valid = ([], (and_parts (truth (last_of (front ++ state ∷ [])) G.goal) _ valid).1)
  satisfied_at_end front state (number ∷ plan) valid =
      let next = stepped state number in
      let more = satisfied_at_end (front ++ state ∷ []) next plan (and_parts (ground_fits G state number) _ valid).1 in
      (next ∷ more.0, ap (λ W. list_all (ground_sat W) G.hard) (sym (append_assoc front (state ∷ []) (next ∷ more.0))) ∙ more.1)

  abbrev pub AreNamed : Option GroundStep → Type 0
  AreNamed None = Unit {0}
  AreNamed (Some step) = (pref : GroundPref) → Contains step.prefs pref → HasNameBelow (length weights.by_name) pref.name

  prefs_total : (state : State) (step : Option GroundStep) → AreNamed step → total weights.by_name (λ number. false_prefs state number step) ≡ prefs_loss state step
  prefs_total state None named = named_zero weights.by_name 0 (length weights.by_name)
  prefs_total state (Some step) named = count_weighs weights.by_name (λ (pref : GroundPref). pref.name) (λ (pref : GroundPref). not (truth state pref.body)) step.prefs named

  abbrev moves_loss : List (State × ℕ) → ℕ
  moves_loss moves = sum_by (λ (move : State × ℕ). prefs_loss move.0 (step_of G move.1)) moves

  loss_walk : (front : List State) (state : State) (plan : GroundPlan)
      → weights.total_cost * sum_by (λ number. cost_by (step_of G number)) plan + (end_loss G weights (front ++ visited_from G state plan) + moves_loss (moves_from state plan)) ≡ loss_from front state plan
  unfolding visited_from
  loss_walk front state [] = omega arith
  loss_walk front state (number ∷ plan) =
      let rest = moves_from (stepped state number) plan in
      let costs = sum_by-cons (λ number. cost_by (step_of G number)) number plan in
      let moves = sum_by-cons (λ (move : State × ℕ). prefs_loss move.0 (step_of G move.1)) (state, number) rest in
      let assoc = sym (append_assoc front (state ∷ []) (visited_from G (stepped state number) plan)) in
      (λ i. weights.total_cost * costs i + (end_loss G weights (assoc i) + moves i))
      ∙ shuffle weights.total_cost (cost_by (step_of G number)) _ _ _ _
      ∙ ap (λ n. step_loss state (step_of G number) + n) (loss_walk (front ++ state ∷ []) (stepped state number) plan)
    where
      shuffle : (w a b c d e : ℕ) → w * (a + b) + (c + (d + e)) ≡ w * a + d + (w * b + (c + e))
      shuffle w a b c d e = let h = mul-add w a b in omega (arith, h)

  module _ (steps_named : (number : ℕ) → AreNamed (step_of G number)) (softs_named : (soft : GroundSoft) → Contains G.soft soft → HasNameBelow (length weights.by_name) soft.name) where
    pub loss_is : (plan : GroundPlan) → ground_loss G weights plan ≡ loss_from [] G.initial plan
    unfolding ground_loss ground_violated ground_cost
    loss_is plan =
        let W = ground_visited G plan in
        let moves = ground_moves G plan in
        ap (λ n. weights.total_cost * sum_by (λ number. cost_by (step_of G number)) plan + n)
        (named_both weights.by_name 0 (length weights.by_name) (λ number. count_by (λ (soft : GroundSoft). is_numbered number soft.name && is_bad G weights W soft) G.soft) (λ number. sum_by (λ (move : State × ℕ). false_prefs move.0 number (step_of G move.1)) moves)
        ∙ (λ i. count_weighs weights.by_name (λ (soft : GroundSoft). soft.name) (is_bad G weights W) G.soft softs_named i
        + (total_swaps weights.by_name (λ (move : State × ℕ) number. false_prefs move.0 number (step_of G move.1)) moves
        ∙ (λ j. sum_by (λ (move : State × ℕ). prefs_total move.0 (step_of G move.1) (steps_named move.1) j) moves)) i))
        ∙ loss_walk [] G.initial plan

  pub extra_is : (plan : GroundPlan) → ground_extra G weights plan ≡ extra_from plan
  unfolding ground_extra
  extra_is plan = refl
