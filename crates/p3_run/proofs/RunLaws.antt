-- A run stays right of one step more, and what it keeps tells what its steps come to.
use Rattle.std.proofs.Common.{◌≡◌, ◌∙◌, ℕ, zero, suc, ◌+◌, ◌*◌, ◌^◌, ◌<◌, ◌≤◌, ◌==◌, Bool, true, false, not, ◌&&◌, cond, List, [], ◌∷◌, ◌++◌, length, map, get_or, take, Option, Some, None, sum_by, refl, sym, ap, subst, arith}
use Rattle.std.specs.Prelude.{is_some, IfSome, unwrap_or, IsTrue}
use Rattle.std.specs.List.{All, list_all}
use native.Mathlib.Nat.{mul-zero}
use Rattle.std.proofs.lemmas.Bool.{and_parts, and_from}
use Rattle.std.proofs.lemmas.List.{length-append, get_or_default, take_more}
use Rattle.std.proofs.lemmas.List.Elements.{All-append}
use Rattle.std.proofs.lemmas.List.Folds.{list_all-append}
use Rattle.std.proofs.lemmas.List.Sums.{sum_by_push, sum_by-le, count_by-le-length, AllPass-from_list_all}
use Rattle.p3_formula.specs.Conditions.{IsWithinLimits, is_step_below}
use Rattle.p3_formula.specs.Forms.{State, truth, IsBelow, is_below}
use Rattle.p3_formula.specs.GroundPlans.{GroundPlan, step_of, fits_by, ground_fits, state_by, ground_visited, ground_moves, is_numbered, false_prefs, cost_by, ground_cost}
use Rattle.p3_formula.specs.Next.{after}
use Rattle.p3_formula.specs.Targets.{is_sized_change}
use Rattle.p3_formula.specs.Weighted.{HasNameBelow, AreNamedBelow, named_weight, weighted_cost}
use Rattle.p3_formula.specs.declared.modal.GroundPref.{GroundPref}
use Rattle.p3_formula.specs.declared.modal.GroundSoft.{GroundSoft}
use Rattle.p3_formula.specs.declared.target.Weights.{Weights}
use Rattle.p3_formula.specs.declared.task.GroundStep.{GroundStep}
use Rattle.p3_formula.specs.declared.task.GroundTask.{GroundTask}
use Rattle.p3_formula.proofs.NextLaws.{length-after}
use Rattle.p3_run.specs.Changing.{touched}
use Rattle.p3_run.specs.Groups.{Watch, watch_of, watches_of, HasShape, renewed_all, IsCounted, AreNamedBelow as HaveNamesBelow, CanRenew}
use Rattle.p3_run.specs.Kept.{HasChangesUpTo, CanRun, HasRun}
use Rattle.p3_run.specs.Runs.{CanBeRun, HasFewPrefs, most_steps, most_prefs, ground_state, ground_fit}
use Rattle.p3_run.specs.Steps.{HasBodyBelow, HasRoom, false_weight, counted_step, step_weight, prefs_violated, steps_weight}
use Rattle.p3_run.specs.Tallies.{Counted, IsTally}
use Rattle.p3_run.specs.declared.readers.OperatorReader.{OperatorReader}
use Rattle.p3_run.proofs.FindLaws.{found_has}
use Rattle.p3_run.proofs.FollowLaws.{all_follow, shape_of}
use Rattle.p3_run.proofs.SumLaws.{step_counted}
use Rattle.p3_run.proofs.TallyLaws.{tally_like, named_small}
use Rattle.p3_run.proofs.WalkLaws.{front, reached, state_is, visited_ends, visited_more, state_more, moves_more, length-moves}

-- ---- what is known of a step that is found

-- what all steps have, a step of the task has
pub has_of : (P : GroundStep → Type 0) (G : GroundTask) → All P G.steps → (number : ℕ) (step : GroundStep) → step_of G number ≡ Some step → P step
has_of P G all number step is = subst (λ found. IfSome found P) is (found_has P (λ (one : GroundStep). one.number == number) G.steps all)

module _ (G : GroundTask) (weights : Weights) (can : CanBeRun G weights) (number : ℕ) (step : GroundStep) (is : step_of G number ≡ Some step) where
  below : IsTrue (is_step_below G.atoms step)
  below = has_of (λ one. IsTrue (is_step_below G.atoms one)) G (AllPass-from_list_all (is_step_below G.atoms) G.steps can.ready.atoms.steps) number step is

  parts : ((is_below G.atoms step.pre && list_all (λ (pref : GroundPref). is_below G.atoms pref.body) step.prefs) ≡ true) × (list_all (is_sized_change G.atoms) step.effects ≡ true)
  parts = and_parts (is_below G.atoms step.pre && list_all (λ (pref : GroundPref). is_below G.atoms pref.body) step.prefs) (list_all (is_sized_change G.atoms) step.effects) below

  pub pre_below : IsBelow G.atoms step.pre
  pre_below = (and_parts (is_below G.atoms step.pre) (list_all (λ (pref : GroundPref). is_below G.atoms pref.body) step.prefs) parts.0).0

  pub bodies_below : All (HasBodyBelow G.atoms) step.prefs
  bodies_below = AllPass-from_list_all (λ (pref : GroundPref). is_below G.atoms pref.body) step.prefs (and_parts (is_below G.atoms step.pre) (list_all (λ (pref : GroundPref). is_below G.atoms pref.body) step.prefs) parts.0).1

  pub effects_sized : IsTrue (list_all (is_sized_change G.atoms) step.effects)
  effects_sized = parts.1

  pub prefs_named : AreNamedBelow (length weights.by_name) step.prefs
  prefs_named = has_of (λ one. AreNamedBelow (length weights.by_name) one.prefs) G can.ready.names.steps number step is

  pub few_prefs : length step.prefs ≤ most_prefs
  few_prefs = has_of HasFewPrefs G can.prefs number step is

  limits : IsWithinLimits weights step
  limits = has_of (IsWithinLimits weights) G can.ready.limits number step is

  pub light_cost : (cost : ℕ) → step.cost ≡ Some cost → weights.total_cost * cost < 2 ^ 62
  light_cost cost has =
      let h = limits.cost (ap is_some has) in
      let e : weighted_cost weights step ≡ weights.total_cost * cost = ap (λ c. weights.total_cost * unwrap_or c 0) has in
      omega (arith, h, e)

  pub small_cost : (cost : ℕ) → step.cost ≡ Some cost → cost < 10 ^ 27
  small_cost cost has = subst (λ c. IfSome c (λ n. n < 10 ^ 27)) has (has_of (λ one. IfSome one.cost (λ n. n < 10 ^ 27)) G can.costs number step is)

  light : (o : Option ℕ) → step.cost ≡ o → weighted_cost weights step ≤ 2 ^ 62
  light None has = let e = ap (λ c. weights.total_cost * unwrap_or c 0) has in let z = mul-zero weights.total_cost in omega (arith, e, z)
  light (Some cost) has = let e = ap (λ c. weights.total_cost * unwrap_or c 0) has in let h = light_cost cost has in omega (arith, e, h)

  pub light_step : weighted_cost weights step ≤ 2 ^ 62
  light_step = light step.cost refl

-- ---- no sum leaves its limits

module _ (G : GroundTask) (weights : Weights) (can : CanBeRun G weights) (small : All (λ w. w < 2 ^ 64) weights.by_name) where
  few_false : (state : State) (name number : ℕ) (o : Option GroundStep) → step_of G number ≡ o → false_prefs state name o ≤ most_prefs
  few_false state name number None is = omega arith
  few_false state name number (Some step) is =
      let h = count_by-le-length (λ (pref : GroundPref). is_numbered name pref.name && not (truth state pref.body)) step.prefs in
      let f = few_prefs G weights can number step is in
      omega (arith, h, f)

  pub few_violated : (plan : GroundPlan) (name : ℕ) → length plan ≤ most_steps → prefs_violated G plan name ≤ most_steps * most_prefs
  few_violated plan name short =
      let h = sum_by-le (λ (move : State × ℕ). false_prefs move.0 name (step_of G move.1)) most_prefs (ground_moves G plan) (λ k d lt. few_false (get_or (ground_moves G plan) k d).0 name (get_or (ground_moves G plan) k d).1 (step_of G (get_or (ground_moves G plan) k d).1) refl) in
      let l = length-moves G plan in
      omega (arith, h, l, short)

  one_weight : (state : State) (prefs : List GroundPref) → false_weight state weights.by_name prefs ≤ length prefs * 2 ^ 64
  one_weight state prefs = sum_by-le (λ (pref : GroundPref). cond (not (truth state pref.body)) (named_weight weights.by_name pref.name) 0) (2 ^ 64) prefs (λ k d lt. by (get_or prefs k d) (not (truth state (get_or prefs k d).body))) where
    by : (pref : GroundPref) (b : Bool) → cond b (named_weight weights.by_name pref.name) 0 ≤ 2 ^ 64
    by pref true = named_small weights.by_name small pref.name
    by pref false = omega arith

  light_false : (state : State) (number : ℕ) (o : Option GroundStep) → step_of G number ≡ o → step_weight state weights o ≤ 2 ^ 62 + most_prefs * 2 ^ 64
  light_false state number None is = omega arith
  light_false state number (Some step) is =
      let a = light_step G weights can number step is in
      let b = one_weight state step.prefs in
      let f = few_prefs G weights can number step is in
      omega (arith, a, b, f)

  pub light_steps : (plan : GroundPlan) → length plan ≤ most_steps → steps_weight G weights plan ≤ most_steps * (2 ^ 62 + most_prefs * 2 ^ 64)
  light_steps plan short =
      let h = sum_by-le (λ (move : State × ℕ). step_weight move.0 weights (step_of G move.1)) (2 ^ 62 + most_prefs * 2 ^ 64) (ground_moves G plan) (λ k d lt. light_false (get_or (ground_moves G plan) k d).0 (get_or (ground_moves G plan) k d).1 (step_of G (get_or (ground_moves G plan) k d).1) refl) in
      let l = length-moves G plan in
      omega (arith, h, l, short)

  cheap : (number : ℕ) (o : Option GroundStep) → step_of G number ≡ o → cost_by o ≤ 10 ^ 27
  cheap number None is = omega arith
  cheap number (Some step) is = by step.cost refl where
    by : (o : Option ℕ) → step.cost ≡ o → unwrap_or step.cost 0 ≤ 10 ^ 27
    by None has = let e = ap (λ c. unwrap_or c 0) has in omega (arith, e)
    by (Some cost) has = let e = ap (λ c. unwrap_or c 0) has in let h = small_cost G weights can number step is cost has in omega (arith, e, h)

  pub cheap_steps : (plan : GroundPlan) → length plan ≤ most_steps → ground_cost G plan ≤ most_steps * 10 ^ 27
  unfolding ground_cost
  cheap_steps plan short =
      let h = sum_by-le (λ number. cost_by (step_of G number)) (10 ^ 27) plan (λ k d lt. cheap (get_or plan k d) (step_of G (get_or plan k d)) refl) in
      omega (arith, h, short)

  -- there is room for the preferences of one step more
  pub room_for_step : (plan : GroundPlan) (prefs : Counted) (left : ℕ) → length plan ≤ most_steps → left ≤ most_prefs
      → IsTally weights.by_name (λ name. prefs_violated G plan name) (steps_weight G weights plan) prefs → HasRoom weights.by_name left prefs
  room_for_step plan prefs left short few is = record {
    names = is.names;
    room = λ k d lt.
        let e = get_or_default prefs.counts k d 0 lt in
        let c = is.counts k (let n = is.names in omega (arith, n, lt)) in
        let v = few_violated plan k short in
        omega (arith, e, c, v, few);
    worth = let w = is.worth in let l = light_steps plan short in omega (arith, w, l, few);
  }

-- ---- the groups can follow

names_below : (G : GroundTask) (W : List State) (count : ℕ) → All (λ (soft : GroundSoft). HasNameBelow count soft.name) G.soft → HaveNamesBelow count (watches_of W G)
names_below G W count all zero d lt = tt
names_below G W count all (suc k) d lt = by G.soft all k (omega (arith, lt)) where
  by : (softs : List GroundSoft) → All (λ (soft : GroundSoft). HasNameBelow count soft.name) softs → (k : ℕ) → k < length (map (λ (soft : GroundSoft). watch_of W soft.name soft.parts) softs)
      → HasNameBelow count (get_or (map (λ (soft : GroundSoft). watch_of W soft.name soft.parts) softs) k d).name
  by [] all k lt = absurd (omega (arith, lt))
  by (soft ∷ softs) all zero lt = all 0 soft (omega arith)
  by (soft ∷ softs) all (suc k) lt = by softs (λ j e within. all (suc j) e (omega (arith, within))) k (omega (arith, lt))

pub named_groups : (G : GroundTask) (weights : Weights) (can : CanBeRun G weights) (W : List State) → HaveNamesBelow (length weights.by_name) (watches_of W G)
named_groups G weights can W = names_below G W (length weights.by_name) can.ready.names.soft

module _ (G : GroundTask) (weights : Weights) (can : CanBeRun G weights) (W : List State) where
  pub can_follow : (state : State) (watches : List Watch) (soft : Counted) → length state ≡ G.atoms → watches ≡ watches_of W G → IsCounted weights.by_name watches soft → CanRenew G weights.by_name state watches soft
  can_follow state watches soft bits are counted = record {
    below = can.ready.atoms;
    bits = bits;
    few = can.ready.few;
    named = subst (HaveNamesBelow (length weights.by_name)) (sym are) (named_groups G weights can W);
    shape = subst (HasShape G) (sym are) (shape_of G W);
    counted = counted;
  }

-- ---- states keep their length

length-reached : (G : GroundTask) (state : State) (plan : GroundPlan) → length (reached G state plan) ≡ length state
length-reached G state [] = refl
length-reached G state (number ∷ plan) = length-reached G (state_by state (step_of G number)) plan ∙ by (step_of G number) where
  by : (o : Option GroundStep) → length (state_by state o) ≡ length state
  by None = refl
  by (Some step) = length-after state step.effects

pub length-state : (G : GroundTask) (weights : Weights) (can : CanBeRun G weights) (plan : GroundPlan) → length (ground_state G plan) ≡ G.atoms
length-state G weights can plan = ap length (state_is G plan) ∙ length-reached G G.initial plan ∙ can.ready.bits

-- ---- one step more

module _ (G : GroundTask) (weights : Weights) (readers : List (List OperatorReader)) (room : ℕ) (can : CanRun G weights readers room) (plan : GroundPlan)
    (number : ℕ) (step : GroundStep) (is : step_of G number ≡ Some step) (holds : truth (ground_state G plan) step.pre ≡ true) (price : ℕ) (has : step.cost ≡ Some price) where
  abbrev state : State
  state = ground_state G plan

  abbrev more : GroundPlan
  more = plan ++ number ∷ []

  fits_now : ground_fits G state number ≡ true
  fits_now = ap (fits_by state) is ∙ and_from (truth state step.pre) (is_some step.cost) holds (ap is_some has)

  fit_more : ground_fit G plan ≡ true → ground_fit G more ≡ true
  unfolding ground_fit
  fit_more fit =
      let test : (State × ℕ) → Bool = λ move. ground_fits G move.0 move.1 in
      ap (list_all test) (moves_more G plan number)
      ∙ list_all-append test (ground_moves G plan) ((state, number) ∷ [])
      ∙ and_from (list_all test (ground_moves G plan)) (ground_fits G state number && true) fit (and_from (ground_fits G state number) true fits_now refl)

  then_state : state_by state (step_of G number) ≡ after state step.effects
  then_state = ap (state_by state) is

  visited_now : ground_visited G more ≡ (front G G.initial plan ++ state ∷ []) ++ after state step.effects ∷ []
  visited_now = visited_more G plan number ∙ (λ i. visited_ends G plan i ++ then_state i ∷ [])

  pub watches_more : (watches : List Watch) → watches ≡ watches_of (ground_visited G plan) G
      → renewed_all G (after state step.effects) watches (touched readers state (after state step.effects) step.effects) ≡ watches_of (ground_visited G more) G
  watches_more watches are =
      ap (λ list. renewed_all G (after state step.effects) list (touched readers state (after state step.effects) step.effects)) (are ∙ ap (λ W. watches_of W G) (visited_ends G plan))
      ∙ all_follow G readers can.readers (front G G.initial plan) state step.effects
      ∙ ap (λ W. watches_of W G) (sym visited_now)

  cost_more : ground_cost G more ≡ ground_cost G plan + price
  unfolding ground_cost
  cost_more = sum_by_push (λ n. cost_by (step_of G n)) plan number ∙ ap (λ c. sum_by (λ n. cost_by (step_of G n)) plan + c) (ap cost_by is ∙ ap (λ c. unwrap_or c 0) has)

  violated_more : (name : ℕ) → prefs_violated G plan name + false_prefs state name (Some step) ≡ prefs_violated G more name
  violated_more name =
      let f : (State × ℕ) → ℕ = λ move. false_prefs move.0 name (step_of G move.1) in
      sym (ap (sum_by f) (moves_more G plan number) ∙ sum_by_push f (ground_moves G plan) (state, number) ∙ ap (λ o. prefs_violated G plan name + false_prefs state name o) is)

  weight_more : steps_weight G weights plan + step_weight state weights (Some step) ≡ steps_weight G weights more
  weight_more =
      let f : (State × ℕ) → ℕ = λ move. step_weight move.0 weights (step_of G move.1) in
      sym (ap (sum_by f) (moves_more G plan number) ∙ sum_by_push f (ground_moves G plan) (state, number) ∙ ap (λ o. steps_weight G weights plan + step_weight state weights o) is)

  pub run_more : (watches : List Watch) (soft prefs : Counted) (cost : ℕ) (later : Counted) → length plan < most_steps → HasRun G weights plan state watches soft prefs cost
      → IsCounted weights.by_name (watches_of (ground_visited G more) G) later
      → HasRun G weights more (after state step.effects) (watches_of (ground_visited G more) G) later (counted_step state weights prefs step) (cost + price)
  run_more watches soft prefs cost later short run counted = record {
    fit = fit_more run.fit;
    short = let l = length-append plan (number ∷ []) in omega (arith, l, short);
    state = sym (state_more G plan number ∙ then_state);
    watches = refl;
    soft = counted;
    prefs = tally_like weights.by_name violated_more weight_more
        (step_counted weights state step (λ name. prefs_violated G plan name) (steps_weight G weights plan) prefs (prefs_named G weights can.can number step is) run.prefs);
    cost = ap (λ c. c + price) run.cost ∙ sym cost_more;
  }

-- ---- room for the changes of each step

pub changes_more : (steps : List GroundStep) (index most later : ℕ) (step : GroundStep) → index < length steps → step ≡ get_or steps index step → All (HasChangesUpTo most) (take index steps) → most ≤ later → length step.effects ≤ later
    → All (HasChangesUpTo later) (take (index + 1) steps)
changes_more steps index most later step within is all le enough =
    subst (All (HasChangesUpTo later)) (sym (take_more steps index step within ∙ ap (λ one. take index steps ++ one ∷ []) (sym is)))
    (All-append (HasChangesUpTo later) (take index steps) (step ∷ []) (λ k d lt. let h = all k d lt in omega (arith, h, le)) single)
  where
    single : All (HasChangesUpTo later) (step ∷ [])
    single zero d lt = enough
    single (suc k) d lt = absurd (omega (arith, lt))
