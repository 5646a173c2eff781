-- What a run keeps tells what its steps come to, and one step more keeps it so.
use Rattle.std.proofs.Common.{◌≡◌, ◌∙◌, ℕ, ◌+◌, ◌*◌, ◌^◌, ◌<◌, ◌≤◌, nat_lt, Bool, true, false, not, cond, if◌then◌else◌, List, [], ◌∷◌, ◌++◌, length, map, get_or, Option, Some, None, sum_by, refl, sym, ap, subst, arith, pos, ◌+ℤ◌}
use Rattle.std.specs.Prelude.{position, replicate, zip}
use Rattle.std.specs.List.{All, prefix_len, list_all}
use Rattle.std.proofs.lemmas.List.{length-replicate, get_or-replicate, length-map}
use Rattle.p3_base.specs.Limits.{instance_limit}
use Rattle.p3_formula.specs.Forms.{State, truth, IsBelow}
use Rattle.p3_formula.specs.GroundPlans.{GroundPlan, step_of, ground_visited, ground_moves, ground_cost, ground_violated, ground_loss, ground_fits, false_prefs}
use Rattle.p3_formula.specs.Next.{after}
use Rattle.p3_formula.specs.declared.target.Weights.{Weights}
use Rattle.p3_formula.specs.declared.task.GroundStep.{GroundStep}
use Rattle.p3_formula.specs.declared.task.GroundTask.{GroundTask}
use Rattle.p3_run.specs.Changing.{touched}
use Rattle.p3_run.specs.Groups.{Watch, rejects, watches_of, watch_at, renewed_all, IsCounted, AreNamedBelow, CanRenew, violating, violating_weight}
use Rattle.p3_run.specs.Kept.{CanRun, HasRun, IsRunOf, HasChangesUpTo}
use Rattle.p3_run.specs.Readers.{AreReaders}
use Rattle.p3_run.specs.Runs.{CanBeRun, most_steps, ground_state, ground_fit, ground_verdict, ground_total, ground_metric, signed_by, first_unmet, unmet_by}
use Rattle.p3_run.specs.Stages.{stage_of}
use Rattle.p3_run.specs.Steps.{counted_step, step_weight, prefs_violated, steps_weight, HasRoom, IsByNumber}
use Rattle.p3_run.specs.Tallies.{Counted, IsTally}
use Rattle.p3_run.specs.declared.answers.Verdict.TheVariants.{Goal}
use Rattle.p3_run.specs.declared.changing.ChangeFound.{ChangeFound}
use Rattle.p3_run.specs.declared.readers.OperatorReader.{OperatorReader}
use Rattle.p3_run.proofs.FindLaws.{by_number}
use Rattle.p3_run.proofs.FollowLaws.{shape_of}
use Rattle.p3_run.proofs.RenewLaws.{few_groups}
use Rattle.p3_run.proofs.RunLaws.{can_follow, cheap_steps, few_violated, light_steps, room_for_step, has_of, length-state, named_groups, run_more, watches_more, few_prefs}
use Rattle.p3_run.proofs.SumLaws.{loss_is, violated_is}
use Rattle.p3_run.proofs.TallyLaws.{few_violating, light_violating}
use Rattle.p3_run.proofs.WalkLaws.{state_none, visited_none}

-- ---- the first that does not accept

same_prefix : {A B : Type 0} (p : B → Bool) (f : A → B) (xs : List A) → prefix_len p (map f xs) ≡ prefix_len (λ x. p (f x)) xs
same_prefix p f [] = refl
same_prefix p f (x ∷ xs) = ap (λ n. cond (p (f x)) (1 + n) 0) (same_prefix p f xs)

mapped_position : {A B : Type 0} (p : B → Bool) (f : A → B) (xs : List A) → position p (map f xs) ≡ position (λ x. p (f x)) xs
mapped_position p f xs =
    let l : length (map f xs) ≡ length xs = simp length-map in
    λ i. cond (nat_lt (same_prefix (λ y. not (p y)) f xs i) (l i)) (Some (same_prefix (λ y. not (p y)) f xs i)) None

-- ---- what is kept tells

module _ (G : GroundTask) (weights : Weights) (readers : List (List OperatorReader)) (found : List ChangeFound) (plan : GroundPlan) (state : State) (watches : List Watch) (soft prefs : Counted) (cost : ℕ)
    (is : IsRunOf G weights readers found plan state watches soft prefs cost) where
  can : CanBeRun G weights
  can = is.can.can

  pub bits : length state ≡ G.atoms
  bits = ap length is.run.state ∙ length-state G weights can plan

  pub goal_below : IsBelow (length state) G.goal
  goal_below = subst (λ n. IsBelow n G.goal) (sym bits) can.ready.atoms.goal

  pub total_is : G.initial_cost + cost ≡ ground_total G plan
  unfolding ground_total
  total_is = ap (λ n. G.initial_cost + n) is.run.cost

  pub cheap : cost ≤ most_steps * 10 ^ 27
  cheap = let h = cheap_steps G weights can is.can.small plan is.run.short in let c = is.run.cost in omega (arith, h, c)

  few : length watches ≤ instance_limit + 1
  few = let f = few_groups G can.ready.few in let s = ap length is.run.watches in let t = (shape_of G (ground_visited G plan)).groups in omega (arith, f, s, t)

  pub light : soft.worth + prefs.worth < 2 ^ 126
  light =
      let a = is.run.soft.worth in
      let b = light_violating weights.by_name is.can.small watches few in
      let c = is.run.prefs.worth in
      let d = light_steps G weights can is.can.small plan is.run.short in
      omega (arith, a, b, c, d)

  pub metric_is : signed_by weights.direction (weights.base +ℤ pos (soft.worth + prefs.worth)) ≡ ground_metric G weights plan
  unfolding ground_metric
  metric_is =
      let a = is.run.soft.worth in
      let b = ap (violating_weight weights.by_name) is.run.watches in
      let c = is.run.prefs.worth in
      let d = loss_is G weights plan in
      let loss : soft.worth + prefs.worth ≡ ground_loss G weights plan = omega (arith, a, b, c, d) in
      ap (λ n. signed_by weights.direction (weights.base +ℤ pos n)) loss

  module _ (name : ℕ) (within : name < length weights.by_name) where
    pub few_counts : get_or soft.counts name 0 + get_or prefs.counts name 0 < 2 ^ 64
    few_counts =
        let a = is.run.soft.counts name within in
        let b = few_violating weights.by_name is.can.small watches name few in
        let c = is.run.prefs.counts name within in
        let d = few_violated G weights can is.can.small plan name is.run.short in
        omega (arith, a, b, c, d)

    pub counts_are : get_or soft.counts name 0 + get_or prefs.counts name 0 ≡ ground_violated G plan name
    counts_are =
        let a = is.run.soft.counts name within in
        let b = ap (violating name) is.run.watches in
        let c = is.run.prefs.counts name within in
        let d = violated_is G weights plan name in
        omega (arith, a, b, c, d)

  -- the verdict
  verdict_by : (b : Bool) → truth state G.goal ≡ b → ground_verdict G plan ≡ (if b then unmet_by (first_unmet (ground_visited G plan) G) else Goal)
  unfolding ground_verdict
  verdict_by b holds = ap (λ t. if t then unmet_by (first_unmet (ground_visited G plan) G) else Goal) (ap (λ s. truth s G.goal) (sym is.run.state) ∙ holds)

  pub goal_fails : truth state G.goal ≡ false → Goal ≡ ground_verdict G plan
  goal_fails fails = sym (verdict_by false fails)

  first_is : (group : Watch) → group ≡ watch_at watches 0 → position rejects group.stages ≡ first_unmet (ground_visited G plan) G
  first_is group at =
      ap (λ (w : Watch). position rejects w.stages) (at ∙ ap (λ list. watch_at list 0) is.run.watches)
      ∙ mapped_position rejects (stage_of (ground_visited G plan)) G.hard

  pub goal_holds : truth state G.goal ≡ true → (group : Watch) → group ≡ watch_at watches 0 → (first : Option ℕ) → first ≡ position rejects group.stages → unmet_by first ≡ ground_verdict G plan
  goal_holds holds group at first first_one = ap unmet_by (first_one ∙ first_is group at) ∙ sym (verdict_by true holds)

  pub some_group : 0 < length watches
  some_group = let s = ap length is.run.watches in omega (arith, s)

  -- ---- one step more

  pub steps_by_number : IsByNumber G.steps
  steps_by_number = by_number G.step_count 0 G.steps can.ready.numbers

  module _ (number : ℕ) (step : GroundStep) (at : step_of G number ≡ Some step) where
    pub room_for_prefs : HasRoom weights.by_name (length step.prefs) prefs
    room_for_prefs = room_for_step G weights can is.can.small plan prefs (length step.prefs) is.run.short (few_prefs G weights can number step at) is.run.prefs

    pub room_for_changes : length step.effects ≤ length found
    room_for_changes = has_of (HasChangesUpTo (length found)) G is.can.room number step at

  pub can_renew : (later : State) → length later ≡ G.atoms → CanRenew G weights.by_name later watches soft
  can_renew later long = can_follow G weights can (ground_visited G plan) later watches soft long is.run.watches is.run.soft

  module _ (number : ℕ) (step : GroundStep) (at : step_of G number ≡ Some step) (holds : truth state step.pre ≡ true) (price : ℕ) (has : step.cost ≡ Some price) (short : length plan < most_steps)
      (found' : List ChangeFound) (state' : State) (watches' : List Watch) (soft' prefs' : Counted)
      (room : length found' ≡ length found) (moved : state' ≡ after state step.effects)
      (followed : watches' ≡ renewed_all G state' watches (touched readers state state' step.effects)) (renews : CanRenew G weights.by_name state' watches' soft')
      (preferred : prefs' ≡ counted_step state weights prefs step) where
    abbrev now : State
    now = ground_state G plan

    holds_now : truth now step.pre ≡ true
    holds_now = ap (λ s. truth s step.pre) (sym is.run.state) ∙ holds

    moved_now : state' ≡ after now step.effects
    moved_now = moved ∙ ap (λ s. after s step.effects) is.run.state

    can_now : CanRun G weights readers (length found)
    can_now = is.can

    watches_now : watches' ≡ watches_of (ground_visited G (plan ++ number ∷ [])) G
    watches_now =
        followed
        ∙ (λ i. renewed_all G (moved_now i) watches (touched readers (is.run.state i) (moved_now i) step.effects))
        ∙ watches_more G weights readers (length found) can_now plan number step at holds_now price has watches is.run.watches

    run_now : HasRun G weights plan now watches soft prefs cost
    run_now = subst (λ s. HasRun G weights plan s watches soft prefs cost) is.run.state is.run

    later_run : HasRun G weights (plan ++ number ∷ []) (after now step.effects) (watches_of (ground_visited G (plan ++ number ∷ [])) G) soft' (counted_step now weights prefs step) (cost + price)
    later_run = run_more G weights readers (length found) can_now plan number step at holds_now price has watches soft prefs cost soft' short run_now
        (subst (λ list. IsCounted weights.by_name list soft') watches_now renews.counted)

    pub one_more : IsRunOf G weights readers found' (plan ++ number ∷ []) state' watches' soft' prefs' (cost + price)
    one_more = record {
      can = subst (λ n. CanRun G weights readers n) (sym room) is.can;
      run =
          subst (λ s. HasRun G weights (plan ++ number ∷ []) s watches' soft' prefs' (cost + price)) (sym moved_now)
          (subst (λ w. HasRun G weights (plan ++ number ∷ []) (after now step.effects) w soft' prefs' (cost + price)) (sym watches_now)
          (subst (λ c. HasRun G weights (plan ++ number ∷ []) (after now step.effects) (watches_of (ground_visited G (plan ++ number ∷ [])) G) soft' c (cost + price))
          (sym (preferred ∙ ap (λ s. counted_step s weights prefs step) is.run.state)) later_run));
    }

-- ---- no step

module _ (G : GroundTask) (weights : Weights) (can : CanBeRun G weights) where
  pub first_named : AreNamedBelow (length weights.by_name) (watches_of (G.initial ∷ []) G)
  first_named = named_groups G weights can (G.initial ∷ [])

  pub first_few : length (watches_of (G.initial ∷ []) G) ≤ instance_limit + 1
  first_few = let f = few_groups G can.ready.few in let t = (shape_of G (G.initial ∷ [])).groups in omega (arith, f, t)

  pub first_run : (small : All (λ w. w < 2 ^ 64) weights.by_name) (readers : List (List OperatorReader)) (found : List ChangeFound) (state : State) (watches : List Watch) (soft prefs : Counted)
      → AreReaders G readers → All (HasChangesUpTo (length found)) G.steps → state ≡ G.initial → watches ≡ watches_of (G.initial ∷ []) G
      → IsCounted weights.by_name watches soft → prefs ≡ record { counts = replicate (length weights.by_name) 0; worth = 0 }
      → IsRunOf G weights readers found [] state watches soft prefs 0
  unfolding ground_fit ground_cost
  first_run small readers found state watches soft prefs filed room at are counted none = record {
    can = record { can = can; small = small; readers = filed; room = room };
    run = record {
      fit = no_moves_fit;
      short = omega arith;
      state = at ∙ sym (state_none G);
      watches = are ∙ ap (λ W. watches_of W G) (sym (visited_none G));
      soft = counted;
      prefs = subst (λ tally. IsTally weights.by_name (λ name. prefs_violated G [] name) (steps_weight G weights []) tally) (sym none) (record {
        names = length-replicate (length weights.by_name) 0;
        counts = λ name lt. get_or-replicate (length weights.by_name) name 0 0 lt ∙ no_prefs name;
        worth = no_weight;
      });
      cost = refl;
    };
  }
    where
      no_moves : ground_moves G [] ≡ []
      no_moves = ap (λ W. zip W []) (visited_none G)

      no_moves_fit : ground_fit G [] ≡ true
      no_moves_fit = ap (list_all (λ (move : State × ℕ). ground_fits G move.0 move.1)) no_moves

      no_prefs : (name : ℕ) → ◌≡◌ {A = ℕ} 0 (prefs_violated G [] name)
      no_prefs name = sym (ap (sum_by (λ (move : State × ℕ). false_prefs move.0 name (step_of G move.1))) no_moves)

      no_weight : ◌≡◌ {A = ℕ} 0 (steps_weight G weights [])
      no_weight = sym (ap (sum_by (λ (move : State × ℕ). step_weight move.0 weights (step_of G move.1))) no_moves)
