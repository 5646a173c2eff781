-- A ground task stands for its task also without the steps that cannot fit over a closed set.
use Rattle.std.proofs.Common.{◌≡◌, ◌∙◌, ℕ, ◌+◌, nat_lt, Bool, true, false, ◌&&◌, List, [], ◌∷◌, refl, sym, ap, subst, arith, Option, Some, None, cond}
use Rattle.std.specs.Prelude.{◌==◌, find, is_some}
use Rattle.std.specs.List.{list_all, filter}
use Rattle.std.proofs.lemmas.Bool.{and_parts, and_from, true≢false, false_from_ne_true, ltb-true, lt-ltb}
use Rattle.std.proofs.lemmas.List.Elements.{All-filter}
use Rattle.p3_task.specs.States as named
use Rattle.p3_task.specs.States.{start}
use Rattle.p3_task.specs.Plans.{Plan, Reached, fits, state_after, step_cost}
use Rattle.p3_task.specs.StepNumbers.{HasNumber, HasStepNumbers}
use Rattle.p3_task.proofs.OnceLemmas.{Some-injective}
use Rattle.p3_task.proofs.PlanLemmas.{fit_from, state_from, steps_fit-walk, last_state-walk}
use Rattle.p3_task.specs.declared.state.Fact.{Fact}
use Rattle.p3_task.specs.declared.task.Step.{Step}
use Rattle.p3_task.specs.declared.task.Task.{Task}
use Rattle.p3_formula.specs.Forms.{State, truth}
use Rattle.p3_formula.specs.Next.{after}
use Rattle.p3_formula.specs.Conditions.{is_step_below, rises}
use Rattle.p3_formula.specs.GroundPlans.{step_of, state_by}
use Rattle.p3_formula.specs.declared.task.GroundStep.{GroundStep}
use Rattle.p3_formula.specs.declared.task.GroundTask.{GroundTask}
use Rattle.p3_reach.specs.May.{may_hold}
use Rattle.p3_reach.specs.Closed.{IsClosed, IsReachable, Initial, Further}
use Rattle.p3_reach.proofs.ReachLaws.{truth-may}
use Rattle.p3_reach.proofs.ReachLaws as reach
use Rattle.p3_ground.specs.StandsFor.{Matched, StandsBy, StepStands, LeavesOutOnlyUnfit, can_begin}
use Rattle.p3_ground.specs.Pruned.{pruned}
use Rattle.p3_ground.proofs.PlanNumbers.{fitting_own}
use Rattle.p3_ground.proofs.Walk.{Met, begun, fits_is, kept_at, made_of, next_met, reached}

-- ---- filtered lists

list_all-filter : {A : Type 0} (p q : A → Bool) (xs : List A) → list_all q xs ≡ true → list_all q (filter p xs) ≡ true
list_all-filter p q [] h = refl
list_all-filter p q (x ∷ xs) h = by (p x) (list_all-filter p q xs parts.1)
  where
    parts : (q x ≡ true) × (list_all q xs ≡ true)
    parts = and_parts _ _ h

    by : (t : Bool) → list_all q (filter p xs) ≡ true → list_all q (cond t (x ∷ filter p xs) (filter p xs)) ≡ true
    by true rest = and_from _ _ parts.0 rest
    by false rest = rest

find_nothing : {A : Type 0} (p q : A → Bool) (xs : List A) (x : A) → find q xs ≡ Some x → find q (filter p xs) ≡ None → p x ≡ false
find_nothing p q [] x e none = absurd (cc)
find_nothing {A = A} p q (y ∷ xs) x e none = by (q y) (p y) refl refl e none (find_nothing p q xs x)
  where
    by : (found kept : Bool) → q y ≡ found → p y ≡ kept → cond found (Some y) (find q xs) ≡ Some x → find q (cond kept (y ∷ filter p xs) (filter p xs)) ≡ None
        → (find q xs ≡ Some x → find q (filter p xs) ≡ None → p x ≡ false) → p x ≡ false
    by true true at kept e none rest = absurd (let wrong : cond true (Some y) (find q (filter p xs)) ≡ None = ap (λ t. cond t (Some y) (find q (filter p xs))) (sym at) ∙ none in cc)
    by true false at kept e none rest = ap p (sym (Some-injective y x e)) ∙ kept
    by false true at kept e none rest = rest e (ap (λ t. cond t (Some y) (find q (filter p xs))) (sym at) ∙ none)
    by false false at kept e none rest = rest e none

rises-from : (low high count : ℕ) (steps : List GroundStep) → nat_lt low (high + 1) ≡ true → rises high count steps ≡ true → rises low count steps ≡ true
rises-from low high count [] le h = refl
rises-from low high count (step ∷ steps) le h =
    let first = and_parts _ _ h in
    let both = and_parts _ _ first.0 in
    and_from _ _ (and_from _ _ both.0 (lt-ltb low (step.number + 1) (let a = ltb-true _ _ le in let b = ltb-true _ _ both.1 in omega (arith, a, b)))) first.1

rises-filter : (p : GroundStep → Bool) (from count : ℕ) (steps : List GroundStep) → rises from count steps ≡ true → rises from count (filter p steps) ≡ true
rises-filter p from count [] h = refl
rises-filter p from count (step ∷ steps) h = by (p step) (rises-filter p (step.number + 1) count steps parts.1)
  where
    parts : ((nat_lt step.number count && nat_lt from (step.number + 1)) ≡ true) × (rises (step.number + 1) count steps ≡ true)
    parts = and_parts _ _ h

    low : nat_lt from ((step.number + 1) + 1) ≡ true
    low = let a = ltb-true from (step.number + 1) (and_parts (nat_lt step.number count) (nat_lt from (step.number + 1)) parts.0).1 in lt-ltb from ((step.number + 1) + 1) (omega (arith, a))

    by : (t : Bool) → rises (step.number + 1) count (filter p steps) ≡ true → rises from count (cond t (step ∷ filter p steps) (filter p steps)) ≡ true
    by true rest = and_from _ _ parts.0 rest
    by false rest = rises-from from (step.number + 1) count (filter p steps) low rest

-- ---- the steps that are left are those of the task

module _ (T : Task) (atoms : List Fact) (G : GroundTask) (set : State) (S : StandsBy T atoms G) where
  pub pruned_stands : StandsBy T atoms (pruned set G)
  pruned_stands = record {
    count = S.count;
    different = S.different;
    below = record {
      steps = list_all-filter (λ (made : GroundStep). may_hold set made.pre) (is_step_below G.atoms) G.steps S.below.steps;
      goal = S.below.goal;
      hard = S.below.hard;
      soft = S.below.soft;
    };
    initial = S.initial;
    initial_cost = S.initial_cost;
    step_count = S.step_count;
    rising = rises-filter (λ (made : GroundStep). may_hold set made.pre) 0 G.step_count G.steps S.rising;
    kept = All-filter (λ (made : GroundStep). may_hold set made.pre) (StepStands T atoms) G.steps S.kept;
    goal = S.goal;
    hard = S.hard;
    soft = S.soft;
    name_count = S.name_count;
  }

-- ---- reached states have bits that the steps lead to

module _ (T : Task) (atoms : List Fact) (G : GroundTask) (S : StandsBy T atoms G) (left_out : LeavesOutOnlyUnfit T G) (K : HasStepNumbers T) where
  -- bits that steps of the ground task lead to, matched with the state
  record Led (s : named.State) : Type 0 where
    pub bits : State
    pub met : Met T atoms G S K s bits
    pub reach : IsReachable G bits

  led_further : (s : named.State) (step : Step) → Led s → fits T s step ≡ true → Led (state_after T s step)
  led_further s step led f =
      let (number, at) = K.found step (fitting_own T s step f) in
      let (made, found, own) = kept_at T atoms G S K s led.bits number step led.met (at, left_out number) f in
      let is = made_of T atoms G S K number step made at found in
      let begins = (and_parts (can_begin T s step) (is_some (step_cost T step)) (sym (fits_is T atoms G S K s number step at) ∙ f)).0 in
      record {
        bits = after led.bits made.effects;
        met = subst (λ o. Met T atoms G S K (state_after T s step) (state_by led.bits o)) found (next_met T atoms G S K s led.bits number step led.met (at, left_out number) f);
        reach = Further led.bits (after led.bits made.effects) made led.reach own (is.pre s led.bits (reached T atoms G S K s led.bits led.met) led.met.matched ∙ begins) refl;
      }

  led_from : (plan : Plan) (s : named.State) → Led s → fit_from T s plan ≡ true → Led (state_from T s plan)
  led_from [] s led f = led
  led_from (step ∷ plan) s led f = let h = and_parts _ _ f in led_from plan (state_after T s step) (led_further s step led h.0) h.1

  led_at_start : Led (start T)
  led_at_start = record { bits = G.initial; met = begun T atoms G S K; reach = Initial G.initial refl }

  -- so has every reached state
  record LedTo (s : named.State) : Type 0 where
    pub bits : State
    pub matched : Matched atoms s bits
    pub reach : IsReachable G bits

  led_to : (s : named.State) → Reached T s → LedTo s
  led_to s r =
      let led = led_from r.plan (start T) led_at_start (sym (steps_fit-walk T r.plan) ∙ r.fit) in
      record {
        bits = led.bits;
        matched = record {
          count = led.met.matched.count;
          atom = λ k fact at. led.met.matched.atom k fact at ∙ ap (λ s. named.has_fact s fact) (sym (last_state-walk T r.plan)) ∙ sym (r.last fact);
        };
        reach = led.reach;
      }

  -- ---- the steps that are left out more

  module _ (set : State) (closed : IsClosed G set) where
    never : (s : named.State) (number : ℕ) (step : Step) (made : GroundStep) → Reached T s → HasNumber T step number → step_of G number ≡ Some made → may_hold set made.pre ≡ false → can_begin T s step ≡ false
    never s number step made r at found out =
        let led = led_to s r in
        let is = made_of T atoms G S K number step made at found in
        sym (is.pre s led.bits r led.matched)
        ∙ false_from_ne_true (truth led.bits made.pre) (λ holds. true≢false (sym (truth-may led.bits set (reach.reached G set closed led.bits led.reach) made.pre holds) ∙ out))

    pub pruned_leaves_out : LeavesOutOnlyUnfit T (pruned set G)
    pruned_leaves_out number step at none s r = by (step_of G number) refl
      where
        by : (o : Option GroundStep) → step_of G number ≡ o → can_begin T s step ≡ false
        by None out = left_out number step at out s r
        by (Some made) found = never s number step made r at found (find_nothing (λ (made : GroundStep). may_hold set made.pre) (λ (other : GroundStep). other.number == number) G.steps made found none)
