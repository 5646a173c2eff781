-- The plans of a flattening are those of the other target, step by step.
use Rattle.std.proofs.Common.{◌≡◌, ◌∙◌, ◌⊎◌, inl, inr, ◌+◌, Bool, true, false, not, ◌&&◌, ◌||◌, cond, List, [], ◌∷◌, ◌++◌, refl, sym, ap, subst, true≢false}
use Rattle.std.specs.Prelude.{Option, Some, None, find, bytes_eq, filter_map}
use Rattle.std.specs.List.{All, list_all}
use Rattle.std.proofs.lemmas.Bool.{and_parts, and_from, not-true, false_from_ne_true, or_right}
use Rattle.std.proofs.lemmas.List.Elements.{All-head, All-tail, filter_map-append}
use Rattle.std.proofs.lemmas.List.Sums.{sum_by-cons}
use Rattle.std.proofs.lemmas.Slice.Eq.{bytes_eq-Decides}
use Rattle.p3_base.specs.Words.{Name, are_different, has_name}
use Rattle.p3_formula.specs.Forms.{State, truth}
use Rattle.p3_formula.specs.Next.{after}
use Rattle.p3_formula.specs.Targets.{TargetPlan, action_of, cost_by, ends_with_c_number, fits_by, ground_lift, lifted_number, reaches_goal, state_by, target_cost}
use Rattle.p3_formula.specs.declared.target.Target.{Target}
use Rattle.p3_formula.specs.declared.target.TargetAction.{TargetAction}
use Rattle.p3_formula.specs.declared.task.GroundTask.{GroundTask}
use Rattle.p3_flat.specs.Copies.{AreCopiesOf, copy_named, fitting, names_of, pattern_in}
use Rattle.p3_flat.specs.Flattened.{AreFlattened, CanBeFlattened, IsFlattened}
use Rattle.p3_flat.specs.Plans.{HasSamePlans, stem, stems}
use Rattle.p3_flat.proofs.ItemLemmas.{head_is, nil_no_cons, none_no_some, some_is, tail_is}
use Rattle.p3_flat.proofs.NamingLemmas.{lifted_named, stem_named}

-- ---- members

-- the item is one of these
abbrev pub IsAmong : {A : Type 0} → A → List A → Type 0
IsAmong x [] = ⊥
IsAmong x (y ∷ ys) = (y ≡ x) ⊎ IsAmong x ys

pub among_left : {A : Type 0} (x : A) (xs ys : List A) → IsAmong x xs → IsAmong x (xs ++ ys)
among_left x [] ys h = absurd h
among_left x (y ∷ xs) ys (inl here) = inl here
among_left x (y ∷ xs) ys (inr later) = inr (among_left x xs ys later)

pub among_right : {A : Type 0} (x : A) (xs ys : List A) → IsAmong x ys → IsAmong x (xs ++ ys)
among_right x [] ys h = h
among_right x (y ∷ xs) ys h = inr (among_right x xs ys h)

pub among_cases : {A : Type 0} (x : A) (xs ys : List A) → IsAmong x (xs ++ ys) → IsAmong x xs ⊎ IsAmong x ys
among_cases x [] ys h = inr h
among_cases x (y ∷ xs) ys (inl here) = inl (inl here)
among_cases x (y ∷ xs) ys (inr later) = elim (among_cases x xs ys later) as (λ _. IsAmong x (y ∷ xs) ⊎ IsAmong x ys) [ inl left ↦ inl (inr left) | inr right ↦ inr right ]

pub all_among : {A : Type 0} (P : A → Type 0) (x : A) (xs : List A) → All P xs → IsAmong x xs → P x
all_among P x [] all h = absurd h
all_among P x (y ∷ xs) all (inl here) = subst P here (All-head P y xs all)
all_among P x (y ∷ xs) all (inr later) = all_among P x xs (All-tail P y xs all) later

-- ---- actions by their names

same_name_true : (name : Name) → bytes_eq name name ≡ true
same_name_true name = (bytes_eq-Decides name name).1 refl

name_is : (name other : Name) → bytes_eq name other ≡ true → name ≡ other
name_is name other h = (bytes_eq-Decides name other).0 h

abbrev find_action : List TargetAction → Name → Option TargetAction
find_action actions name = find (λ action. bytes_eq action.name name) actions

-- what is found is there, and has the name
found_among : (actions : List TargetAction) (name : Name) (action : TargetAction) → find_action actions name ≡ Some action → IsAmong action actions × (action.name ≡ name)
found_among [] name action h = absurd (none_no_some action h)
found_among (other ∷ actions) name action h = by (λ e. found_among actions name action e) (bytes_eq other.name name) refl h
  where
    by : (find_action actions name ≡ Some action → IsAmong action actions × (action.name ≡ name)) → (b : Bool) → bytes_eq other.name name ≡ b → cond b (Some other) (find_action actions name) ≡ Some action → IsAmong action (other ∷ actions) × (action.name ≡ name)
    by later true same e = (inl (some_is other action e), sym (ap (λ (x : TargetAction). x.name) (some_is other action e)) ∙ name_is other.name name same)
    by later false differs e = let rest = later e in (inr rest.0, rest.1)

pub has_name_among : (action : TargetAction) (actions : List TargetAction) → IsAmong action actions → has_name (names_of actions) action.name ≡ true
has_name_among action [] h = absurd h
has_name_among action (other ∷ actions) (inl here) = ap (λ b. b || has_name (names_of actions) action.name) (ap (λ (x : TargetAction). bytes_eq x.name action.name) here ∙ same_name_true action.name)
has_name_among action (other ∷ actions) (inr later) = or_right (bytes_eq other.name action.name) _ (has_name_among action actions later)

-- where the names differ, what is there is found by its name
among_found : (actions : List TargetAction) (action : TargetAction) → are_different (names_of actions) ≡ true → IsAmong action actions → find_action actions action.name ≡ Some action
among_found [] action differ h = absurd h
among_found (other ∷ actions) action differ (inl here) =
    ap (λ b. cond b (Some other) (find_action actions action.name)) (ap (λ (x : TargetAction). bytes_eq x.name action.name) here ∙ same_name_true action.name) ∙ ap Some here
among_found (other ∷ actions) action differ (inr later) =
    let parts = and_parts (not (has_name (names_of actions) other.name)) _ differ in
    let apart = false_from_ne_true (bytes_eq other.name action.name) (λ same. true≢false (sym (ap (has_name (names_of actions)) (name_is other.name action.name same) ∙ has_name_among action actions later) ∙ not-true _ parts.0)) in
    ap (λ b. cond b (Some other) (find_action actions action.name)) apart ∙ among_found actions action parts.1 later

-- ---- actions and their copies

-- the copies of an action stand in the flattening
pub record HasCopiesIn (action : TargetAction) (made : List TargetAction) : Type 0 where
  pub copies : List TargetAction
  pub are : AreCopiesOf action copies
  pub within : (copy : TargetAction) → IsAmong copy copies → IsAmong copy made

pub copies_in : (actions made : List TargetAction) (action : TargetAction) → AreFlattened actions made → IsAmong action actions → HasCopiesIn action made
copies_in [] made action flat h = absurd h
copies_in (other ∷ actions) made action flat (inl here) =
    record { copies = flat.0; are = subst (λ a. AreCopiesOf a flat.0) here flat.3; within = λ copy own. subst (IsAmong copy) (sym flat.2) (among_left copy flat.0 flat.1 own) }
copies_in (other ∷ actions) made action flat (inr later) =
    let rest = copies_in actions flat.1 action flat.4 later in
    record { copies = rest.copies; are = rest.are; within = λ copy own. subst (IsAmong copy) (sym flat.2) (among_right copy flat.0 flat.1 (rest.within copy own)) }

-- each action of the flattening is a copy of one
pub record IsCopyFrom (actions : List TargetAction) (copy : TargetAction) : Type 0 where
  pub action : TargetAction
  pub own : IsAmong action actions
  pub copies : List TargetAction
  pub are : AreCopiesOf action copies
  pub among : IsAmong copy copies

pub copy_from : (actions made : List TargetAction) (copy : TargetAction) → AreFlattened actions made → IsAmong copy made → IsCopyFrom actions copy
copy_from [] made copy flat h = absurd (subst (IsAmong copy) flat h)
copy_from (other ∷ actions) made copy flat h = by (λ right. copy_from actions flat.1 copy flat.4 right) (among_cases copy flat.0 flat.1 (subst (IsAmong copy) flat.2 h))
  where
    by : (IsAmong copy flat.1 → IsCopyFrom actions copy) → IsAmong copy flat.0 ⊎ IsAmong copy flat.1 → IsCopyFrom (other ∷ actions) copy
    by later (inl left) = record { action = other; own = inl refl; copies = flat.0; are = flat.3; among = left }
    by later (inr right) = let rest = later right in record { action = rest.action; own = inr rest.own; copies = rest.copies; are = rest.are; among = rest.among }

among_fitting : (state : State) (action : TargetAction) (actions : List TargetAction) → IsAmong action actions → truth state action.pre ≡ true → IsAmong action (fitting state actions)
among_fitting state action [] h fits = absurd h
among_fitting state action (other ∷ actions) (inl here) fits =
    subst (λ b. IsAmong action (cond b (other ∷ fitting state actions) (fitting state actions))) (sym (ap (λ (x : TargetAction). truth state x.pre) here ∙ fits)) (inl here)
among_fitting state action (other ∷ actions) (inr later) fits = by (truth state other.pre) (among_fitting state action actions later fits)
  where
    by : (b : Bool) → IsAmong action (fitting state actions) → IsAmong action (cond b (other ∷ fitting state actions) (fitting state actions))
    by true rest = inr rest
    by false rest = rest

fitting_among : (state : State) (action : TargetAction) (actions : List TargetAction) → IsAmong action (fitting state actions) → IsAmong action actions × (truth state action.pre ≡ true)
fitting_among state action [] h = absurd h
fitting_among state action (other ∷ actions) h = by (λ own. fitting_among state action actions own) (truth state other.pre) refl h
  where
    by : (IsAmong action (fitting state actions) → IsAmong action actions × (truth state action.pre ≡ true)) → (b : Bool) → truth state other.pre ≡ b → IsAmong action (cond b (other ∷ fitting state actions) (fitting state actions)) → IsAmong action (other ∷ actions) × (truth state action.pre ≡ true)
    by known true fits (inl here) = (inl here, sym (ap (λ (x : TargetAction). truth state x.pre) here) ∙ fits)
    by known true fits (inr later) = let rest = known later in (inr rest.0, rest.1)
    by known false fails later = let rest = known later in (inr rest.0, rest.1)

-- ---- steps

-- the action of the other target that an action of a plan does
pub record DoesAction (X : Target) (state : State) (name : Name) (copy : TargetAction) : Type 0 where
  pub action : TargetAction
  pub found : action_of X (stem name) ≡ Some action
  pub fits : truth state action.pre ≡ true
  pub is : name ≡ copy_named (stem name) (pattern_in state action.effects)
  pub costs : copy.cost ≡ action.cost
  pub next : after state copy.effects ≡ after state action.effects

-- the copy that does an action of the other target
pub record IsDoneBy (Y : Target) (state : State) (action : TargetAction) : Type 0 where
  pub copy : TargetAction
  pub found : action_of Y copy.name ≡ Some copy
  pub fits : truth state copy.pre ≡ true
  pub is : copy.name ≡ copy_named action.name (pattern_in state action.effects)
  pub costs : copy.cost ≡ action.cost
  pub next : after state copy.effects ≡ after state action.effects

only_among : {A : Type 0} (x one : A) → IsAmong x (one ∷ []) → one ≡ x
only_among x one (inl here) = here
only_among x one (inr later) = absurd later

pub has_no_ending : (actions : List TargetAction) (action : TargetAction) → list_all (λ name. not (ends_with_c_number name)) (names_of actions) ≡ true → IsAmong action actions → ends_with_c_number action.name ≡ false
has_no_ending [] action all h = absurd h
has_no_ending (other ∷ actions) action all (inl here) = sym (ap (λ (x : TargetAction). ends_with_c_number x.name) here) ∙ not-true _ (and_parts (not (ends_with_c_number other.name)) _ all).0
has_no_ending (other ∷ actions) action all (inr later) = has_no_ending actions action (and_parts (not (ends_with_c_number other.name)) _ all).1 later

module _ (X Y : Target) (names : CanBeFlattened X) (flat : IsFlattened X Y) where
  no_ending : (action : TargetAction) → IsAmong action X.actions → ends_with_c_number action.name ≡ false
  no_ending action own = has_no_ending X.actions action names.endings own

  done : (state : State) (name : Name) (copy : TargetAction) → action_of Y name ≡ Some copy → truth state copy.pre ≡ true → DoesAction X state name copy
  done state name copy found fits =
      let there = found_among Y.actions name copy found in
      let from = copy_from X.actions Y.actions copy flat.actions there.0 in
      by there.1 from (truth state from.action.pre) refl
    where
      by : copy.name ≡ name → (from : IsCopyFrom X.actions copy) (b : Bool) → truth state from.action.pre ≡ b → DoesAction X state name copy
      by named from true holds =
          let one = from.are.one state holds in
          let same = only_among copy one.copy (subst (IsAmong copy) one.only (among_fitting state copy from.copies from.among fits)) in
          let is : name ≡ copy_named from.action.name (pattern_in state from.action.effects) = sym named ∙ sym (ap (λ (x : TargetAction). x.name) same) ∙ one.named in
          let stem_is : stem name ≡ from.action.name = ap stem is ∙ stem_named from.action.name (pattern_in state from.action.effects) (no_ending from.action from.own) in
          record {
            action = from.action;
            found = ap (action_of X) stem_is ∙ among_found X.actions from.action names.different from.own;
            fits = holds;
            is = is ∙ ap (λ n. copy_named n (pattern_in state from.action.effects)) (sym stem_is);
            costs = sym (ap (λ (x : TargetAction). x.cost) same) ∙ one.costs;
            next = sym (ap (λ (x : TargetAction). after state x.effects) same) ∙ one.next;
          }
      by named from false fails = absurd (subst (IsAmong copy) (from.are.none state fails) (among_fitting state copy from.copies from.among fits))

  doing : (state : State) (name : Name) (action : TargetAction) → action_of X name ≡ Some action → truth state action.pre ≡ true → IsDoneBy Y state action
  doing state name action found fits =
      let there = found_among X.actions name action found in
      let has = copies_in X.actions Y.actions action flat.actions there.0 in
      let one = has.are.one state fits in
      let own = fitting_among state one.copy has.copies (subst (IsAmong one.copy) (sym one.only) (inl refl)) in
      record {
        copy = one.copy;
        found = among_found Y.actions one.copy flat.different (has.within one.copy own.0);
        fits = own.1;
        is = one.named;
        costs = one.costs;
        next = one.next;
      }

  stem_of_done : (state : State) (name : Name) (action : TargetAction) → action_of X name ≡ Some action → stem (copy_named action.name (pattern_in state action.effects)) ≡ name
  stem_of_done state name action found =
      let there = found_among X.actions name action found in
      stem_named action.name (pattern_in state action.effects) (no_ending action there.0) ∙ there.1

  -- ---- plans, from one state on

  record IsDone (state : State) (q : TargetPlan) : Type 0 where
    valid : reaches_goal X state (stems q) ≡ true
    costs : target_cost X (stems q) ≡ target_cost Y q
    lifts : (G : GroundTask) → ground_lift G q ≡ ground_lift G (stems q)

  lifted_step : (G : GroundTask) (name : Name) (q : TargetPlan) (pattern : List Bool) → name ≡ copy_named (stem name) pattern → ground_lift G q ≡ ground_lift G (stems q) → ground_lift G (name ∷ q) ≡ ground_lift G (stem name ∷ stems q)
  unfolding ground_lift
  lifted_step G name q pattern is later =
      let same : lifted_number G name ≡ lifted_number G (stem name) = ap (lifted_number G) is ∙ lifted_named G (stem name) pattern in
      filter_map-append (lifted_number G) (name ∷ []) q
      ∙ (λ i. filter_map (λ (n : Name). same i) (name ∷ []) ++ later i)
      ∙ sym (filter_map-append (lifted_number G) (stem name ∷ []) (stems q))

  back_step : (state : State) (name : Name) (q : TargetPlan) (copy : TargetAction) → action_of Y name ≡ Some copy → (step : DoesAction X state name copy) → IsDone (after state copy.effects) q → IsDone state (name ∷ q)
  unfolding reaches_goal target_cost
  back_step state name q copy is step rest = record {
    valid = ap (λ o. fits_by state o && reaches_goal X (state_by state o) (stems q)) step.found
        ∙ and_from (truth state step.action.pre) _ step.fits (ap (λ s. reaches_goal X s (stems q)) (sym step.next) ∙ rest.valid);
    costs = sum_by-cons (λ n. cost_by (action_of X n)) (stem name) (stems q)
        ∙ (λ i. cost_by (step.found i) + rest.costs i) ∙ (λ i. sym step.costs i + target_cost Y q) ∙ (λ i. cost_by (sym is i) + target_cost Y q)
        ∙ sym (sum_by-cons (λ n. cost_by (action_of Y n)) name q);
    lifts = λ G. lifted_step G name q (pattern_in state step.action.effects) step.is (rest.lifts G);
  }

  back : (state : State) (q : TargetPlan) → reaches_goal Y state q ≡ true → IsDone state q
  unfolding reaches_goal target_cost ground_lift
  back state [] h = record { valid = ap (truth state) (sym flat.goal) ∙ h; costs = refl; lifts = λ G. refl }
  back state (name ∷ q) h = by (λ s e. back s q e) (action_of Y name) refl h
    where
      by : ((s : State) → reaches_goal Y s q ≡ true → IsDone s q) → (o : Option TargetAction) → action_of Y name ≡ o → (fits_by state o && reaches_goal Y (state_by state o) q) ≡ true → IsDone state (name ∷ q)
      by later None is e = absurd (true≢false (sym e))
      by later (Some copy) is e =
          let parts = and_parts (truth state copy.pre) _ e in
          back_step state name q copy is (done state name copy is parts.0) (later (after state copy.effects) parts.1)

  -- of two actions that fit and have the same stem, the names are equal, and so are the states behind them
  record IsSameStep (state : State) (action : TargetAction) (copy : TargetAction) (name : Name) (other : TargetAction) : Type 0 where
    named : name ≡ copy.name
    next : after state other.effects ≡ after state copy.effects

  same_step : (state : State) (name wanted : Name) (action other : TargetAction) → action_of X wanted ≡ Some action → (step : IsDoneBy Y state action) → action_of Y name ≡ Some other → truth state other.pre ≡ true → stem name ≡ wanted → IsSameStep state action step.copy name other
  same_step state name wanted action other found step there fits stem_is =
      let does = done state name other there fits in
      let same : does.action ≡ action = some_is does.action action (sym does.found ∙ ap (action_of X) stem_is ∙ found) in
      let has_name : action.name ≡ wanted = (found_among X.actions wanted action found).1 in
      record {
        named = does.is ∙ (λ i. copy_named ((stem_is ∙ sym has_name) i) (pattern_in state (same i).effects)) ∙ sym step.is;
        next = does.next ∙ (λ i. after state (same i).effects) ∙ sym step.next;
      }

  record HasOneFrom (state : State) (p : TargetPlan) : Type 0 where
    flat_plan : TargetPlan
    valid : reaches_goal Y state flat_plan ≡ true
    copies : stems flat_plan ≡ p
    only : (q : TargetPlan) → reaches_goal Y state q ≡ true → stems q ≡ p → q ≡ flat_plan

  only_step : (state : State) (name : Name) (p : TargetPlan) (action : TargetAction) → action_of X name ≡ Some action → (step : IsDoneBy Y state action) → (rest : HasOneFrom (after state step.copy.effects) p)
      → (q : TargetPlan) → reaches_goal Y state q ≡ true → stems q ≡ name ∷ p → q ≡ step.copy.name ∷ rest.flat_plan
  unfolding reaches_goal
  only_step state name p action is step rest [] valid are = absurd (nil_no_cons are)
  only_step state name p action is step rest (first ∷ q) valid are = by (action_of Y first) refl valid
    where
      by : (o : Option TargetAction) → action_of Y first ≡ o → (fits_by state o && reaches_goal Y (state_by state o) q) ≡ true → first ∷ q ≡ step.copy.name ∷ rest.flat_plan
      by None there holds = absurd (true≢false (sym holds))
      by (Some copy) there holds =
          let both = and_parts (truth state copy.pre) _ holds in
          let same = same_step state first name action copy is step there both.0 (head_is are) in
          let later = rest.only q (ap (λ s. reaches_goal Y s q) (sym same.next) ∙ both.1) (tail_is are) in
          λ i. same.named i ∷ later i

  forth_step : (state : State) (name : Name) (p : TargetPlan) (action : TargetAction) → action_of X name ≡ Some action → (step : IsDoneBy Y state action) → HasOneFrom (after state step.copy.effects) p → HasOneFrom state (name ∷ p)
  unfolding reaches_goal
  forth_step state name p action is step rest = record {
    flat_plan = step.copy.name ∷ rest.flat_plan;
    valid = ap (λ o. fits_by state o && reaches_goal Y (state_by state o) rest.flat_plan) step.found ∙ and_from (truth state step.copy.pre) _ step.fits rest.valid;
    copies = λ i. (ap stem step.is ∙ stem_of_done state name action is) i ∷ rest.copies i;
    only = only_step state name p action is step rest;
  }

  no_stems : (q : TargetPlan) → stems q ≡ [] → q ≡ []
  no_stems [] e = refl
  no_stems (name ∷ q) e = absurd (nil_no_cons (sym e))

  forth : (state : State) (p : TargetPlan) → reaches_goal X state p ≡ true → HasOneFrom state p
  unfolding reaches_goal
  forth state [] h = record { flat_plan = []; valid = ap (truth state) flat.goal ∙ h; copies = refl; only = λ q valid are. no_stems q are }
  forth state (name ∷ p) h = by (λ s e. forth s p e) (action_of X name) refl h
    where
      by : ((s : State) → reaches_goal X s p ≡ true → HasOneFrom s p) → (o : Option TargetAction) → action_of X name ≡ o → (fits_by state o && reaches_goal X (state_by state o) p) ≡ true → HasOneFrom state (name ∷ p)
      by later None is e = absurd (true≢false (sym e))
      by later (Some action) is e =
          let parts = and_parts (truth state action.pre) _ e in
          let step = doing state name action is parts.0 in
          forth_step state name p action is step (later (after state step.copy.effects) (ap (λ s. reaches_goal X s p) step.next ∙ parts.1))

  -- ---- whole plans

  pub same_plans : HasSamePlans X Y
  same_plans = record {
    back = λ q valid. let known = back X.initial q (ap (λ s. reaches_goal Y s q) (sym flat.initial) ∙ valid) in record { valid = known.valid; costs = known.costs; lifts = known.lifts };
    forth = λ p valid. let one = forth X.initial p valid in record {
      flat = one.flat_plan;
      valid = ap (λ s. reaches_goal Y s one.flat_plan) flat.initial ∙ one.valid;
      copies = one.copies;
      only = λ q is_valid are. one.only q (ap (λ s. reaches_goal Y s q) (sym flat.initial) ∙ is_valid) are;
    };
  }
