-- Which action comes next in the one valid plan that lifts to the steps: the copy of the next step that fits, or else the action that counts as none.
use Rattle.std.proofs.Common.{◌≡◌, ◌∙◌, ◌<◌, ℕ, ◌+◌, true, false, List, [], ◌∷◌, ◌++◌, length, take, drop, refl, sym, ap, subst, arith, append_assoc, Option, Some, None}
use Rattle.std.specs.Prelude.{Contains, not}
use Rattle.std.specs.List.{cons_option}
use Rattle.std.proofs.lemmas.Bool.{and_parts}
use Rattle.p3_formula.specs.Weighted.{ground_extra}
use Rattle.std.proofs.lemmas.List.{length-append, append_cancel_left, append-nil, take-append-drop, take_all}
use Rattle.std.proofs.lemmas.List.Elements.{filter_map-append}
use Rattle.p3_base.specs.Words.{Name, has_name, are_different}
use Rattle.p3_formula.specs.Forms.{State, truth}
use Rattle.p3_formula.specs.Next.{after}
use Rattle.p3_formula.specs.GroundPlans.{GroundPlan, GroundValid}
use Rattle.p3_formula.specs.Targets.{TargetPlan, TargetValid, action_names, reaches_goal, ground_lift, lifted_number, Leads, Here, Further, Fits, IsLed, Compiled}
use Rattle.p3_formula.specs.declared.target.Target.{Target}
use Rattle.p3_formula.specs.declared.target.TargetAction.{TargetAction}
use Rattle.p3_formula.specs.declared.target.Weights.{Weights}
use Rattle.p3_formula.specs.declared.task.GroundTask.{GroundTask}
use Rattle.p3_embed.specs.Embeds.{IsEmbedded, GoesOn, IsOnWay, plan_length}
use Rattle.p3_simulation.proofs.Walks.{Reaches, names, counted, lifted, walked, spelled_reaches, spelled_lift}

-- ---- the names of actions

behind_differ : (first second : List Name) → are_different (first ++ second) ≡ true → are_different second ≡ true
behind_differ [] second e = e
behind_differ (name ∷ first) second e = behind_differ first second (and_parts (not (has_name (first ++ second) name)) _ e).1

-- ---- plans of actions

-- the plan begins with that action
pub record Begins (X : Target) (state : State) (action : TargetAction) (plan : List TargetAction) : Type 0 where
  pub tail : List TargetAction
  pub is : plan ≡ action ∷ tail
  pub own : Contains X.actions action
  pub fits : truth state action.pre ≡ true
  pub reaches : Reaches X (after state action.effects) tail

module _ (G : GroundTask) (X : Target) (led : IsLed G X) where
  -- a step that is lifted to fits in some state on the way
  record FitsLater (from : State) (number : ℕ) : Type 0 where
    later : State
    action : TargetAction
    leads : Leads X from later
    fits : Fits X later action
    counts : counted G action ≡ Some number

  fits_later : (from state : State) → Leads X from state → (plan : List TargetAction) → Reaches X state plan → (number : ℕ) (more : List ℕ) → lifted G plan ≡ number ∷ more → FitsLater from number
  fits_later from state leads [] reaches number more is = absurd (cc)
  fits_later from state leads (a ∷ plan) (own, holds, rest) number more is = by (counted G a) refl (fits_later from (after state a.effects) (Further state leads a own holds) plan rest number more)
    where
      by : (o : Option ℕ) → counted G a ≡ o → (lifted G plan ≡ number ∷ more → FitsLater from number) → FitsLater from number
      by None e behind = behind (sym (ap (λ c. cons_option c (lifted G plan)) e) ∙ is)
      by (Some other) e behind =
          let both : other ∷ lifted G plan ≡ number ∷ more = sym (ap (λ c. cons_option c (lifted G plan)) e) ∙ is in
          let same : other ≡ number = cc in
          record { later = state; action = a; leads = leads; fits = record { own = own; holds = holds }; counts = e ∙ ap Some same }

  -- where a copy of the next step fits, it comes next
  pub copy_first : (state : State) → Leads X X.initial state → (plan : List TargetAction) → Reaches X state plan → (number : ℕ) (more : List ℕ) → lifted G plan ≡ number ∷ more
      → (copy : TargetAction) → Fits X state copy → counted G copy ≡ Some number → Begins X state copy plan
  copy_first state leads [] reaches number more is copy fits counts = absurd (cc)
  copy_first state leads (a ∷ plan) (own, holds, rest) number more is copy fits counts = by (counted G a) refl
    where
      by : (o : Option ℕ) → counted G a ≡ o → Begins X state copy (a ∷ plan)
      by None e = absurd (go (fits_later (after state a.effects) (after state a.effects) Here plan rest number more (sym (ap (λ c. cons_option c (lifted G plan)) e) ∙ is)))
        where
          go : FitsLater (after state a.effects) number → ⊥
          go found = led.apart state found.later leads number number copy a found.action fits (record { own = own; holds = holds }) counts e found.leads found.counts found.fits
      by (Some other) e =
          let both : other ∷ lifted G plan ≡ number ∷ more = sym (ap (λ c. cons_option c (lifted G plan)) e) ∙ is in
          let same : other ≡ number = cc in
          let one : a ≡ copy = led.one_copy state leads number a copy (record { own = own; holds = holds }) fits (e ∙ ap Some same) counts in
          record { tail = plan; is = ap (λ (first : TargetAction). first ∷ plan) one; own = fits.own; fits = fits.holds; reaches = subst (λ (first : TargetAction). Reaches X (after state first.effects) plan) one rest }

  -- where an action that counts as none comes next, it is the one that fits
  pub other_first : (state : State) → Leads X X.initial state → (first : TargetAction) (plan : List TargetAction) → Reaches X state (first ∷ plan) → counted G first ≡ None
      → (other : TargetAction) → Fits X state other → counted G other ≡ None → Begins X state other (first ∷ plan)
  other_first state leads first plan (own, holds, rest) none other fits counts =
      let one : first ≡ other = led.one_other state leads first other (record { own = own; holds = holds }) fits none counts in
      record { tail = plan; is = ap (λ (action : TargetAction). action ∷ plan) one; own = fits.own; fits = fits.holds; reaches = subst (λ (action : TargetAction). Reaches X (after state action.effects) plan) one rest }

-- ---- the walk

module _ (G : GroundTask) (weights : Weights) (X : Target) (compiled : Compiled G weights X) (numbers : GroundPlan) where
  pub differ : are_different (names X.actions) ≡ true
  differ = behind_differ X.predicates (action_names X) compiled.named.different

  -- where it begins
  pub at_start : IsOnWay G X numbers 0 [] X.initial
  unfolding ground_lift
  at_start = record {
    leads = Here;
    lifts = refl;
    reaches = λ rest holds. holds;
    begins = λ q valid lifts. record { rest = q; spelled = refl; reaches = valid };
  }

  lift_joined : (done : TargetPlan) (plan : List TargetAction) → ground_lift G (done ++ names plan) ≡ ground_lift G done ++ lifted G plan
  unfolding ground_lift
  lift_joined done plan = filter_map-append (lifted_number G) done (names plan) ∙ ap (λ more. ground_lift G done ++ more) (spelled_lift G plan)

  module _ (count : ℕ) (done : TargetPlan) (state : State) (way : IsOnWay G X numbers count done state) where
    -- the steps that are left
    left_lifts : (plan : List TargetAction) → ground_lift G (done ++ names plan) ≡ numbers → lifted G plan ≡ drop count numbers
    left_lifts plan lifts =
        append_cancel_left (take count numbers) (lifted G plan) (drop count numbers)
        (ap (λ list. list ++ lifted G plan) (sym way.lifts) ∙ sym (lift_joined done plan) ∙ lifts ∙ sym (take-append-drop count numbers))

    -- one action more, which comes next in every plan that goes on
    pub further : (next : ℕ) (action : TargetAction) → Contains X.actions action → truth state action.pre ≡ true
        → take count numbers ++ cons_option (counted G action) [] ≡ take next numbers
        → ((plan : List TargetAction) → Reaches X state plan → lifted G plan ≡ drop count numbers → Begins X state action plan)
        → IsOnWay G X numbers next (done ++ action.name ∷ []) (after state action.effects)
    further next action own fits more first = record {
      leads = Further state way.leads action own fits;
      lifts = lift_joined done (action ∷ []) ∙ ap (λ list. list ++ cons_option (counted G action) []) way.lifts ∙ more;
      reaches = λ rest holds. subst (TargetValid X) (sym (append_assoc done (action.name ∷ []) rest)) (way.reaches (action.name ∷ rest) (stepped rest holds));
      begins = λ q valid lifts. goes q lifts (way.begins q valid lifts);
    }
      where
        stepped : (rest : TargetPlan) → reaches_goal X (after state action.effects) rest ≡ true → reaches_goal X state (action.name ∷ rest) ≡ true
        stepped rest holds =
            let walk = walked X differ rest (after state action.effects) holds in
            subst (λ (more : TargetPlan). reaches_goal X state (action.name ∷ more) ≡ true) walk.spelled (spelled_reaches X differ (action ∷ walk.plan) state (own, fits, walk.reaches))

        goes : (q : TargetPlan) → ground_lift G q ≡ numbers → GoesOn X done state q → GoesOn X (done ++ action.name ∷ []) (after state action.effects) q
        goes q lifts on =
            let walk = walked X differ on.rest state on.reaches in
            let whole : q ≡ done ++ names walk.plan = on.spelled ∙ ap (λ rest. done ++ rest) (sym walk.spelled) in
            let begun = first walk.plan walk.reaches (left_lifts walk.plan (ap (ground_lift G) (sym whole) ∙ lifts)) in
            record {
              rest = names begun.tail;
              spelled = whole ∙ ap (λ plan. done ++ names plan) begun.is ∙ sym (append_assoc done (action.name ∷ []) (names begun.tail));
              reaches = spelled_reaches X differ begun.tail (after state action.effects) begun.reaches;
            }

    -- ---- a copy of the next step

    pub copy_next : (number : ℕ) (more : List ℕ) → drop count numbers ≡ number ∷ more → take count numbers ++ number ∷ [] ≡ take (count + 1) numbers
        → (copy : TargetAction) → Fits X state copy → counted G copy ≡ Some number → IsOnWay G X numbers (count + 1) (done ++ copy.name ∷ []) (after state copy.effects)
    copy_next number more left one copy fits counts =
        further (count + 1) copy fits.own fits.holds (ap (λ c. take count numbers ++ cons_option c []) counts ∙ one)
        (λ plan reaches lifts. copy_first G X compiled.led state way.leads plan reaches number more (lifts ∙ left) copy fits counts)

    -- ---- an action that counts as none

    -- one comes first
    pub record OtherFirst (plan : List TargetAction) : Type 0 where
      pub first : TargetAction
      pub tail : List TargetAction
      pub is : plan ≡ first ∷ tail
      pub none : counted G first ≡ None

    -- one comes first in every plan that goes on
    abbrev pub OthersNext : Type 0
    OthersNext = (plan : List TargetAction) → Reaches X state plan → lifted G plan ≡ drop count numbers → OtherFirst plan

    -- where no copy of the next step fits
    pub others_amid : (number : ℕ) (more : List ℕ) → drop count numbers ≡ number ∷ more
        → ((copy : TargetAction) → Contains X.actions copy → counted G copy ≡ Some number → truth state copy.pre ≡ false) → OthersNext
    others_amid number more left none [] reaches lifts = absurd (let bad : [] ≡ number ∷ more = lifts ∙ left in cc)
    others_amid number more left none (a ∷ plan) (own, holds, rest) lifts = by (counted G a) refl
      where
        by : (o : Option ℕ) → counted G a ≡ o → OtherFirst (a ∷ plan)
        by None e = record { first = a; tail = plan; is = refl; none = e }
        by (Some other) e =
            let both : other ∷ lifted G plan ≡ number ∷ more = sym (ap (λ c. cons_option c (lifted G plan)) e) ∙ lifts ∙ left in
            let same : other ≡ number = cc in
            let bad : true ≡ false = sym holds ∙ none a own (e ∙ ap Some same) in
            absurd (cc)

    -- where all steps are done, and the goal does not hold
    pub others_at_end : drop count numbers ≡ [] → truth state X.goal ≡ false → OthersNext
    others_at_end left away [] reaches lifts = absurd (let bad : true ≡ false = sym reaches ∙ away in cc)
    others_at_end left away (a ∷ plan) (own, holds, rest) lifts = by (counted G a) refl
      where
        by : (o : Option ℕ) → counted G a ≡ o → OtherFirst (a ∷ plan)
        by None e = record { first = a; tail = plan; is = refl; none = e }
        by (Some other) e =
            let bad : other ∷ lifted G plan ≡ [] = sym (ap (λ c. cons_option c (lifted G plan)) e) ∙ lifts ∙ left in
            absurd (cc)

    pub other_next : OthersNext → (other : TargetAction) → Fits X state other → counted G other ≡ None → IsOnWay G X numbers count (done ++ other.name ∷ []) (after state other.effects)
    other_next others other fits counts =
        further count other fits.own fits.holds (ap (λ c. take count numbers ++ cons_option c []) counts ∙ append-nil (take count numbers)) first
      where
        first : (plan : List TargetAction) → Reaches X state plan → lifted G plan ≡ drop count numbers → Begins X state other plan
        first plan reaches lifts =
            let head = others plan reaches lifts in
            subst (Begins X state other) (sym head.is) (other_first G X compiled.led state way.leads head.first head.tail (subst (Reaches X state) head.is reaches) head.none other fits counts)

    -- the valid plan goes on with one
    module _ (valid : GroundValid G numbers) (others : OthersNext) where
      abbrev origin : TargetPlan
      origin = (compiled.one_to_one numbers valid).origin

      record Next : Type 0 where
        first : TargetAction
        rest : TargetPlan
        spelled : origin ≡ done ++ (first.name ∷ rest)
        fits : Fits X state first
        none : counted G first ≡ None

      next : Next
      next =
          let one = compiled.one_to_one numbers valid in
          let on = way.begins origin one.valid one.lifts in
          let walk = walked X differ on.rest state on.reaches in
          let whole : origin ≡ done ++ names walk.plan = on.spelled ∙ ap (λ rest. done ++ rest) (sym walk.spelled) in
          let head = others walk.plan walk.reaches (left_lifts walk.plan (ap (ground_lift G) (sym whole) ∙ one.lifts)) in
          let begun = subst (Reaches X state) head.is walk.reaches in
          record {
            first = head.first;
            rest = names head.tail;
            spelled = whole ∙ ap (λ plan. done ++ names plan) head.is;
            fits = record { own = begun.0; holds = begun.1 };
            none = head.none;
          }

      pub other_there : ((other : TargetAction) → Contains X.actions other → counted G other ≡ None → truth state other.pre ≡ false) → ⊥
      other_there away = let found = next in let bad : true ≡ false = sym found.fits.holds ∙ away found.first found.fits.own found.none in cc

      pub is_short : length done < plan_length G weights numbers
      is_short =
          let one = compiled.one_to_one numbers valid in
          let found = next in
          let long = length-append done (found.first.name ∷ found.rest) in
          let whole = ap (λ (plan : TargetPlan). length plan) found.spelled in
          let count = compiled.length origin one.valid in
          let lifted_count = ap (λ (steps : GroundPlan). length steps + 1 + length G.soft + ground_extra G weights steps) one.lifts in
          omega (arith, long, whole, count, lifted_count)

    -- where all steps are done, and the goal holds
    reached : truth state X.goal ≡ true → reaches_goal X state [] ≡ true
    unfolding reaches_goal
    reached e = e

    pub at_end : length numbers ≡ count → GroundValid G numbers → truth state X.goal ≡ true → IsEmbedded G X numbers done
    at_end all valid goal =
        let one = compiled.one_to_one numbers valid in
        let own : TargetValid X done = subst (TargetValid X) (append-nil done) (way.reaches [] (reached goal)) in
        let lifts : ground_lift G done ≡ numbers = way.lifts ∙ ap (λ n. take n numbers) (sym all) ∙ take_all (length numbers) numbers (omega arith) in
        record {
          valid = own;
          lifts = lifts;
          only = λ other holds is. one.only other holds is ∙ sym (one.only done own lifts);
        }
