-- A target simulates a ground task: from running bits, one list of actions for each ground step and one for the end. All that is asked of plans follows by one induction.
use Rattle.std.proofs.Common.{◌≡◌, ◌∙◌, ℕ, zero, suc, ◌+◌, ◌<◌, true, List, [], ◌∷◌, ◌++◌, length, sym, ap, subst, arith, length-append}
use Rattle.std.specs.Prelude.{Contains}
use Rattle.std.proofs.Math.Bool.{Bool-set}
use Rattle.std.proofs.lemmas.Bool.{and_parts, and_from}
use Rattle.std.proofs.lemmas.List.Sums.{sum_by-cons, sum_by-append}
use Rattle.std.proofs.lemmas.List.{length-map}
use Rattle.std.proofs.lemmas.List.Elements.{filter_map-append}
use Rattle.p3_formula.specs.Forms.{State}
use Rattle.p3_formula.specs.GroundPlans.{GroundPlan, GroundValid, is_ground_valid, step_of, ground_fits, ground_loss}
use Rattle.p3_formula.specs.Weighted.{extra_by, ground_extra, HasNameBelow}
use Rattle.p3_formula.specs.Targets.{TargetPlan, TargetValid, ground_lift, target_cost, IsSoundFor, HasOneOrigin}
use Rattle.p3_base.specs.Words.{are_different}
use Rattle.p3_formula.specs.declared.modal.GroundSoft.{GroundSoft}
use Rattle.p3_formula.specs.declared.target.Target.{Target}
use Rattle.p3_formula.specs.declared.target.TargetAction.{TargetAction}
use Rattle.p3_formula.specs.declared.target.Weights.{Weights}
use Rattle.p3_formula.specs.declared.task.GroundTask.{GroundTask}
use Rattle.p3_simulation.proofs.Walks.{names, Reaches, plan_cost, counted, enters, lifted, Walked, walked, spelled_reaches, spelled_cost, spelled_lift}
use Rattle.p3_simulation.proofs.GroundWalks.{AreNamed, stepped, may_end, end_loss, step_loss, valid_from, loss_from, extra_from, valid_is, loss_is, extra_is}

-- the bits run where the source states of the front have been visited, and then that state
module _ (G : GroundTask) (weights : Weights) (X : Target) (Running : List State → State → State → Type 0) where
  -- the actions of one ground step, from running bits to running bits
  pub record Segment (front : List State) (state bits : State) (number : ℕ) : Type 0 where
    pub plan : List TargetAction
    pub later : State
    pub leads : (rest : List TargetAction) → Reaches X later rest → Reaches X bits (plan ++ rest)
    pub lifts : lifted G plan ≡ number ∷ []
    pub costs : plan_cost plan ≡ step_loss G weights state (step_of G number)
    pub count : length plan ≡ 1 + extra_by weights.by_name (step_of G number)
    pub runs : Running (front ++ state ∷ []) (stepped G weights state number) later

  -- the actions of the end phase
  pub record Ending (front : List State) (state bits : State) : Type 0 where
    pub plan : List TargetAction
    pub reaches : Reaches X bits plan
    pub lifts : lifted G plan ≡ []
    pub costs : plan_cost plan ≡ end_loss G weights (front ++ state ∷ [])
    pub count : length plan ≡ 1 + length G.soft

  -- what can be done from running bits
  pub record Choices (front : List State) (state bits : State) : Type 0 where
    pub segment : (number : ℕ) → enters G X bits number ≡ true → Segment front state bits number
    pub ending : may_end G weights (front ++ state ∷ []) ≡ true → Ending front state bits

  -- a plan from running bits is an end, or begins with the actions of a step
  pub data Splits {front : List State} {state bits : State} (choices : Choices front state bits) (plan : List TargetAction) : Type 0 where
    Ends : (may : may_end G weights (front ++ state ∷ []) ≡ true) → plan ≡ (choices.ending may).plan → Splits choices plan
    Goes : (number : ℕ) → (fits : enters G X bits number ≡ true) → (rest : List TargetAction) → plan ≡ (choices.segment number fits).plan ++ rest
        → Reaches X (choices.segment number fits).later rest → Splits choices plan

  pub record Simulates : Type 0 where
    pub begins : Running [] G.initial X.initial
    -- a step is entered only where it fits, and is entered where a valid plan goes on with it
    pub fits : (front : List State) (state bits : State) → Running front state bits → (number : ℕ) → enters G X bits number ≡ true → ground_fits G state number ≡ true
    pub entered : (front : List State) (state bits : State) → Running front state bits → (number : ℕ) (plan : GroundPlan) → valid_from G weights front state (number ∷ plan) ≡ true → enters G X bits number ≡ true
    pub choices : (front : List State) (state bits : State) → Running front state bits → Choices front state bits
    pub splits : (front : List State) (state bits : State) (runs : Running front state bits) (plan : List TargetAction) → Reaches X bits plan → Splits (choices front state bits runs) plan

  -- what a plan from running bits lifts to
  pub record Tells (front : List State) (state : State) (plan : List TargetAction) : Type 0 where
    pub ground : GroundPlan
    pub lifts : lifted G plan ≡ ground
    pub valid : valid_from G weights front state ground ≡ true
    pub costs : plan_cost plan ≡ loss_from G weights front state ground
    pub count : length plan ≡ length ground + 1 + length G.soft + extra_from G weights ground

  module _ (simulates : Simulates) where
    tells_end : (front : List State) (state bits : State) (ending : Ending front state bits) → may_end G weights (front ++ state ∷ []) ≡ true → Tells front state ending.plan
    tells_end front state bits ending may = record { ground = []; lifts = ending.lifts; valid = may; costs = ending.costs; count = let c = ending.count in omega arith }

    tells_step : (front : List State) (state bits : State) (number : ℕ) → ground_fits G state number ≡ true → (segment : Segment front state bits number) (rest : List TargetAction)
        → Tells (front ++ state ∷ []) (stepped G weights state number) rest → Tells front state (segment.plan ++ rest)
    tells_step front state bits number fits segment rest told = record {
      ground = number ∷ told.ground;
      lifts = filter_map-append (counted G) segment.plan rest ∙ (λ i. segment.lifts i ++ told.lifts i);
      valid = and_from (ground_fits G state number) _ fits told.valid;
      costs = sum_by-append (λ (action : TargetAction). action.cost) segment.plan rest ∙ (λ i. segment.costs i + told.costs i);
      count = let c = segment.count in let t = told.count in let l = length-append segment.plan rest in let s = sum_by-cons (λ n. extra_by weights.by_name (step_of G n)) number told.ground in omega (arith, c, t, l, s);
    }

    shorter : (n : ℕ) (plan rest whole : List TargetAction) (extra : ℕ) → whole ≡ plan ++ rest → length plan ≡ 1 + extra → length whole < suc n → length rest < n
    shorter n plan rest whole extra is count bound = let l = ap length is ∙ length-append plan rest in omega (arith, l, count, bound)

    -- each plan from running bits is sound, and as long as it should be
    pub tells : (n : ℕ) (front : List State) (state bits : State) → Running front state bits → (plan : List TargetAction) → length plan < n → Reaches X bits plan → Tells front state plan
    tells zero front state bits runs plan bound reaches = absurd (omega (arith, bound))
    tells (suc n) front state bits runs plan bound reaches = elim (simulates.splits front state bits runs plan reaches) [
      | Ends may is ↦ subst (Tells front state) (sym is) (tells_end front state bits ((simulates.choices front state bits runs).ending may) may)
      | Goes number fits rest is more ↦
          let segment = (simulates.choices front state bits runs).segment number fits in
          subst (Tells front state) (sym is)
          (tells_step front state bits number (simulates.fits front state bits runs number fits) segment rest
          (tells n (front ++ state ∷ []) (stepped G weights state number) segment.later segment.runs rest (shorter n segment.plan rest plan _ is segment.count bound) more))
    ]

    -- ---- a plan for each ground plan

    pub record Origin (bits : State) (ground : GroundPlan) : Type 0 where
      pub plan : List TargetAction
      pub reaches : Reaches X bits plan
      pub lifts : lifted G plan ≡ ground

    pub origin : (ground : GroundPlan) (front : List State) (state bits : State) → Running front state bits → valid_from G weights front state ground ≡ true → Origin bits ground
    origin [] front state bits runs valid = let ending = (simulates.choices front state bits runs).ending valid in record { plan = ending.plan; reaches = ending.reaches; lifts = ending.lifts }
    origin (number ∷ ground) front state bits runs valid =
        let parts = and_parts (ground_fits G state number) _ valid in
        let segment = (simulates.choices front state bits runs).segment number (simulates.entered front state bits runs number ground valid) in
        let rest = origin ground (front ++ state ∷ []) (stepped G weights state number) segment.later segment.runs parts.1 in
        record {
          plan = segment.plan ++ rest.plan;
          reaches = segment.leads rest.plan rest.reaches;
          lifts = filter_map-append (counted G) segment.plan rest.plan ∙ (λ i. segment.lifts i ++ rest.lifts i);
        }

    -- ---- and only one

    lifts_on : (front : List State) (state bits : State) (number : ℕ) (segment : Segment front state bits number) (rest plan : List TargetAction) → plan ≡ segment.plan ++ rest → lifted G plan ≡ number ∷ lifted G rest
    lifts_on front state bits number segment rest plan is = ap (lifted G) is ∙ filter_map-append (counted G) segment.plan rest ∙ ap (λ first. first ++ lifted G rest) segment.lifts

    pub alone : (n : ℕ) (front : List State) (state bits : State) → Running front state bits → (plan other : List TargetAction) → length plan < n → Reaches X bits plan → Reaches X bits other → lifted G plan ≡ lifted G other → plan ≡ other
    alone zero front state bits runs plan other bound reaches reach same = absurd (omega (arith, bound))
    alone (suc n) front state bits runs plan other bound reaches reach same = elim (simulates.splits front state bits runs plan reaches) [
      | Ends may is ↦ elim (simulates.splits front state bits runs other reach) [
        | Ends might be ↦ is ∙ (λ i. (choices.ending (Bool-set _ _ may might i)).plan) ∙ sym be
        | Goes number fits rest be more ↦
            let nothing = ap (lifted G) is ∙ (choices.ending may).lifts in
            let something = lifts_on front state bits number (choices.segment number fits) rest other be in
            let clash : [] ≡ number ∷ lifted G rest = sym nothing ∙ same ∙ something in absurd (cc)
      ]
      | Goes number fits rest is more ↦ elim (simulates.splits front state bits runs other reach) [
        | Ends might be ↦
            let nothing = ap (lifted G) be ∙ (choices.ending might).lifts in
            let something = lifts_on front state bits number (choices.segment number fits) rest plan is in
            let clash : number ∷ lifted G rest ≡ [] = sym something ∙ same ∙ nothing in absurd (cc)
        | Goes second fit rest_two be more_two ↦
            let one = lifts_on front state bits number (choices.segment number fits) rest plan is in
            let two = lifts_on front state bits second (choices.segment second fit) rest_two other be in
            let both : number ∷ lifted G rest ≡ second ∷ lifted G rest_two = sym one ∙ same ∙ two in
            let numbers : number ≡ second = cc in
            let lists : lifted G rest ≡ lifted G rest_two = cc in
            is ∙ subst (λ m. (fit : enters G X bits m ≡ true) → Reaches X (choices.segment m fit).later rest_two → (choices.segment number fits).plan ++ rest ≡ (choices.segment m fit).plan ++ rest_two) numbers
            (λ fit more_two. (λ i. (choices.segment number fits).plan ++
            alone n (front ++ state ∷ []) (stepped G weights state number) (choices.segment number fits).later (choices.segment number fits).runs rest rest_two
            (shorter n (choices.segment number fits).plan rest plan _ is (choices.segment number fits).count bound) more
            (subst (λ f. Reaches X (choices.segment number f).later rest_two) (Bool-set _ _ fit fits) more_two) lists i)
            ∙ (λ i. (choices.segment number (Bool-set _ _ fits fit i)).plan ++ rest_two)) fit more_two
            ∙ sym be
      ]
    ]
      where
        choices : Choices front state bits
        choices = simulates.choices front state bits runs

    -- ---- in the words of a compiled task

    module _ (differ : are_different (names X.actions) ≡ true) (steps_named : (number : ℕ) → AreNamed G weights (step_of G number)) (softs_named : (soft : GroundSoft) → Contains G.soft soft → HasNameBelow (length weights.by_name) soft.name) where
      told : (q : TargetPlan) → TargetValid X q → (walk : Walked X X.initial q) → Tells [] G.initial walk.plan
      told q valid walk = tells (suc (length walk.plan)) [] G.initial X.initial simulates.begins walk.plan (omega arith) walk.reaches

      lift_is : (q : TargetPlan) (walk : Walked X X.initial q) → ground_lift G q ≡ lifted G walk.plan
      lift_is q walk = ap (ground_lift G) (sym walk.spelled) ∙ spelled_lift G walk.plan

      pub sound : (q : TargetPlan) → TargetValid X q → IsSoundFor G weights X q
      sound q valid =
          let walk = walked X differ q X.initial valid in
          let told = told q valid walk in
          let lift : ground_lift G q ≡ told.ground = lift_is q walk ∙ told.lifts in
          record {
            valid = ap (is_ground_valid G) lift ∙ valid_is G weights told.ground ∙ told.valid;
            cost = ap (target_cost X) (sym walk.spelled) ∙ spelled_cost X differ walk.plan X.initial walk.reaches ∙ told.costs ∙ sym (loss_is G weights steps_named softs_named told.ground) ∙ ap (ground_loss G weights) (sym lift);
          }

      pub one_to_one : (p : GroundPlan) → GroundValid G p → HasOneOrigin G X p
      one_to_one p valid =
          let made = origin p [] G.initial X.initial simulates.begins (sym (valid_is G weights p) ∙ valid) in
          record {
            origin = names made.plan;
            valid = spelled_reaches X differ made.plan X.initial made.reaches;
            lifts = spelled_lift G made.plan ∙ made.lifts;
            only = λ q is_valid same.
                let walk = walked X differ q X.initial is_valid in
                sym walk.spelled ∙ ap names (alone (suc (length walk.plan)) [] G.initial X.initial simulates.begins walk.plan made.plan (omega arith) walk.reaches made.reaches (sym (lift_is q walk) ∙ same ∙ sym made.lifts));
          }

      pub length_is : (q : TargetPlan) → TargetValid X q → length q ≡ length (ground_lift G q) + 1 + length G.soft + ground_extra G weights (ground_lift G q)
      length_is q valid =
          let walk = walked X differ q X.initial valid in
          let told = told q valid walk in
          let lift : ground_lift G q ≡ told.ground = lift_is q walk ∙ told.lifts in
          ap length (sym walk.spelled) ∙ length-map walk.plan (λ (action : TargetAction). action.name) ∙ told.count
          ∙ (λ i. length (sym lift i) + 1 + length G.soft + (ap (λ p. extra_from G weights p) (sym lift) ∙ sym (extra_is G weights (ground_lift G q))) i)
