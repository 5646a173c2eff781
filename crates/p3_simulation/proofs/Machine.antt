-- The local laws of a target's actions in the three kinds of bits: open ones, from which steps and the end phase begin; those in the middle of a step; and those of the end phase. From them follow the simulation and that the target is led.
use Rattle.std.proofs.Common.{◌≡◌, ◌∙◌, ◌⊎◌, inl, inr, ℕ, ◌+◌, true, List, [], ◌∷◌, ◌++◌, length, refl, sym, subst, arith, Option, Some, None}
use Rattle.std.specs.List.{cons_option}
use Rattle.std.proofs.lemmas.List.Sums.{sum_by-cons}
use Rattle.p3_formula.specs.Forms.{State, truth}
use Rattle.p3_formula.specs.Next.{after}
use Rattle.p3_formula.specs.GroundPlans.{GroundPlan, step_of, ground_fits}
use Rattle.p3_formula.specs.Weighted.{extra_by}
use Rattle.p3_formula.specs.Targets.{Leads, Here, Further, Fits, IsLed}
use Rattle.p3_formula.specs.declared.target.Target.{Target}
use Rattle.p3_formula.specs.declared.target.TargetAction.{TargetAction}
use Rattle.p3_formula.specs.declared.target.Weights.{Weights}
use Rattle.p3_formula.specs.declared.task.GroundTask.{GroundTask}
use Rattle.p3_simulation.proofs.Walks.{Reaches, plan_cost, counted, enters, enters_with, lifted}
use Rattle.p3_simulation.proofs.GroundWalks.{stepped, may_end, step_loss, valid_from}
use Rattle.p3_simulation.proofs.Simulation.{Segment, Ending, Choices, Splits, Ends, Goes, Simulates}

-- what holds of bits alone
module _ (G : GroundTask) (X : Target) (Open Amid Closing : State → Type 0) where
  pub record Phases : Type 0 where
    pub begins : Open X.initial
    pub open_goal : (bits : State) → Open bits → truth bits X.goal ≡ true → ⊥
    pub open_one : (bits : State) → Open bits → (first second : TargetAction) → Fits X bits first → Fits X bits second → counted G first ≡ counted G second → first ≡ second
    pub open_next : (bits : State) → Open bits → (action : TargetAction) → Fits X bits action → (number : ℕ) → counted G action ≡ Some number → Open (after bits action.effects) ⊎ Amid (after bits action.effects)
    pub open_last : (bits : State) → Open bits → (action : TargetAction) → Fits X bits action → counted G action ≡ None → Closing (after bits action.effects)
    pub amid_goal : (bits : State) → Amid bits → truth bits X.goal ≡ true → ⊥
    pub amid_one : (bits : State) → Amid bits → (first second : TargetAction) → Fits X bits first → Fits X bits second → first ≡ second
    pub amid_none : (bits : State) → Amid bits → (action : TargetAction) → Fits X bits action → counted G action ≡ None
    pub amid_next : (bits : State) → Amid bits → (action : TargetAction) → Fits X bits action → Open (after bits action.effects) ⊎ Amid (after bits action.effects)
    pub closing_one : (bits : State) → Closing bits → (first second : TargetAction) → Fits X bits first → Fits X bits second → first ≡ second
    pub closing_none : (bits : State) → Closing bits → (action : TargetAction) → Fits X bits action → counted G action ≡ None
    pub closing_next : (bits : State) → Closing bits → (action : TargetAction) → Fits X bits action → Closing (after bits action.effects)

  pub data Phase (bits : State) : Type 0 where
    IsOpen : Open bits → Phase bits
    IsAmid : Amid bits → Phase bits
    IsClosing : Closing bits → Phase bits

  module _ (phases : Phases) where
    running_on : {bits : State} → Open bits ⊎ Amid bits → Phase bits
    running_on (inl is) = IsOpen is
    running_on (inr is) = IsAmid is

    open_on : (bits : State) → Open bits → (action : TargetAction) → Fits X bits action → (o : Option ℕ) → counted G action ≡ o → Phase (after bits action.effects)
    open_on bits is action fits None counts = IsClosing (phases.open_last bits is action fits counts)
    open_on bits is action fits (Some number) counts = running_on (phases.open_next bits is action fits number counts)

    phase_on : (bits : State) → Phase bits → (action : TargetAction) → Fits X bits action → Phase (after bits action.effects)
    phase_on bits (IsOpen is) action fits = open_on bits is action fits (counted G action) refl
    phase_on bits (IsAmid is) action fits = running_on (phases.amid_next bits is action fits)
    phase_on bits (IsClosing is) action fits = IsClosing (phases.closing_next bits is action fits)

    pub phase_at : (bits : State) → Leads X X.initial bits → Phase bits
    phase_at bits Here = IsOpen phases.begins
    phase_at bits (Further before leads action own holds) = phase_on before (phase_at before leads) action (record { own = own; holds = holds })

    closing_at : (from bits : State) → Closing from → Leads X from bits → Closing bits
    closing_at from bits is Here = is
    closing_at from bits is (Further before leads action own holds) = phases.closing_next before (closing_at from before is leads) action (record { own = own; holds = holds })

    one_kind : (bits : State) → Phase bits → (first second : TargetAction) → Fits X bits first → Fits X bits second → counted G first ≡ counted G second → first ≡ second
    one_kind bits (IsOpen is) first second fits fit same = phases.open_one bits is first second fits fit same
    one_kind bits (IsAmid is) first second fits fit same = phases.amid_one bits is first second fits fit
    one_kind bits (IsClosing is) first second fits fit same = phases.closing_one bits is first second fits fit

    -- behind an action that counts as none, in bits where one fits that counts as a step
    apart : (bits later : State) → Phase bits → (number again : ℕ) → (step other action : TargetAction) → Fits X bits step → Fits X bits other → counted G step ≡ Some number → counted G other ≡ None
        → Leads X (after bits other.effects) later → counted G action ≡ Some again → Fits X later action → ⊥
    apart bits later (IsOpen is) number again step other action fits fit counts none leads counts_too fits_too =
        let closing = closing_at (after bits other.effects) later (phases.open_last bits is other fit none) leads in
        let clash : None ≡ Some again = sym (phases.closing_none later closing action fits_too) ∙ counts_too in absurd (cc)
    apart bits later (IsAmid is) number again step other action fits fit counts none leads counts_too fits_too =
        let clash : None ≡ Some number = sym (phases.amid_none bits is step fits) ∙ counts in absurd (cc)
    apart bits later (IsClosing is) number again step other action fits fit counts none leads counts_too fits_too =
        let clash : None ≡ Some number = sym (phases.closing_none bits is step fits) ∙ counts in absurd (cc)

    pub led : IsLed G X
    led = record {
      one_copy = λ bits leads number first second fits fit counts count. one_kind bits (phase_at bits leads) first second fits fit (counts ∙ sym count);
      one_other = λ bits leads first second fits fit counts count. one_kind bits (phase_at bits leads) first second fits fit (counts ∙ sym count);
      apart = λ bits later leads number again step other action fits fit counts none further counts_too fits_too. apart bits later (phase_at bits leads) number again step other action fits fit counts none further counts_too fits_too;
    }

-- with the states that the bits stand for
module _ (G : GroundTask) (weights : Weights) (X : Target) (Open Amid Closing : State → Type 0) (Running : List State → State → State → Type 0) where
  -- the rest of a step's actions, from bits in its middle
  pub data Asks (front : List State) (next : State) : State → List TargetAction → State → Type 0 where
    Returns : (bits : State) → Running front next bits → Asks front next bits [] bits
    Further' : (bits : State) (action : TargetAction) (plan : List TargetAction) (later : State) → Amid bits → Fits X bits action → Asks front next (after bits action.effects) plan later → Asks front next bits (action ∷ plan) later

  pub record Moves (front : List State) (state bits : State) (number : ℕ) : Type 0 where
    pub first : TargetAction
    pub rest : List TargetAction
    pub later : State
    pub fits : Fits X bits first
    pub counts : counted G first ≡ Some number
    pub asks : Asks (front ++ state ∷ []) (stepped G weights state number) (after bits first.effects) rest later
    pub costs : first.cost + plan_cost rest ≡ step_loss G weights state (step_of G number)
    pub count : length rest ≡ extra_by weights.by_name (step_of G number)

  pub record Machine : Type 0 where
    pub phases : Phases G X Open Amid Closing
    pub begins : Running [] G.initial X.initial
    pub opens : (front : List State) (state bits : State) → Running front state bits → Open bits
    -- a step is entered only where it fits, and is entered where a valid plan goes on with it
    pub fits : (front : List State) (state bits : State) → Running front state bits → (number : ℕ) → enters G X bits number ≡ true → ground_fits G state number ≡ true
    pub entered : (front : List State) (state bits : State) → Running front state bits → (number : ℕ) (plan : GroundPlan) → valid_from G weights front state (number ∷ plan) ≡ true → enters G X bits number ≡ true
    pub moves : (front : List State) (state bits : State) → Running front state bits → (number : ℕ) → enters G X bits number ≡ true → Moves front state bits number
    -- a plan that begins with another action is that of the end
    pub may : (front : List State) (state bits : State) → Running front state bits → (action : TargetAction) (plan : List TargetAction) → Reaches X bits (action ∷ plan) → counted G action ≡ None → may_end G weights (front ++ state ∷ []) ≡ true
    pub ending : (front : List State) (state bits : State) → Running front state bits → may_end G weights (front ++ state ∷ []) ≡ true → Ending G weights X Running front state bits
    pub ends : (front : List State) (state bits : State) (runs : Running front state bits) (may : may_end G weights (front ++ state ∷ []) ≡ true) (action : TargetAction) (plan : List TargetAction) → Reaches X bits (action ∷ plan) → counted G action ≡ None
        → action ∷ plan ≡ (ending front state bits runs may).plan

  module _ (machine : Machine) where
    asks_reaches : (front : List State) (next bits : State) (plan : List TargetAction) (later : State) → Asks front next bits plan later → (rest : List TargetAction) → Reaches X later rest → Reaches X bits (plan ++ rest)
    asks_reaches front next bits plan later (Returns _ runs) rest reaches = reaches
    asks_reaches front next bits plan later (Further' _ action others _ amid fits asks) rest reaches = (fits.own, fits.holds, asks_reaches front next (after bits action.effects) others later asks rest reaches)

    asks_lift : (front : List State) (next bits : State) (plan : List TargetAction) (later : State) → Asks front next bits plan later → lifted G plan ≡ []
    asks_lift front next bits plan later (Returns _ runs) = refl
    asks_lift front next bits plan later (Further' _ action others _ amid fits asks) =
        λ i. cons_option (machine.phases.amid_none bits amid action fits i) (asks_lift front next (after bits action.effects) others later asks i)

    asks_runs : (front : List State) (next bits : State) (plan : List TargetAction) (later : State) → Asks front next bits plan later → Running front next later
    asks_runs front next bits plan later (Returns _ runs) = runs
    asks_runs front next bits plan later (Further' _ action others _ amid fits asks) = asks_runs front next (after bits action.effects) others later asks

    -- a plan can go on in no other way
    pub record Follows (plan whole : List TargetAction) (later : State) : Type 0 where
      pub rest : List TargetAction
      pub is : whole ≡ plan ++ rest
      pub reaches : Reaches X later rest

    follows : (front : List State) (next bits : State) (plan : List TargetAction) (later : State) → Asks front next bits plan later → (whole : List TargetAction) → Reaches X bits whole → Follows plan whole later
    follows front next bits plan later (Returns _ runs) whole reaches = record { rest = whole; is = refl; reaches = reaches }
    follows front next bits plan later (Further' _ action others _ amid fits asks) [] goal = absurd (machine.phases.amid_goal bits amid goal)
    follows front next bits plan later (Further' _ action others _ amid fits asks) (other ∷ whole) (own, holds, reaches) =
        let same : other ≡ action = machine.phases.amid_one bits amid other action (record { own = own; holds = holds }) fits in
        let more = follows front next (after bits action.effects) others later asks whole (subst (λ (a : TargetAction). Reaches X (after bits a.effects) whole) same reaches) in
        record { rest = more.rest; is = λ i. same i ∷ more.is i; reaches = more.reaches }

    segment_of : (front : List State) (state bits : State) (number : ℕ) → Moves front state bits number → Segment G weights X Running front state bits number
    segment_of front state bits number moves = record {
      plan = moves.first ∷ moves.rest;
      later = moves.later;
      leads = λ rest reaches. (moves.fits.own, moves.fits.holds, asks_reaches _ _ _ moves.rest moves.later moves.asks rest reaches);
      lifts = λ i. cons_option (moves.counts i) (asks_lift _ _ _ moves.rest moves.later moves.asks i);
      costs = sum_by-cons (λ (action : TargetAction). action.cost) moves.first moves.rest ∙ moves.costs;
      count = let c = moves.count in omega arith;
      runs = asks_runs _ _ _ moves.rest moves.later moves.asks;
    }

    choices_of : (front : List State) (state bits : State) → Running front state bits → Choices G weights X Running front state bits
    choices_of front state bits runs = record {
      segment = λ number fits. segment_of front state bits number (machine.moves front state bits runs number fits);
      ending = machine.ending front state bits runs;
    }

    splits_by : (front : List State) (state bits : State) (runs : Running front state bits) (action : TargetAction) (plan : List TargetAction) → Reaches X bits (action ∷ plan) → (o : Option ℕ) → counted G action ≡ o
        → Splits G weights X Running (choices_of front state bits runs) (action ∷ plan)
    unfolding choices_of segment_of
    splits_by front state bits runs action plan reaches None counts =
        let may = machine.may front state bits runs action plan reaches counts in
        Ends may (machine.ends front state bits runs may action plan reaches counts)
    splits_by front state bits runs action plan (own, holds, reaches) (Some number) counts =
        let fit : Fits X bits action = record { own = own; holds = holds } in
        let fits = enters_with G X bits number action fit counts in
        let moves = machine.moves front state bits runs number fits in
        let same : action ≡ moves.first = machine.phases.open_one bits (machine.opens front state bits runs) action moves.first fit moves.fits (counts ∙ sym moves.counts) in
        let more = follows _ _ _ moves.rest moves.later moves.asks plan (subst (λ (a : TargetAction). Reaches X (after bits a.effects) plan) same reaches) in
        Goes number fits more.rest (λ i. same i ∷ more.is i) more.reaches

    splits_of : (front : List State) (state bits : State) (runs : Running front state bits) (plan : List TargetAction) → Reaches X bits plan → Splits G weights X Running (choices_of front state bits runs) plan
    splits_of front state bits runs [] goal = absurd (machine.phases.open_goal bits (machine.opens front state bits runs) goal)
    splits_of front state bits runs (action ∷ plan) reaches = splits_by front state bits runs action plan reaches (counted G action) refl

    pub simulates : Simulates G weights X Running
    simulates = record { begins = machine.begins; fits = machine.fits; entered = machine.entered; choices = choices_of; splits = splits_of }
