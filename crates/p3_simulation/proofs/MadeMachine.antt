-- The machine of such a target: what its actions make of the visited states.
use Rattle.std.proofs.Common.{◌≡◌, ◌∙◌, ℕ, ◌+◌, ◌*◌, ◌<◌, nat_lt, Bool, true, false, not, cond, List, [], ◌∷◌, ◌++◌, length, take, drop, take-append-drop, sum_by, refl, sym, ap, subst, arith, Option, Some, None, true≢false, append-nil}
use Rattle.std.specs.Prelude.{Contains, is_some, flat_map, unwrap_or, if◌then◌else◌}
use Rattle.std.specs.List.{cons_option, list_all}
use Rattle.std.proofs.lemmas.Bool.{and_parts, and_from}
use Rattle.std.proofs.lemmas.Bool.Decides.{nat_tests}
use Rattle.std.proofs.lemmas.List.Sums.{sum_by-cons}
use Rattle.p3_formula.specs.Forms.{State, is_set, truth}
use Rattle.p3_formula.specs.Next.{after}
use Rattle.p3_formula.specs.GroundPlans.{GroundPlan, step_of, ground_fits, fits_by, state_by}
use Rattle.p3_formula.specs.GroundSat.{ground_sat}
use Rattle.p3_formula.specs.Weighted.{weighted, weight_of, extra_by}
use Rattle.p3_formula.specs.declared.form.Change.{Change}
use Rattle.p3_formula.specs.declared.form.Form.{Form}
use Rattle.p3_formula.specs.declared.modal.GroundPref.{GroundPref}
use Rattle.p3_formula.specs.declared.target.Target.{Target}
use Rattle.p3_formula.specs.declared.target.TargetAction.{TargetAction}
use Rattle.p3_formula.specs.declared.target.Weights.{Weights}
use Rattle.p3_formula.specs.declared.task.GroundStep.{GroundStep}
use Rattle.p3_formula.specs.declared.task.GroundTask.{GroundTask}
use Rattle.p3_formula.proofs.NextLaws.{length-after}
use Rattle.p3_endphase.specs.declared.phase.EndPhase.{EndPhase}
use Rattle.p3_endphase.specs.declared.phase.SoftEnd.{SoftEnd}
use Rattle.p3_endphase.specs.Ends.{IsSingleAt, Ends, violation, HasOneEnd}
use Rattle.p3_monitors.specs.Riders.{AreKept, AreRiders, IsRidden, after_all, AreBeside}
use Rattle.p3_formula.specs.Alike.{AgreeBelow}
use Rattle.p3_monitors.specs.declared.monitoring.Monitor.{Monitor}
use Rattle.p3_monitors.proofs.RiderLaws.{ride_together}
use Rattle.p3_formula.proofs.WatchedLaws.{last-next}
use Rattle.p3_precprefs.specs.Copies as copies
use Rattle.p3_simulation.proofs.Walks.{Reaches, counted, lifted, is_head, is_behind, enters, entry, enters_with}
use Rattle.p3_simulation.proofs.EndForms.{kept_front}
use Rattle.p3_simulation.proofs.GroundWalks.{stepped, may_end, end_loss, step_loss, valid_from, satisfied_at_end, weigh}
use Rattle.p3_simulation.proofs.Guarded.{own_holds, before_front, guards_hold}
use Rattle.p3_simulation.proofs.Simulation.{Ending}
use Rattle.p3_simulation.proofs.Machine.{Asks, Returns, Further', Moves, Machine}
use Rattle.p3_simulation.specs.Gadgets.{IsOpen, Turns, Back, On}
use Rattle.p3_simulation.specs.Parts.{AreBefore}
use Rattle.p3_simulation.proofs.Made.{kept_still}
use Rattle.p3_formula.proofs.NextLaws.{truth-below, after-agree}
use Rattle.p3_simulation.proofs.GadgetLaws.{found_step, step_found, Owner, owner, Maker, maker}
use Rattle.p3_simulation.proofs.MadeLaws.{IsMade, Running, IsAmid, IsClosing, phases, behind_go, in_all, in_phase, single_open, none_of_phase, some_of_step, last_on, closing_of_phase, closing_from}

beside_nothing : (monitors : List Monitor) → AreBeside monitors []
beside_nothing [] = tt
beside_nothing (monitor ∷ monitors) = (refl, beside_nothing monitors)

-- ---- the cost of a step

module _ (by_name : List ℕ) (first second : State) where
  -- preferences without weight add nothing
  pub same_violation : (prefs : List GroundPref) → ((pref : GroundPref) → Contains prefs pref → truth first pref.body ≡ truth second pref.body)
      → sum_by (copies.violation first by_name) (weighted by_name prefs) ≡ sum_by (λ (pref : GroundPref). weigh by_name (not (truth second pref.body)) pref.name) prefs
  same_violation [] same = refl
  same_violation (pref ∷ prefs) same = by (nat_lt 0 (weight_of by_name pref)) refl (truth second pref.body) refl (same_violation prefs (λ other member. same other (is_behind pref prefs other member)))
    where
      here : truth first pref.body ≡ truth second pref.body
      here = same pref (is_head pref prefs)

      one : (holds : Bool) → truth second pref.body ≡ holds → copies.violation first by_name pref ≡ weigh by_name (not (truth second pref.body)) pref.name
      one true e = (λ i. if (here ∙ e) i then 0 else weight_of by_name pref) ∙ sym (λ i. if not (e i) then weight_of by_name pref else 0)
      one false e = (λ i. if (here ∙ e) i then 0 else weight_of by_name pref) ∙ sym (λ i. if not (e i) then weight_of by_name pref else 0)

      none : (holds : Bool) → weight_of by_name pref ≡ 0 → weigh by_name holds pref.name ≡ 0
      none true e = e
      none false e = refl

      zero_more : (n : ℕ) → n ≡ 0 + n
      zero_more n = omega arith

      by : (has : Bool) → nat_lt 0 (weight_of by_name pref) ≡ has → (holds : Bool) → truth second pref.body ≡ holds
          → sum_by (copies.violation first by_name) (weighted by_name prefs) ≡ sum_by (λ (pref : GroundPref). weigh by_name (not (truth second pref.body)) pref.name) prefs
          → sum_by (copies.violation first by_name) (weighted by_name (pref ∷ prefs)) ≡ sum_by (λ (pref : GroundPref). weigh by_name (not (truth second pref.body)) pref.name) (pref ∷ prefs)
      by true e holds h rest =
          (λ i. sum_by (copies.violation first by_name) (cond (e i) (pref ∷ weighted by_name prefs) (weighted by_name prefs)))
          ∙ sum_by-cons (copies.violation first by_name) pref (weighted by_name prefs)
          ∙ (λ i. one holds h i + rest i)
          ∙ sym (sum_by-cons (λ (pref : GroundPref). weigh by_name (not (truth second pref.body)) pref.name) pref prefs)
      by false e holds h rest =
          let weightless : weight_of by_name pref ≡ 0 = grind (arith, nat_tests) in
          (λ i. sum_by (copies.violation first by_name) (cond (e i) (pref ∷ weighted by_name prefs) (weighted by_name prefs)))
          ∙ rest ∙ zero_more _
          ∙ (λ i. sym (none (not (truth second pref.body)) weightless) i + sum_by (λ (pref : GroundPref). weigh by_name (not (truth second pref.body)) pref.name) prefs)
          ∙ sym (sum_by-cons (λ (pref : GroundPref). weigh by_name (not (truth second pref.body)) pref.name) pref prefs)

-- ---- the machine

module _ (G : GroundTask) (weights : Weights) (X : Target) (monitors : List Monitor) (go first last size : ℕ) (all : List TargetAction) (phase : EndPhase) (finish : Form) (instances : List SoftEnd) (is : IsMade G weights X monitors go first last size all phase finish instances) where
  abbrev Runs : List State → State → State → Type 0
  Runs = Running G weights X monitors go first last size all phase finish instances

  abbrev Amid : State → Type 0
  Amid = IsAmid G weights X monitors go first last size all phase finish instances

  abbrev Closing : State → Type 0
  Closing = IsClosing G weights X monitors go first last size all phase finish instances

  abbrev hard : List Monitor
  hard = take (length G.hard) monitors

  abbrev others : List Monitor
  others = drop (length G.hard) monitors

  halves : monitors ≡ hard ++ others
  halves = sym (take-append-drop (length G.hard) monitors)

  owner_of : (action : TargetAction) → Contains all action → Owner go first size (behind_go G weights X monitors go first last size all phase finish instances is) (counted G) weights G.atoms hard monitors (first + 201) G.steps all action
  owner_of action own = owner go first size (behind_go G weights X monitors go first last size all phase finish instances is) (counted G) weights G.atoms hard monitors (first + 201) last G.steps all is.gadgets action own

  maker_of : (step : GroundStep) → Contains G.steps step → is_some step.cost ≡ true → Maker go first size (behind_go G weights X monitors go first last size all phase finish instances is) (counted G) weights G.atoms hard monitors all step
  maker_of step member costs = maker go first size (behind_go G weights X monitors go first last size all phase finish instances is) (counted G) weights G.atoms hard monitors (first + 201) last G.steps all is.gadgets step member costs

  start : Runs [] G.initial X.initial
  start = record { opens = is.begins; room = is.source_bits; agrees = is.sources; kept = is.kept }

  turns_open : (current : ℕ) (actions : List TargetAction) (bits : State) (plan : List TargetAction) (later : State) → Turns go first size current actions bits plan later → IsOpen go first size later
  turns_open current actions bits plan later (Back _ opens) = opens
  turns_open current actions bits plan later (On _ action rest _ asking own fits turns) = turns_open current actions (after bits action.effects) rest later turns

  asks_of : (front : List State) (next : State) (current : ℕ) (actions : List TargetAction) → ((action : TargetAction) → Contains actions action → Contains all action) → (bits : State) (plan : List TargetAction) (later : State)
      → Turns go first size current actions bits plan later → Runs front next later → Asks G weights X (IsOpen go first size) Amid Closing Runs front next bits plan later
  asks_of front next current actions inside bits plan later (Back _ opens) runs = Returns _ runs
  asks_of front next current actions inside bits plan later (On _ action rest _ asking own fits turns) runs =
      Further' bits action rest later (record { current = current; asking = asking }) (record { own = in_all G weights X monitors go first last size all phase finish instances is action (inside action own); holds = fits })
      (asks_of front next current actions inside (after bits action.effects) rest later turns runs)

  module _ (front : List State) (state bits : State) (runs : Runs front state bits) where
    stepped_alike : (step : GroundStep) → Contains G.steps step → AgreeBelow G.atoms (after bits step.effects) (after state step.effects)
    stepped_alike step member = after-agree G.atoms bits state runs.agrees step.effects (is.conditions step member)
        (let l = runs.opens.room in let r = is.room in let i = is.inside in let b = behind_go G weights X monitors go first last size all phase finish instances is in omega arith) (let r = runs.room in omega arith)

    -- the bits behind a step's actions run on
    runs_on : (step : GroundStep) → Contains G.steps step → (changes : List (List Change)) → AreRiders G.atoms G.atoms step.effects monitors changes → (later : State) → IsOpen go first size later
        → ((atom : ℕ) → atom < go → is_set later atom ≡ is_set (after bits (step.effects ++ flat_map (λ effects. effects) changes)) atom) → Runs (front ++ state ∷ []) (after state step.effects) later
    runs_on step member changes riders later opens same = record {
      opens = opens;
      room = length-after state step.effects ∙ runs.room;
      agrees = λ atom low. below atom (let i = is.inside in omega (arith, low)) ∙ ridden.sources_stay atom low ∙ stepped_alike step member atom low;
      kept = kept_still G.atoms go is.inside (after_all bits step.effects changes []) later below (let l = opens.room in let r = is.room in let b = behind_go G weights X monitors go first last size all phase finish instances is in omega arith) monitors is.before ((front ++ state ∷ []) ++ after state step.effects ∷ []) ridden.kept;
    }
      where
        below : AgreeBelow go later (after_all bits step.effects changes [])
        below atom low = same atom low ∙ ap (λ effects. is_set (after bits (step.effects ++ effects)) atom) (sym (append-nil (flat_map (λ effects. effects) changes)))

        ridden : IsRidden G.atoms monitors (front ++ state ∷ []) (after state step.effects) (after bits step.effects) (after_all bits step.effects changes [])
        ridden = ride_together G.atoms G.atoms step.effects [] monitors changes (front ++ state ∷ []) bits (after state step.effects) (omega arith) riders refl (beside_nothing monitors) runs.kept (stepped_alike step member)

    -- the step that is entered
    record Entered (number : ℕ) : Type 0 where
      pub action : TargetAction
      pub owner : Owner go first size (behind_go G weights X monitors go first last size all phase finish instances is) (counted G) weights G.atoms hard monitors (first + 201) G.steps all action
      pub numbered : owner.step.number ≡ number
      pub found : step_of G number ≡ Some owner.step
      pub holds : truth bits owner.made.pre ≡ true

    entered : (number : ℕ) → enters G X bits number ≡ true → Entered number
    entered number some =
        let e = entry G X bits number some in
        let o = owner_of e.action (some_of_step G weights X monitors go first last size all phase finish instances is bits e.action e.fits number e.counts) in
        let known : Some o.step.number ≡ Some number = sym (o.made.gadget.open_counts bits runs.opens e.action o.own e.fits.holds) ∙ e.counts in
        let same : o.step.number ≡ number = cc in
        record {
          action = e.action;
          owner = o;
          numbered = same;
          found = ap (step_of G) (sym same) ∙ found_step 0 G.steps is.rising o.step o.has_step;
          holds = o.made.gadget.open_fits bits runs.opens e.action o.own e.fits.holds;
        }

    same_pre : (step : GroundStep) → Contains G.steps step → truth bits step.pre ≡ truth state step.pre
    same_pre step member = truth-below G.atoms bits state runs.agrees step.pre (is.preconditions step member)

    -- a step is entered only where it fits
    fits_step : (number : ℕ) → enters G X bits number ≡ true → ground_fits G state number ≡ true
    fits_step number some =
        let e = entered number some in
        let o = e.owner in
        (λ i. fits_by state (e.found i))
        ∙ and_from (truth state o.step.pre) (is_some o.step.cost) (sym (same_pre o.step o.has_step) ∙ own_holds go hard o.step o.made.pre o.made.guarded bits e.holds) o.costs

    -- and is entered where a valid plan goes on with it, since no hard constraint is broken behind it
    enters_step : (number : ℕ) (plan : GroundPlan) → valid_from G weights front state (number ∷ plan) ≡ true → enters G X bits number ≡ true
    enters_step number plan valid =
        let parts = and_parts (ground_fits G state number) _ valid in
        by (step_of G number) refl parts.0 (satisfied_at_end G weights (front ++ state ∷ []) (stepped G weights state number) plan parts.1)
      where
        by : (o : Option GroundStep) → step_of G number ≡ o → fits_by state o ≡ true → (rest : List State) × (list_all (ground_sat ((front ++ state ∷ []) ++ stepped G weights state number ∷ rest)) G.hard ≡ true) → enters G X bits number ≡ true
        by None e fits satisfied = absurd (true≢false (sym fits))
        by (Some step) e fits satisfied =
            let parts = and_parts (truth state step.pre) (is_some step.cost) fits in
            let at = step_found number G.steps step e in
            let m = maker_of step at.0 parts.1 in
            let guards = guards_hold G.atoms go step.effects (front ++ state ∷ []) satisfied.0 bits (after state step.effects) (stepped_alike step at.0) hard m.made.guarded.guards m.made.guarded.are
            (before_front G.atoms go hard others (subst (AreBefore G.atoms go) halves is.before)) (kept_front (front ++ state ∷ []) bits hard others (subst (λ list. AreKept list (front ++ state ∷ []) bits) halves runs.kept))
            ((λ i. list_all (ground_sat ((front ++ state ∷ []) ++ state_by state (sym e i) ∷ satisfied.0)) (is.hard i)) ∙ satisfied.1) in
            let holds = m.made.guarded.holds bits ∙ and_from (truth bits step.pre) _ (same_pre step at.0 ∙ parts.0) guards in
            let turn = m.made.gadget.turn bits runs.opens holds in
            enters_with G X bits number turn.begin (record { own = in_all G weights X monitors go first last size all phase finish instances is turn.begin (m.inside turn.begin turn.own); holds = turn.fits })
            (m.made.gadget.open_counts bits runs.opens turn.begin turn.own turn.fits ∙ ap Some at.1)

    moves_by : (number : ℕ) → enters G X bits number ≡ true → Moves G weights X (IsOpen go first size) Amid Closing Runs front state bits number
    moves_by number some =
        let e = entered number some in
        let o = e.owner in
        let turn = o.made.gadget.turn bits runs.opens e.holds in
        record {
          first = turn.begin;
          rest = turn.rest;
          later = turn.later;
          fits = record { own = in_all G weights X monitors go first last size all phase finish instances is turn.begin (o.inside turn.begin turn.own); holds = turn.fits };
          counts = o.made.gadget.open_counts bits runs.opens turn.begin turn.own turn.fits ∙ ap Some e.numbered;
          asks = asks_of (front ++ state ∷ []) (stepped G weights state number) o.current o.actions o.inside (after bits turn.begin.effects) turn.rest turn.later turn.turns
              (subst (λ o. Runs (front ++ state ∷ []) (state_by state o) turn.later) (sym e.found)
              (runs_on o.step o.has_step o.made.changes o.made.riders turn.later (turns_open o.current o.actions (after bits turn.begin.effects) turn.rest turn.later turn.turns) turn.same));
          costs = turn.costs
              ∙ ap (λ n. weights.total_cost * unwrap_or o.step.cost 0 + n) (same_violation weights.by_name bits state o.step.prefs (λ pref member. truth-below G.atoms bits state runs.agrees pref.body (is.bodies o.step o.has_step pref member)))
              ∙ (λ i. step_loss G weights state (sym e.found i));
          count = turn.count ∙ (λ i. extra_by weights.by_name (sym e.found i));
        }

    -- ---- the end

    may_is : truth bits finish ≡ may_end G weights (front ++ state ∷ [])
    may_is = is.may_finish (front ++ state ∷ []) bits runs.kept (λ atom low. runs.agrees atom low ∙ ap (λ s. is_set s atom) (sym (last-next front state)))

    settled_is : violation bits instances ≡ end_loss G weights (front ++ state ∷ [])
    settled_is = is.settled (front ++ state ∷ []) bits runs.kept (λ atom low. runs.agrees atom low ∙ ap (λ s. is_set s atom) (sym (last-next front state)))

    single : IsSingleAt go phase.atoms 0 bits
    single = single_open G weights X monitors go first last size all phase finish instances is bits runs.opens

    reaches_of : (plan : List TargetAction) (from : State) → Ends phase from plan → Reaches X from plan
    reaches_of [] from goal = ap (truth from) is.goal ∙ goal
    reaches_of (action ∷ plan) from (own, fits, rest) = (in_phase G weights X monitors go first last size all phase finish instances is action own, fits, reaches_of plan (after from action.effects) rest)

    ends_lift : (plan : List TargetAction) (from : State) → Ends phase from plan → lifted G plan ≡ []
    ends_lift [] from goal = refl
    ends_lift (action ∷ plan) from (own, fits, rest) = λ i. cons_option (is.uncounted action own i) (ends_lift plan (after from action.effects) rest i)

    ends_of : (plan : List TargetAction) (from : State) → Closing from → Reaches X from plan → Ends phase from plan
    ends_of [] from closing goal = ap (truth from) (sym is.goal) ∙ goal
    ends_of (action ∷ plan) from closing (own, fits, rest) =
        let of_end = closing_of_phase G weights X monitors go first last size all phase finish instances is from closing action (record { own = own; holds = fits }) in
        (of_end, fits, ends_of plan (after from action.effects) (closing_from G weights X monitors go first last size all phase finish instances is from closing.place closing.room closing.single closing.clear action of_end fits) rest)

    whole_end : (action : TargetAction) (plan : List TargetAction) → Reaches X bits (action ∷ plan) → counted G action ≡ None → Ends phase bits (action ∷ plan)
    whole_end action plan (own, fits, rest) counts = (
      none_of_phase G weights X monitors go first last size all phase finish instances is bits runs.opens action (record { own = own; holds = fits }) counts,
      fits,
      ends_of plan (after bits action.effects) (last_on G weights X monitors go first last size all phase finish instances is bits runs.opens action (record { own = own; holds = fits }) counts) rest,
    )

    one_end : may_end G weights (front ++ state ∷ []) ≡ true → HasOneEnd phase instances bits
    one_end may = is.one_end bits single (may_is ∙ may)

    ending_is : may_end G weights (front ++ state ∷ []) ≡ true → Ending G weights X Runs front state bits
    ending_is may = record {
      plan = (one_end may).plan;
      reaches = reaches_of (one_end may).plan bits (one_end may).ends;
      lifts = ends_lift (one_end may).plan bits (one_end may).ends;
      costs = (one_end may).cost ∙ settled_is;
      count = (one_end may).steps ∙ ap (λ n. 1 + n) is.instance_count;
    }

    may_by : (action : TargetAction) (plan : List TargetAction) → Reaches X bits (action ∷ plan) → counted G action ≡ None → may_end G weights (front ++ state ∷ []) ≡ true
    may_by action plan reaches counts = by (truth bits finish) refl
      where
        by : (b : Bool) → truth bits finish ≡ b → may_end G weights (front ++ state ∷ []) ≡ true
        by true e = sym may_is ∙ e
        by false e = absurd (is.no_end bits single e (action ∷ plan) (whole_end action plan reaches counts))

    same_end : (may : may_end G weights (front ++ state ∷ []) ≡ true) (action : TargetAction) (plan : List TargetAction) → Reaches X bits (action ∷ plan) → counted G action ≡ None → action ∷ plan ≡ (ending_is may).plan
    unfolding ending_is
    same_end may action plan reaches counts = (one_end may).only (action ∷ plan) (whole_end action plan reaches counts)

  pub machine : Machine G weights X (IsOpen go first size) Amid Closing Runs
  machine = record {
    phases = phases G weights X monitors go first last size all phase finish instances is;
    begins = start;
    opens = λ front state bits runs. runs.opens;
    fits = fits_step;
    entered = enters_step;
    moves = moves_by;
    may = may_by;
    ending = ending_is;
    ends = same_end;
  }
