-- A target made of the actions of all steps and those of the end phase simulates its ground task.
use Rattle.std.proofs.Common.{◌≡◌, ◌∙◌, ◌⊎◌, inl, inr, ⊎_elim, ℕ, ◌+◌, ◌<◌, ◌≤◌, true, false, List, [], ◌∷◌, ◌++◌, length, take, refl, sym, ap, subst, arith, Option, Some, None, true≢false}
use Rattle.std.specs.Prelude.{Contains}
use Rattle.std.proofs.lemmas.Bool.{cases_eq}
use Rattle.std.proofs.lemmas.List.Elements.{Contains-append_cases, Contains-append_left, Contains-append_right}
use Rattle.p3_base.specs.Limits.{width_limit}
use Rattle.p3_formula.specs.Forms.{State, is_set, truth}
use Rattle.p3_formula.specs.Next.{after}
use Rattle.p3_formula.specs.Targets.{Fits}
use Rattle.p3_formula.specs.declared.form.Form.{Form}
use Rattle.p3_formula.specs.declared.target.Target.{Target}
use Rattle.p3_formula.specs.declared.target.TargetAction.{TargetAction}
use Rattle.p3_formula.specs.declared.target.Weights.{Weights}
use Rattle.p3_formula.specs.declared.task.GroundTask.{GroundTask}
use Rattle.p3_formula.proofs.NextLaws.{length-after}
use Rattle.p3_endphase.specs.declared.phase.EndPhase.{EndPhase}
use Rattle.p3_endphase.specs.declared.phase.SoftEnd.{SoftEnd}
use Rattle.p3_endphase.specs.Ends.{IsSingleAt}
use Rattle.p3_monitors.specs.Riders.{AreKept}
use Rattle.p3_formula.specs.Alike.{AgreeBelow}
use Rattle.p3_monitors.specs.declared.monitoring.Monitor.{Monitor}
use Rattle.p3_simulation.proofs.Walks.{counted}
use Rattle.p3_simulation.proofs.Machine.{Phases}
use Rattle.p3_simulation.specs.Gadgets.{IsOpen, IsAsking}
use Rattle.p3_simulation.proofs.Made.{IsMoveOn, moves_on, stays_clear}
use Rattle.p3_formula.proofs.FormLemmas.{truth-Atom}
pub use Rattle.p3_simulation.specs.Parts.{IsMade}
use Rattle.p3_simulation.proofs.GadgetLaws.{Owner, owner, open_one, amid_one, amid_counts, amid_next}

module _ (G : GroundTask) (weights : Weights) (X : Target) (monitors : List Monitor) (go first last size : ℕ) (all : List TargetAction) (phase : EndPhase) (finish : Form) (instances : List SoftEnd) where
  pub record Running (front : List State) (state bits : State) : Type 0 where
    pub opens : IsOpen go first size bits
    pub room : length state ≡ G.atoms
    pub agrees : AgreeBelow G.atoms bits state
    pub kept : AreKept monitors (front ++ state ∷ []) bits

  pub record IsAmid (bits : State) : Type 0 where
    pub current : ℕ
    pub asking : IsAsking go first size current bits

  pub record IsClosing (bits : State) : Type 0 where
    pub room : length bits ≡ size
    pub place : ℕ
    pub late : 0 < place
    pub single : IsSingleAt go phase.atoms place bits
    pub clear : (atom : ℕ) → first ≤ atom → is_set bits atom ≡ false

  module _ (is : IsMade G weights X monitors go first last size all phase finish instances) where
    abbrev of_phase : TargetAction → Type 0
    of_phase action = Contains phase.actions action

    count_is : phase.atoms ≡ length instances + 2
    count_is = is.phase_is.count

    pub behind_go : go < first
    behind_go = let e = is.chain in let c = count_is in omega arith

    pub far : first + width_limit < first + 201
    far = omega arith

    -- an action is of a step or of the end phase
    pub side : (action : TargetAction) → Contains X.actions action → Contains all action ⊎ of_phase action
    side action own = Contains-append_cases all phase.actions action (subst (λ actions. Contains actions action) is.actions own)

    pub in_all : (action : TargetAction) → Contains all action → Contains X.actions action
    in_all action own = subst (λ actions. Contains actions action) (sym is.actions) (Contains-append_left all phase.actions action own)

    pub in_phase : (action : TargetAction) → of_phase action → Contains X.actions action
    in_phase action own = subst (λ actions. Contains actions action) (sym is.actions) (Contains-append_right all phase.actions action own)

    move_of : (action : TargetAction) → of_phase action → IsMoveOn go phase.atoms action
    move_of action own = moves_on go phase.atoms finish instances phase.actions is.phase_is.settles count_is action own

    goal_at : (bits : State) → truth bits X.goal ≡ is_set bits (go + (1 + length instances))
    goal_at bits = ap (truth bits) (is.goal ∙ is.phase_is.reached) ∙ truth-Atom bits (go + (1 + length instances))

    -- ---- open bits

    pub single_open : (bits : State) → IsOpen go first size bits → IsSingleAt go phase.atoms 0 bits
    single_open bits opens = record {
      room = let r = is.room in let c = is.chain in let l = opens.room in omega arith;
      within = let c = count_is in omega arith;
      here = ap (is_set bits) (omega arith) ∙ opens.running;
      others = λ other low apart. opens.clear (go + other) (omega (arith, apart));
    }

    -- an action that counts as none is of the end phase
    pub none_of_phase : (bits : State) → IsOpen go first size bits → (action : TargetAction) → Fits X bits action → counted G action ≡ None → of_phase action
    none_of_phase bits opens action fits counts = ⊎_elim (λ own.
        let o = owner go first size behind_go (counted G) weights G.atoms (take (length G.hard) monitors) monitors (first + 201) last G.steps all is.gadgets action own in
        let clash : None ≡ Some o.step.number = sym counts ∙ o.made.gadget.open_counts bits opens action o.own fits.holds in absurd (cc)) (λ own. own) (side action fits.own)

    pub some_of_step : (bits : State) (action : TargetAction) → Fits X bits action → (number : ℕ) → counted G action ≡ Some number → Contains all action
    some_of_step bits action fits number counts = ⊎_elim (λ own. own) (λ own. let clash : None ≡ Some number = sym (is.uncounted action own) ∙ counts in absurd (cc)) (side action fits.own)

    open_same : (bits : State) → IsOpen go first size bits → (one other : TargetAction) → Fits X bits one → Fits X bits other → (o : Option ℕ) → counted G one ≡ o → counted G other ≡ o → one ≡ other
    open_same bits opens one other fits fit None counts count =
        is.one_fits bits 0 (single_open bits opens) one other (none_of_phase bits opens one fits counts) (none_of_phase bits opens other fit count) fits.holds fit.holds
    open_same bits opens one other fits fit (Some number) counts count =
        open_one go first size behind_go (counted G) weights G.atoms (take (length G.hard) monitors) monitors 0 (first + 201) last G.steps all is.gadgets is.rising bits opens one other (some_of_step bits one fits number counts) (some_of_step bits other fit number count) fits.holds fit.holds number counts count

    step_on : (bits : State) → IsOpen go first size bits → (action : TargetAction) → Contains all action → truth bits action.pre ≡ true → IsOpen go first size (after bits action.effects) ⊎ IsAmid (after bits action.effects)
    step_on bits opens action own holds =
        let o = owner go first size behind_go (counted G) weights G.atoms (take (length G.hard) monitors) monitors (first + 201) last G.steps all is.gadgets action own in
        ⊎_elim (λ open_again. inl open_again) (λ asking. inr (record { current = o.current; asking = asking })) (o.made.gadget.open_next bits opens action o.own holds)

    pub closing_from : (bits : State) (place : ℕ) → length bits ≡ size → IsSingleAt go phase.atoms place bits → ((atom : ℕ) → first ≤ atom → is_set bits atom ≡ false)
        → (action : TargetAction) → of_phase action → truth bits action.pre ≡ true → IsClosing (after bits action.effects)
    closing_from bits place room single clear action own holds = record {
      room = length-after bits action.effects ∙ room;
      place = place + 1;
      late = omega arith;
      single = is.moves_on bits place single action own holds;
      clear = λ atom high. stays_clear go phase.atoms bits action (move_of action own) atom (let c = is.chain in omega (arith, high)) ∙ clear atom high;
    }

    pub last_on : (bits : State) → IsOpen go first size bits → (action : TargetAction) → Fits X bits action → counted G action ≡ None → IsClosing (after bits action.effects)
    last_on bits opens action fits counts =
        closing_from bits 0 opens.room (single_open bits opens) (λ atom high. opens.clear atom (let b = behind_go in omega (arith, high))) action (none_of_phase bits opens action fits counts) fits.holds

    -- ---- the middle of a step

    amid_of_step : (bits : State) → (amid : IsAmid bits) → (action : TargetAction) → Fits X bits action → Contains all action
    amid_of_step bits amid action fits = ⊎_elim (λ own. own) (λ own.
        let move = move_of action own in absurd (true≢false (sym (move.guarded bits fits.holds) ∙ amid_clear bits amid move.place move.within))) (side action fits.own)
      where
        by : (bits : State) (amid : IsAmid bits) (place : ℕ) → place + 1 < phase.atoms → (place ≡ 0) ⊎ (place ≡ 0 → ⊥) → is_set bits (go + place) ≡ false
        by bits amid place within (inl zero_place) = ap (is_set bits) (omega (arith, zero_place)) ∙ amid.asking.stopped
        by bits amid place within (inr later) =
            let c = is.chain in let b = amid.asking.behind in
            amid.asking.clear (go + place) (omega (arith, later)) (λ same. omega (arith, same, c, b, within)) (λ same. omega (arith, same, c, within))

        amid_clear : (bits : State) (amid : IsAmid bits) (place : ℕ) → place + 1 < phase.atoms → is_set bits (go + place) ≡ false
        amid_clear bits amid place within = by bits amid place within (cases_eq place 0)

    -- ---- the end phase

    pub closing_of_phase : (bits : State) → IsClosing bits → (action : TargetAction) → Fits X bits action → of_phase action
    closing_of_phase bits closing action fits = ⊎_elim (λ own. absurd (stuck (owner go first size behind_go (counted G) weights G.atoms (take (length G.hard) monitors) monitors (first + 201) last G.steps all is.gadgets action own))) (λ own. own) (side action fits.own)
      where
        no_go : is_set bits go ≡ true → ⊥
        no_go set =
            let l = closing.late in let c = count_is in
            true≢false (sym set ∙ ap (is_set bits) (omega arith) ∙ closing.single.others 0 (omega arith) (λ same. omega (arith, same)))

        stuck : Owner go first size behind_go (counted G) weights G.atoms (take (length G.hard) monitors) monitors (first + 201) G.steps all action → ⊥
        stuck o = ⊎_elim no_go (λ set. ⊎_elim (λ same. no_go (ap (is_set bits) (sym same) ∙ set)) (λ low. true≢false (sym set ∙ closing.clear o.current (omega (arith, low)))) o.located) (o.made.gadget.guarded bits action o.own fits.holds)

    pub phases : Phases G X (IsOpen go first size) IsAmid IsClosing
    phases = record {
      begins = is.begins;
      open_goal = λ bits opens goal. true≢false (sym goal ∙ goal_at bits ∙ opens.clear (go + (1 + length instances)) (omega arith));
      open_one = λ bits opens one other fits fit same. open_same bits opens one other fits fit (counted G other) same refl;
      open_next = λ bits opens action fits number counts. step_on bits opens action (some_of_step bits action fits number counts) fits.holds;
      open_last = last_on;
      amid_goal = λ bits amid goal. amid_no_goal bits amid goal;
      amid_one = λ bits amid one other fits fit.
          amid_one go first size behind_go (counted G) weights G.atoms (take (length G.hard) monitors) monitors amid.current bits amid.asking (first + 201) last far G.steps all is.gadgets one other (amid_of_step bits amid one fits) (amid_of_step bits amid other fit) fits.holds fit.holds;
      amid_none = λ bits amid action fits.
          amid_counts go first size behind_go (counted G) weights G.atoms (take (length G.hard) monitors) monitors amid.current bits amid.asking (first + 201) last far G.steps all is.gadgets action (amid_of_step bits amid action fits) fits.holds;
      amid_next = λ bits amid action fits.
          ⊎_elim (λ opens. inl opens) (λ asking. inr (record { current = amid.current; asking = asking }))
          (amid_next go first size behind_go (counted G) weights G.atoms (take (length G.hard) monitors) monitors amid.current bits amid.asking (first + 201) last far G.steps all is.gadgets action (amid_of_step bits amid action fits) fits.holds);
      closing_one = λ bits closing one other fits fit. is.one_fits bits closing.place closing.single one other (closing_of_phase bits closing one fits) (closing_of_phase bits closing other fit) fits.holds fit.holds;
      closing_none = λ bits closing action fits. is.uncounted action (closing_of_phase bits closing action fits);
      closing_next = λ bits closing action fits. closing_from bits closing.place closing.room closing.single closing.clear action (closing_of_phase bits closing action fits) fits.holds;
    }
      where
        amid_no_goal : (bits : State) → IsAmid bits → truth bits X.goal ≡ true → ⊥
        amid_no_goal bits amid goal =
            let c = is.chain in let n = count_is in let b = amid.asking.behind in
            true≢false (sym goal ∙ goal_at bits ∙ amid.asking.clear (go + (1 + length instances)) (omega arith) (λ same. omega (arith, same, c, n, b)) (λ same. omega (arith, same, c, n)))
