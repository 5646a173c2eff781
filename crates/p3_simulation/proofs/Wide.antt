-- The chain of a wide step: from open bits one list of its actions leads to open bits again.
use Rattle.std.proofs.Common.{◌≡◌, ◌∙◌, ◌≢◌, ◌⊎◌, inl, inr, ⊎_elim, ℕ, ◌+◌, ◌-◌, ◌<◌, ◌≤◌, nat_le, Bool, true, false, ◌&&◌, ◌||◌, cond, List, [], ◌∷◌, ◌++◌, length, sum_by, refl, sym, ap, subst, arith, Option, Some, None, true≢false}
use Rattle.std.specs.Prelude.{◌==◌, Contains, codes, decimal}
use Rattle.std.specs.List.{list_all}
use Rattle.std.proofs.lemmas.Bool.{and_parts, and_from, cases_eq, eqb-true, leb-true, le-leb, or_cases, or_from, or_left, or_right, eq-eqb, ne_eqb, lt-ltb}
use Rattle.std.proofs.lemmas.List.Elements.{All-contains, Contains-append_cases}
use Rattle.std.proofs.lemmas.List.Sums.{sum_by-cons}
use Rattle.p3_base.specs.Copies.{copy_name, extra_of, question_name}
use Rattle.p3_base.specs.Limits.{width_limit}
use Rattle.p3_base.specs.Words.{Name}
use Rattle.p3_formula.specs.Conditions.{is_step_below}
use Rattle.p3_formula.specs.Forms.{State, is_set, truth}
use Rattle.p3_formula.specs.Guards.{is_changed}
use Rattle.p3_formula.specs.Next.{after}
use Rattle.p3_formula.specs.Targets.{is_sized_change}
use Rattle.p3_formula.specs.Weighted.{weighted, width_of}
use Rattle.p3_formula.specs.declared.form.Change.{Change}
use Rattle.p3_formula.specs.declared.modal.GroundPref.{GroundPref}
use Rattle.p3_formula.specs.declared.target.TargetAction.{TargetAction}
use Rattle.p3_formula.specs.declared.target.Weights.{Weights}
use Rattle.p3_formula.specs.declared.task.GroundStep.{GroundStep}
use Rattle.p3_formula.proofs.NextLaws.{length-after, is_set-unchanged}
use Rattle.p3_formula.proofs.TurnLaws.{unnamed_above}
use Rattle.p3_precprefs.specs.Questions as asked
use Rattle.p3_precprefs.specs.Questions.{IsChain, Returns, Last, More, AreAnswers, is_own, changes_own}
use Rattle.p3_precprefs.proofs.ChainLaws.{chain_one_way, chain_no_way, chain_guarded, chain_one_fits, chain_stays_proper}
use Rattle.p3_precprefs.proofs.ChainAtoms.{chain_changes}
use Rattle.p3_simulation.proofs.Walks.{head_or_tail, in_none}
use Rattle.p3_simulation.specs.Gadgets.{IsOpen, IsAsking, Turns, Back, On, Turn, IsGadget}

module _ (go first size current : ℕ) (behind : go < first) (far : first + width_limit < current) (room : current < size) where
  -- ---- the chain's own bits, and the others

  -- behind the running atom no other atoms than the chain's own are set
  pub record IsQuiet (bits : State) : Type 0 where
    pub long : length bits ≡ size
    pub clear : (atom : ℕ) → go < atom → is_own go first current atom ≡ false → is_set bits atom ≡ false

  pub data Place (atom : ℕ) : Type 0 where
    IsGo : atom ≡ go → Place atom
    IsCurrent : atom ≡ current → Place atom
    IsQuestion : (place : ℕ) → place ≤ width_limit → atom ≡ first + place → Place atom

  place_of : (atom : ℕ) → is_own go first current atom ≡ true → Place atom
  place_of atom own = ⊎_elim (λ is. IsGo (sym (eqb-true go atom is)))
      (λ rest. ⊎_elim (λ is. IsCurrent (sym (eqb-true current atom is)))
      (λ between. let both = and_parts (nat_le first atom) _ between in let low = leb-true first atom both.0 in let high = leb-true atom (first + width_limit) both.1 in
      IsQuestion (atom - first) (omega (arith, low, high)) (omega (arith, low, high)))
      (or_cases (current == atom) _ rest)) (or_cases (go == atom) _ own)

  own_current : is_own go first current current ≡ true
  own_current = or_right (go == current) _ (or_left (current == current) _ (eq-eqb current current refl))

  own_question : (place : ℕ) → place ≤ width_limit → is_own go first current (first + place) ≡ true
  own_question place small = or_right (go == (first + place)) _ (or_right (current == (first + place)) _
      (and_from _ _ (le-leb first (first + place) (omega arith)) (le-leb (first + place) (first + width_limit) (omega (arith, small)))))

  module _ (bits : State) where
    opened : IsOpen go first size bits → asked.IsOpen go first current bits
    opened opens = record {
      room = let l = opens.room in omega (arith, l, room);
      running = opens.running;
      idle = opens.clear current (omega (arith, behind, far));
      quiet = λ place small. opens.clear (first + place) (omega (arith, behind));
    }

    open_quiet : IsOpen go first size bits → IsQuiet bits
    open_quiet opens = record { long = opens.room; clear = λ atom high other. opens.clear atom high }

    to_open : IsQuiet bits → asked.IsOpen go first current bits → IsOpen go first size bits
    to_open quiet opens = record { room = quiet.long; running = opens.running; clear = λ atom high. by atom high (is_own go first current atom) refl }
      where
        at : (atom : ℕ) → go < atom → Place atom → is_set bits atom ≡ false
        at atom high (IsGo is) = absurd (omega (arith, high, is))
        at atom high (IsCurrent is) = ap (is_set bits) is ∙ opens.idle
        at atom high (IsQuestion place small is) = ap (is_set bits) is ∙ opens.quiet place small

        by : (atom : ℕ) → go < atom → (b : Bool) → is_own go first current atom ≡ b → is_set bits atom ≡ false
        by atom high true own = at atom high (place_of atom own)
        by atom high false other = quiet.clear atom high other

    module _ (asking : IsAsking go first size current bits) where
      asks_too : asked.IsAsking go first current asking.question bits
      asks_too = record {
        room = let l = asking.room in omega (arith, l, room);
        within = asking.within;
        stopped = asking.stopped;
        asked = asking.asked;
        asks = λ place small. at place small (cases_eq place asking.question);
      }
        where
          at : (place : ℕ) → place ≤ width_limit → (place ≡ asking.question) ⊎ (place ≡ asking.question → ⊥) → is_set bits (first + place) ≡ (place == asking.question)
          at place small (inl same) = ap (λ n. is_set bits (first + n)) same ∙ asking.asks ∙ sym (eq-eqb place asking.question same)
          at place small (inr differ) = asking.clear (first + place) (omega (arith, behind)) (λ same. omega (arith, same, small, far)) (λ same. differ (omega (arith, same))) ∙ sym (ne_eqb place asking.question differ)

      asking_quiet : IsQuiet bits
      asking_quiet = record {
        long = asking.room;
        clear = λ atom high other. asking.clear atom high
            (λ same. true≢false (sym own_current ∙ ap (is_own go first current) (sym same) ∙ other))
            (λ same. true≢false (sym (own_question asking.question asking.within) ∙ ap (is_own go first current) (sym same) ∙ other));
      }

    to_asking : IsQuiet bits → (question : ℕ) → asked.IsAsking go first current question bits → IsAsking go first size current bits
    to_asking quiet question asking = record {
      room = quiet.long;
      stopped = asking.stopped;
      behind = far;
      asked = asking.asked;
      question = question;
      within = asking.within;
      asks = asking.asks question asking.within ∙ eq-eqb question question refl;
      clear = λ atom high no_current no_question. by atom high no_current no_question (is_own go first current atom) refl;
    }
      where
        at : (atom : ℕ) → go < atom → atom ≢ current → atom ≢ first + question → Place atom → is_set bits atom ≡ false
        at atom high no_current no_question (IsGo is) = absurd (omega (arith, high, is))
        at atom high no_current no_question (IsCurrent is) = absurd (no_current is)
        at atom high no_current no_question (IsQuestion place small is) = ap (is_set bits) is ∙ asking.asks place small ∙ ne_eqb place question (λ same. no_question (omega (arith, same, is)))

        by : (atom : ℕ) → go < atom → atom ≢ current → atom ≢ first + question → (b : Bool) → is_own go first current atom ≡ b → is_set bits atom ≡ false
        by atom high no_current no_question true own = at atom high no_current no_question (place_of atom own)
        by atom high no_current no_question false other = quiet.clear atom high other

    proper_on : IsQuiet bits → asked.IsProper go first current bits → IsOpen go first size bits ⊎ IsAsking go first size current bits
    proper_on quiet (inl opens) = inl (to_open quiet opens)
    proper_on quiet (inr (question, asking)) = inr (to_asking quiet question asking)

  -- ---- the chain

  module _ (counted : TargetAction → Option ℕ) (weights : Weights) (step : GroundStep) (effects wanted : List Change) (actions : List TargetAction)
      (many : 8 < width_of weights.by_name step) (few : width_of weights.by_name step ≤ width_limit) (step_below : is_step_below go step ≡ true) (chain : IsChain go first current weights step effects actions)
      (below : list_all (is_sized_change go) effects ≡ true) (does : (state : State) → truth state step.pre ≡ true → after state effects ≡ after state wanted)
      (counts : (action : TargetAction) (rest : Name) → action.name ≡ copy_name step.number rest → counted action ≡ Some step.number)
      (uncounted : (action : TargetAction) (rest : Name) → action.name ≡ question_name step.number rest → counted action ≡ None) where
    -- an action leaves the other bits as they are
    unchanged : (list : List Change) → list_all (λ (change : Change). is_own go first current change.atom || is_changed effects change.atom) list ≡ true → (atom : ℕ) → is_own go first current atom ≡ false → is_changed effects atom ≡ false → is_changed list atom ≡ false
    unchanged [] all atom other none = refl
    unchanged (change ∷ list) all atom other none =
        let parts = and_parts (is_own go first current change.atom || is_changed effects change.atom) _ all in
        or_from (change.atom == atom) (is_changed list atom) (ne_eqb change.atom atom (λ same. true≢false (sym parts.0 ∙ (λ i. is_own go first current (same i) || is_changed effects (same i)) ∙ or_from _ _ other none)))
        (unchanged list parts.1 atom other none)

    quiet_after : (bits : State) → IsQuiet bits → (action : TargetAction) → Contains actions action → IsQuiet (after bits action.effects)
    quiet_after bits quiet action own = record {
      long = length-after bits action.effects ∙ quiet.long;
      clear = λ atom high other. is_set-unchanged bits action.effects atom
          (unchanged action.effects (All-contains (λ (a : TargetAction). changes_own go first current effects a ≡ true) actions action (chain_changes go first current weights step effects few actions chain) own) atom other (unnamed_above go effects atom below (omega (arith, high))))
          ∙ quiet.clear atom high other;
    }

    proper_after : (bits : State) → asked.IsProper go first current bits → (action : TargetAction) → Contains actions action → truth bits action.pre ≡ true → asked.IsProper go first current (after bits action.effects)
    proper_after bits proper action own fits = chain_stays_proper go first current weights step effects behind far below few actions chain bits proper action own fits

    one_proper : (bits : State) → asked.IsProper go first current bits → (one other : TargetAction) → Contains actions one → Contains actions other → truth bits one.pre ≡ true → truth bits other.pre ≡ true → one ≡ other
    one_proper = chain_one_fits go first current weights step effects behind far below few actions chain

    next : (bits : State) → IsQuiet bits → asked.IsProper go first current bits → (action : TargetAction) → Contains actions action → truth bits action.pre ≡ true
        → IsOpen go first size (after bits action.effects) ⊎ IsAsking go first size current (after bits action.effects)
    next bits quiet proper action own fits = proper_on (after bits action.effects) (quiet_after bits quiet action own) (proper_after bits proper action own fits)

    -- ---- which action it is

    place_in : (action : TargetAction) → Contains actions action → (chain.begin ≡ action) ⊎ Contains (chain.answers ++ chain.ending ∷ []) action
    place_in action own = head_or_tail chain.begin (chain.answers ++ chain.ending ∷ []) action (subst (λ list. Contains list action) chain.are own)

    begin_shows : (bits : State) (action : TargetAction) → chain.begin ≡ action → truth bits action.pre ≡ true → is_set bits go ≡ true
    begin_shows bits action is fits =
        let both = and_parts (is_set bits go && true) (truth bits step.pre) (sym (chain.begins.fits bits) ∙ ap (λ (a : TargetAction). truth bits a.pre) is ∙ fits) in
        (and_parts (is_set bits go) true both.0).0

    others_show : (bits : State) (action : TargetAction) → Contains (chain.answers ++ chain.ending ∷ []) action → truth bits action.pre ≡ true → is_set bits current ≡ true
    others_show bits action own fits =
        let guarded = chain_guarded go first current weights step effects behind far below few actions chain in
        let whole : guarded.begin ∷ guarded.others ≡ chain.begin ∷ (chain.answers ++ chain.ending ∷ []) = sym guarded.are ∙ chain.are in
        let same : guarded.others ≡ chain.answers ++ chain.ending ∷ [] = cc in
        guarded.need_current bits action (subst (λ list. Contains list action) (sym same) own) fits

    begin_open : (bits : State) → IsOpen go first size bits → (action : TargetAction) → Contains actions action → truth bits action.pre ≡ true → chain.begin ≡ action
    begin_open bits opens action own fits = ⊎_elim (λ is. is) (λ other. absurd (true≢false (sym (others_show bits action other fits) ∙ opens.clear current (omega (arith, behind, far))))) (place_in action own)

    other_asking : (bits : State) → IsAsking go first size current bits → (action : TargetAction) → Contains actions action → truth bits action.pre ≡ true → Contains (chain.answers ++ chain.ending ∷ []) action
    other_asking bits asking action own fits = ⊎_elim (λ is. absurd (true≢false (sym (begin_shows bits action is fits) ∙ asking.stopped))) (λ other. other) (place_in action own)

    none_of_answers : (place : ℕ) (prefs : List GroundPref) (answers : List TargetAction) → AreAnswers first current step.number weights.by_name place prefs answers → (action : TargetAction) → Contains answers action → counted action ≡ None
    none_of_answers place [] [] are action own = in_none action own
    none_of_answers place [] (other ∷ answers) are action own = absurd are
    none_of_answers place (pref ∷ prefs) [] are action own = absurd are
    none_of_answers place (pref ∷ prefs) (one ∷ []) are action own = absurd are
    none_of_answers place (pref ∷ prefs) (agree ∷ deny ∷ answers) are action own = elim (head_or_tail agree (deny ∷ answers) action own) [
      | inl is ↦ uncounted action (codes "y" ++ decimal place) (ap (λ (a : TargetAction). a.name) (sym is) ∙ are.0.has_name)
      | inr more ↦ elim (head_or_tail deny answers action more) [
        | inl is ↦ uncounted action (codes "n" ++ decimal place) (ap (λ (a : TargetAction). a.name) (sym is) ∙ are.1.has_name)
        | inr later ↦ none_of_answers (place + 1) prefs answers are.2 action later
      ]
    ]

    none_of_others : (action : TargetAction) → Contains (chain.answers ++ chain.ending ∷ []) action → counted action ≡ None
    none_of_others action own = elim (Contains-append_cases chain.answers (chain.ending ∷ []) action own) [
      | inl answer ↦ none_of_answers 0 (weighted weights.by_name step.prefs) chain.answers chain.asks action answer
      | inr last ↦ elim (head_or_tail chain.ending [] action last) [
        | inl is ↦ uncounted action (codes "end") (ap (λ (a : TargetAction). a.name) (sym is) ∙ chain.ends.has_name)
        | inr none ↦ in_none action none
      ]
    ]

    -- ---- the one way

    pub record Led (bits : State) (way : List TargetAction) (later : State) : Type 0 where
      pub begin : TargetAction
      pub rest : List TargetAction
      pub is : way ≡ begin ∷ rest
      pub own : Contains actions begin
      pub fits : truth bits begin.pre ≡ true
      pub turns : Turns go first size current actions (after bits begin.effects) rest later

    set_open : (bits : State) → IsOpen go first size bits ⊎ IsAsking go first size current bits → is_set bits go ≡ true → IsOpen go first size bits
    set_open bits (inl opens) set = opens
    set_open bits (inr asking) set = absurd (true≢false (sym set ∙ asking.stopped))

    unset_asking : (bits : State) → IsOpen go first size bits ⊎ IsAsking go first size current bits → is_set bits go ≡ false → IsAsking go first size current bits
    unset_asking bits (inl opens) unset = absurd (true≢false (sym opens.running ∙ unset))
    unset_asking bits (inr asking) unset = asking

    led : (bits : State) (way : List TargetAction) (later : State) → Returns go actions bits way later → IsQuiet bits → asked.IsProper go first current bits → Led bits way later
    led bits way later (Last _ action own fits set) quiet proper = record {
      begin = action;
      rest = [];
      is = refl;
      own = own;
      fits = fits;
      turns = Back (after bits action.effects) (set_open (after bits action.effects) (next bits quiet proper action own fits) set);
    }
    led bits way later (More _ action plan _ own fits unset more) quiet proper =
        let rest = led (after bits action.effects) plan later more (quiet_after bits quiet action own) (proper_after bits proper action own fits) in
        let asking = unset_asking (after bits action.effects) (next bits quiet proper action own fits) unset in
        record {
          begin = action;
          rest = plan;
          is = refl;
          own = own;
          fits = fits;
          turns = subst (λ list. Turns go first size current actions (after bits action.effects) list later) (sym rest.is) (On (after bits action.effects) rest.begin rest.rest later asking rest.own rest.fits rest.turns);
        }

    wide : extra_of (width_of weights.by_name step) ≡ width_of weights.by_name step + 1
    wide = ap (λ b. cond b (width_of weights.by_name step + 1) 0) (lt-ltb 8 (width_of weights.by_name step) many)

    turned : (bits : State) → IsOpen go first size bits → truth bits step.pre ≡ true → Turn go first size weights step wanted current actions bits
    turned bits opens fits =
        let one = chain_one_way go first current weights step effects behind far below few actions chain step_below bits (opened bits opens) fits in
        let way = led bits one.way (after bits effects) one.returns (open_quiet bits opens) (inl (opened bits opens)) in
        record {
          begin = way.begin;
          rest = way.rest;
          later = after bits effects;
          own = way.own;
          fits = way.fits;
          turns = way.turns;
          same = λ atom low. ap (λ s. is_set s atom) (does bits fits);
          costs = sym (sum_by-cons (λ (action : TargetAction). action.cost) way.begin way.rest) ∙ ap (sum_by (λ (action : TargetAction). action.cost)) (sym way.is) ∙ one.costs;
          count = (let c = one.count in let l = ap length way.is in omega (arith, c, l)) ∙ sym wide;
        }

    open_fits : (bits : State) → IsOpen go first size bits → (action : TargetAction) → Contains actions action → truth bits action.pre ≡ true → truth bits step.pre ≡ true
    open_fits bits opens action own fits = by (truth bits step.pre) refl
      where
        by : (b : Bool) → truth bits step.pre ≡ b → truth bits step.pre ≡ true
        by true e = e
        by false e = absurd (true≢false (sym fits ∙ All-contains (λ (a : TargetAction). truth bits a.pre ≡ false) actions action (chain_no_way go first current weights step effects behind far below few actions chain bits (opened bits opens) e) own))

    pub asks_turn : IsGadget go first size counted weights step step.pre wanted current actions
    asks_turn = record {
      guarded = λ bits action own fits. ⊎_elim (λ is. inl (begin_shows bits action is fits)) (λ other. inr (others_show bits action other fits)) (place_in action own);
      open_one = λ bits opens one other. one_proper bits (inl (opened bits opens)) one other;
      open_fits = open_fits;
      open_counts = λ bits opens action own fits. counts action [] (ap (λ (a : TargetAction). a.name) (sym (begin_open bits opens action own fits)) ∙ chain.begins.has_name);
      open_next = λ bits opens. next bits (open_quiet bits opens) (inl (opened bits opens));
      amid_one = λ bits asking one other. one_proper bits (inr (asking.question, asks_too bits asking)) one other;
      amid_counts = λ bits asking action own fits. none_of_others action (other_asking bits asking action own fits);
      amid_next = λ bits asking. next bits (asking_quiet bits asking) (inr (asking.question, asks_too bits asking));
      turn = turned;
    }
