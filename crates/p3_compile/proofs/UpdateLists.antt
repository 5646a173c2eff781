-- The changes of monitors that a step touches, one monitor after another.
use Rattle.std.proofs.Common.{◌≡◌, ◌∙◌, ◌⊎◌, inl, inr, ℕ, zero, suc, ◌+◌, ◌-◌, ◌*◌, ◌<◌, ◌≤◌, nat_le, nat_lt, Bool, true, false, cond, List, [], ◌∷◌, ◌++◌, length, take, get_or, refl, sym, ap, subst, arith, append_assoc, length-append}
use Rattle.std.specs.Prelude.{Contains, count_by, slice_index_or}
use Rattle.std.specs.List.{list_all}
use Rattle.std.proofs.lemmas.Bool.{and_parts, and_from, ltb-true, lt-ltb, cases_lt, false_from_ne_true}
use Rattle.std.proofs.lemmas.List.{append-nil, get_or_default, take_all, take_more}
use Rattle.std.proofs.lemmas.List.Elements.{All-get_or}
use Rattle.std.proofs.lemmas.List.Folds.{list_all-append}
use Rattle.std.proofs.lemmas.List.Sums.{sum_by-cons, sum_by-append}
use Rattle.p3_formula.specs.Forms.{has_atoms}
use Rattle.p3_formula.specs.Kept.{atom_count, is_own}
use Rattle.p3_formula.specs.Modals.{touches}
use Rattle.p3_base.specs.Operators.{formulas_of}
use Rattle.p3_formula.specs.Targets.{is_sized_change}
use Rattle.p3_formula.specs.declared.form.Change.{Change}
use Rattle.p3_formula.specs.declared.form.Form.{Form}
use Rattle.p3_formula.specs.GroundModal.{GroundModal}
use Rattle.p3_base.specs.declared.operator.Operator.TheVariants.{AtEnd, Always, Sometime, AtMostOnce, SometimeAfter, SometimeBefore}
use Rattle.p3_formula.proofs.ReadAtoms.{all_have_more_of}
use Rattle.p3_monitors.specs.KeepsOn.{AreOwn, HasConditions, HasNone, KeepsOn}
use Rattle.p3_monitors.specs.declared.monitoring.Monitor.{Monitor}
use Rattle.p3_monitors.proofs.UpdateLaws.{at_end_update}
use Rattle.p3_simulation.specs.Parts.{AreBefore}
use Rattle.p3_simulation.specs.Monitoring.{AreUpdates, NoMore, Untouched, Touched}
use Rattle.p3_simulation.proofs.Bounds.{all_weaker, below_more}
use Rattle.p3_compile.specs.Updated.{AreApart, AreSimpler, AreTouched, HasChanges, HasMade, HasUpdate, HasUpdates, HasOwnAtoms, busy_count}
use Rattle.p3_compile.specs.Lean.{is_busy}

module _ (step : List Change) where
  updates-append : (monitors others : List Monitor) (updates more : List Change) → AreUpdates step monitors updates → AreUpdates step others more → AreUpdates step (monitors ++ others) (updates ++ more)
  updates-append [] others updates more NoMore later = later
  updates-append (monitor ∷ monitors) others updates more (Untouched _ _ _ untouched rest) later = Untouched monitor (monitors ++ others) (updates ++ more) untouched (updates-append monitors others updates more rest later)
  updates-append (monitor ∷ monitors) others updates more (Touched _ _ own rest is_own keeps are) later =
      subst (AreUpdates step (monitor ∷ (monitors ++ others))) (sym (append_assoc own rest more))
      (Touched monitor (monitors ++ others) own (rest ++ more) is_own keeps (updates-append monitors others rest more are later))

  -- what is known of the changes of some monitors
  pub record Counted (monitors : List Monitor) (updates : List Change) : Type 0 where
    pub watched : AreUpdates step monitors updates
    pub few : length updates ≤ 2 * busy_count step monitors
    pub atoms : HasOwnAtoms step monitors updates

  pub before_front : (sources bound : ℕ) (monitors others : List Monitor) → AreBefore sources bound (monitors ++ others) → AreBefore sources bound monitors
  before_front sources bound [] others before = tt
  before_front sources bound (monitor ∷ monitors) others before = (before.0, before.1, before_front sources bound monitors others before.2)

  pub before_back : (sources bound : ℕ) (monitors others : List Monitor) → AreBefore sources bound (monitors ++ others) → AreBefore sources bound others
  before_back sources bound [] others before = before
  before_back sources bound (monitor ∷ monitors) others before = before_back sources bound monitors others before.2

  counted-append : (monitors others : List Monitor) (updates more : List Change) → Counted monitors updates → Counted others more → Counted (monitors ++ others) (updates ++ more)
  counted-append monitors others updates more has later = record {
    watched = updates-append monitors others updates more has.watched later.watched;
    few = let l = length-append updates more in let s = sum_by-append (λ (monitor : Monitor). cond (is_busy step monitor.modal) 1 0) monitors others in let a = has.few in let b = later.few in omega (arith, l, s, a, b);
    atoms = record {
      inside = λ sources bound wider before sized.
          list_all-append (is_sized_change bound) updates more
          ∙ and_from (list_all (is_sized_change bound) updates) _ (has.atoms.inside sources bound wider (before_front sources bound monitors others before) sized) (later.atoms.inside sources bound wider (before_back sources bound monitors others before) sized);
    };
  }

  none_counted : Counted [] []
  none_counted = record { watched = NoMore; few = omega arith; atoms = record { inside = λ sources bound wider before sized. refl } }

  -- ---- a monitor that is not busy

  quiet : (monitor : Monitor) → HasNone (is_own monitor.base monitor.modal) step → is_busy step monitor.modal ≡ false → AreUpdates step (monitor ∷ []) []
  quiet monitor apart idle = by monitor.modal refl idle
    where
      by : (modal : GroundModal) → monitor.modal ≡ modal → is_busy step modal ≡ false → AreUpdates step (monitor ∷ []) []
      by (AtEnd f) same none = at_end (touches monitor.modal step) refl
        where
          keeps : KeepsOn monitor.base monitor.modal step []
          keeps = subst (λ modal. KeepsOn monitor.base modal step []) (sym same)
              ((at_end_update monitor.base step f (subst (λ modal. list_all (has_atoms (λ atom. nat_lt atom monitor.base)) (formulas_of modal) ≡ true) same monitor.below)).kept (subst (λ modal. HasNone (is_own monitor.base modal) step) same apart))

          at_end : (b : Bool) → touches monitor.modal step ≡ b → AreUpdates step (monitor ∷ []) []
          at_end false e = Untouched monitor [] [] e NoMore
          at_end true e = Touched monitor [] [] [] refl keeps NoMore
      by (Always f) same none = Untouched monitor [] [] (ap (λ modal. touches modal step) same ∙ none) NoMore
      by (Sometime f) same none = Untouched monitor [] [] (ap (λ modal. touches modal step) same ∙ none) NoMore
      by (AtMostOnce f) same none = Untouched monitor [] [] (ap (λ modal. touches modal step) same ∙ none) NoMore
      by (SometimeAfter f g) same none = Untouched monitor [] [] (ap (λ modal. touches modal step) same ∙ none) NoMore
      by (SometimeBefore f g) same none = Untouched monitor [] [] (ap (λ modal. touches modal step) same ∙ none) NoMore

  quiet_counted : (monitor : Monitor) → HasNone (is_own monitor.base monitor.modal) step → is_busy step monitor.modal ≡ false → Counted (monitor ∷ []) []
  quiet_counted monitor apart idle = record { watched = quiet monitor apart idle; few = omega arith; atoms = record { inside = λ sources bound wider before sized. refl } }

  -- ---- a monitor that is busy

  both_tests : (bound : ℕ) (changes : List Change) → list_all (λ (change : Change). nat_lt change.atom bound) changes ≡ true → list_all (λ (change : Change). has_atoms (λ atom. nat_lt atom bound) change.cond) changes ≡ true → list_all (is_sized_change bound) changes ≡ true
  both_tests bound [] low read = refl
  both_tests bound (change ∷ changes) low read =
      let first = and_parts (nat_lt change.atom bound) _ low in
      let second = and_parts (has_atoms (λ atom. nat_lt atom bound) change.cond) _ read in
      and_from (is_sized_change bound change) _ (and_from (nat_lt change.atom bound) _ first.0 second.0) (both_tests bound changes first.1 second.1)

  -- the monitor's own atoms, those of its constraint and those of the step's conditions are below a number
  pub record IsInside (monitor : Monitor) (bound : ℕ) : Type 0 where
    pub own : (atom : ℕ) → is_own monitor.base monitor.modal atom ≡ true → nat_lt atom bound ≡ true
    pub modal : list_all (has_atoms (λ atom. nat_lt atom bound)) (formulas_of monitor.modal) ≡ true
    pub conds : list_all (λ (change : Change). has_atoms (λ atom. nat_lt atom bound) change.cond) step ≡ true

  pub parts_inside : (monitor : Monitor) (others : List Monitor) (sources bound : ℕ) → sources ≤ bound → AreBefore sources bound (monitor ∷ others) → list_all (is_sized_change sources) step ≡ true → IsInside monitor bound
  parts_inside monitor others sources bound wider before sized = record {
    own = λ atom is. let end = ltb-true atom (monitor.base + atom_count monitor.modal) (and_parts (nat_le monitor.base atom) _ is).1 in let most = before.1 in lt-ltb atom bound (omega (arith, end, most));
    modal = all_have_more_of (λ atom. nat_lt atom sources) (λ atom. nat_lt atom bound) (λ atom low. let l = ltb-true atom sources low in lt-ltb atom bound (omega (arith, l, wider))) (formulas_of monitor.modal) before.0;
    conds = all_weaker (is_sized_change sources) (λ (change : Change). has_atoms (λ atom. nat_lt atom bound) change.cond) (λ change is. below_more sources bound wider change.cond (and_parts (nat_lt change.atom sources) _ is).1) step sized;
  }

  busy_counted : (monitor : Monitor) (updates : List Change) → AreOwn monitor.base monitor.modal updates → KeepsOn monitor.base monitor.modal step updates → length updates ≤ 2 → HasConditions monitor.base monitor.modal step updates
      → is_busy step monitor.modal ≡ true → Counted (monitor ∷ []) updates
  busy_counted monitor updates own keeps few reads busy = record {
    watched = subst (AreUpdates step (monitor ∷ [])) (append-nil updates) (Touched monitor [] updates [] own keeps NoMore);
    few = let one = sum_by-cons (λ (monitor : Monitor). cond (is_busy step monitor.modal) 1 0) monitor [] ∙ ap (λ b. cond b 1 0 + count_by (λ (monitor : Monitor). is_busy step monitor.modal) []) busy in omega (arith, one, few);
    atoms = record {
      inside = λ sources bound wider before sized.
          let parts = parts_inside monitor [] sources bound wider before sized in
          both_tests bound updates
          (all_weaker (λ (change : Change). is_own monitor.base monitor.modal change.atom) (λ (change : Change). nat_lt change.atom bound) (λ change is. parts.own change.atom is) updates own)
          (reads (λ atom. nat_lt atom bound) parts.modal parts.own parts.conds);
    };
  }

  -- ---- the changes as they are made

  pub begun : (all : List Change) → HasUpdates step [] all all
  begun all = record { updates = []; watched = NoMore; few = none_counted.few; atoms = none_counted.atoms; are = sym (append-nil all) }

  pub counted_of : {monitors : List Monitor} {old all : List Change} (has : HasUpdates step monitors old all) → Counted monitors has.updates
  counted_of has = record { watched = has.watched; few = has.few; atoms = has.atoms }

  module _ (monitors : List Monitor) (apart : AreApart monitors step) where
    next_is : (place : ℕ) (d : Monitor) → place < length monitors → take (place + 1) monitors ≡ take place monitors ++ get_or monitors place d ∷ []
    next_is place d within = take_more monitors place d within

    passed_over : (old all : List Change) (d : Monitor) (next count place : ℕ) → place ≡ next + count → place ≤ length monitors → ((other : ℕ) → next ≤ other → other < place → is_busy step (get_or monitors other d).modal ≡ false)
        → HasUpdates step (take next monitors) old all → HasUpdates step (take place monitors) old all
    passed_over old all d next zero place at within idle has = subst (λ n. HasUpdates step (take n monitors) old all) (let e : next ≡ place = omega (arith, at) in e) has
    passed_over old all d next (suc count) place at within idle has =
        let before = passed_over old all d next count (next + count) refl (omega (arith, at, within)) (λ other low high. idle other low (omega (arith, high, at))) has in
        let here : next + count < length monitors = omega (arith, at, within) in
        let one = quiet_counted (get_or monitors (next + count) d) (All-get_or (λ (monitor : Monitor). HasNone (is_own monitor.base monitor.modal) step) monitors (next + count) d here apart) (idle (next + count) (omega arith) (omega (arith, at))) in
        let both = counted-append (take (next + count) monitors) (get_or monitors (next + count) d ∷ []) before.updates [] (counted_of before) one in
        let whole : take (next + count) monitors ++ get_or monitors (next + count) d ∷ [] ≡ take place monitors = sym (next_is (next + count) d here) ∙ ap (λ n. take n monitors) (let e : next + count + 1 ≡ place = omega (arith, at) in e) in
        let counted = subst (λ list. Counted list (before.updates ++ [])) whole both in
        let plain = subst (Counted (take place monitors)) (append-nil before.updates) counted in
        record { updates = before.updates; watched = plain.watched; few = plain.few; atoms = plain.atoms; are = before.are }

    -- the monitors up to the place of the next one that is busy, and this one
    pub one_more : (old all new : List Change) (next place : ℕ) (monitor : Monitor) → next ≤ place → place < length monitors → monitor ≡ get_or monitors place monitor → is_busy step monitor.modal ≡ true
        → ((other : ℕ) → next ≤ other → other < place → is_busy step (get_or monitors other monitor).modal ≡ false)
        → HasUpdates step (take next monitors) old all → HasUpdate step monitor all new → HasUpdates step (take (place + 1) monitors) old new
    one_more old all new next place monitor le within at busy idle has update =
        let before = passed_over old all monitor next (gap next place le).0 place (gap next place le).1 (omega (arith, within)) idle has in
        let both = counted-append (take place monitors) (monitor ∷ []) before.updates update.updates (counted_of before) (busy_counted monitor update.updates update.own update.keeps update.few update.reads busy) in
        let whole : take place monitors ++ monitor ∷ [] ≡ take (place + 1) monitors = ap (λ one. take place monitors ++ one ∷ []) at ∙ sym (next_is place monitor within) in
        let counted = subst (λ list. Counted list (before.updates ++ update.updates)) whole both in
        record {
          updates = before.updates ++ update.updates;
          watched = counted.watched;
          few = counted.few;
          atoms = counted.atoms;
          are = update.are ∙ ap (λ list. list ++ update.updates) before.are ∙ append_assoc old before.updates update.updates;
        }
      where
        gap : (low high : ℕ) → low ≤ high → (count : ℕ) × (high ≡ low + count)
        gap low high le = (high - low, omega (arith, le))

    -- no other monitor is busy
    pub all_passed : (old all : List Change) (next : ℕ) → next ≤ length monitors → ((other : ℕ) (d : Monitor) → next ≤ other → other < length monitors → is_busy step (get_or monitors other d).modal ≡ false)
        → HasUpdates step (take next monitors) old all → HasUpdates step monitors old all
    all_passed old all next le idle has = by (cases_lt next (length monitors))
      where
        whole : HasUpdates step (take (length monitors) monitors) old all → HasUpdates step monitors old all
        whole = subst (λ list. HasUpdates step list old all) (take_all (length monitors) monitors (omega arith))

        by : (next < length monitors) ⊎ (length monitors ≤ next) → HasUpdates step monitors old all
        by (inr far) = subst (λ list. HasUpdates step list old all) (take_all next monitors far) has
        by (inl near) = some monitors refl
          where
            some : (list : List Monitor) → monitors ≡ list → HasUpdates step monitors old all
            some [] none = absurd (let l = ap length none in omega (arith, near, l))
            some (d ∷ list) is = whole (passed_over old all d next (length monitors - next) (length monitors) (omega (arith, le)) (omega arith) (λ other low high. idle other d low high) has)

-- ---- the places

module _ (step : List Change) (monitors : List Monitor) (places : List ℕ) (touched : AreTouched step monitors places) where
  idle_at : (other : ℕ) (d : Monitor) → (Contains places other → ⊥) → other < length monitors → is_busy step (get_or monitors other d).modal ≡ false
  idle_at other d apart within = false_from_ne_true (is_busy step (get_or monitors other d).modal) (λ busy. apart (touched.all other d within busy))

  same_number : (index other : ℕ) → index < length places → slice_index_or places index other ≡ other → get_or places index 0 ≡ other
  same_number index other within is = get_or_default places index 0 other within ∙ is

  module _ (next index : ℕ) (passed : (j : ℕ) → j < index → get_or places j 0 < next) where
    -- between the next monitor and the place none is busy
    pub idle_between : (d : Monitor) → index < length places → (other : ℕ) → next ≤ other → other < get_or places index 0 → is_busy step (get_or monitors other d).modal ≡ false
    idle_between d within other low high =
        let inside = touched.within index 0 within in
        idle_at other d (λ member. by member (cases_lt member.0 index)) (omega (arith, high, inside))
      where
        by : (member : Contains places other) → (member.0 < index) ⊎ (index ≤ member.0) → ⊥
        by member (inl early) = let p = passed member.0 early in let e = same_number member.0 other member.1 member.2 in omega (arith, p, e, low)
        by member (inr late) = let r = touched.rising index member.0 0 late member.1 in let e = same_number member.0 other member.1 member.2 in omega (arith, r, e, high)

    -- behind the last place none is busy
    pub idle_behind : length places ≤ index → (other : ℕ) (d : Monitor) → next ≤ other → other < length monitors → is_busy step (get_or monitors other d).modal ≡ false
    idle_behind end other d low within = idle_at other d
        (λ member. let w = member.1 in let p = passed member.0 (omega (arith, w, end)) in let e = same_number member.0 other member.1 member.2 in omega (arith, p, e, low)) within

  pub busy_there : (index : ℕ) (monitor : Monitor) → index < length places → monitor ≡ get_or monitors (get_or places index 0) monitor → is_busy step monitor.modal ≡ true
  busy_there index monitor within at =
      ap (λ (one : Monitor). is_busy step one.modal) at ∙ touched.busy (get_or places index 0) monitor (index, within, get_or_default places index (get_or places index 0) 0 within)

-- ---- those of a step, and behind them the monitors'

module _ (step : List Change) (monitors : List Monitor) (updates all : List Change) (has : HasUpdates step monitors [] updates) (are : all ≡ step ++ updates) where
  abbrev all_are : all ≡ step ++ has.updates
  all_are = are ∙ ap (λ list. step ++ list) has.are

  pub made_of : HasMade step monitors all
  made_of = record { updates = has.updates; watched = has.watched; few = has.few; atoms = has.atoms; are = all_are }

  pub changes_of : (pre : Form) (new : List Change) → AreSimpler pre all new → HasChanges pre step monitors new
  changes_of pre new simpler = record {
    updates = has.updates;
    watched = has.watched;
    few = has.few;
    atoms = has.atoms;
    simpler = subst (λ old. AreSimpler pre old new) all_are simpler;
  }
