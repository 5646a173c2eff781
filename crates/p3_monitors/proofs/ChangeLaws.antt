-- The changes of a monitor beside those of a step and of others.
use Rattle.std.proofs.Common.{◌≡◌, ◌∙◌, ℕ, ◌+◌, ◌<◌, ◌≤◌, nat_lt, nat_le, ◌==◌, Bool, true, false, not, ◌&&◌, ◌||◌, List, [], ◌∷◌, ◌++◌, length, refl, sym, ap, arith}
use Rattle.std.specs.List.{list_any}
use Rattle.std.proofs.lemmas.Bool.{and_parts, or_from, true≢false, lt-ltb, le-leb}
use Rattle.std.proofs.lemmas.Bool.Decides.{nat_tests}
use Rattle.std.proofs.Math.Bool.{not-not}
use Rattle.std.proofs.lemmas.List.{length-append}
use Rattle.std.proofs.lemmas.List.Folds.{list_any-append}
use Rattle.p3_formula.specs.Forms.{State, is_set, truth, has_atoms, IsBelow}
use Rattle.p3_formula.specs.GroundPlans.{last_of}
use Rattle.p3_formula.specs.Next.{is_set_after, after}
use Rattle.p3_formula.specs.declared.form.Change.{Change}
use Rattle.p3_formula.specs.declared.form.Form.{Form}
use Rattle.p3_formula.specs.GroundModal.{GroundModal}
use Rattle.p3_formula.proofs.NextLaws.{length-after, is_set-after, is_set-beyond, is_set_after-front, is_set_after-back, truth-agree}
use Rattle.p3_regress.specs.Regressed.{IsTrueBefore}
use Rattle.p3_regress.specs.Turned.{IsTurnBefore}
use Rattle.p3_formula.specs.Kept.{is_own, atom_count, watched, AreAt, Kept}
use Rattle.p3_formula.specs.Modals.{is_read, IsModalBelow, Agree}
use Rattle.p3_monitors.specs.KeepsOn.{HasNone, AreOwn, AreOthers, KeepsOn}
use Rattle.p3_monitors.specs.Updates.{change}
use Rattle.p3_formula.proofs.ReadAtoms.{same_number, has_more, read_below}
use Rattle.p3_formula.proofs.WatchedLaws.{length-watched, last-next}

-- ---- atoms that no change names

none_head : (atoms : ℕ → Bool) (one atom : ℕ) → not (atoms one) ≡ true → atoms atom ≡ true → (one == atom) ≡ false
none_head atoms one atom free at = by (one == atom) refl where
  by : (b : Bool) → (one == atom) ≡ b → (one == atom) ≡ false
  by false e = e
  by true e = let same : one ≡ atom = grind (arith, nat_tests) in absurd (true≢false (sym free ∙ ap (λ a. not (atoms a)) same ∙ ap not at))

pub none_named : (atoms : ℕ → Bool) (atom : ℕ) (effects : List Change) → HasNone atoms effects → atoms atom ≡ true → list_any (λ change. change.atom == atom) effects ≡ false
none_named atoms atom [] free at = refl
none_named atoms atom (change ∷ rest) free at =
    let parts = and_parts (not (atoms change.atom)) _ free in
    or_from (change.atom == atom) _ (none_head atoms change.atom atom parts.0 at) (none_named atoms atom rest parts.1 at)

pub own_named : (base : ℕ) (modal : GroundModal) (atom : ℕ) (effects : List Change) → AreOwn base modal effects → is_own base modal atom ≡ false → list_any (λ change. change.atom == atom) effects ≡ false
own_named base modal atom [] own outside = refl
own_named base modal atom (change ∷ rest) own outside =
    let parts = and_parts (is_own base modal change.atom) _ own in
    or_from (change.atom == atom) _
    (none_head (λ a. not (is_own base modal a)) change.atom atom (not-not (is_own base modal change.atom) ∙ parts.0) (ap not outside))
    (own_named base modal atom rest parts.1 outside)

pub own_from : (base : ℕ) (modal : GroundModal) (atom : ℕ) → base ≤ atom → atom < base + atom_count modal → is_own base modal atom ≡ true
own_from base modal atom from below = ap (λ b. b && nat_lt atom (base + atom_count modal)) (le-leb base atom from) ∙ lt-ltb atom (base + atom_count modal) below

lower_outside : (base : ℕ) (modal : GroundModal) (atom : ℕ) → atom < base → is_own base modal atom ≡ false
lower_outside base modal atom lt = let low : nat_le base atom ≡ false = grind (arith, nat_tests) in ap (λ b. b && nat_lt atom (base + atom_count modal)) low

-- an atom that further changes do not name is as without them
pub unnamed_stays : (step more : List Change) (state : State) (atom : ℕ) → list_any (λ change. change.atom == atom) more ≡ false → is_set (after state (step ++ more)) atom ≡ is_set (after state step) atom
unnamed_stays step more state atom none = by (nat_lt atom (length state)) refl where
  by : (b : Bool) → nat_lt atom (length state) ≡ b → is_set (after state (step ++ more)) atom ≡ is_set (after state step) atom
  by true lt =
      let within : atom < length state = grind (arith, nat_tests) in
      is_set-after state (step ++ more) atom within ∙ is_set_after-front state step more atom none ∙ sym (is_set-after state step atom within)
  by false ge =
      let beyond : length state ≤ atom = grind (arith, nat_tests) in
      is_set-beyond state (step ++ more) atom beyond ∙ sym (is_set-beyond state step atom beyond)

-- so are atoms that are not the monitor's
pub others_stay : (base : ℕ) (modal : GroundModal) (step effects : List Change) → AreOwn base modal effects → (state : State) (atom : ℕ) → is_own base modal atom ≡ false
    → is_set (after state (step ++ effects)) atom ≡ is_set (after state step) atom
others_stay base modal step effects own state atom outside = unnamed_stays step effects state atom (own_named base modal atom effects own outside)

-- ---- a step at which the monitor is kept

-- the monitor is kept before a step, and another state agrees with the one after it on the constraint
pub record Transition (base : ℕ) (modal : GroundModal) (step : List Change) : Type 0 where
  pub below : IsModalBelow base modal
  pub W : List State
  pub state : State
  pub next : State
  pub kept : Kept base modal W state
  pub agree : Agree modal (after state step) next

module _ {base : ℕ} {modal : GroundModal} {step : List Change} (transition : Transition base modal step) where
  inside : base + atom_count modal ≤ length transition.state
  inside = let l = length-watched transition.W modal in let room = transition.kept.carries.room in omega arith

  module _ (form : Form) (reads : has_atoms (is_read modal) form ≡ true) where
    -- a form of the constraint, before the step
    pub truth_now : truth transition.state form ≡ truth (last_of transition.W) form
    truth_now = truth-agree transition.state (last_of transition.W) (is_read modal) transition.kept.carries.agrees form reads

    within : IsBelow (length transition.state) form
    within =
        let room = inside in
        has_more (is_read modal) (λ atom. nat_lt atom (length transition.state)) (λ atom read. let lt = read_below base modal transition.below atom read in lt-ltb atom (length transition.state) (omega arith)) form reads

    -- and after it
    later : truth (after transition.state step) form ≡ truth transition.next form
    later = truth-agree (after transition.state step) transition.next (is_read modal) transition.agree form reads

    -- so its regressed form tells before the step
    pub truth_later : (before : Form) → IsTrueBefore step form before → truth transition.state before ≡ truth transition.next form
    truth_later before regressed = regressed transition.state within ∙ later

    -- where the form is not yet turned, what tells of its turns tells so too, and it tells of no turn that is none
    module _ (up : Bool) (before : Form) (turned : IsTurnBefore up step form before) where
      pub turned_later : truth (last_of transition.W) form ≡ not up → truth transition.state before ≡ truth transition.next form
      turned_later now = turned.turns transition.state within (truth_now ∙ now) ∙ later

      pub turned_only : truth transition.next form ≡ not up → truth transition.state before ≡ not up
      turned_only reached_it = turned.only transition.state within (later ∙ reached_it)

-- ---- a step with the changes of the monitor and others

-- the same, where the changes of the monitor and of others are made with the step
pub record Stage (base : ℕ) (modal : GroundModal) (step effects : List Change) : Type 0 where
  pub below : IsModalBelow base modal
  pub free : HasNone (is_own base modal) step
  pub own : AreOwn base modal effects
  pub W : List State
  pub state : State
  pub next : State
  pub others : List Change
  pub kept : Kept base modal W state
  pub apart : AreOthers base modal others
  pub agree : Agree modal (after state (step ++ (effects ++ others))) next

module _ {base : ℕ} {modal : GroundModal} {step effects : List Change} (stage : Stage base modal step effects) where
  abbrev pub all_changes : List Change
  all_changes = step ++ (effects ++ stage.others)

  abbrev pub reached : State
  reached = after stage.state all_changes

  -- an atom of the constraint is as after the step alone
  pub read_after : (atom : ℕ) → is_read modal atom ≡ true → is_set reached atom ≡ is_set (after stage.state step) atom
  read_after atom read =
      let lt = read_below base modal stage.below atom read in
      unnamed_stays step (effects ++ stage.others) stage.state atom
      (list_any-append (λ change. change.atom == atom) effects stage.others
      ∙ or_from _ _ (own_named base modal atom effects stage.own (lower_outside base modal atom lt)) (none_named (is_read modal) atom stage.others stage.apart.read read))

  abbrev pub transition : Transition base modal step
  transition = record {
    below = stage.below;
    W = stage.W;
    state = stage.state;
    next = stage.next;
    kept = stage.kept;
    agree = λ atom read. sym (read_after atom read) ∙ stage.agree atom read;
  }

  has_room : base + atom_count modal ≤ length stage.state
  has_room = inside transition

  -- an atom of the monitor is as after its changes alone
  pub own_after : (atom : ℕ) → base ≤ atom → atom < base + atom_count modal → is_set reached atom ≡ is_set_after stage.state effects atom
  own_after atom from lt =
      let room = has_room in
      let mine = own_from base modal atom from lt in
      is_set-after stage.state all_changes atom (omega arith)
      ∙ is_set_after-back stage.state step (effects ++ stage.others) atom (none_named (is_own base modal) atom step stage.free mine)
      ∙ is_set_after-front stage.state effects stage.others atom (none_named (is_own base modal) atom stage.others stage.apart.own mine)

  -- with the right bits, the monitor is kept
  keeps : AreAt base (watched (stage.W ++ stage.next ∷ []) modal) reached → Kept base modal (stage.W ++ stage.next ∷ []) reached
  keeps bits = record {
    visited = let l = length-append stage.W (stage.next ∷ []) in omega arith;
    carries = record {
      agrees = λ atom read. stage.agree atom read ∙ ap (λ s. is_set s atom) (sym (last-next stage.W stage.next));
      room = let l = length-watched (stage.W ++ stage.next ∷ []) modal in let a = length-after stage.state all_changes in let room = has_room in omega arith;
      stand = bits;
    };
  }

-- changes of the monitor's atoms that give the right bits at each stage keep it on
pub keeps_on : (base : ℕ) (modal : GroundModal) (step effects : List Change) → IsModalBelow base modal → AreOwn base modal effects
    → ((stage : Stage base modal step effects) → AreAt base (watched (stage.W ++ stage.next ∷ []) modal) (reached stage)) → HasNone (is_own base modal) step → KeepsOn base modal step effects
keeps_on base modal step effects below own bits free W state next others kept apart agree = keeps stage (bits stage) where
  stage : Stage base modal step effects
  stage = record { below = below; free = free; own = own; W = W; state = state; next = next; others = others; kept = kept; apart = apart; agree = agree }

-- ---- what one change does to its atom

module _ (state : State) (atom : ℕ) where
  adds : (a b : Bool) (test : Bool) → test ≡ true → ((test && true && a || false) || (b && not (test && false && a || false))) ≡ (b || a)
  adds true true test e = ap (λ t. (t && true && true || false) || (true && not (t && false && true || false))) e
  adds true false test e = ap (λ t. (t && true && true || false) || (false && not (t && false && true || false))) e
  adds false true test e = ap (λ t. (t && true && false || false) || (true && not (t && false && false || false))) e
  adds false false test e = ap (λ t. (t && true && false || false) || (false && not (t && false && false || false))) e

  pub set_by : (cond : Form) → is_set_after state (change true atom cond ∷ []) atom ≡ (is_set state atom || truth state cond)
  set_by cond = adds (truth state cond) (is_set state atom) (atom == atom) (same_number atom)

  clears : (a b : Bool) (test : Bool) → test ≡ true → ((test && false && a || false) || (b && not (test && true && a || false))) ≡ (b && not a)
  clears true true test e = ap (λ t. (t && false && true || false) || (true && not (t && true && true || false))) e
  clears true false test e = ap (λ t. (t && false && true || false) || (false && not (t && true && true || false))) e
  clears false true test e = ap (λ t. (t && false && false || false) || (true && not (t && true && false || false))) e
  clears false false test e = ap (λ t. (t && false && false || false) || (false && not (t && true && false || false))) e

  pub cleared_by : (cond : Form) → is_set_after state (change false atom cond ∷ []) atom ≡ (is_set state atom && not (truth state cond))
  cleared_by cond = clears (truth state cond) (is_set state atom) (atom == atom) (same_number atom)
