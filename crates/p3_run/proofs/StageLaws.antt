-- A stage stays right of one state more, and of one in which the formulas have the truth that they had before.
use Rattle.std.proofs.Common.{◌≡◌, ◌∙◌, ℕ, Bool, true, false, not, ◌&&◌, ◌||◌, List, [], ◌∷◌, ◌++◌, length, refl, sym, ap}
use Rattle.std.proofs.lemmas.Bool.{and_parts}
use Rattle.p3_base.specs.Trajectories.{some, came_back, is_awaited, came_early}
use Rattle.p3_formula.specs.Forms.{State, truth, has_atoms}
use Rattle.p3_formula.specs.GroundPlans.{last_of}
use Rattle.p3_formula.specs.GroundSat.{holds_at, ground_sat}
use Rattle.p3_formula.specs.Modals.{is_read}
use Rattle.p3_formula.specs.declared.form.Form.{Form}
use Rattle.p3_formula.specs.GroundModal.{GroundModal}
use Rattle.p3_base.specs.declared.operator.Operator.TheVariants.{AtEnd, Always, Sometime, AtMostOnce, SometimeAfter, SometimeBefore}
use Rattle.p3_formula.proofs.NextLaws.{truth-agree}
use Rattle.p3_formula.proofs.ReadAtoms.{reads}
use Rattle.p3_formula.proofs.WatchedLaws.{last-next, each-next, some-next, came-next, awaited-next, early-next, sat-AtMostOnce, sat-SometimeAfter, sat-SometimeBefore}
use Rattle.p3_formula.specs.Forms.{is_set}
use Rattle.p3_run.specs.Stages.{stage_of, fresh, accepting, next_once, next_before, next_stage}
use Rattle.p3_run.specs.declared.stages.Stage.{Stage}

-- ---- the answers of the operators over one state more

came : (c so t h : Bool) → (not c && not ((so && not t) && h)) ≡ not (c || ((so && not t) && h))
came true so t h = refl
came false so t h = refl

awaits : (a f g : Bool) → (g || not a && not f) ≡ not ((a || f) && not g)
awaits true true true = refl
awaits true true false = refl
awaits true false true = refl
awaits true false false = refl
awaits false true true = refl
awaits false true false = refl
awaits false false true = refl
awaits false false false = refl

comes : (e f so : Bool) → (not e && not (f && not so)) ≡ not (e || (f && not so))
comes true f so = refl
comes false f so = refl

module _ (W : List State) (next : State) where
  -- the stage of one state more
  pub stage_next : (modal : GroundModal) → next_stage next modal (stage_of W modal) ≡ stage_of (W ++ next ∷ []) modal
  unfolding ground_sat
  stage_next (AtEnd f) = ap accepting (sym (ap (λ state. truth state f) (last-next W next)))
  stage_next (Always f) = ap accepting (sym (each-next W next f))
  stage_next (Sometime f) = ap accepting (sym (some-next W next f))
  stage_next (AtMostOnce f) =
      let met : Bool → Stage = λ accepts. record { accepts = accepts; seen = some (length (W ++ next ∷ [])) (holds_at (W ++ next ∷ []) f); held = truth (last_of (W ++ next ∷ [])) f } in
      (λ i. record {
        accepts = sat-AtMostOnce W f f i && not ((some (length W) (holds_at W f) && not (truth (last_of W) f)) && truth next f);
        seen = sym (some-next W next f) i;
        held = truth (sym (last-next W next) i) f;
      })
      ∙ ap met (came (came_back (length W) (holds_at W f)) (some (length W) (holds_at W f)) (truth (last_of W) f) (truth next f) ∙ ap not (sym (came-next W next f)) ∙ sym (sat-AtMostOnce (W ++ next ∷ []) f f))
  stage_next (SometimeAfter f g) =
      ap accepting
      ((λ i. truth next g || sat-SometimeAfter W f g i && not (truth next f))
      ∙ awaits (is_awaited (length W) (holds_at W f) (holds_at W g)) (truth next f) (truth next g)
      ∙ ap not (sym (awaited-next W next f g)) ∙ sym (sat-SometimeAfter (W ++ next ∷ []) f g))
  stage_next (SometimeBefore f g) =
      let met : Bool → Stage = λ accepts. record { accepts = accepts; seen = some (length (W ++ next ∷ [])) (holds_at (W ++ next ∷ []) g); held = false } in
      (λ i. record {
        accepts = sat-SometimeBefore W f g i && not (truth next f && not (some (length W) (holds_at W g)));
        seen = sym (some-next W next g) i;
        held = false;
      })
      ∙ ap met (comes (came_early (length W) (holds_at W f) (holds_at W g)) (truth next f) (some (length W) (holds_at W g)) ∙ ap not (sym (early-next W next f g)) ∙ sym (sat-SometimeBefore (W ++ next ∷ []) f g))

-- the stage of the first state
pub stage_begins : (state : State) (modal : GroundModal) → next_stage state modal (fresh modal) ≡ stage_of (state ∷ []) modal
unfolding ground_sat
stage_begins state (AtEnd f) = stage_next [] state (AtEnd f)
stage_begins state modal = stage_next [] state modal

-- ---- the same state twice

and_twice : (a t : Bool) → ((a && t) && t) ≡ (a && t)
and_twice true true = refl
and_twice true false = refl
and_twice false t = refl

or_twice : (a t : Bool) → ((a || t) || t) ≡ (a || t)
or_twice true t = refl
or_twice false true = refl
or_twice false false = refl

once_twice : (h : Bool) (stage : Stage) → next_once h (next_once h stage) ≡ next_once h stage
once_twice h stage = λ i. record { accepts = stays (stage.accepts) ((stage.seen && not stage.held) && h) (stage.seen || h) h i; seen = or_twice stage.seen h i; held = h } where
  stays : (a b so h : Bool) → ((a && not b) && not ((so && not h) && h)) ≡ (a && not b)
  stays true true so h = refl
  stays true false true true = refl
  stays true false true false = refl
  stays true false false h = refl
  stays false b so h = refl

after_twice : (a f g : Bool) → (g || (g || a && not f) && not f) ≡ (g || a && not f)
after_twice a f true = refl
after_twice true true false = refl
after_twice true false false = refl
after_twice false f false = refl

before_twice : (f g : Bool) (stage : Stage) → next_before f g (next_before f g stage) ≡ next_before f g stage
before_twice f g stage = λ i. record { accepts = stays stage.accepts f stage.seen g i; seen = or_twice stage.seen g i; held = false } where
  stays : (a f so g : Bool) → ((a && not (f && not so)) && not (f && not (so || g))) ≡ (a && not (f && not so))
  stays true true true g = refl
  stays true true false g = refl
  stays true false so g = refl
  stays false f so g = refl

pub stage_twice : (state : State) (modal : GroundModal) (stage : Stage) → next_stage state modal (next_stage state modal stage) ≡ next_stage state modal stage
stage_twice state (AtEnd f) stage = refl
stage_twice state (Always f) stage = ap accepting (and_twice stage.accepts (truth state f))
stage_twice state (Sometime f) stage = ap accepting (or_twice stage.accepts (truth state f))
stage_twice state (AtMostOnce f) stage = once_twice (truth state f) stage
stage_twice state (SometimeAfter f g) stage = ap accepting (after_twice stage.accepts (truth state f) (truth state g))
stage_twice state (SometimeBefore f g) stage = before_twice (truth state f) (truth state g) stage

-- ---- a state that agrees with the last one

module _ (first second : State) (modal : GroundModal) (agree : (atom : ℕ) → is_read modal atom ≡ true → is_set first atom ≡ is_set second atom) where
  same : (form : Form) → has_atoms (is_read modal) form ≡ true → truth first form ≡ truth second form
  same form has = truth-agree first second (is_read modal) agree form has

next_alike : (first second : State) (modal : GroundModal) (stage : Stage) → ((form : Form) → has_atoms (is_read modal) form ≡ true → truth first form ≡ truth second form) → next_stage first modal stage ≡ next_stage second modal stage
next_alike first second (AtEnd f) stage same = ap accepting (same f (and_parts _ _ (reads (AtEnd f))).0)
next_alike first second (Always f) stage same = ap (λ b. accepting (stage.accepts && b)) (same f (and_parts _ _ (reads (Always f))).0)
next_alike first second (Sometime f) stage same = ap (λ b. accepting (stage.accepts || b)) (same f (and_parts _ _ (reads (Sometime f))).0)
next_alike first second (AtMostOnce f) stage same = ap (λ b. next_once b stage) (same f (and_parts _ _ (reads (AtMostOnce f))).0)
next_alike first second (SometimeAfter f g) stage same =
    let both = and_parts _ _ (reads (SometimeAfter f g)) in
    let e = same f both.0 in
    let d = same g (and_parts _ _ both.1).0 in
    λ i. accepting (d i || stage.accepts && not (e i))
next_alike first second (SometimeBefore f g) stage same =
    let both = and_parts _ _ (reads (SometimeBefore f g)) in
    let e = same f both.0 in
    let d = same g (and_parts _ _ both.1).0 in
    λ i. next_before (e i) (d i) stage

-- the stage stays where the next state agrees with the last one on the atoms of the operator
pub stage_stays : (V : List State) (state next : State) (modal : GroundModal) → ((atom : ℕ) → is_read modal atom ≡ true → is_set next atom ≡ is_set state atom)
    → stage_of ((V ++ state ∷ []) ++ next ∷ []) modal ≡ stage_of (V ++ state ∷ []) modal
stage_stays V state next modal agree =
    sym (stage_next (V ++ state ∷ []) next modal)
    ∙ ap (next_stage next modal) (sym (stage_next V state modal))
    ∙ next_alike next state modal (next_stage state modal (stage_of V modal)) (same next state modal agree)
    ∙ stage_twice state modal (stage_of V modal)
    ∙ stage_next V state modal
