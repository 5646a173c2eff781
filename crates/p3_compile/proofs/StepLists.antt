-- The actions of one step, and of one step more.
use Rattle.std.proofs.Common.{◌≡◌, ◌∙◌, ℕ, ◌+◌, ◌<◌, ◌≤◌, nat_lt, Bool, true, false, ◌&&◌, List, [], ◌∷◌, ◌++◌, length, take, drop, get_or, refl, sym, ap, subst, arith, append_assoc, length-append}
use Rattle.std.specs.Prelude.{Contains, is_some, IfOk, Result, Ok, Err}
use Rattle.std.specs.List.{All, list_all}
use Rattle.std.proofs.lemmas.Bool.{and_parts, and_from, ltb-true, ltb-false}
use Rattle.std.proofs.lemmas.List.{append-nil, take-append-drop}
use Rattle.std.proofs.lemmas.List.Elements.{All-append, All-nil, All-weaker, Contains-append_left, Contains-push, filter-append}
use Rattle.std.proofs.lemmas.List.Folds.{list_all-append}
use Rattle.p3_formula.specs.Conditions.{width_limit, is_step_below, is_tidy_action}
use Rattle.p3_formula.specs.Forms.{is_below}
use Rattle.p3_formula.specs.Targets.{is_sized_change}
use Rattle.p3_formula.specs.Tidy.{is_tidy}
use Rattle.p3_formula.specs.Weighted.{width_of}
use Rattle.p3_formula.specs.declared.form.Change.{Change}
use Rattle.p3_formula.specs.declared.form.Form.{Form}
use Rattle.p3_formula.specs.declared.modal.GroundPref.{GroundPref}
use Rattle.p3_formula.specs.declared.target.TargetAction.{TargetAction}
use Rattle.p3_formula.specs.declared.target.Weights.{Weights}
use Rattle.p3_formula.specs.declared.task.GroundStep.{GroundStep}
use Rattle.p3_precprefs.specs.Questions.{AreAnswers, IsChain}
use Rattle.p3_monitors.specs.declared.monitoring.Monitor.{Monitor}
use Rattle.p3_simulation.specs.Assembled.{AreOfStep, AreOfSteps, Costless, Narrow, Wide, NoSteps, OneStep, IsSplit}
use Rattle.p3_simulation.specs.Naming.{is_wide, wide_steps}
use Rattle.p3_simulation.specs.Parts.{AreBefore}
use Rattle.p3_simulation.specs.Monitoring.{IsEffects, IsGuardedPre}
use Rattle.p3_compile.specs.Lean.{IsOfSteps, IsStepAction}
use Rattle.p3_compile.specs.Updated.{AreSimpler, HasChanges, HasMade, HasSimpler, HasTidyConditions}
use Rattle.p3_compile.specs.Stepping.{AreMade, HasActions, busy_in, hard_monitors}
use Rattle.p3_compile.specs.declared.stepping.Frame.{Frame}
use Rattle.p3_compile.proofs.SimplerChanges.{certain_simpler}
use Rattle.p3_compile.proofs.LeanLists.{copies_lean, chain_lean}
use Rattle.p3_compile.proofs.WideSteps.{next_steps, wide_next, wide_one}

-- ---- the changes of a step

module _ (go : ℕ) (monitors : List Monitor) (step : GroundStep) (before : AreBefore go go monitors) (below : list_all (is_sized_change go) step.effects ≡ true) (effects : List Change) (has : HasChanges step.pre step.effects monitors effects) where
  pub is_effects : IsEffects go monitors step effects
  is_effects = record {
    updates = has.updates;
    watched = has.watched;
    does = has.simpler.does;
    below = has.simpler.atoms (λ atom. nat_lt atom go)
        (list_all-append (is_sized_change go) step.effects has.updates ∙ and_from (list_all (is_sized_change go) step.effects) _ below (has.atoms.inside go go (omega arith) before below));
  }

-- changes that are not simplified do the same
pub made_same : (pre : Form) (step : List Change) (monitors : List Monitor) (changes : List Change) → HasMade step monitors changes → HasChanges pre step monitors changes
made_same pre step monitors changes made = record {
  updates = made.updates;
  watched = made.watched;
  few = made.few;
  atoms = made.atoms;
  simpler = subst (λ old. AreSimpler pre old changes) made.are (certain_simpler pre changes);
}

pub changed_below : (go : ℕ) (step : GroundStep) → is_step_below go step ≡ true → list_all (is_sized_change go) step.effects ≡ true
changed_below go step below = (and_parts _ (list_all (is_sized_change go) step.effects) below).1

-- ---- the precondition of a step

pub pre_below : (go : ℕ) (step : GroundStep) → is_step_below go step ≡ true → is_below go step.pre ≡ true
pre_below go step below = (and_parts (is_below go step.pre) _ (and_parts _ (list_all (is_sized_change go) step.effects) below).0).0

-- ---- a chain is tidy

link_tidy : (action : TargetAction) (effects : List Change) → is_tidy action.pre ≡ true → action.effects ≡ effects → HasTidyConditions effects → is_tidy_action action ≡ true
link_tidy action effects pre does tidy = and_from (is_tidy action.pre) _ pre (subst HasTidyConditions (sym does) tidy)

answers_tidy : (first current number : ℕ) (by_name : List ℕ) (place : ℕ) (prefs : List GroundPref) (actions : List TargetAction) → AreAnswers first current number by_name place prefs actions → list_all is_tidy_action actions ≡ true
answers_tidy first current number by_name place [] [] are = refl
answers_tidy first current number by_name place [] (action ∷ actions) are = absurd are
answers_tidy first current number by_name place (pref ∷ prefs) [] are = absurd are
answers_tidy first current number by_name place (pref ∷ prefs) (action ∷ []) are = absurd are
answers_tidy first current number by_name place (pref ∷ prefs) (agree ∷ deny ∷ actions) are =
    and_from (is_tidy_action agree) _ (link_tidy agree _ are.0.tidy are.0.does refl)
    (and_from (is_tidy_action deny) _ (link_tidy deny _ are.1.tidy are.1.does refl) (answers_tidy first current number by_name (place + 1) prefs actions are.2))

pub chain_tidy : (go first current : ℕ) (weights : Weights) (step : GroundStep) (effects : List Change) (actions : List TargetAction) → HasTidyConditions effects → IsChain go first current weights step effects actions → list_all is_tidy_action actions ≡ true
chain_tidy go first current weights step effects actions tidy chain =
    ap (list_all is_tidy_action) chain.are
    ∙ and_from (is_tidy_action chain.begin) _ (link_tidy chain.begin _ chain.begins.tidy chain.begins.does refl)
    (list_all-append is_tidy_action chain.answers (chain.ending ∷ [])
    ∙ and_from (list_all is_tidy_action chain.answers) _ (answers_tidy first current step.number weights.by_name 0 _ chain.answers chain.asks)
    (and_from (is_tidy_action chain.ending) true (link_tidy chain.ending _ chain.ends.tidy chain.ends.does (list_all-append (λ (change : Change). is_tidy change.cond) effects _ ∙ and_from _ _ tidy refl)) refl))

-- ---- the actions of one step

module _ (frame : Frame) (weights : Weights) (step : GroundStep) where
  costs_wide : is_some step.cost ≡ true → (b : Bool) → nat_lt 8 (width_of weights.by_name step) ≡ b → is_wide weights.by_name step ≡ b
  costs_wide costs b many = (λ i. costs i && nat_lt 8 (width_of weights.by_name step)) ∙ many

  -- a step that is not wide has no current atom
  unnamed : (from : ℕ) (actions : List TargetAction) → is_wide weights.by_name step ≡ false → AreOfStep frame.go frame.first weights (hard_monitors frame) frame.monitors from from step actions
      → AreOfStep frame.go frame.first weights (hard_monitors frame) frame.monitors from (from + length (wide_steps weights.by_name (step ∷ []))) step actions
  unnamed from actions plain are = subst (λ n. AreOfStep frame.go frame.first weights (hard_monitors frame) frame.monitors from n step actions) (nothing from ∙ ap (λ list. from + length list) (sym (wide_one weights.by_name step false plain))) are
    where
      nothing : (n : ℕ) → n ≡ n + 0
      nothing n = omega arith

  same_number : (old : ℕ) → is_wide weights.by_name step ≡ false → old ≡ old + length (wide_steps weights.by_name (step ∷ []))
  same_number old plain = nothing old ∙ ap (λ list. old + length list) (sym (wide_one weights.by_name step false plain))
    where
      nothing : (n : ℕ) → n ≡ n + 0
      nothing n = omega arith

  pub costless : (old : ℕ) (actions : List TargetAction) → actions ≡ [] → is_some step.cost ≡ false → HasActions frame weights step old old actions
  costless old actions empty none =
      let plain : is_wide weights.by_name step ≡ false = λ i. none i && nat_lt 8 (width_of weights.by_name step) in
      subst (HasActions frame weights step old old) (sym empty)
      (record { next = same_number old plain; are = λ from current. unnamed from [] plain (Costless step none); tidy = refl; lean = All-nil (IsStepAction weights.by_name (busy_in frame step) step) })

  pub narrow : (old : ℕ) (pre : Form) (effects : List Change) (actions : List TargetAction) → is_some step.cost ≡ true → nat_lt 8 (width_of weights.by_name step) ≡ false → IsEffects frame.go frame.monitors step effects → HasChanges step.pre step.effects frame.monitors effects
      → IsGuardedPre frame.go (hard_monitors frame) step pre → IsSplit frame.go weights step pre effects actions → list_all is_tidy_action actions ≡ true → All (HasSimpler effects) actions → HasActions frame weights step old old actions
  narrow old pre effects actions costs few is has guarded split tidy simpler =
      let plain = costs_wide costs false few in
      record { next = same_number old plain; are = λ from current. unnamed from actions plain (Narrow step pre effects actions costs (ltb-false 8 (width_of weights.by_name step) few) is guarded split); tidy = tidy; lean = copies_lean weights.by_name frame.monitors step effects has frame.go split.copies actions split.are simpler }

  pub wide : (old new : ℕ) (effects : List Change) (actions : List TargetAction) → is_some step.cost ≡ true → nat_lt 8 (width_of weights.by_name step) ≡ true → IsEffects frame.go frame.monitors step effects → HasChanges step.pre step.effects frame.monitors effects
      → new ≡ old + 1 → IsChain frame.go frame.first old weights step effects actions → list_all is_tidy_action actions ≡ true → HasActions frame weights step old new actions
  wide old new effects actions costs many is has next chain tidy =
      let broad = costs_wide costs true many in
      record {
        next = next ∙ ap (λ list. old + length list) (sym (wide_one weights.by_name step true broad));
        are = λ from current. subst (λ n. AreOfStep frame.go frame.first weights (hard_monitors frame) frame.monitors from n step actions) (ap (λ list. from + length list) (sym (wide_one weights.by_name step true broad)))
            (Wide step effects actions costs (ltb-true 8 (width_of weights.by_name step) many) is (subst (λ n. IsChain frame.go frame.first n weights step effects actions) (sym (current broad)) chain));
        tidy = tidy;
        lean = chain_lean weights.by_name frame.monitors step effects has many frame.go frame.first old weights actions refl chain;
      }

-- ---- one step more

steps_more : (go first : ℕ) (weights : Weights) (hard monitors : List Monitor) (from mid next : ℕ) (steps : List GroundStep) (actions : List TargetAction) (step : GroundStep) (own : List TargetAction)
    → AreOfSteps go first weights hard monitors from mid steps actions → AreOfStep go first weights hard monitors mid next step own → AreOfSteps go first weights hard monitors from next (steps ++ step ∷ []) (actions ++ own)
steps_more go first weights hard monitors from mid next steps actions step own (NoSteps _) is =
    subst (AreOfSteps go first weights hard monitors from next (step ∷ [])) (append-nil own) (OneStep from next next step [] own [] is (NoSteps next))
steps_more go first weights hard monitors from mid next steps actions step own (OneStep _ between _ other others front rest is_other more) is =
    subst (AreOfSteps go first weights hard monitors from next (other ∷ (others ++ step ∷ []))) (sym (append_assoc front rest own))
    (OneStep from between next other (others ++ step ∷ []) front (rest ++ own) is_other (steps_more go first weights hard monitors between mid next others rest step own more is))

module _ (frame : Frame) (weights : Weights) (steps : List GroundStep) (index : ℕ) (step : GroundStep) (within : index < length steps) (at : step ≡ get_or steps index step) where
  -- a wide step is one of those of which some are left
  wide_left : is_wide weights.by_name step ≡ true → length (wide_steps weights.by_name (take index steps)) < length (wide_steps weights.by_name steps)
  wide_left broad =
      let whole = ap (λ list. length (wide_steps weights.by_name list)) (sym (take-append-drop (index + 1) steps))
      ∙ ap length (filter-append (is_wide weights.by_name) (take (index + 1) steps) (drop (index + 1) steps))
      ∙ length-append (wide_steps weights.by_name (take (index + 1) steps)) (wide_steps weights.by_name (drop (index + 1) steps)) in
      let more = ap length (wide_next steps index step within at weights.by_name) ∙ length-append (wide_steps weights.by_name (take index steps)) (wide_steps weights.by_name (step ∷ [])) in
      let one = ap length (wide_one weights.by_name step true broad) in
      omega (arith, whole, more, one)

  module _ (first current : ℕ) (actions : List TargetAction) (begins : 0 < length (wide_steps weights.by_name steps) → first ≡ frame.first + 201) (made : AreMade frame weights (take index steps) first current actions) where
    current_is : is_wide weights.by_name step ≡ true → frame.first + 201 + length (wide_steps weights.by_name (take index steps)) ≡ current
    current_is broad =
        let left = wide_left broad in
        let begin = begins (omega (arith, left)) in
        let next = made.next in
        omega (arith, begin, next)

    -- the current atom of the next step stands behind the question atoms, and is one of those of all steps
    pub current_room : (size : ℕ) → first + length (wide_steps weights.by_name steps) ≤ size → is_wide weights.by_name step ≡ true → (frame.first + width_limit < current) × (current < size)
    current_room size fits broad =
        let count = current_is broad in let left = wide_left broad in let next = made.next in
        (omega (arith, count), omega (arith, left, next, fits))

    pub one_more : (new : ℕ) (own : List TargetAction) → HasActions frame weights step current new own → AreMade frame weights (take (index + 1) steps) first new (actions ++ own)
    one_more new own has =
        let more = ap length (wide_next steps index step within at weights.by_name) ∙ length-append (wide_steps weights.by_name (take index steps)) (wide_steps weights.by_name (step ∷ [])) in
        let counted : frame.first + 201 + length (wide_steps weights.by_name (take index steps)) + length (wide_steps weights.by_name (step ∷ [])) ≡ frame.first + 201 + length (wide_steps weights.by_name (take (index + 1) steps)) = omega (arith, more) in
        let passed = made.next in
        let next = has.next in
        record {
          next = omega (arith, more, passed, next);
          has = record {
            are = subst (λ list. AreOfSteps frame.go frame.first weights (hard_monitors frame) frame.monitors (frame.first + 201) (frame.first + 201 + length (wide_steps weights.by_name (take (index + 1) steps))) list (actions ++ own)) (sym (next_steps steps index step within at))
                (subst (λ n. AreOfSteps frame.go frame.first weights (hard_monitors frame) frame.monitors (frame.first + 201) n (take index steps ++ step ∷ []) (actions ++ own)) counted
                (steps_more frame.go frame.first weights (hard_monitors frame) frame.monitors (frame.first + 201) (frame.first + 201 + length (wide_steps weights.by_name (take index steps))) _ (take index steps) actions step own made.has.are
                (has.are (frame.first + 201 + length (wide_steps weights.by_name (take index steps))) current_is)));
            tidy = list_all-append is_tidy_action actions own ∙ and_from (list_all is_tidy_action actions) _ made.has.tidy has.tidy;
            lean = All-append (IsOfSteps weights.by_name (busy_in frame) (take (index + 1) steps)) actions own
                (All-weaker (IsOfSteps weights.by_name (busy_in frame) (take index steps)) (IsOfSteps weights.by_name (busy_in frame) (take (index + 1) steps))
                (λ action of. record { step = of.step; own = subst (λ list. Contains list of.step) (sym (next_steps steps index step within at)) (Contains-append_left (take index steps) (step ∷ []) of.step of.own); is = of.is }) actions made.has.lean)
                (All-weaker (IsStepAction weights.by_name (busy_in frame step) step) (IsOfSteps weights.by_name (busy_in frame) (take (index + 1) steps))
                (λ action is. record { step = step; own = subst (λ list. Contains list step) (sym (next_steps steps index step within at)) (Contains-push (take index steps) step); is = is }) own has.lean);
          };
        }

pub no_steps : (frame : Frame) (weights : Weights) (first : ℕ) → AreMade frame weights [] first first []
no_steps frame weights first = record {
  next = nothing first;
  has = record {
    are = subst (λ n. AreOfSteps frame.go frame.first weights (hard_monitors frame) frame.monitors (frame.first + 201) n [] []) (nothing (frame.first + 201)) (NoSteps (frame.first + 201));
    tidy = refl;
    lean = All-nil (IsOfSteps weights.by_name (busy_in frame) []);
  };
}
  where
    nothing : (n : ℕ) → n ≡ n + 0
    nothing n = omega arith

-- ---- an answer that is Ok has what is known of it

pub both_of : {A E : Type 0} {P Q R : A → Type 0} (result : Result A E) → IfOk result P → IfOk result Q → ((x : A) → P x → Q x → R x) → IfOk result R
both_of (Ok x) p q f = f x p q
both_of (Err e) p q f = tt
