-- Ground steps that are made while atoms and nodes come.
use Rattle.std.proofs.Common.{◌≡◌, ◌∙◌, ℕ, ◌+◌, ◌<◌, ◌≤◌, Bool, true, List, [], ◌∷◌, ◌++◌, length, take, get_or, map, sym, ap, subst, arith, zero, suc, append_assoc}
use Rattle.std.specs.Prelude.{IsTrue}
use Rattle.std.specs.List.{filter, list_all, range_with_len}
use Rattle.std.proofs.lemmas.Bool.{and_parts}
use Rattle.std.proofs.lemmas.List.{append-nil, map-append, take_more, take_all}
use Rattle.std.proofs.lemmas.List.Elements.{All-weaker, filter-append}
use Rattle.std.proofs.lemmas.List.Folds.{list_all-append}
use Rattle.p3_formula.specs.Tidy.{is_tidy}
use Rattle.p3_formula.specs.declared.form.Change.{Change}
use Rattle.p3_formula.specs.declared.form.Form.{Form}
use Rattle.p3_formula.specs.declared.modal.GroundPref.{GroundPref}
use Rattle.p3_formula.specs.declared.task.GroundStep.{GroundStep}
use Rattle.p3_numbers.specs.Choices.{choice, choice_count}
use Rattle.p3_numbers.specs.Goals.{preferences}
use Rattle.p3_numbers.specs.Slots.{Slots}
use Rattle.p3_numbers.specs.declared.goal.NumberedGoal.{NumberedGoal}
use Rattle.p3_numbers.specs.declared.numbers.Numbers.{Numbers}
use Rattle.p3_numbers.specs.declared.task.NumberedAction.{NumberedAction}
use Rattle.p3_numbers.specs.declared.task.NumberedTask.{NumberedTask}
use Rattle.p3_steps.specs.Candidates.{candidates_of}
use Rattle.p3_steps.specs.Costs.{cost_of}
use Rattle.p3_steps.specs.Possible.{may_begin}
use Rattle.p3_expansion.specs.Atoms.{GroundAtom, Keeps}
use Rattle.p3_expansion.specs.Changes.{ChangesStand, MakesChanges, always, effect_atoms, guarded_literals}
use Rattle.p3_expansion.specs.Expansions.{Stands}
use Rattle.p3_expansion.specs.Forms.{Makes}
use Rattle.p3_expansion.specs.Hard.{hard_atoms, hard_meaning}
use Rattle.p3_expansion.specs.Preferences.{PreferencesStand, preference_atoms}
use Rattle.p3_expansion.specs.Walks.{Pushes}
use Rattle.p3_expansion.specs.declared.statics.Statics.{Statics}
use Rattle.p3_expansion.specs.declared.work.Work.{Work}
use Rattle.p3_expansion.proofs.EffectLemmas as effect_lemma
use Rattle.p3_expansion.proofs.ExpansionLemmas.{stands-grows}
use Rattle.p3_expansion.proofs.GrowthLemmas.{Covers, grows-trans, grows-wider}
use Rattle.p3_expansion.proofs.PreferenceLemmas as preference_lemma
use Rattle.p3_expansion.proofs.WalkLemmas.{zip-push, zip-weaker, pushes-by, pushes-join}
use Rattle.p3_steps.specs.Steps.{PlannedStep, slots_of, step_atoms, StepIsMade, MakesStep, StepsAreMade, planned_step, action_steps, action_steps_among, count_of_steps, steps_from, planned_steps, all_atoms, MakesSteps, is_among, planned_among, with_numbers}
use Rattle.p3_steps.proofs.CandidateLemmas.{range-below}
use Rattle.p3_steps.proofs.RisingNumbers.{IsParted, RiseWithin, filter-map, filter-same, filter-swap, stretch-among}

-- ---- one step

module _ (X : NumberedTask) (S : Statics) (places : ℕ) where
  abbrev N : Numbers
  N = X.numbers

  abbrev Stand : List GroundAtom → List PlannedStep → List GroundStep → Type 0
  Stand = StepsAreMade X S places

  pub made-keeps : (old new : List GroundAtom) → Keeps old new → (planned : PlannedStep) (made : GroundStep) → StepIsMade X S places old planned made → StepIsMade X S places new planned made
  made-keeps old new keeps planned made is = record {
    number = is.number;
    pre = stands-grows N S old new (hard_meaning N (slots_of N planned) planned.action.pre) made.pre keeps is.pre;
    tidy = is.tidy;
    prefs = preference_lemma.stand-keeps N (slots_of N planned) S old new keeps (preferences N (slots_of N planned) planned.action.pre) made.prefs is.prefs;
    effects = effect_lemma.stand-keeps N S old new keeps (guarded_literals N always true (slots_of N planned) planned.action.effect) made.effects is.effects;
    cost = is.cost;
  }

  module _ (planned : PlannedStep) (slots : Slots) (same : slots ≡ slots_of N planned) where
    abbrev goal : NumberedGoal
    goal = planned.action.pre

    covers-pre : Covers (step_atoms N planned) (hard_atoms N (slots_of N planned) goal)
    covers-pre passes those = (and_parts (list_all passes (hard_atoms N (slots_of N planned) goal)) _ (sym (list_all-append passes (hard_atoms N (slots_of N planned) goal) _) ∙ those)).0

    behind-pre : (passes : GroundAtom → Bool) → list_all passes (step_atoms N planned) ≡ true
        → (list_all passes (preference_atoms N (slots_of N planned) goal) ≡ true) × (list_all passes (effect_atoms N (slots_of N planned) planned.action.effect) ≡ true)
    behind-pre passes those =
        and_parts (list_all passes (preference_atoms N (slots_of N planned) goal)) _
        (sym (list_all-append passes (preference_atoms N (slots_of N planned) goal) _)
        ∙ (and_parts (list_all passes (hard_atoms N (slots_of N planned) goal)) _ (sym (list_all-append passes (hard_atoms N (slots_of N planned) goal) _) ∙ those)).1)

    pub makes-step : (old mid late new : Work) (pre : Form) (prefs : List GroundPref) (effects : List Change) (made : GroundStep)
        → Makes N S old mid (hard_meaning N slots goal) pre
        → Pushes (PreferencesStand N S) (preference_atoms N slots goal) mid late (preferences N slots goal) [] prefs
        → MakesChanges N S slots planned.action.effect late new effects
        → made.number ≡ planned.number → made.pre ≡ pre → made.prefs ≡ prefs → made.effects ≡ effects → made.cost ≡ cost_of places X.values slots planned.action.effect
        → MakesStep X S places planned old new made
    makes-step old mid late new pre prefs effects made makes pushes changes number_is pre_is prefs_are effects_are cost_is =
        let here = slots_of N planned in
        let first : Makes N S old mid (hard_meaning N here goal) pre = subst (λ s. Makes N S old mid (hard_meaning N s goal) pre) same makes in
        let second : Pushes (PreferencesStand N S) (preference_atoms N here goal) mid late (preferences N here goal) [] prefs =
        subst (λ s. Pushes (PreferencesStand N S) (preference_atoms N s goal) mid late (preferences N s goal) [] prefs) same pushes
        in
        let third : MakesChanges N S here planned.action.effect late new effects = subst (λ s. MakesChanges N S s planned.action.effect late new effects) same changes in
        let onward : Keeps mid.atoms new.atoms = (grows-trans (step_atoms N planned) mid late new
        (grows-wider (step_atoms N planned) (preference_atoms N here goal) mid late (λ passes those. (behind-pre passes those).0) second.grows)
        (grows-wider (step_atoms N planned) (effect_atoms N here planned.action.effect) late new (λ passes those. (behind-pre passes those).1) third.grows)).atoms
        in
        record {
          grows = grows-trans (step_atoms N planned) old mid new
              (grows-wider (step_atoms N planned) (hard_atoms N here goal) old mid covers-pre first.grows)
              (grows-trans (step_atoms N planned) mid late new
              (grows-wider (step_atoms N planned) (preference_atoms N here goal) mid late (λ passes those. (behind-pre passes those).0) second.grows)
              (grows-wider (step_atoms N planned) (effect_atoms N here planned.action.effect) late new (λ passes those. (behind-pre passes those).1) third.grows));
          is = record {
            number = number_is;
            pre = subst (Stands N S new.atoms (hard_meaning N here goal)) (sym pre_is) (stands-grows N S mid.atoms new.atoms (hard_meaning N here goal) pre onward first.stands);
            tidy = subst (λ form. IsTrue (is_tidy form)) (sym pre_is) first.tidy;
            prefs = subst (PreferencesStand N S new.atoms (preferences N here goal)) (sym prefs_are)
                (preference_lemma.stand-keeps N here S late.atoms new.atoms third.grows.atoms (preferences N here goal) prefs (second.made [] tt));
            effects = subst (ChangesStand N S new.atoms (guarded_literals N always true here planned.action.effect)) (sym effects_are) third.stand;
            cost = cost_is ∙ ap (λ s. cost_of places X.values s planned.action.effect) same;
          };
        }

  -- ---- lists of steps

  push-one : (old new : Work) (planned : PlannedStep) (before : List GroundStep) (made : GroundStep) → MakesStep X S places planned old new made → Pushes Stand (all_atoms N (planned ∷ [])) old new (planned ∷ []) before (before ++ made ∷ [])
  push-one old new planned before made makes = record {
    grows = grows-wider (all_atoms N (planned ∷ [])) (step_atoms N planned) old new (λ passes those. ap (list_all passes) (sym (append-nil (step_atoms N planned))) ∙ those) makes.grows;
    made = λ those stand.
        zip-push (StepIsMade X S places new.atoms) those before planned made
        (zip-weaker (StepIsMade X S places old.atoms) (StepIsMade X S places new.atoms) (made-keeps old.atoms new.atoms makes.grows.atoms) those before stand) makes.is;
  }

  -- a list that is parted
  pushes-joined : (a b c : Work) (before behind whole : List PlannedStep) (p q r : List GroundStep) → whole ≡ before ++ behind → Pushes Stand (all_atoms N before) a b before p q → Pushes Stand (all_atoms N behind) b c behind q r
      → Pushes Stand (all_atoms N whole) a c whole p r
  pushes-joined a b c before behind whole p q r longer first second =
      pushes-by Stand (all_atoms N whole) (all_atoms N (before ++ behind)) a c whole (before ++ behind) p r (ap (all_atoms N) longer) longer (pushes-join Stand (step_atoms N) a b c before behind p q r first second)

  makes-steps : (a b : Work) (planned : List PlannedStep) (made : List GroundStep) → Pushes Stand (all_atoms N planned) a b planned [] made → MakesSteps X S places planned a b made
  makes-steps a b planned made pushes = record { grows = pushes.grows; are = pushes.made [] tt }

  -- one step more of an action
  pub steps-more : (action : NumberedAction) (first : ℕ) (kept : List ℕ) (i number : ℕ) (a b c : Work) (p q r : List GroundStep) (made : GroundStep) → i < length kept → number ≡ get_or kept i 0
      → Pushes Stand (all_atoms N (map (planned_step action first) (take i kept))) a b (map (planned_step action first) (take i kept)) p q
      → MakesStep X S places (planned_step action first number) b c made → r ≡ q ++ made ∷ []
      → Pushes Stand (all_atoms N (map (planned_step action first) (take (i + 1) kept))) a c (map (planned_step action first) (take (i + 1) kept)) p r
  steps-more action first kept i number a b c p q r made within read pushes makes is =
      let plan = planned_step action first in
      let longer : map plan (take (i + 1) kept) ≡ map plan (take i kept) ++ plan number ∷ [] =
      ap (map plan) (take_more kept i 0 within ∙ ap (λ item. take i kept ++ item ∷ []) (sym read)) ∙ map-append plan (take i kept) (number ∷ [])
      in
      subst (Pushes Stand (all_atoms N (map plan (take (i + 1) kept))) a c (map plan (take (i + 1) kept)) p) (sym is)
      (pushes-joined a b c (map plan (take i kept)) (plan number ∷ []) (map plan (take (i + 1) kept)) p q (q ++ made ∷ []) longer pushes (push-one b c (plan number) q made makes))

  -- the steps at all choices
  pub steps-at : (action : NumberedAction) (first : ℕ) (kept : List ℕ) (i : ℕ) (a b : Work) (p q : List GroundStep) → length kept ≤ i
      → Pushes Stand (all_atoms N (map (planned_step action first) (take i kept))) a b (map (planned_step action first) (take i kept)) p q
      → Pushes Stand (all_atoms N (map (planned_step action first) kept)) a b (map (planned_step action first) kept) p q
  steps-at action first kept i a b p q past pushes =
      subst (λ numbers. Pushes Stand (all_atoms N (map (planned_step action first) numbers)) a b (map (planned_step action first) numbers) p q) (take_all i kept past) pushes

  -- ---- actions in turn

  steps-append : (first : ℕ) (xs ys : List NumberedAction) → steps_from N S first (xs ++ ys) ≡ steps_from N S first xs ++ steps_from N S (first + count_of_steps N xs) ys
  steps-append first [] ys = ap (λ n. steps_from N S n ys) (omega arith)
  steps-append first (x ∷ xs) ys =
      ap (λ rest. action_steps N S x first ++ rest) (steps-append (first + choice_count N x.ranges) xs ys ∙ ap (λ n. steps_from N S (first + choice_count N x.ranges) xs ++ steps_from N S n ys) (omega arith))
      ∙ sym (append_assoc (action_steps N S x first) (steps_from N S (first + choice_count N x.ranges) xs) (steps_from N S (first + (choice_count N x.ranges + count_of_steps N xs)) ys))

  count-append : (xs ys : List NumberedAction) → count_of_steps N (xs ++ ys) ≡ count_of_steps N xs + count_of_steps N ys
  count-append [] ys = omega arith
  count-append (x ∷ xs) ys = ap (λ n. choice_count N x.ranges + n) (count-append xs ys) ∙ omega arith

  -- one action more
  pub count-more : (actions : List NumberedAction) (i : ℕ) (action : NumberedAction) → i < length actions → action ≡ get_or actions i action → count_of_steps N (take (i + 1) actions) ≡ count_of_steps N (take i actions) + choice_count N action.ranges
  count-more actions i action within read =
      ap (count_of_steps N) (take_more actions i action within ∙ ap (λ item. take i actions ++ item ∷ []) (sym read)) ∙ count-append (take i actions) (action ∷ []) ∙ omega arith

  count-within : (actions : List NumberedAction) (i : ℕ) → count_of_steps N (take i actions) ≤ count_of_steps N actions
  count-within [] zero = omega arith
  count-within [] (suc i) = omega arith
  count-within (x ∷ xs) zero = omega arith
  count-within (x ∷ xs) (suc i) = let rest = count-within xs i in omega (arith, rest)

  -- those of one action more
  steps-more-actions : (actions : List NumberedAction) (i first : ℕ) (action : NumberedAction) → i < length actions → action ≡ get_or actions i action → first ≡ count_of_steps N (take i actions)
      → steps_from N S 0 (take (i + 1) actions) ≡ steps_from N S 0 (take i actions) ++ action_steps N S action first
  steps-more-actions actions i first action within read here =
      ap (steps_from N S 0) (take_more actions i action within ∙ ap (λ item. take i actions ++ item ∷ []) (sym read))
      ∙ steps-append 0 (take i actions) (action ∷ [])
      ∙ ap (λ rest. steps_from N S 0 (take i actions) ++ rest) (append-nil (action_steps N S action (0 + count_of_steps N (take i actions))) ∙ ap (action_steps N S action) (omega (arith, here)))

  -- with those of the action they are among all
  pub count-so-far : (actions : List NumberedAction) (i first : ℕ) (action : NumberedAction) → i < length actions → action ≡ get_or actions i action → first ≡ count_of_steps N (take i actions)
      → first + choice_count N action.ranges ≤ count_of_steps N actions
  count-so-far actions i first action within read here = omega (arith, here, count-more actions i action within read, count-within actions (i + 1))

  pub action-more : (actions : List NumberedAction) (i first : ℕ) (action : NumberedAction) (a b c : Work) (p q r : List GroundStep) → i < length actions → action ≡ get_or actions i action → first ≡ count_of_steps N (take i actions)
      → Pushes Stand (all_atoms N (steps_from N S 0 (take i actions))) a b (steps_from N S 0 (take i actions)) p q
      → Pushes Stand (all_atoms N (action_steps N S action first)) b c (action_steps N S action first) q r
      → Pushes Stand (all_atoms N (steps_from N S 0 (take (i + 1) actions))) a c (steps_from N S 0 (take (i + 1) actions)) p r
  action-more actions i first action a b c p q r within read here pushes more =
      pushes-joined a b c (steps_from N S 0 (take i actions)) (action_steps N S action first) (steps_from N S 0 (take (i + 1) actions)) p q r (steps-more-actions actions i first action within read here) pushes more

  -- all actions
  pub actions-all : (i : ℕ) (a b : Work) (made : List GroundStep) → length X.actions ≤ i → Pushes Stand (all_atoms N (steps_from N S 0 (take i X.actions))) a b (steps_from N S 0 (take i X.actions)) [] made → MakesSteps X S places (planned_steps X S) a b made
  actions-all i a b made past pushes =
      makes-steps a b (planned_steps X S) made (subst (λ actions. Pushes Stand (all_atoms N (steps_from N S 0 actions)) a b (steps_from N S 0 actions) [] made) (take_all i X.actions past) pushes)

  -- ---- those with some numbers

  -- of an action, they are those at the choices of the numbers here
  action-among : (action : NumberedAction) (first : ℕ) (those here later : List ℕ) → IsParted first (first + choice_count N action.ranges) those here later → with_numbers those (action_steps N S action first) ≡ action_steps_among N S action first here
  action-among action first those here later parted =
      let count = choice_count N action.ranges in
      let test : ℕ → Bool = λ number. may_begin N S (choice N action.ranges number) action.pre in
      let has : List ℕ → ℕ → Bool = λ numbers k. is_among numbers (first + k) in
      filter-map (λ (one : PlannedStep). is_among those one.number) (planned_step action first) (candidates_of N S action.ranges action.pre)
      ∙ ap (map (planned_step action first))
      (
      filter-swap (has those) test (range_with_len 0 count)
      ∙ ap (filter test)
      (filter-same (has those) (has here) (range_with_len 0 count) (All-weaker (λ k. k < count) (λ k. has those k ≡ has here k) (λ k below. parted.same (first + k) (omega arith) (omega (arith, below))) (range_with_len 0 count) (range-below count))
      ∙ stretch-among first 0 count here (subst (λ low. RiseWithin low (first + (0 + count)) here) (omega arith) (subst (λ high. RiseWithin first high here) (omega arith) parted.rise)))
      )

  pub action-among-more : (actions : List NumberedAction) (i first : ℕ) (action : NumberedAction) (those here later : List ℕ) (a b c : Work) (p q r : List GroundStep)
      → i < length actions → action ≡ get_or actions i action → first ≡ count_of_steps N (take i actions)
      → IsParted first (first + choice_count N action.ranges) those here later
      → Pushes Stand (all_atoms N (with_numbers those (steps_from N S 0 (take i actions)))) a b (with_numbers those (steps_from N S 0 (take i actions))) p q
      → Pushes Stand (all_atoms N (action_steps_among N S action first here)) b c (action_steps_among N S action first here) q r
      → Pushes Stand (all_atoms N (with_numbers those (steps_from N S 0 (take (i + 1) actions)))) a c (with_numbers those (steps_from N S 0 (take (i + 1) actions))) p r
  action-among-more actions i first action those here later a b c p q r within read begins parted pushes more =
      let before = steps_from N S 0 (take i actions) in
      let longer : with_numbers those (steps_from N S 0 (take (i + 1) actions)) ≡ with_numbers those before ++ action_steps_among N S action first here =
      ap (with_numbers those) (steps-more-actions actions i first action within read begins)
      ∙ filter-append (λ (one : PlannedStep). is_among those one.number) before (action_steps N S action first)
      ∙ ap (λ rest. with_numbers those before ++ rest) (action-among action first those here later parted)
      in
      pushes-joined a b c (with_numbers those before) (action_steps_among N S action first here) (with_numbers those (steps_from N S 0 (take (i + 1) actions))) p q r longer pushes more

  pub actions-among-all : (those : List ℕ) (i : ℕ) (a b : Work) (made : List GroundStep) → length X.actions ≤ i
      → Pushes Stand (all_atoms N (with_numbers those (steps_from N S 0 (take i X.actions)))) a b (with_numbers those (steps_from N S 0 (take i X.actions))) [] made → MakesSteps X S places (planned_among X S those) a b made
  actions-among-all those i a b made past pushes =
      makes-steps a b (planned_among X S those) made
      (subst (λ actions. Pushes Stand (all_atoms N (with_numbers those (steps_from N S 0 actions))) a b (with_numbers those (steps_from N S 0 actions)) [] made) (take_all i X.actions past) pushes)
