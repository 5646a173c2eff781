-- What was expanded over numbers stands for the task.
use Rattle.std.proofs.Common.{◌≡◌, ◌∙◌, ℕ, ◌≤◌, Bool, true, ◌&&◌, List, [], ◌∷◌, map, length, Some, refl, sym, ap, subst, zero, suc}
use Rattle.std.specs.Prelude.{count_by}
use Rattle.std.specs.List.{list_all, AllZip}
use Rattle.std.proofs.lemmas.Bool.{and_parts}
use Rattle.std.proofs.lemmas.List.{length-map}
use Rattle.p3_task.specs.Constraints.{HardModal, Instance, hard_list, instances, operators}
use Rattle.p3_task.specs.Effects.{next}
use Rattle.p3_task.specs.Formulas.{holds}
use Rattle.p3_task.specs.Goals.{StatePref, hard_holds, prefs}
use Rattle.p3_task.specs.Literals.{Literal, literals}
use Rattle.p3_task.specs.Metrics.{prefs_by, step_prefs}
use Rattle.p3_task.specs.Plans.{arguments, state_by, state_after}
use Rattle.p3_task.specs.States.{State, Environment, has_fact}
use Rattle.p3_task.specs.Modal.{Modal}
use Rattle.p3_base.specs.declared.operator.Operator.TheVariants as modal
use Rattle.p3_task.specs.declared.state.Fact.{Fact}
use Rattle.p3_task.specs.declared.task.Action.{Action}
use Rattle.p3_task.specs.declared.task.Step.{Step}
use Rattle.p3_task.specs.declared.task.Task.{Task}
use Rattle.p3_task.proofs.OnceLemmas.{in_map, map_at}
use Rattle.p3_formula.specs.Forms as forms
use Rattle.p3_formula.specs.declared.form.Change.{Change}
use Rattle.p3_formula.specs.declared.form.Form.{Form}
use Rattle.p3_formula.specs.GroundModal.{GroundModal}
use Rattle.p3_formula.specs.declared.modal.GroundPref.{GroundPref}
use Rattle.p3_formula.specs.declared.modal.GroundSoft.{GroundSoft}
use Rattle.p3_formula.specs.declared.task.GroundStep.{GroundStep}
use Rattle.p3_formula.proofs.NextLaws.{length-after}
use Rattle.p3_numbers.specs.Constraints.{modal_meaning, hard_modal_meaning, instance_meaning}
use Rattle.p3_numbers.specs.Goals.{preference_meaning, is_known_goal}
use Rattle.p3_numbers.specs.Effects.{is_known_effect}
use Rattle.p3_numbers.specs.Places.{Variables, environment_of, words_of}
use Rattle.p3_numbers.specs.Slots.{Slots}
use Rattle.p3_numbers.specs.declared.numbers.Numbers.{Numbers}
use Rattle.p3_numbers.specs.declared.task.NumberedTask.{NumberedTask}
use Rattle.p3_expansion.specs.Atoms.{GroundAtom, fact_of, is_named}
use Rattle.p3_expansion.specs.Expansions.{Stands, Tells}
use Rattle.p3_expansion.specs.Hard.{hard_meaning}
use Rattle.p3_expansion.specs.NamedGoals.{HasPreference}
use Rattle.p3_expansion.specs.NextStates.{is_fact_of, AreFew, IsExpanded}
use Rattle.p3_expansion.specs.Operators.{HasTruth, HasTruths}
use Rattle.p3_expansion.specs.Statics.{TellStatics}
use Rattle.p3_expansion.specs.TaskConstraints.{HasInstance}
use Rattle.p3_expansion.specs.declared.statics.Statics.{Statics}
use Rattle.p3_expansion.proofs.NameLemmas.{names-apart, one-atom}
use Rattle.p3_expansion.proofs.NamedGoalLemmas.{hard-parts-hold, preferences-hold}
use Rattle.p3_expansion.proofs.NextLemmas.{all-at, changes-make-next, changes-are-few}
use Rattle.p3_expansion.proofs.StaticLemmas.{tell-statics}
use Rattle.p3_expansion.proofs.TaskLemmas.{known, no-variables}
use Rattle.p3_ground.specs.Expanded.{facts_of, AreExpanded, IsStepAt, IsStepExpanded, OfExpanded, FactsDiffer, HardConstraintsStand, SoftConstraintsStand, GoalStands, StepsStand, StepsAreFew}
use Rattle.p3_task.specs.Mentions.{is_under_when, literals_by, step_literals}
use Rattle.p3_ground.specs.Sparse.{is_atom_of, is_conditional, HasFewChanges}
use Rattle.p3_ground.specs.StandsFor.{Matched, HasTruthOf, ModalStands, HardStands, PrefStands, SoftStands, can_begin, ChangesStand, IsMadeOf}
use Rattle.p3_ground.proofs.StepParts.{step-env, step-known, step-begins}
use Rattle.p3_ground.proofs.KnownNames.{is_known_maybe, place-of-name, preferences-known, task-instances-known}

module _ (T : Task) (X : NumberedTask) (S : Statics) (atoms : List GroundAtom) (expanded : AreExpanded T X S atoms) where
  abbrev N : Numbers
  N = X.numbers

  abbrev facts : List Fact
  facts = facts_of X.numbers atoms

  told-statics : TellStatics T X.numbers S
  told-statics = tell-statics T X S expanded.well expanded.numbered expanded.statics

  -- ---- bits and states

  told : (s : State) (bits : forms.State) → Matched facts s bits → Tells N atoms s bits
  told s bits matched = record { bit = λ k atom here. matched.atom k (fact_of N atom) (map_at (fact_of N) atoms k atom here) }

  truth-of : (test : State → Bool) (form : Form) → HasTruth N S atoms test form → HasTruthOf T facts test form
  truth-of test form truth s bits reached matched = truth s bits (told-statics.settled s reached) (told s bits matched)

  facts-differ : FactsDiffer T X S atoms
  facts-differ first second fact here there =
      let (a, at, is) = in_map (fact_of N) atoms first fact here in
      let (b, by, same) = in_map (fact_of N) atoms second fact there in
      let one : a ≡ b = one-atom N (names-apart T X expanded.numbered) a b (all-at (is_named N) atoms first a expanded.named at) (all-at (is_named N) atoms second b expanded.named by) (is ∙ sym same) in
      expanded.distinct.one_number first second b (at ∙ ap Some one) by

  -- ---- operators

  modal-stands : (env : Environment) (operator : Modal) (made : GroundModal) → HasTruths N S atoms (modal_meaning T env operator) made → ModalStands T facts env operator made
  modal-stands env (modal.AtEnd f) (modal.AtEnd form) truths = truth-of (λ s. holds T s env f) form truths
  modal-stands env (modal.Always f) (modal.Always form) truths = truth-of (λ s. holds T s env f) form truths
  modal-stands env (modal.Sometime f) (modal.Sometime form) truths = truth-of (λ s. holds T s env f) form truths
  modal-stands env (modal.AtMostOnce f) (modal.AtMostOnce form) truths = truth-of (λ s. holds T s env f) form truths
  modal-stands env (modal.SometimeAfter f g) (modal.SometimeAfter form other) truths = (truth-of (λ s. holds T s env f) form truths.0, truth-of (λ s. holds T s env g) other truths.1)
  modal-stands env (modal.SometimeBefore f g) (modal.SometimeBefore form other) truths = (truth-of (λ s. holds T s env f) form truths.0, truth-of (λ s. holds T s env g) other truths.1)
  modal-stands env _ _ truths = absurd truths

  operators-stand : (meant : List HardModal) (made : List GroundModal) → AllZip (HasTruths N S atoms) (map (hard_modal_meaning T) meant) made → AllZip (HardStands T facts) meant made
  operators-stand [] [] all = tt
  operators-stand [] (one ∷ made) all = absurd all
  operators-stand (hard ∷ meant) [] all = absurd all
  operators-stand (hard ∷ meant) (one ∷ made) all = (modal-stands hard.env hard.modal one all.0, operators-stand meant made all.1)

  hard-stands : HardConstraintsStand T X S atoms
  hard-stands made have = operators-stand (hard_list T) made have

  -- ---- instances

  instances-stand : (meant : List Instance) (made : List GroundSoft) → list_all (λ (instance : Instance). is_known_maybe N instance.name) meant ≡ true → AllZip (HasInstance N S atoms) (map (instance_meaning T N) meant) made → AllZip (SoftStands T facts) meant made
  instances-stand [] [] named all = tt
  instances-stand [] (one ∷ made) named all = absurd all
  instances-stand (instance ∷ meant) [] named all = absurd all
  instances-stand (instance ∷ meant) (one ∷ made) named all =
      let parts = and_parts (is_known_maybe N instance.name) _ named in (
        record { name = all.0.name ∙ place-of-name T X expanded.numbered instance.name parts.0; parts = operators-stand (operators T instance.env instance.body) one.parts all.0.parts },
        instances-stand meant made parts.1 all.1,
      )

  soft-stands : SoftConstraintsStand T X S atoms
  soft-stands made have = instances-stand (instances T) made (task-instances-known T X expanded.well expanded.numbered) have

  -- ---- the goal

  goal-stands : GoalStands T X S atoms
  goal-stands form stands =
      truth-of (λ s. hard_holds T s [] T.problem.goal.body) form
      (
      hard-parts-hold T N S atoms T.problem.goal.body [] [] form expanded.numbered.numbering (no-variables N) (known T X expanded.well expanded.numbered).goal
      (subst (λ tree. Stands N S atoms (hard_meaning N [] tree) form) expanded.numbered.goal stands)
      )

  -- ---- steps

  module _ (action : Action) (slots : Slots) (step : Step) (made : GroundStep) (is : IsStepAt T X.numbers action slots step) (parts : IsStepExpanded T X S atoms action slots step made) where
    abbrev words : Variables
    words = words_of action.params

    abbrev env : Environment
    env = environment_of X.numbers (words_of action.params) slots

    own-env : arguments action step ≡ env
    own-env = step-env T X expanded.well expanded.numbered action slots step is

    known-parts : (is_known_goal N action.pre.body words ≡ true) × (is_known_effect N action.effect.body words ≡ true)
    known-parts = step-known T X expanded.well expanded.numbered action slots step is

    begins : (s : State) → can_begin T s step ≡ hard_holds T s env action.pre.body
    begins = step-begins T X expanded.well expanded.numbered action slots step is

    pre-stands : HasTruthOf T facts (λ s. can_begin T s step) made.pre
    pre-stands s bits reached matched =
        truth-of (λ s. hard_holds T s env action.pre.body) made.pre (hard-parts-hold T N S atoms action.pre.body words slots made.pre expanded.numbered.numbering is.fills known-parts.0 parts.pre) s bits reached matched
        ∙ sym (begins s)

    preferences-stand : (meant : List StatePref) (made : List GroundPref) → list_all (λ (pref : StatePref). is_known_maybe N pref.name) meant ≡ true → AllZip (HasPreference N S atoms) (map (preference_meaning T N) meant) made → AllZip (PrefStands T facts) meant made
    preferences-stand [] [] named all = tt
    preferences-stand [] (one ∷ made) named all = absurd all
    preferences-stand (pref ∷ meant) [] named all = absurd all
    preferences-stand (pref ∷ meant) (one ∷ made) named all =
        let halves = and_parts (is_known_maybe N pref.name) _ named in
        (record { name = all.0.name ∙ place-of-name T X expanded.numbered pref.name halves.0; body = truth-of (λ s. holds T s pref.env pref.body) one.body all.0.body }, preferences-stand meant made halves.1 all.1)

    own-prefs : step_prefs T step ≡ prefs T env action.pre.body
    unfolding step_prefs
    own-prefs = ap (prefs_by T step) is.named ∙ ap (λ env. prefs T env action.pre.body) own-env

    prefs-stand : AllZip (PrefStands T facts) (step_prefs T step) made.prefs
    prefs-stand =
        subst (λ meant. AllZip (PrefStands T facts) meant made.prefs) (sym own-prefs)
        (
        preferences-stand (prefs T env action.pre.body) made.prefs (preferences-known T N action.pre.body words env known-parts.0)
        (preferences-hold T N S atoms action.pre.body words slots made.prefs expanded.numbered.numbering is.fills known-parts.0 parts.prefs)
        )

    changes : IsExpanded T X S atoms words slots action.effect.body made.effects
    changes = record { numbered = expanded.numbered; distinct = expanded.distinct; named = expanded.named; fills = is.fills; known = known-parts.1; stand = parts.effects }

    own-next : (s : State) → state_after T s step ≡ next T s env action.effect.body
    unfolding state_after
    own-next s = ap (state_by T s step) is.named ∙ ap (λ env. next T s env action.effect.body) own-env

    effects-stand : ChangesStand T facts step made.effects
    effects-stand s bits reached matched =
        let tells = changes-make-next T X S atoms words slots action.effect.body made.effects changes s bits (told-statics.settled s reached) (matched.count ∙ length-map atoms (fact_of N)) (told s bits matched) in
        record {
          count = length-after bits made.effects ∙ matched.count;
          atom = λ place fact here.
              let (atom, at, says) = in_map (fact_of N) atoms place fact here in
              tells.bit place atom at ∙ (λ i. has_fact (sym (own-next s) i) (says i));
        }

    step-stands : IsMadeOf T facts step made
    step-stands = record { pre = pre-stands; prefs = prefs-stand; effects = effects-stand; cost = parts.cost }

    own-literals : step_literals T step ≡ literals T env action.effect.body
    own-literals = ap (literals_by T step) is.named ∙ ap (λ env. literals T env action.effect.body) own-env

    few : AreFew T N atoms env action.effect.body made.effects
    few = changes-are-few T X S atoms words slots action.effect.body made.effects changes

    same-atom : (those : List Fact) (number : ℕ) → is_atom_of facts those number ≡ is_fact_of N atoms those number
    same-atom those number = by atoms number
      where
        by : (atoms : List GroundAtom) (number : ℕ) → is_atom_of (facts_of N atoms) those number ≡ is_fact_of N atoms those number
        by [] number = refl
        by (atom ∷ atoms) zero = refl
        by (atom ∷ atoms) (suc number) = by atoms number

    all-atoms : (those : List Fact) (changes : List Change) → list_all (λ (change : Change). is_atom_of facts those change.atom) changes ≡ list_all (λ (change : Change). is_fact_of N atoms those change.atom) changes
    all-atoms those [] = refl
    all-atoms those (change ∷ changes) = λ i. same-atom those change.atom i && all-atoms those changes i

    step-few : HasFewChanges T facts step made.effects
    step-few = record {
      own =
          ap (λ found. list_all (λ (change : Change). is_atom_of facts (map (λ (literal : Literal). literal.fact) found) change.atom) made.effects) own-literals
          ∙ all-atoms (map (λ (literal : Literal). literal.fact) (literals T env action.effect.body)) made.effects ∙ few.own;
      all = subst (λ found. length made.effects ≤ length found) (sym own-literals) few.all;
      conditional = subst (λ found. count_by is_conditional made.effects ≤ count_by is_under_when found) (sym own-literals) few.conditional;
    }

pub facts-are-different : OfExpanded FactsDiffer
facts-are-different = facts-differ

pub hard-constraints-stand : OfExpanded HardConstraintsStand
hard-constraints-stand = hard-stands

pub soft-constraints-stand : OfExpanded SoftConstraintsStand
soft-constraints-stand = soft-stands

pub the-goal-stands : OfExpanded GoalStands
the-goal-stands = goal-stands

pub steps-stand : OfExpanded StepsStand
steps-stand = step-stands

pub steps-are-few : OfExpanded StepsAreFew
steps-are-few = step-few
