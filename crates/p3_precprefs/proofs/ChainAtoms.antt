-- What the actions of a chain change and read.
use Rattle.std.proofs.Common.{◌≡◌, ◌∙◌, ℕ, ◌+◌, ◌<◌, ◌≤◌, nat_lt, Bool, true, false, ◌&&◌, ◌||◌, List, [], ◌∷◌, ◌++◌, map, length, refl, sym, ap, subst, arith}
use Rattle.std.specs.Prelude.{◌==◌, All, Contains, IsTrue}
use Rattle.std.specs.List.{list_all}
use Rattle.std.proofs.lemmas.Bool.{and_from, or_left, or_right, eq-eqb, le-leb}
use Rattle.std.proofs.lemmas.List.Elements.{All-nil, All-cons, All-append, All-head, All-tail, All-filter, All-weaker, All-contains_itself}
use Rattle.std.proofs.lemmas.List.Folds.{list_all-append, list_all-map, list_any_at}
use Rattle.std.proofs.lemmas.List.Sums.{list_all-from_AllPass}
use Rattle.p3_formula.specs.Constructors.{sets, clears}
use Rattle.p3_formula.specs.Forms.{has_atoms}
use Rattle.p3_formula.specs.Guards.{turned, is_changed}
use Rattle.p3_formula.specs.Targets.{has_change_atoms, has_action_atoms}
use Rattle.p3_formula.specs.Tidy.{is_tidy}
use Rattle.p3_formula.specs.Weighted.{weight_of, weighted, weighted_cost, width_of}
use Rattle.p3_formula.specs.declared.form.Change.{Change}
use Rattle.p3_formula.specs.declared.form.Form.{Form}
use Rattle.p3_formula.specs.declared.form.Form.TheVariants.{True}
use Rattle.p3_formula.specs.declared.modal.GroundPref.{GroundPref}
use Rattle.p3_formula.specs.declared.target.TargetAction.{TargetAction}
use Rattle.p3_formula.specs.declared.target.Weights.{Weights}
use Rattle.p3_formula.specs.declared.task.GroundStep.{GroundStep}
use Rattle.p3_formula.proofs.FormLemmas.{has_atoms-True}
use Rattle.p3_precprefs.specs.Copies.{HasAtomsIn}
use Rattle.p3_formula.specs.Conditions.{width_limit}
use Rattle.p3_precprefs.specs.Questions.{IsLink, IsBegin, IsAnswer, IsEnd, AreAnswers, IsChain, is_own, changes_own, AreAllowed}

-- a test of the changes of some atoms
all_turned : (test : Change → Bool) (off on : List ℕ) → list_all (λ n. test (clears n)) off ≡ true → list_all (λ n. test (sets n)) on ≡ true → list_all test (turned off on) ≡ true
all_turned test off on first second =
    list_all-append test (map clears off) (map sets on) ∙ and_from _ _ (list_all-map test clears off ∙ first) (list_all-map test sets on ∙ second)

two : (p q : Bool) → p ≡ true → q ≡ true → (p && (q && true)) ≡ true
two p q e f = λ i. e i && (f i && true)

one : (p : Bool) → p ≡ true → (p && true) ≡ true
one p e = λ i. e i && true

-- ---- the chain's own atoms

module _ (go first current : ℕ) where
  own_go : is_own go first current go ≡ true
  own_go = or_left (go == go) _ (eq-eqb go go refl)

  own_current : is_own go first current current ≡ true
  own_current = or_right (go == current) _ (or_left (current == current) _ (eq-eqb current current refl))

  own_question : (place : ℕ) → place ≤ width_limit → is_own go first current (first + place) ≡ true
  own_question place small = or_right (go == (first + place)) _ (or_right (current == (first + place)) _
      (and_from _ _ (le-leb first (first + place) (omega arith)) (le-leb (first + place) (first + width_limit) (omega (arith, small)))))

  own_first : is_own go first current first ≡ true
  own_first = let same : first + 0 ≡ first = omega arith in sym (ap (is_own go first current) same) ∙ own_question 0 (omega arith)

module _ (go first current : ℕ) (weights : Weights) (step : GroundStep) (effects : List Change) (few : width_of weights.by_name step ≤ width_limit) (actions : List TargetAction) (chain : IsChain go first current weights step effects actions) where
  abbrev asked : List GroundPref
  asked = weighted weights.by_name step.prefs

  -- what holds of each kind of action holds of all
  module _ (P : TargetAction → Type 0) (Q : GroundPref → Type 0)
      (answer : (place cost : ℕ) (holds : Bool) (pref : GroundPref) (action : TargetAction) → place < width_limit → Q pref → IsAnswer first current step.number place holds pref.body cost action → P action) where
    answers_all : (place : ℕ) (prefs : List GroundPref) (answers : List TargetAction) → AreAnswers first current step.number weights.by_name place prefs answers → place + length prefs ≤ width_limit → All Q prefs → All P answers
    answers_all place [] [] are small all = All-nil P
    answers_all place [] (action ∷ answers) are small all = absurd are
    answers_all place (pref ∷ prefs) [] are small all = absurd are
    answers_all place (pref ∷ prefs) (first_one ∷ []) are small all = absurd are
    answers_all place (pref ∷ prefs) (agree ∷ deny ∷ answers) are small all =
        let here = All-head Q pref prefs all in
        All-cons P agree (deny ∷ answers) (answer place 0 true pref agree (omega (arith, small)) here are.0)
        (All-cons P deny answers (answer place (weight_of weights.by_name pref) false pref deny (omega (arith, small)) here are.1)
        (answers_all (place + 1) prefs answers are.2 (omega (arith, small)) (All-tail Q pref prefs all)))

    chain_all : All Q asked → ((action : TargetAction) → IsBegin go first current step action → P action) → ((action : TargetAction) → IsEnd go (first + width_of weights.by_name step) current step.number effects (weighted_cost weights step) action → P action) → All P actions
    chain_all all begin ending = subst (All P) (sym chain.are)
        (All-cons P chain.begin (chain.answers ++ chain.ending ∷ []) (begin chain.begin chain.begins)
        (All-append P chain.answers (chain.ending ∷ []) (answers_all 0 asked chain.answers chain.asks (omega (arith, few)) all) (All-cons P chain.ending [] (ending chain.ending chain.ends) (All-nil P))))

  any : All (λ (pref : GroundPref). Unit {0}) asked
  any k d within = tt

  pub chain_tidy : All (λ (action : TargetAction). IsTrue (is_tidy action.pre)) actions
  chain_tidy = chain_all (λ (action : TargetAction). IsTrue (is_tidy action.pre)) (λ pref. Unit {0}) (λ place cost holds pref action small q link. link.tidy) any (λ action link. link.tidy) (λ action link. link.tidy)

  -- ---- what they change

  abbrev changes : Change → Bool
  changes change = is_own go first current change.atom || is_changed effects change.atom

  own : (atom : ℕ) → is_own go first current atom ≡ true → (is_own go first current atom || is_changed effects atom) ≡ true
  own atom is = or_left (is_own go first current atom) _ is

  -- each change of the effects is of an atom of theirs
  effects_named : list_all changes effects ≡ true
  effects_named = list_all-from_AllPass changes effects (All-weaker (Contains effects) (λ (change : Change). changes change ≡ true)
      (λ change (k, within, is). or_right (is_own go first current change.atom) _
      (list_any_at (λ (other : Change). other.atom == change.atom) effects k change within (ap (λ (other : Change). other.atom == change.atom) is ∙ eq-eqb change.atom change.atom refl)))
      effects (All-contains_itself effects))

  last_own : is_own go first current (first + width_of weights.by_name step) ≡ true
  last_own = own_question go first current (width_of weights.by_name step) few

  pub chain_changes : All (λ (action : TargetAction). IsTrue (changes_own go first current effects action)) actions
  chain_changes = chain_all (λ (action : TargetAction). IsTrue (changes_own go first current effects action)) (λ pref. Unit {0})
      (λ place cost holds pref action small q link. ap (list_all changes) link.does
      ∙ all_turned changes ((first + place) ∷ []) ((first + (place + 1)) ∷ [])
      (one _ (own (first + place) (own_question go first current place (omega (arith, small))))) (one _ (own (first + (place + 1)) (own_question go first current (place + 1) (omega (arith, small))))))
      any
      (λ action link. ap (list_all changes) link.does
      ∙ all_turned changes (go ∷ []) (first ∷ current ∷ [])
      (one _ (own go (own_go go first current))) (two _ _ (own first (own_first go first current)) (own current (own_current go first current))))
      (λ action link. ap (list_all changes) link.does
      ∙ list_all-append changes effects (turned ((first + width_of weights.by_name step) ∷ current ∷ []) (go ∷ []))
      ∙ and_from _ _ effects_named (all_turned changes ((first + width_of weights.by_name step) ∷ current ∷ []) (go ∷ [])
      (two _ _ (own (first + width_of weights.by_name step) last_own) (own current (own_current go first current))) (one _ (own go (own_go go first current)))))

  -- ---- what they read

  module _ (allowed : ℕ → Bool) (are : AreAllowed allowed go first current step effects) where
    -- a change of one of the chain's own atoms
    may : (atom : ℕ) → is_own go first current atom ≡ true → (allowed atom && has_atoms allowed True) ≡ true
    may atom is = and_from _ _ (are.own atom is) (has_atoms-True allowed)

    -- an action whose changes are allowed, and so are its guards and its form
    action_reads : (name : List ℕ) (guards : List ℕ) (source : Form) (holds : Bool) (made : List Change) (cost : ℕ) (action : TargetAction) → IsLink name guards source holds made cost action
        → list_all allowed guards ≡ true → has_atoms allowed source ≡ true → list_all (has_change_atoms allowed) made ≡ true → has_action_atoms allowed action ≡ true
    action_reads name guards source holds made cost action link guarded within changed = and_from _ _ (link.reads allowed guarded within) (ap (list_all (has_change_atoms allowed)) link.does ∙ changed)

    bodies : All (λ (pref : GroundPref). HasAtomsIn allowed pref.body) asked
    bodies = All-filter (λ (pref : GroundPref). nat_lt 0 (weight_of weights.by_name pref)) (λ (pref : GroundPref). HasAtomsIn allowed pref.body) step.prefs are.parts.bodies

    pub chain_atoms : All (λ (action : TargetAction). IsTrue (has_action_atoms allowed action)) actions
    chain_atoms = chain_all (λ (action : TargetAction). IsTrue (has_action_atoms allowed action)) (λ (pref : GroundPref). HasAtomsIn allowed pref.body)
        (λ place cost holds pref action small within link. action_reads _ _ pref.body holds _ cost action link
        (two _ _ (are.own (first + place) (own_question go first current place (omega (arith, small)))) (are.own current (own_current go first current))) within
        (all_turned (has_change_atoms allowed) ((first + place) ∷ []) ((first + (place + 1)) ∷ [])
        (one _ (may (first + place) (own_question go first current place (omega (arith, small))))) (one _ (may (first + (place + 1)) (own_question go first current (place + 1) (omega (arith, small)))))))
        bodies
        (λ action link. action_reads _ _ step.pre true _ 0 action link (one _ (are.own go (own_go go first current))) are.parts.pre
        (all_turned (has_change_atoms allowed) (go ∷ []) (first ∷ current ∷ []) (one _ (may go (own_go go first current))) (two _ _ (may first (own_first go first current)) (may current (own_current go first current)))))
        (λ action link. action_reads _ _ True true _ _ action link
        (two _ _ (are.own (first + width_of weights.by_name step) last_own) (are.own current (own_current go first current))) (has_atoms-True allowed)
        (list_all-append (has_change_atoms allowed) effects (turned ((first + width_of weights.by_name step) ∷ current ∷ []) (go ∷ []))
        ∙ and_from _ _ are.changes (all_turned (has_change_atoms allowed) ((first + width_of weights.by_name step) ∷ current ∷ []) (go ∷ [])
        (two _ _ (may (first + width_of weights.by_name step) last_own) (may current (own_current go first current))) (one _ (may go (own_go go first current))))))
