-- What is so of a flattening: its names, its atoms, and its plans.
use Rattle.std.proofs.Common.{◌≡◌, ◌∙◌, ◌⊎◌, inl, inr, ℕ, ◌+◌, nat_lt, Bool, true, false, not, List, [], ◌∷◌, ◌++◌, length, refl, sym, ap, subst, true≢false}
use Rattle.std.specs.Prelude.{bytes_eq, IsTrue}
use Rattle.std.specs.List.{All, list_all}
use Rattle.std.proofs.lemmas.Bool.{and_parts, and_from, false_from_ne_true, not-true, not_from_false, or_cases, or_from}
use Rattle.std.proofs.lemmas.List.{length-map, map-append}
use Rattle.std.proofs.lemmas.List.Elements.{All-nil, All-cons, All-head, All-tail, All-append}
use Rattle.std.proofs.lemmas.List.Folds.{list_all-append, list_all-map, list_any-append}
use Rattle.std.proofs.lemmas.Slice.Eq.{bytes_eq-Decides}
use Rattle.p3_base.specs.Words.{Name, are_different, has_name, is_lowered, is_name, is_predicate_name}
use Rattle.p3_formula.specs.Conditions.{HasTidyForms, is_tidy_action}
use Rattle.p3_formula.specs.Forms.{is_below}
use Rattle.p3_formula.specs.GroundPlans.{GroundPlan, GroundValid, ground_loss}
use Rattle.p3_formula.specs.Targets.{HasOneOrigin, IsNamed, IsSized, IsSoundFor, IsWellNamed, TargetPlan, TargetValid, Translates, action_names, ends_with_c_number, ground_lift, has_action_atoms, is_sized_action}
use Rattle.p3_formula.specs.Tidy.{is_tidy}
use Rattle.p3_formula.specs.Unconditional.{HasNoConditions}
use Rattle.p3_formula.specs.Weighted.{ground_extra}
use Rattle.p3_formula.specs.declared.form.Change.{Change}
use Rattle.p3_formula.specs.declared.form.Form.TheVariants.{True}
use Rattle.p3_formula.specs.declared.target.Target.{Target}
use Rattle.p3_formula.specs.declared.target.TargetAction.{TargetAction}
use Rattle.p3_formula.specs.declared.target.Weights.{Weights}
use Rattle.p3_formula.specs.declared.task.GroundTask.{GroundTask}
use Rattle.p3_formula.proofs.NamedLaws.{different_behind}
use Rattle.p3_flat.specs.Conditions.{conditions}
use Rattle.p3_flat.specs.Copies.{AreCopiesOf, IsCopyName, copy_named, names_of}
use Rattle.p3_flat.specs.Flattened.{AreFlattened, CanBeFlattened, IsFlattened}
use Rattle.p3_flat.specs.Plans.{HasSamePlans, stem, stems}
use Rattle.p3_flat.proofs.NamingLemmas.{name_named, spelled_named, stem_named}
use Rattle.p3_flat.proofs.PlanLaws.{IsAmong, all_among, copy_from, has_name_among, has_no_ending, same_plans}

-- ---- what is so of all copies is so of the flattening

module _ (P Q : TargetAction → Type 0) (each : (action : TargetAction) (copies : List TargetAction) → AreCopiesOf action copies → P action → All Q copies) where
  all_flattened : (actions made : List TargetAction) → AreFlattened actions made → All P actions → All Q made
  all_flattened [] made flat all = subst (All Q) (sym flat) (All-nil Q)
  all_flattened (action ∷ actions) made flat all =
      subst (All Q) (sym flat.2)
      (All-append Q flat.0 flat.1 (each action flat.0 flat.3 (All-head P action actions all)) (all_flattened actions flat.1 flat.4 (All-tail P action actions all)))

all_from : {A : Type 0} (test : A → Bool) (xs : List A) → list_all test xs ≡ true → All (λ x. test x ≡ true) xs
all_from test [] h = All-nil (λ x. test x ≡ true)
all_from test (x ∷ xs) h = let parts = and_parts (test x) _ h in All-cons (λ y. test y ≡ true) x xs parts.0 (all_from test xs parts.1)

from_all : {A : Type 0} (test : A → Bool) (xs : List A) → All (λ x. test x ≡ true) xs → list_all test xs ≡ true
from_all test [] all = refl
from_all test (x ∷ xs) all = and_from (test x) _ (All-head (λ y. test y ≡ true) x xs all) (from_all test xs (All-tail (λ y. test y ≡ true) x xs all))

all_true : {A : Type 0} (xs : List A) → All (λ x. Unit {0}) xs
all_true [] = All-nil (λ x. Unit {0})
all_true (x ∷ xs) = All-cons (λ y. Unit {0}) x xs tt (all_true xs)

flat_unconditional : (actions made : List TargetAction) → AreFlattened actions made → All HasNoConditions made
flat_unconditional actions made flat =
    all_flattened (λ action. Unit {0}) HasNoConditions (λ action copies are known. are.unconditional) actions made flat (all_true actions)

-- a change without a condition has a tidy one
always_tidy : (effects : List Change) → All (λ (change : Change). change.cond ≡ True) effects → list_all (λ (change : Change). is_tidy change.cond) effects ≡ true
always_tidy [] always = refl
always_tidy (change ∷ effects) always =
    and_from (is_tidy change.cond) _ (ap is_tidy (All-head (λ (one : Change). one.cond ≡ True) change effects always))
    (always_tidy effects (All-tail (λ (one : Change). one.cond ≡ True) change effects always))

copies_tidy : (copies : List TargetAction) → All HasNoConditions copies → All (λ (copy : TargetAction). IsTrue (is_tidy copy.pre)) copies → All (λ (copy : TargetAction). is_tidy_action copy ≡ true) copies
copies_tidy [] free tidy = All-nil (λ (copy : TargetAction). is_tidy_action copy ≡ true)
copies_tidy (copy ∷ copies) free tidy =
    All-cons (λ (one : TargetAction). is_tidy_action one ≡ true) copy copies
    (and_from (is_tidy copy.pre) _ (All-head (λ (one : TargetAction). IsTrue (is_tidy one.pre)) copy copies tidy) (always_tidy copy.effects (All-head HasNoConditions copy copies free)))
    (copies_tidy copies (All-tail HasNoConditions copy copies free) (All-tail (λ (one : TargetAction). IsTrue (is_tidy one.pre)) copy copies tidy))

flat_tidy : (actions made : List TargetAction) → AreFlattened actions made → list_all is_tidy_action actions ≡ true → list_all is_tidy_action made ≡ true
flat_tidy actions made flat tidy =
    from_all is_tidy_action made
    (all_flattened (λ action. is_tidy_action action ≡ true) (λ action. is_tidy_action action ≡ true)
    (λ action copies are own. copies_tidy copies are.unconditional (are.tidy (and_parts (is_tidy action.pre) _ own).0)) actions made flat (all_from is_tidy_action actions tidy))

flat_atoms : (allowed : ℕ → Bool) (actions made : List TargetAction) → AreFlattened actions made → list_all (has_action_atoms allowed) actions ≡ true → list_all (has_action_atoms allowed) made ≡ true
flat_atoms allowed actions made flat within =
    from_all (has_action_atoms allowed) made
    (all_flattened (λ action. has_action_atoms allowed action ≡ true) (λ action. has_action_atoms allowed action ≡ true)
    (λ action copies are own. all_from (has_action_atoms allowed) copies (are.atoms allowed own)) actions made flat (all_from (has_action_atoms allowed) actions within))

-- a test of names that copies pass where their action does
module _ (test : Name → Bool) (kept : (name : Name) (pattern : List Bool) → test name ≡ true → test (copy_named name pattern) ≡ true) where
  passes_named : (count : ℕ) (name : Name) (copies : List TargetAction) → All (λ (copy : TargetAction). IsCopyName count name copy.name) copies → test name ≡ true → All (λ (copy : TargetAction). test copy.name ≡ true) copies
  passes_named count name [] all own = All-nil (λ (copy : TargetAction). test copy.name ≡ true)
  passes_named count name (copy ∷ copies) all own =
      let named : IsCopyName count name copy.name = All-head (λ (one : TargetAction). IsCopyName count name one.name) copy copies all in
      All-cons (λ (one : TargetAction). test one.name ≡ true) copy copies (ap test named.is ∙ kept name named.pattern own) (passes_named count name copies (All-tail (λ (one : TargetAction). IsCopyName count name one.name) copy copies all) own)

  pub flat_names : (actions made : List TargetAction) → AreFlattened actions made → list_all test (names_of actions) ≡ true → list_all test (names_of made) ≡ true
  flat_names actions made flat own =
      list_all-map test (λ (action : TargetAction). action.name) made
      ∙ from_all (λ (action : TargetAction). test action.name) made
      (all_flattened (λ (action : TargetAction). test action.name ≡ true) (λ (action : TargetAction). test action.name ≡ true)
      (λ action copies are known. passes_named (length (conditions action.effects)) action.name copies are.names known) actions made flat
      (all_from (λ (action : TargetAction). test action.name) actions (sym (list_all-map test (λ (action : TargetAction). action.name) actions) ∙ own)))

-- ---- names differ

-- some action has the name
record HasAction (name : Name) (actions : List TargetAction) : Type 0 where
  action : TargetAction
  own : IsAmong action actions
  is : action.name ≡ name

action_named : (name : Name) (actions : List TargetAction) → has_name (names_of actions) name ≡ true → HasAction name actions
action_named name [] h = absurd (true≢false (sym h))
action_named name (action ∷ actions) h = by (λ later. action_named name actions later) (or_cases (bytes_eq action.name name) _ h)
  where
    by : (has_name (names_of actions) name ≡ true → HasAction name actions) → (bytes_eq action.name name ≡ true) ⊎ (has_name (names_of actions) name ≡ true) → HasAction name (action ∷ actions)
    by rest_of (inl here) = record { action = action; own = inl refl; is = (bytes_eq-Decides action.name name).0 here }
    by rest_of (inr later) = let rest = rest_of later in record { action = rest.action; own = inr rest.own; is = rest.is }

different_append : (first second : List TargetAction) → are_different (names_of first) ≡ true → are_different (names_of second) ≡ true
    → ((action : TargetAction) → IsAmong action first → has_name (names_of second) action.name ≡ false) → are_different (names_of (first ++ second)) ≡ true
different_append [] second differ others apart = others
different_append (action ∷ first) second differ others apart =
    let parts = and_parts (not (has_name (names_of first) action.name)) _ differ in
    and_from (not (has_name (names_of (first ++ second)) action.name)) _
    (not_from_false _ (ap (λ names. has_name names action.name) (map-append (λ (one : TargetAction). one.name) first second) ∙ list_any-append (λ other. bytes_eq other action.name) (names_of first) (names_of second) ∙ or_from (has_name (names_of first) action.name) _ (not-true _ parts.0) (apart action (inl refl))))
    (different_append first second parts.1 others (λ one own. apart one (inr own)))

stem_of_copy : (action copy : TargetAction) (copies : List TargetAction) → AreCopiesOf action copies → IsAmong copy copies → ends_with_c_number action.name ≡ false → stem copy.name ≡ action.name
stem_of_copy action copy copies are own plain =
    let named : IsCopyName (length (conditions action.effects)) action.name copy.name = all_among (λ (one : TargetAction). IsCopyName (length (conditions action.effects)) action.name one.name) copy copies are.names own in
    ap stem named.is ∙ stem_named action.name named.pattern plain

pub flat_different : (actions made : List TargetAction) → AreFlattened actions made → are_different (names_of actions) ≡ true → list_all (λ name. not (ends_with_c_number name)) (names_of actions) ≡ true → are_different (names_of made) ≡ true
flat_different [] made flat differ plain = ap (λ list. are_different (names_of list)) flat
flat_different (action ∷ actions) made flat differ plain =
    ap (λ list. are_different (names_of list)) flat.2
    ∙ different_append flat.0 flat.1 flat.3.different (flat_different actions flat.1 flat.4 parts.1 (and_parts (not (ends_with_c_number action.name)) _ plain).1) apart
  where
    parts : (not (has_name (names_of actions) action.name) ≡ true) × (are_different (names_of actions) ≡ true)
    parts = and_parts (not (has_name (names_of actions) action.name)) _ differ

    apart : (copy : TargetAction) → IsAmong copy flat.0 → has_name (names_of flat.1) copy.name ≡ false
    apart copy own = false_from_ne_true _ (λ has. clash (action_named copy.name flat.1 has))
      where
        clash : HasAction copy.name flat.1 → ⊥
        clash other =
            let from = copy_from actions flat.1 other.action flat.4 other.own in
            let one : stem copy.name ≡ action.name = stem_of_copy action copy flat.0 flat.3 own (has_no_ending (action ∷ actions) action plain (inl refl)) in
            let two : stem other.action.name ≡ from.action.name = stem_of_copy from.action other.action from.copies from.are from.among (has_no_ending (action ∷ actions) from.action plain (inr from.own)) in
            let same : from.action.name ≡ action.name = sym two ∙ ap stem other.is ∙ one in
            true≢false (sym (has_name_among from.action actions from.own) ∙ ap (has_name (names_of actions)) same ∙ not-true _ parts.0)

-- ---- of a flattening

pub flattened_from : (X Y : Target) (actions : List TargetAction) → CanBeFlattened X → Y ≡ record X { actions = actions } → AreFlattened X.actions actions → IsFlattened X Y
flattened_from X Y actions names is flat = record {
  predicates = ap (λ (Z : Target). Z.predicates) is;
  initial = ap (λ (Z : Target). Z.initial) is;
  goal = ap (λ (Z : Target). Z.goal) is;
  actions = subst (AreFlattened X.actions) (sym own) flat;
  names = ap (λ list. list_all is_name (names_of list)) own ∙ flat_names is_name name_named X.actions actions flat names.names;
  different = ap (λ list. are_different (names_of list)) own ∙ flat_different X.actions actions flat names.different names.endings;
}
  where
    own : Y.actions ≡ actions
    own = ap (λ (Z : Target). Z.actions) is

pub can_be_flattened : (X : Target) → IsNamed X → CanBeFlattened X
can_be_flattened X named = record { names = named.actions; different = different_behind X.predicates (action_names X) named.different; endings = named.endings }

module _ (X Y : Target) (flat : IsFlattened X Y) where
  pub flat_sized : IsSized X → IsSized Y
  flat_sized known = record {
    bits = ap length flat.initial ∙ known.bits ∙ ap length (sym flat.predicates);
    goal = (λ i. is_below (length (flat.predicates i)) (flat.goal i)) ∙ known.goal;
    actions = ap (λ names. list_all (is_sized_action (length names)) Y.actions) flat.predicates
        ∙ flat_atoms (λ atom. nat_lt atom (length X.predicates)) X.actions Y.actions flat.actions known.actions;
  }

  pub flat_well_named : IsWellNamed X → IsWellNamed Y
  flat_well_named named =
      let spelled = and_parts (list_all (list_all is_lowered) X.predicates) _ (sym (list_all-append (list_all is_lowered) X.predicates (action_names X)) ∙ named.spelled) in
      record {
        predicates = ap (list_all is_predicate_name) flat.predicates ∙ named.predicates;
        actions = flat.names;
        spelled = list_all-append (list_all is_lowered) Y.predicates (action_names Y)
            ∙ and_from (list_all (list_all is_lowered) Y.predicates) _ (ap (list_all (list_all is_lowered)) flat.predicates ∙ spelled.0) (flat_names (list_all is_lowered) spelled_named X.actions Y.actions flat.actions spelled.1);
        predicates_differ = ap are_different flat.predicates ∙ named.predicates_differ;
        actions_differ = flat.different;
      }

  pub flat_tidy_forms : HasTidyForms X → HasTidyForms Y
  flat_tidy_forms tidy = record { goal = ap is_tidy flat.goal ∙ tidy.goal; actions = flat_tidy X.actions Y.actions flat.actions tidy.actions }

  pub flat_free : All HasNoConditions Y.actions
  flat_free = flat_unconditional X.actions Y.actions flat.actions

  module _ (names : CanBeFlattened X) (G : GroundTask) (weights : Weights) (known : Translates G weights X) where
    plans : HasSamePlans X Y
    plans = same_plans X Y names flat

    sound : (q : TargetPlan) → TargetValid Y q → IsSoundFor G weights Y q
    sound q valid =
        let there = plans.back q valid in
        let so = known.sound (stems q) there.valid in
        record {
          valid = subst (GroundValid G) (sym (there.lifts G)) so.valid;
          cost = sym there.costs ∙ so.cost ∙ ap (ground_loss G weights) (sym (there.lifts G));
        }

    one_to_one : (p : GroundPlan) → GroundValid G p → HasOneOrigin G Y p
    one_to_one p valid =
        let so = known.one_to_one p valid in
        let one = plans.forth so.origin so.valid in
        record {
          origin = one.flat;
          valid = one.valid;
          lifts = (plans.back one.flat one.valid).lifts G ∙ ap (ground_lift G) one.copies ∙ so.lifts;
          only = λ q is_valid lifts. let back = plans.back q is_valid in one.only q is_valid (so.only (stems q) back.valid (sym (back.lifts G) ∙ lifts));
        }

    long : (q : TargetPlan) → TargetValid Y q → length q ≡ length (ground_lift G q) + 1 + length G.soft + ground_extra G weights (ground_lift G q)
    long q valid =
        let there = plans.back q valid in
        sym (length-map q stem) ∙ known.length (stems q) there.valid
        ∙ ap (λ plan. length plan + 1 + length G.soft + ground_extra G weights plan) (sym (there.lifts G))

    pub flat_translates : Translates G weights Y
    flat_translates = record { sound = sound; one_to_one = one_to_one; length = long }
