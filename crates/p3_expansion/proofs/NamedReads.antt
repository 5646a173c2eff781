-- What is read of the trees of a well-formed task has names.
use Rattle.std.proofs.Common.{◌≡◌, ◌∙◌, ℕ, Bool, true, false, ◌&&◌, List, [], ◌∷◌, ◌++◌, map, slice_get, Some, refl, ap}
use Rattle.std.specs.Prelude.{flat_map}
use Rattle.std.specs.List.{list_all}
use Rattle.std.proofs.lemmas.Bool.{and_parts, and_from}
use Rattle.std.proofs.lemmas.List.{append-nil}
use Rattle.std.proofs.lemmas.List.Concat.{flat_map-append}
use Rattle.std.proofs.lemmas.List.Folds.{list_all-append}
use mathlib.Core.Former.{Count}
use Rattle.p3_task.specs.Bindings.{bind}
use Rattle.p3_task.specs.Folds.{fold_formulas, fold_goals, fold_effects, fold_constraints}
use Rattle.p3_task.specs.Offences.{WellFormed}
use Rattle.p3_task.specs.declared.constraint.Constraint.{Constraint, Row_of-Constraint, end_of-Constraint, more_of-Constraint}
use Rattle.p3_task.specs.declared.constraint.Constraint.TheVariants as constraint
use Rattle.p3_task.specs.Modal.{Modal}
use Rattle.p3_base.specs.declared.operator.Operator.TheVariants as modal
use Rattle.p3_task.specs.declared.effect.Effect.{Effect, Row_of-Effect, end_of-Effect, more_of-Effect}
use Rattle.p3_task.specs.declared.effect.Effect.TheVariants as effect
use Rattle.p3_task.specs.declared.formula.Formula.{Formula, Row_of-Formula, end_of-Formula, more_of-Formula}
use Rattle.p3_task.specs.declared.formula.Formula.TheVariants as formula
use Rattle.p3_task.specs.declared.goal.PreGoal.{PreGoal, Row_of-PreGoal, end_of-PreGoal, more_of-PreGoal}
use Rattle.p3_task.specs.declared.goal.PreGoal.TheVariants as goal
use Rattle.p3_task.specs.declared.task.Action.{Action}
use Rattle.p3_task.specs.declared.task.Task.{Task}
use Rattle.p3_task.specs.declared.term.Typed.{Typed}
use Rattle.p3_numbers.specs.Conditions.{condition_of, condition_layer, is_known_formula, known_formula_layer}
use Rattle.p3_numbers.specs.Constraints.{PlacedModal, PlacedInstance, hard_operators, modal_of, is_known_modal, constraint_of, constraint_layer, is_known_constraint, known_constraint_layer, soft_instances}
use Rattle.p3_numbers.specs.Effects.{effect_of, effect_layer, is_known_effect, known_effect_layer}
use Rattle.p3_numbers.specs.Goals.{preferences, goal_of, goal_layer, is_known_goal, known_goal_layer, is_known_name, numbered_name}
use Rattle.p3_numbers.specs.Known.{IsKnownTask, is_known_action}
use Rattle.p3_numbers.specs.Places.{Variables, number_in, numbered_terms, are_known_types, ranges_of, words_of, IsNumbering, Fills, environment_of}
use Rattle.p3_numbers.specs.Slots.{Slots, bound}
use Rattle.p3_numbers.specs.Tasks.{IsNumberedTask, numbered_action}
use Rattle.p3_numbers.specs.declared.constraint.NumberedConstraint.{NumberedConstraint}
use Rattle.p3_numbers.specs.declared.numbers.Numbers.{Numbers}
use Rattle.p3_numbers.specs.declared.task.NumberedTask.{NumberedTask}
use Rattle.p3_numbers.proofs.BindingLemmas.{each_binding}
use Rattle.p3_numbers.proofs.ConstraintLemmas.{soft_instances-Both, soft_instances-Each, soft_instances-Soft}
use Rattle.p3_expansion.specs.Atoms.{GroundAtom, atom_at, is_named, are_named}
use Rattle.p3_expansion.specs.Changes.{effect_atoms}
use Rattle.p3_expansion.specs.Hard.{hard_atoms}
use Rattle.p3_expansion.specs.Instances.{at_end, instance_atoms}
use Rattle.p3_expansion.specs.Meanings.{condition_atoms}
use Rattle.p3_expansion.specs.NamedReads.{IsNamedStep, ReadsAreNamed}
use Rattle.p3_expansion.specs.Operators.{operator_atoms, operators_of}
use Rattle.p3_expansion.specs.Preferences.{preference_atoms}
use Rattle.p3_expansion.proofs.EffectLemmas as effect_lemma
use Rattle.p3_expansion.proofs.HardLemmas as hard_lemma
use Rattle.p3_expansion.proofs.InstanceLemmas.{instances-Single, atoms-at-end}
use Rattle.p3_expansion.proofs.MeaningLemmas as lemma
use Rattle.p3_expansion.proofs.NamedAtoms.{atom-named}
use Rattle.p3_expansion.proofs.NextLemmas.{all-at}
use Rattle.p3_expansion.proofs.OperatorLemmas.{operators-Both, operators-Each, operators-Single, operators-Soft-all, operators-Soft-hard}
use Rattle.p3_expansion.proofs.PreferenceLemmas as preference_lemma
use Rattle.p3_expansion.proofs.TaskLemmas as whole
use Rattle.p3_expansion.proofs.WalkLemmas.{flat-flat}

module _ (N : Numbers) where
  named-both : (first second : List GroundAtom) → are_named N first ≡ true → are_named N second ≡ true → are_named N (first ++ second) ≡ true
  named-both first second a b = list_all-append (is_named N) first second ∙ and_from (are_named N first) (are_named N second) a b

  named-flat : {A : Type 0} (reads : A → List GroundAtom) (xs : List A) → list_all (λ found. found) (map (λ x. are_named N (reads x)) xs) ≡ true → are_named N (flat_map reads xs) ≡ true
  named-flat reads [] all = refl
  named-flat reads (x ∷ xs) all =
      let parts = and_parts (are_named N (reads x)) (list_all (λ found. found) (map (λ x. are_named N (reads x)) xs)) all in
      named-both (reads x) (flat_map reads xs) parts.0 (named-flat reads xs parts.1)

true-each : {A : Type 0} (xs : List A) → list_all (λ found. found) (map (λ x. true) xs) ≡ true
true-each [] = refl
true-each (x ∷ xs) = true-each xs

module _ (T : Task) (N : Numbers) (ties : IsNumbering T N) where
  -- what is so at all choices of the variables
  named-choices : (reads : Slots → List GroundAtom) (scope : Variables) (slots : Slots) (variables : List Typed) → Fills N scope slots → are_known_types N variables ≡ true
      → ((inner : Slots) → Fills N (scope ++ words_of variables) inner → are_named N (reads inner) ≡ true) → are_named N (flat_map reads (bound N slots (ranges_of N variables))) ≡ true
  named-choices reads scope slots variables fills known each =
      named-flat N reads (bound N slots (ranges_of N variables))
      (ap (list_all (λ found. found)) (each_binding T N ties (λ inner. are_named N (reads inner)) (λ env. true) scope slots variables fills known each) ∙ true-each (bind T (environment_of N scope slots) variables))

  -- ---- conditions

  mutual
    unfolding condition_of is_known_formula condition_atoms

    pub condition-named : (tree : Formula) (scope : Variables) (slots : Slots) → Fills N scope slots → is_known_formula N tree scope ≡ true → are_named N (condition_atoms N slots (condition_of N tree scope)) ≡ true
    condition-named (formula.Atom pred args) scope slots fills known = and_from (is_named N (atom_at slots (number_in N.predicates pred.name) (numbered_terms N scope args))) true (atom-named N scope slots fills pred args known) refl
    condition-named (formula.Equal left right) scope slots fills known = refl
    condition-named (formula.And' _ parts) scope slots fills known =
        let made = map (λ part. part scope) (fold_formulas (condition_layer N) parts) in
        ap (are_named N) (lemma.atoms-And N slots made) ∙ named-flat N (condition_atoms N slots) made (conditions-named parts scope slots fills known)
    condition-named (formula.Or' _ parts) scope slots fills known =
        let made = map (λ part. part scope) (fold_formulas (condition_layer N) parts) in
        ap (are_named N) (lemma.atoms-Or N slots made) ∙ named-flat N (condition_atoms N slots) made (conditions-named parts scope slots fills known)
    condition-named (formula.Not' _ (more_of-Formula part _)) scope slots fills known = ap (are_named N) (lemma.atoms-Not N slots (condition_of N part scope)) ∙ condition-named part scope slots fills known
    condition-named (formula.Imply' _ (more_of-Formula first _) _ (more_of-Formula second _)) scope slots fills known =
        let parts = and_parts (is_known_formula N first scope) (is_known_formula N second scope) known in
        ap (are_named N) (lemma.atoms-Imply N slots (condition_of N first scope) (condition_of N second scope))
        ∙ named-both N (condition_atoms N slots (condition_of N first scope)) (condition_atoms N slots (condition_of N second scope)) (condition-named first scope slots fills parts.0) (condition-named second scope slots fills parts.1)
    condition-named (formula.Exists' variables _ (more_of-Formula body _)) scope slots fills known =
        let inner = scope ++ words_of variables in
        let parts = and_parts (are_known_types N variables) (is_known_formula N body inner) known in
        let made = condition_of N body inner in
        ap (are_named N) (lemma.atoms-Exists N slots (ranges_of N variables) made)
        ∙ named-choices (λ more. condition_atoms N more made) scope slots variables fills parts.0 (λ more fits. condition-named body inner more fits parts.1)
    condition-named (formula.Forall' variables _ (more_of-Formula body _)) scope slots fills known =
        let inner = scope ++ words_of variables in
        let parts = and_parts (are_known_types N variables) (is_known_formula N body inner) known in
        let made = condition_of N body inner in
        ap (are_named N) (lemma.atoms-Forall N slots (ranges_of N variables) made)
        ∙ named-choices (λ more. condition_atoms N more made) scope slots variables fills parts.0 (λ more fits. condition-named body inner more fits parts.1)

    conditions-named : {n : Count} (parts : Row_of-Formula n) (scope : Variables) (slots : Slots) → Fills N scope slots → list_all (λ part. part scope) (fold_formulas (known_formula_layer N) parts) ≡ true
        → list_all (λ found. found) (map (λ made. are_named N (condition_atoms N slots made)) (map (λ part. part scope) (fold_formulas (condition_layer N) parts))) ≡ true
    conditions-named end_of-Formula scope slots fills known = refl
    conditions-named (more_of-Formula part rest) scope slots fills known =
        let parts = and_parts (is_known_formula N part scope) (list_all (λ part. part scope) (fold_formulas (known_formula_layer N) rest)) known in
        and_from (are_named N (condition_atoms N slots (condition_of N part scope))) _ (condition-named part scope slots fills parts.0) (conditions-named rest scope slots fills parts.1)

  -- ---- goals

  mutual
    unfolding goal_of is_known_goal hard_atoms

    pub hard-named : (tree : PreGoal) (scope : Variables) (slots : Slots) → Fills N scope slots → is_known_goal N tree scope ≡ true → are_named N (hard_atoms N slots (goal_of N tree scope)) ≡ true
    hard-named (goal.Plain body) scope slots fills known = condition-named body scope slots fills known
    hard-named (goal.Both' _ parts) scope slots fills known =
        let made = map (λ part. part scope) (fold_goals (goal_layer N) parts) in
        ap (are_named N) (hard_lemma.atoms-Both N slots made) ∙ named-flat N (hard_atoms N slots) made (hards-named parts scope slots fills known)
    hard-named (goal.Each' variables _ (more_of-PreGoal body _)) scope slots fills known =
        let inner = scope ++ words_of variables in
        let parts = and_parts (are_known_types N variables) (is_known_goal N body inner) known in
        let made = goal_of N body inner in
        ap (are_named N) (hard_lemma.atoms-Each N slots (ranges_of N variables) made) ∙ named-choices (λ more. hard_atoms N more made) scope slots variables fills parts.0 (λ more fits. hard-named body inner more fits parts.1)
    hard-named (goal.Soft pref) scope slots fills known = refl

    hards-named : {n : Count} (parts : Row_of-PreGoal n) (scope : Variables) (slots : Slots) → Fills N scope slots → list_all (λ part. part scope) (fold_goals (known_goal_layer N) parts) ≡ true
        → list_all (λ found. found) (map (λ made. are_named N (hard_atoms N slots made)) (map (λ part. part scope) (fold_goals (goal_layer N) parts))) ≡ true
    hards-named end_of-PreGoal scope slots fills known = refl
    hards-named (more_of-PreGoal part rest) scope slots fills known =
        let parts = and_parts (is_known_goal N part scope) (list_all (λ part. part scope) (fold_goals (known_goal_layer N) rest)) known in
        and_from (are_named N (hard_atoms N slots (goal_of N part scope))) _ (hard-named part scope slots fills parts.0) (hards-named rest scope slots fills parts.1)

  mutual
    unfolding goal_of is_known_goal

    pub preference-named : (tree : PreGoal) (scope : Variables) (slots : Slots) → Fills N scope slots → is_known_goal N tree scope ≡ true → are_named N (preference_atoms N slots (goal_of N tree scope)) ≡ true
    preference-named (goal.Plain body) scope slots fills known = ap (are_named N) (preference_lemma.atoms-Plain N slots (condition_of N body scope))
    preference-named (goal.Both' _ parts) scope slots fills known =
        let made = map (λ part. part scope) (fold_goals (goal_layer N) parts) in
        ap (are_named N) (preference_lemma.atoms-Both N slots made) ∙ named-flat N (preference_atoms N slots) made (preferences-named parts scope slots fills known)
    preference-named (goal.Each' variables _ (more_of-PreGoal body _)) scope slots fills known =
        let inner = scope ++ words_of variables in
        let parts = and_parts (are_known_types N variables) (is_known_goal N body inner) known in
        let made = goal_of N body inner in
        ap (are_named N) (preference_lemma.atoms-Each N slots (ranges_of N variables) made) ∙ named-choices (λ more. preference_atoms N more made) scope slots variables fills parts.0 (λ more fits. preference-named body inner more fits parts.1)
    preference-named (goal.Soft pref) scope slots fills known =
        let parts = and_parts (is_known_name N pref.name) (is_known_formula N pref.body scope) known in
        ap (are_named N) (preference_lemma.atoms-Soft N slots (record { at = pref.at; name = numbered_name N pref.name; body = condition_of N pref.body scope })) ∙ condition-named pref.body scope slots fills parts.1

    preferences-named : {n : Count} (parts : Row_of-PreGoal n) (scope : Variables) (slots : Slots) → Fills N scope slots → list_all (λ part. part scope) (fold_goals (known_goal_layer N) parts) ≡ true
        → list_all (λ found. found) (map (λ made. are_named N (preference_atoms N slots made)) (map (λ part. part scope) (fold_goals (goal_layer N) parts))) ≡ true
    preferences-named end_of-PreGoal scope slots fills known = refl
    preferences-named (more_of-PreGoal part rest) scope slots fills known =
        let parts = and_parts (is_known_goal N part scope) (list_all (λ part. part scope) (fold_goals (known_goal_layer N) rest)) known in
        and_from (are_named N (preference_atoms N slots (goal_of N part scope))) _ (preference-named part scope slots fills parts.0) (preferences-named rest scope slots fills parts.1)

  -- ---- effects

  mutual
    unfolding effect_of is_known_effect effect_atoms

    pub effect-named : (tree : Effect) (scope : Variables) (slots : Slots) → Fills N scope slots → is_known_effect N tree scope ≡ true → are_named N (effect_atoms N slots (effect_of N tree scope)) ≡ true
    effect-named (effect.Add pred args) scope slots fills known = and_from (is_named N (atom_at slots (number_in N.predicates pred.name) (numbered_terms N scope args))) true (atom-named N scope slots fills pred args known) refl
    effect-named (effect.Del pred args) scope slots fills known = and_from (is_named N (atom_at slots (number_in N.predicates pred.name) (numbered_terms N scope args))) true (atom-named N scope slots fills pred args known) refl
    effect-named (effect.All' _ parts) scope slots fills known =
        let made = map (λ part. part scope) (fold_effects (effect_layer N) parts) in
        ap (are_named N) (effect_lemma.atoms-All N slots made) ∙ named-flat N (effect_atoms N slots) made (effects-named parts scope slots fills known)
    effect-named (effect.Each' variables _ (more_of-Effect body _)) scope slots fills known =
        let inner = scope ++ words_of variables in
        let parts = and_parts (are_known_types N variables) (is_known_effect N body inner) known in
        let made = effect_of N body inner in
        ap (are_named N) (effect_lemma.atoms-Each N slots (ranges_of N variables) made) ∙ named-choices (λ more. effect_atoms N more made) scope slots variables fills parts.0 (λ more fits. effect-named body inner more fits parts.1)
    effect-named (effect.If' condition _ (more_of-Effect body _)) scope slots fills known =
        let parts = and_parts (is_known_formula N condition scope) (is_known_effect N body scope) known in
        ap (are_named N) (effect_lemma.atoms-If N slots (condition_of N condition scope) (effect_of N body scope))
        ∙ named-both N (condition_atoms N slots (condition_of N condition scope)) (effect_atoms N slots (effect_of N body scope)) (condition-named condition scope slots fills parts.0) (effect-named body scope slots fills parts.1)
    effect-named (effect.Cost at increase) scope slots fills known = refl

    effects-named : {n : Count} (parts : Row_of-Effect n) (scope : Variables) (slots : Slots) → Fills N scope slots → list_all (λ part. part scope) (fold_effects (known_effect_layer N) parts) ≡ true
        → list_all (λ found. found) (map (λ made. are_named N (effect_atoms N slots made)) (map (λ part. part scope) (fold_effects (effect_layer N) parts))) ≡ true
    effects-named end_of-Effect scope slots fills known = refl
    effects-named (more_of-Effect part rest) scope slots fills known =
        let parts = and_parts (is_known_effect N part scope) (list_all (λ part. part scope) (fold_effects (known_effect_layer N) rest)) known in
        and_from (are_named N (effect_atoms N slots (effect_of N part scope))) _ (effect-named part scope slots fills parts.0) (effects-named rest scope slots fills parts.1)

  -- ---- constraints

  modal-named : (operator : Modal) (scope : Variables) (slots : Slots) → Fills N scope slots → is_known_modal N operator scope ≡ true → are_named N (operator_atoms N (record { modal = modal_of N operator scope; slots = slots })) ≡ true
  modal-named operator scope slots fills known = by operator known
    where
      one : (f : Formula) → is_known_formula N f scope ≡ true → are_named N (condition_atoms N slots (condition_of N f scope) ++ []) ≡ true
      one f known = ap (are_named N) (append-nil (condition_atoms N slots (condition_of N f scope))) ∙ condition-named f scope slots fills known

      two : (f g : Formula) → (is_known_formula N f scope && is_known_formula N g scope) ≡ true → are_named N (condition_atoms N slots (condition_of N f scope) ++ (condition_atoms N slots (condition_of N g scope) ++ [])) ≡ true
      two f g known =
          let parts = and_parts (is_known_formula N f scope) (is_known_formula N g scope) known in
          named-both N (condition_atoms N slots (condition_of N f scope)) (condition_atoms N slots (condition_of N g scope) ++ []) (condition-named f scope slots fills parts.0) (one g parts.1)

      by : (operator : Modal) → is_known_modal N operator scope ≡ true → are_named N (operator_atoms N (record { modal = modal_of N operator scope; slots = slots })) ≡ true
      by (modal.AtEnd f) known = one f known
      by (modal.Always f) known = one f known
      by (modal.Sometime f) known = one f known
      by (modal.AtMostOnce f) known = one f known
      by (modal.SometimeAfter f g) known = two f g known
      by (modal.SometimeBefore f g) known = two f g known

  abbrev atoms_of : List PlacedModal → List GroundAtom
  atoms_of found = flat_map (operator_atoms N) found

  mutual
    unfolding constraint_of is_known_constraint

    pub operators-named : (all : Bool) (tree : Constraint) (scope : Variables) (slots : Slots) → Fills N scope slots → is_known_constraint N tree scope ≡ true → are_named N (atoms_of (operators_of N all slots (constraint_of N tree scope))) ≡ true
    operators-named all (constraint.Both' _ parts) scope slots fills known =
        let made = map (λ part. part scope) (fold_constraints (constraint_layer N) parts) in
        ap (λ found. are_named N (atoms_of found)) (operators-Both N slots all made) ∙ ap (are_named N) (flat-flat (operator_atoms N) (operators_of N all slots) made)
        ∙ named-flat N (λ part. atoms_of (operators_of N all slots part)) made (all-operators-named all parts scope slots fills known)
    operators-named all (constraint.Each' variables _ (more_of-Constraint body _)) scope slots fills known =
        let inner = scope ++ words_of variables in
        let parts = and_parts (are_known_types N variables) (is_known_constraint N body inner) known in
        let made = constraint_of N body inner in
        ap (λ found. are_named N (atoms_of found)) (operators-Each N slots all (ranges_of N variables) made)
        ∙ ap (are_named N) (flat-flat (operator_atoms N) (λ more. operators_of N all more made) (bound N slots (ranges_of N variables)))
        ∙ named-choices (λ more. atoms_of (operators_of N all more made)) scope slots variables fills parts.0 (λ more fits. operators-named all body inner more fits parts.1)
    operators-named all (constraint.Single operator) scope slots fills known =
        let placed : PlacedModal = record { modal = modal_of N operator scope; slots = slots } in
        ap (λ found. are_named N (atoms_of found)) (operators-Single N slots all (modal_of N operator scope)) ∙ ap (are_named N) (append-nil (operator_atoms N placed)) ∙ modal-named operator scope slots fills known
    operators-named true (constraint.Soft' at name _ (more_of-Constraint body _)) scope slots fills known =
        let parts = and_parts (is_known_name N name) (is_known_constraint N body scope) known in
        ap (λ found. are_named N (atoms_of found)) (operators-Soft-all N slots true at (numbered_name N name) (constraint_of N body scope) refl) ∙ operators-named true body scope slots fills parts.1
    operators-named false (constraint.Soft' at name _ (more_of-Constraint body _)) scope slots fills known =
        ap (λ found. are_named N (atoms_of found)) (operators-Soft-hard N slots false at (numbered_name N name) (constraint_of N body scope) refl)

    all-operators-named : {n : Count} (all : Bool) (parts : Row_of-Constraint n) (scope : Variables) (slots : Slots) → Fills N scope slots → list_all (λ part. part scope) (fold_constraints (known_constraint_layer N) parts) ≡ true
        → list_all (λ found. found) (map (λ made. are_named N (atoms_of (operators_of N all slots made))) (map (λ part. part scope) (fold_constraints (constraint_layer N) parts))) ≡ true
    all-operators-named all end_of-Constraint scope slots fills known = refl
    all-operators-named all (more_of-Constraint part rest) scope slots fills known =
        let parts = and_parts (is_known_constraint N part scope) (list_all (λ part. part scope) (fold_constraints (known_constraint_layer N) rest)) known in
        and_from (are_named N (atoms_of (operators_of N all slots (constraint_of N part scope)))) _ (operators-named all part scope slots fills parts.0) (all-operators-named all rest scope slots fills parts.1)

  abbrev instances_atoms : List PlacedInstance → List GroundAtom
  instances_atoms found = flat_map (instance_atoms N) found

  mutual
    unfolding constraint_of is_known_constraint

    pub instances-named : (tree : Constraint) (scope : Variables) (slots : Slots) → Fills N scope slots → is_known_constraint N tree scope ≡ true → are_named N (instances_atoms (soft_instances N (constraint_of N tree scope) slots)) ≡ true
    instances-named (constraint.Both' _ parts) scope slots fills known =
        let made = map (λ part. part scope) (fold_constraints (constraint_layer N) parts) in
        ap (λ found. are_named N (instances_atoms found)) (soft_instances-Both N slots made) ∙ ap (are_named N) (flat-flat (instance_atoms N) (λ part. soft_instances N part slots) made)
        ∙ named-flat N (λ part. instances_atoms (soft_instances N part slots)) made (all-instances-named parts scope slots fills known)
    instances-named (constraint.Each' variables _ (more_of-Constraint body _)) scope slots fills known =
        let inner = scope ++ words_of variables in
        let parts = and_parts (are_known_types N variables) (is_known_constraint N body inner) known in
        let made = constraint_of N body inner in
        ap (λ found. are_named N (instances_atoms found)) (soft_instances-Each N slots (ranges_of N variables) made)
        ∙ ap (are_named N) (flat-flat (instance_atoms N) (soft_instances N made) (bound N slots (ranges_of N variables)))
        ∙ named-choices (λ more. instances_atoms (soft_instances N made more)) scope slots variables fills parts.0 (λ more fits. instances-named body inner more fits parts.1)
    instances-named (constraint.Single operator) scope slots fills known = ap (λ found. are_named N (instances_atoms found)) (instances-Single N slots (modal_of N operator scope))
    instances-named (constraint.Soft' at name _ (more_of-Constraint body _)) scope slots fills known =
        let parts = and_parts (is_known_name N name) (is_known_constraint N body scope) known in
        let made = constraint_of N body scope in
        ap (λ found. are_named N (instances_atoms found)) (soft_instances-Soft N slots at (numbered_name N name) made)
        ∙ ap (are_named N) (append-nil (atoms_of (operators_of N true slots made))) ∙ operators-named true body scope slots fills parts.1

    all-instances-named : {n : Count} (parts : Row_of-Constraint n) (scope : Variables) (slots : Slots) → Fills N scope slots → list_all (λ part. part scope) (fold_constraints (known_constraint_layer N) parts) ≡ true
        → list_all (λ found. found) (map (λ made. are_named N (instances_atoms (soft_instances N made slots))) (map (λ part. part scope) (fold_constraints (constraint_layer N) parts))) ≡ true
    all-instances-named end_of-Constraint scope slots fills known = refl
    all-instances-named (more_of-Constraint part rest) scope slots fills known =
        let parts = and_parts (is_known_constraint N part scope) (list_all (λ part. part scope) (fold_constraints (known_constraint_layer N) rest)) known in
        and_from (are_named N (instances_atoms (soft_instances N (constraint_of N part scope) slots))) _ (instances-named part scope slots fills parts.0) (all-instances-named rest scope slots fills parts.1)

-- ---- of a whole task

module _ (T : Task) (X : NumberedTask) (well : WellFormed T) (numbered : IsNumberedTask T X) where
  all_known : IsKnownTask T X.numbers
  all_known = whole.known T X well numbered

  fills-none : Fills X.numbers [] []
  fills-none = whole.no-variables X.numbers

  of_operators : (tree : Constraint) → is_known_constraint X.numbers tree [] ≡ true → (made : NumberedConstraint) → made ≡ constraint_of X.numbers tree [] → are_named X.numbers (flat_map (operator_atoms X.numbers) (hard_operators X.numbers [] made)) ≡ true
  of_operators tree known made is = ap (λ one. are_named X.numbers (flat_map (operator_atoms X.numbers) (hard_operators X.numbers [] one))) is ∙ operators-named T X.numbers numbered.numbering false tree [] [] fills-none known

  of_instances : (tree : Constraint) → is_known_constraint X.numbers tree [] ≡ true → (made : NumberedConstraint) → made ≡ constraint_of X.numbers tree [] → are_named X.numbers (flat_map (instance_atoms X.numbers) (soft_instances X.numbers made [])) ≡ true
  of_instances tree known made is = ap (λ one. are_named X.numbers (flat_map (instance_atoms X.numbers) (soft_instances X.numbers one []))) is ∙ instances-named T X.numbers numbered.numbering tree [] [] fills-none known

  of_preferences : are_named X.numbers (flat_map (instance_atoms X.numbers) (map at_end (preferences X.numbers [] X.goal))) ≡ true
  unfolding preference_atoms
  of_preferences =
      ap (are_named X.numbers) (atoms-at-end X.numbers (preferences X.numbers [] X.goal))
      ∙ ap (λ tree. are_named X.numbers (preference_atoms X.numbers [] tree)) numbered.goal ∙ preference-named T X.numbers numbered.numbering T.problem.goal.body [] [] fills-none all_known.goal

  of_step : (place : ℕ) (action : Action) (slots : Slots) → slice_get T.domain.actions place ≡ Some action → Fills X.numbers (words_of action.params) slots → IsNamedStep X.numbers slots (numbered_action X.numbers action)
  of_step place action slots here fills =
      let known = all-at (is_known_action X.numbers) T.domain.actions place action all_known.actions here in
      let parts = and_parts (are_known_types X.numbers action.params && is_known_goal X.numbers action.pre.body (words_of action.params)) (is_known_effect X.numbers action.effect.body (words_of action.params)) known in
      let first = and_parts (are_known_types X.numbers action.params) (is_known_goal X.numbers action.pre.body (words_of action.params)) parts.0 in
      record {
        pre = hard-named T X.numbers numbered.numbering action.pre.body (words_of action.params) slots fills first.1;
        prefs = preference-named T X.numbers numbered.numbering action.pre.body (words_of action.params) slots fills first.1;
        effects = effect-named T X.numbers numbered.numbering action.effect.body (words_of action.params) slots fills parts.1;
      }

  pub reads-named : ReadsAreNamed T X
  reads-named = record {
    hard =
        ap (are_named X.numbers) (flat_map-append (operator_atoms X.numbers) (hard_operators X.numbers [] X.domain_constraints) (hard_operators X.numbers [] X.problem_constraints))
        ∙ named-both X.numbers (flat_map (operator_atoms X.numbers) (hard_operators X.numbers [] X.domain_constraints)) (flat_map (operator_atoms X.numbers) (hard_operators X.numbers [] X.problem_constraints))
        (of_operators T.domain.constraints.body all_known.domain X.domain_constraints numbered.domain) (of_operators T.problem.constraints.body all_known.problem X.problem_constraints numbered.problem);
    soft =
        ap (are_named X.numbers) (flat_map-append (instance_atoms X.numbers) (soft_instances X.numbers X.domain_constraints []) (soft_instances X.numbers X.problem_constraints [] ++ map at_end (preferences X.numbers [] X.goal)))
        ∙ named-both X.numbers (flat_map (instance_atoms X.numbers) (soft_instances X.numbers X.domain_constraints [])) _ (of_instances T.domain.constraints.body all_known.domain X.domain_constraints numbered.domain)
        (
        ap (are_named X.numbers) (flat_map-append (instance_atoms X.numbers) (soft_instances X.numbers X.problem_constraints []) (map at_end (preferences X.numbers [] X.goal)))
        ∙ named-both X.numbers (flat_map (instance_atoms X.numbers) (soft_instances X.numbers X.problem_constraints [])) _ (of_instances T.problem.constraints.body all_known.problem X.problem_constraints numbered.problem) of_preferences
        );
    goal = ap (λ tree. are_named X.numbers (hard_atoms X.numbers [] tree)) numbered.goal ∙ hard-named T X.numbers numbered.numbering T.problem.goal.body [] [] fills-none all_known.goal;
    steps = of_step;
  }
