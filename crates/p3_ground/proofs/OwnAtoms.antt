-- The atoms that are read at objects are those that the formulas of the task mention.
use Rattle.std.proofs.Common.{◌≡◌, ◌∙◌, true, false, ◌&&◌, List, [], ◌∷◌, ◌++◌, map, refl, sym, ap}
use Rattle.std.specs.Prelude.{flat_map}
use Rattle.std.specs.List.{list_all, AllZip}
use Rattle.std.specs.Option.{option_map_or}
use Rattle.std.proofs.lemmas.Bool.{and_parts}
use Rattle.std.proofs.lemmas.List.{map-append}
use Rattle.std.proofs.lemmas.List.Folds.{flat_map-map, list_all-map}
use mathlib.Core.Former.{Count}
use Rattle.p3_task.specs.Bindings.{bind}
use Rattle.p3_task.specs.Constraints as named
use Rattle.p3_task.specs.Constraints.{HardModal, Instance, hard_list, hard_modals, hard_modals_layer, operators, instances, instances_of, instances_of_all, instances_of_one}
use Rattle.p3_task.specs.Folds.{fold_formulas, fold_goals, fold_constraints}
use Rattle.p3_task.specs.Goals.{StatePref, prefs, prefs_layer}
use Rattle.p3_task.specs.States.{has_fact}
use Rattle.p3_task.specs.declared.constraint.Constraint.{Constraint, Row_of-Constraint, end_of-Constraint, more_of-Constraint}
use Rattle.p3_task.specs.declared.constraint.Constraint.TheVariants.{Both', Each', Single, Soft'}
use Rattle.p3_task.specs.Modal.{Modal}
use Rattle.p3_base.specs.declared.operator.Operator.TheVariants as modal
use Rattle.p3_task.specs.declared.formula.Formula.{Formula, Row_of-Formula, end_of-Formula, more_of-Formula}
use Rattle.p3_task.specs.declared.formula.Formula.TheVariants as formula
use Rattle.p3_task.specs.declared.goal.PreGoal.{PreGoal, Row_of-PreGoal, end_of-PreGoal, more_of-PreGoal}
use Rattle.p3_task.specs.declared.goal.PreGoal.TheVariants as goal
use Rattle.p3_task.specs.declared.state.Fact.{Fact}
use Rattle.p3_task.specs.declared.task.Task.{Task}
use Rattle.p3_formula.specs.GroundModal.{GroundModal}
use Rattle.p3_formula.specs.declared.modal.GroundSoft.{GroundSoft}
use Rattle.p3_numbers.specs.Conditions.{condition_of, condition_layer, is_known_formula, known_formula_layer}
use Rattle.p3_numbers.specs.Constraints.{PlacedModal, PlacedInstance, soft_instances, modal_of, is_known_modal, constraint_of, constraint_layer, is_known_constraint, known_constraint_layer, hard_operators, all_operators}
use Rattle.p3_numbers.specs.Goals.{PlacedPreference, preferences, goal_of, goal_layer, is_known_goal, known_goal_layer, is_known_name, numbered_name}
use Rattle.p3_numbers.specs.Known.{IsKnownTask}
use Rattle.p3_numbers.specs.Places.{Variables, are_known_types, ranges_of, words_of, IsNumbering, Fills, environment_of}
use Rattle.p3_numbers.specs.Slots.{Slots, bound}
use Rattle.p3_numbers.specs.declared.constraint.NumberedConstraint.{NumberedConstraint}
use Rattle.p3_numbers.specs.declared.numbers.Numbers.{Numbers}
use Rattle.p3_numbers.specs.declared.task.NumberedTask.{NumberedTask}
use Rattle.p3_numbers.proofs.BindingLemmas.{each_binding}
use Rattle.p3_numbers.proofs.ConstraintLemmas.{hard_operators-Both, hard_operators-Each, all_operators-Both, all_operators-Each, all_operators-Soft, soft_instances-Both, soft_instances-Each, soft_instances-Soft}
use Rattle.p3_numbers.proofs.GoalLemmas.{preferences-Both, preferences-Each}
use Rattle.p3_numbers.proofs.JoinLemmas.{joined}
use Rattle.p3_numbers.proofs.KnownLaws.{task-known}
use Rattle.p3_numbers.proofs.PlaceLemmas.{fact_means}
use Rattle.p3_expansion.specs.Atoms.{GroundAtom, fact_of}
use Rattle.p3_expansion.specs.Instances.{at_end as expanded_end, InstancesStand}
use Rattle.p3_expansion.specs.Meanings.{condition_atoms}
use Rattle.p3_expansion.specs.Operators as expanded
use Rattle.p3_expansion.specs.Operators.{OperatorStands, OperatorsStand}
use Rattle.p3_expansion.specs.TaskConstraints.{task_operators, task_instances}
use Rattle.p3_expansion.specs.declared.statics.Statics.{Statics}
use Rattle.p3_expansion.proofs.MeaningLemmas as lemma
use Rattle.p3_expansion.proofs.NextLemmas.{own-facts}
use Rattle.p3_expansion.proofs.TaskLemmas.{no-variables}
use Rattle.p3_task.proofs.OnceLemmas.{map_at}
use Rattle.p3_ground.specs.Expanded.{facts_of, AreExpanded, OfExpanded, HardAtomsAreOwn, SoftAtomsAreOwn}
use Rattle.p3_task.specs.Mentions.{formula_atoms, formula_atoms_layer, operator_atoms}
use Rattle.p3_ground.specs.Sparse.{is_atom_of, HasOwnAtoms, PartsHaveOwnAtoms}

module _ (T : Task) (N : Numbers) (ties : IsNumbering T N) where
  -- ---- formulas

  abbrev facts : List GroundAtom → List Fact
  facts atoms = map (fact_of N) atoms

  mutual
    unfolding condition_of is_known_formula condition_atoms formula_atoms

    pub atoms-mean : (tree : Formula) (scope : Variables) (slots : Slots) → Fills N scope slots → is_known_formula N tree scope ≡ true → facts (condition_atoms N slots (condition_of N tree scope)) ≡ formula_atoms T (environment_of N scope slots) tree
    atoms-mean (formula.Atom pred args) scope slots fills known = λ i. fact_means N scope slots fills pred args known i ∷ []
    atoms-mean (formula.Equal left right) scope slots fills known = refl
    atoms-mean (formula.And' _ parts) scope slots fills known =
        let made = map (λ part. part scope) (fold_formulas (condition_layer N) parts) in
        ap facts (lemma.atoms-And N slots made) ∙ joined (fact_of N) (condition_atoms N slots) made
        ∙ ap (flat_map (λ found. found)) (parts-mean parts scope slots fills known) ∙ flat_map-map (λ found. found) (λ part. part (environment_of N scope slots)) (fold_formulas (formula_atoms_layer T) parts)
    atoms-mean (formula.Or' _ parts) scope slots fills known =
        let made = map (λ part. part scope) (fold_formulas (condition_layer N) parts) in
        ap facts (lemma.atoms-Or N slots made) ∙ joined (fact_of N) (condition_atoms N slots) made
        ∙ ap (flat_map (λ found. found)) (parts-mean parts scope slots fills known) ∙ flat_map-map (λ found. found) (λ part. part (environment_of N scope slots)) (fold_formulas (formula_atoms_layer T) parts)
    atoms-mean (formula.Not' _ (more_of-Formula part _)) scope slots fills known = ap facts (lemma.atoms-Not N slots (condition_of N part scope)) ∙ atoms-mean part scope slots fills known
    atoms-mean (formula.Imply' _ (more_of-Formula first _) _ (more_of-Formula second _)) scope slots fills known =
        let parts = and_parts (is_known_formula N first scope) (is_known_formula N second scope) known in
        ap facts (lemma.atoms-Imply N slots (condition_of N first scope) (condition_of N second scope))
        ∙ map-append (fact_of N) (condition_atoms N slots (condition_of N first scope)) (condition_atoms N slots (condition_of N second scope))
        ∙ (λ i. atoms-mean first scope slots fills parts.0 i ++ atoms-mean second scope slots fills parts.1 i)
    atoms-mean (formula.Exists' variables _ (more_of-Formula body _)) scope slots fills known =
        let inner = scope ++ words_of variables in
        let parts = and_parts (are_known_types N variables) (is_known_formula N body inner) known in
        let made = condition_of N body inner in
        ap facts (lemma.atoms-Exists N slots (ranges_of N variables) made) ∙ joined (fact_of N) (λ more. condition_atoms N more made) (bound N slots (ranges_of N variables))
        ∙ ap (flat_map (λ found. found)) (each_binding T N ties (λ more. facts (condition_atoms N more made)) (λ env. formula_atoms T env body) scope slots variables fills parts.0 (λ more fits. atoms-mean body inner more fits parts.1))
        ∙ flat_map-map (λ found. found) (λ env. formula_atoms T env body) (bind T (environment_of N scope slots) variables)
    atoms-mean (formula.Forall' variables _ (more_of-Formula body _)) scope slots fills known =
        let inner = scope ++ words_of variables in
        let parts = and_parts (are_known_types N variables) (is_known_formula N body inner) known in
        let made = condition_of N body inner in
        ap facts (lemma.atoms-Forall N slots (ranges_of N variables) made) ∙ joined (fact_of N) (λ more. condition_atoms N more made) (bound N slots (ranges_of N variables))
        ∙ ap (flat_map (λ found. found)) (each_binding T N ties (λ more. facts (condition_atoms N more made)) (λ env. formula_atoms T env body) scope slots variables fills parts.0 (λ more fits. atoms-mean body inner more fits parts.1))
        ∙ flat_map-map (λ found. found) (λ env. formula_atoms T env body) (bind T (environment_of N scope slots) variables)

    parts-mean : {n : Count} (parts : Row_of-Formula n) (scope : Variables) (slots : Slots) → Fills N scope slots → list_all (λ part. part scope) (fold_formulas (known_formula_layer N) parts) ≡ true
        → map (λ made. facts (condition_atoms N slots made)) (map (λ part. part scope) (fold_formulas (condition_layer N) parts)) ≡ map (λ part. part (environment_of N scope slots)) (fold_formulas (formula_atoms_layer T) parts)
    parts-mean end_of-Formula scope slots fills known = refl
    parts-mean (more_of-Formula part rest) scope slots fills known =
        let parts = and_parts (is_known_formula N part scope) (list_all (λ part. part scope) (fold_formulas (known_formula_layer N) rest)) known in
        λ i. atoms-mean part scope slots fills parts.0 i ∷ parts-mean rest scope slots fills parts.1 i

  -- ---- operators

  abbrev seen : PlacedModal → List Fact
  seen placed = facts (expanded.operator_atoms N placed)

  modal-mentions : (scope : Variables) (slots : Slots) → Fills N scope slots → (operator : Modal) → is_known_modal N operator scope ≡ true → seen (record { modal = modal_of N operator scope; slots = slots }) ≡ operator_atoms T (record { modal = operator; env = environment_of N scope slots })
  modal-mentions scope slots fills operator known = by operator known
    where
      one : (f : Formula) → is_known_formula N f scope ≡ true → facts (condition_atoms N slots (condition_of N f scope) ++ []) ≡ formula_atoms T (environment_of N scope slots) f ++ []
      one f known = map-append (fact_of N) (condition_atoms N slots (condition_of N f scope)) [] ∙ ap (λ found. found ++ []) (atoms-mean f scope slots fills known)

      two : (f g : Formula) → (is_known_formula N f scope && is_known_formula N g scope) ≡ true
          → facts (condition_atoms N slots (condition_of N f scope) ++ (condition_atoms N slots (condition_of N g scope) ++ [])) ≡ formula_atoms T (environment_of N scope slots) f ++ (formula_atoms T (environment_of N scope slots) g ++ [])
      two f g known =
          let parts = and_parts (is_known_formula N f scope) (is_known_formula N g scope) known in
          map-append (fact_of N) (condition_atoms N slots (condition_of N f scope)) (condition_atoms N slots (condition_of N g scope) ++ []) ∙ (λ i. atoms-mean f scope slots fills parts.0 i ++ one g parts.1 i)

      by : (operator : Modal) → is_known_modal N operator scope ≡ true → seen (record { modal = modal_of N operator scope; slots = slots }) ≡ operator_atoms T (record { modal = operator; env = environment_of N scope slots })
      by (modal.AtEnd f) known = one f known
      by (modal.Always f) known = one f known
      by (modal.Sometime f) known = one f known
      by (modal.AtMostOnce f) known = one f known
      by (modal.SometimeAfter f g) known = two f g known
      by (modal.SometimeBefore f g) known = two f g known

  mutual
    unfolding hard_modals constraint_of is_known_constraint hard_operators

    pub hard-mention : (tree : Constraint) (scope : Variables) (slots : Slots) → Fills N scope slots → is_known_constraint N tree scope ≡ true → map seen (hard_operators N slots (constraint_of N tree scope)) ≡ map (operator_atoms T) (hard_modals T (environment_of N scope slots) tree)
    hard-mention (Both' _ parts) scope slots fills known =
        let made = map (λ part. part scope) (fold_constraints (constraint_layer N) parts) in
        ap (map seen) (hard_operators-Both N slots made) ∙ joined seen (hard_operators N slots) made
        ∙ ap (flat_map (λ found. found)) (all-hard-mention parts scope slots fills known) ∙ sym (joined (operator_atoms T) (λ part. part (environment_of N scope slots)) (fold_constraints (hard_modals_layer T) parts))
    hard-mention (Each' variables _ (more_of-Constraint body _)) scope slots fills known =
        let inner = scope ++ words_of variables in
        let parts = and_parts (are_known_types N variables) (is_known_constraint N body inner) known in
        let made = constraint_of N body inner in
        ap (map seen) (hard_operators-Each N slots (ranges_of N variables) made) ∙ joined seen (λ more. hard_operators N more made) (bound N slots (ranges_of N variables))
        ∙ ap (flat_map (λ found. found)) (each_binding T N ties (λ more. map seen (hard_operators N more made)) (λ env. map (operator_atoms T) (hard_modals T env body)) scope slots variables fills parts.0 (λ more fits. hard-mention body inner more fits parts.1))
        ∙ sym (joined (operator_atoms T) (λ env. hard_modals T env body) (bind T (environment_of N scope slots) variables))
    hard-mention (Single operator) scope slots fills known = ap (λ found. found ∷ []) (modal-mentions scope slots fills operator known)
    hard-mention (Soft' at name _ (more_of-Constraint body _)) scope slots fills known = refl

    all-hard-mention : {n : Count} (parts : Row_of-Constraint n) (scope : Variables) (slots : Slots) → Fills N scope slots → list_all (λ part. part scope) (fold_constraints (known_constraint_layer N) parts) ≡ true
        → map (λ made. map seen (hard_operators N slots made)) (map (λ part. part scope) (fold_constraints (constraint_layer N) parts)) ≡ map (λ part. map (operator_atoms T) (part (environment_of N scope slots))) (fold_constraints (hard_modals_layer T) parts)
    all-hard-mention end_of-Constraint scope slots fills known = refl
    all-hard-mention (more_of-Constraint part rest) scope slots fills known =
        let parts = and_parts (is_known_constraint N part scope) (list_all (λ part. part scope) (fold_constraints (known_constraint_layer N) rest)) known in
        λ i. hard-mention part scope slots fills parts.0 i ∷ all-hard-mention rest scope slots fills parts.1 i

  mutual
    unfolding operators constraint_of is_known_constraint all_operators

    pub operators-mention : (tree : Constraint) (scope : Variables) (slots : Slots) → Fills N scope slots → is_known_constraint N tree scope ≡ true → map seen (all_operators N slots (constraint_of N tree scope)) ≡ map (operator_atoms T) (operators T (environment_of N scope slots) tree)
    operators-mention (Both' _ parts) scope slots fills known =
        let made = map (λ part. part scope) (fold_constraints (constraint_layer N) parts) in
        ap (map seen) (all_operators-Both N slots made) ∙ joined seen (all_operators N slots) made
        ∙ ap (flat_map (λ found. found)) (all-operators-mention parts scope slots fills known) ∙ sym (joined (operator_atoms T) (λ part. part (environment_of N scope slots)) (fold_constraints (named.operators_layer T) parts))
    operators-mention (Each' variables _ (more_of-Constraint body _)) scope slots fills known =
        let inner = scope ++ words_of variables in
        let parts = and_parts (are_known_types N variables) (is_known_constraint N body inner) known in
        let made = constraint_of N body inner in
        ap (map seen) (all_operators-Each N slots (ranges_of N variables) made) ∙ joined seen (λ more. all_operators N more made) (bound N slots (ranges_of N variables))
        ∙ ap (flat_map (λ found. found)) (each_binding T N ties (λ more. map seen (all_operators N more made)) (λ env. map (operator_atoms T) (operators T env body)) scope slots variables fills parts.0 (λ more fits. operators-mention body inner more fits parts.1))
        ∙ sym (joined (operator_atoms T) (λ env. operators T env body) (bind T (environment_of N scope slots) variables))
    operators-mention (Single operator) scope slots fills known = ap (λ found. found ∷ []) (modal-mentions scope slots fills operator known)
    operators-mention (Soft' at name _ (more_of-Constraint body _)) scope slots fills known =
        let parts = and_parts (is_known_name N name) (is_known_constraint N body scope) known in
        ap (map seen) (all_operators-Soft N slots at (numbered_name N name) (constraint_of N body scope)) ∙ operators-mention body scope slots fills parts.1

    all-operators-mention : {n : Count} (parts : Row_of-Constraint n) (scope : Variables) (slots : Slots) → Fills N scope slots → list_all (λ part. part scope) (fold_constraints (known_constraint_layer N) parts) ≡ true
        → map (λ made. map seen (all_operators N slots made)) (map (λ part. part scope) (fold_constraints (constraint_layer N) parts)) ≡ map (λ part. map (operator_atoms T) (part (environment_of N scope slots))) (fold_constraints (named.operators_layer T) parts)
    all-operators-mention end_of-Constraint scope slots fills known = refl
    all-operators-mention (more_of-Constraint part rest) scope slots fills known =
        let parts = and_parts (is_known_constraint N part scope) (list_all (λ part. part scope) (fold_constraints (known_constraint_layer N) rest)) known in
        λ i. operators-mention part scope slots fills parts.0 i ∷ all-operators-mention rest scope slots fills parts.1 i

  -- ---- preferences

  abbrev seen_parts : PlacedInstance → List (List Fact)
  seen_parts instance = map seen (all_operators N instance.slots instance.body)

  abbrev named_parts : Instance → List (List Fact)
  named_parts instance = map (operator_atoms T) (operators T instance.env instance.body)

  abbrev seen_instances : Slots → NumberedConstraint → List (List (List Fact))
  seen_instances slots tree = map seen_parts (soft_instances N tree slots)

  mutual
    unfolding instances_of instances_of_all instances_of_one constraint_of is_known_constraint soft_instances

    pub instances-mention : (tree : Constraint) (scope : Variables) (slots : Slots) → Fills N scope slots → is_known_constraint N tree scope ≡ true → seen_instances slots (constraint_of N tree scope) ≡ map named_parts (instances_of T tree (environment_of N scope slots))
    instances-mention (Both' _ parts) scope slots fills known =
        let made = map (λ part. part scope) (fold_constraints (constraint_layer N) parts) in
        ap (map seen_parts) (soft_instances-Both N slots made) ∙ joined seen_parts (λ part. soft_instances N part slots) made ∙ all-instances-mention parts scope slots fills known
    instances-mention (Each' variables _ (more_of-Constraint body _)) scope slots fills known =
        let inner = scope ++ words_of variables in
        let parts = and_parts (are_known_types N variables) (is_known_constraint N body inner) known in
        let made = constraint_of N body inner in
        ap (map seen_parts) (soft_instances-Each N slots (ranges_of N variables) made)
        ∙ joined seen_parts (λ more. soft_instances N made more) (bound N slots (ranges_of N variables))
        ∙ ap (flat_map (λ found. found)) (each_binding T N ties (λ more. seen_instances more made) (λ env. map named_parts (instances_of T body env)) scope slots variables fills parts.0 (λ more fits. instances-mention body inner more fits parts.1))
        ∙ sym (joined named_parts (λ env. instances_of T body env) (bind T (environment_of N scope slots) variables))
    instances-mention (Single operator) scope slots fills known = refl
    instances-mention (Soft' at name _ (more_of-Constraint body _)) scope slots fills known =
        let parts = and_parts (is_known_name N name) (is_known_constraint N body scope) known in
        ap (map seen_parts) (soft_instances-Soft N slots at (numbered_name N name) (constraint_of N body scope)) ∙ ap (λ found. found ∷ []) (operators-mention body scope slots fills parts.1)

    all-instances-mention : {n : Count} (parts : Row_of-Constraint n) (scope : Variables) (slots : Slots) → Fills N scope slots → list_all (λ part. part scope) (fold_constraints (known_constraint_layer N) parts) ≡ true
        → flat_map (λ found. found) (map (seen_instances slots) (map (λ part. part scope) (fold_constraints (constraint_layer N) parts))) ≡ map named_parts (instances_of_all T parts (environment_of N scope slots))
    all-instances-mention end_of-Constraint scope slots fills known = refl
    all-instances-mention (more_of-Constraint part rest) scope slots fills known =
        let parts = and_parts (is_known_constraint N part scope) (list_all (λ part. part scope) (fold_constraints (known_constraint_layer N) rest)) known in
        (λ i. instances-mention part scope slots fills parts.0 i ++ all-instances-mention rest scope slots fills parts.1 i)
        ∙ sym (map-append named_parts (instances_of T part (environment_of N scope slots)) (instances_of_all T rest (environment_of N scope slots)))

  -- ---- preferences of goals

  abbrev seen_atoms : PlacedPreference → List Fact
  seen_atoms placed = facts (condition_atoms N placed.slots placed.body)

  abbrev named_atoms : StatePref → List Fact
  named_atoms pref = formula_atoms T pref.env pref.body

  mutual
    unfolding prefs goal_of is_known_goal preferences

    preferences-mention : (tree : PreGoal) (scope : Variables) (slots : Slots) → Fills N scope slots → is_known_goal N tree scope ≡ true → map seen_atoms (preferences N slots (goal_of N tree scope)) ≡ map named_atoms (prefs T (environment_of N scope slots) tree)
    preferences-mention (goal.Plain body) scope slots fills known = refl
    preferences-mention (goal.Both' _ parts) scope slots fills known =
        let made = map (λ part. part scope) (fold_goals (goal_layer N) parts) in
        ap (map seen_atoms) (preferences-Both N slots made) ∙ joined seen_atoms (preferences N slots) made
        ∙ ap (flat_map (λ found. found)) (all-preferences-mention parts scope slots fills known) ∙ sym (joined named_atoms (λ part. part (environment_of N scope slots)) (fold_goals (prefs_layer T) parts))
    preferences-mention (goal.Each' variables _ (more_of-PreGoal body _)) scope slots fills known =
        let inner = scope ++ words_of variables in
        let parts = and_parts (are_known_types N variables) (is_known_goal N body inner) known in
        let made = goal_of N body inner in
        ap (map seen_atoms) (preferences-Each N slots (ranges_of N variables) made) ∙ joined seen_atoms (λ more. preferences N more made) (bound N slots (ranges_of N variables))
        ∙ ap (flat_map (λ found. found)) (each_binding T N ties (λ more. map seen_atoms (preferences N more made)) (λ env. map named_atoms (prefs T env body)) scope slots variables fills parts.0 (λ more fits. preferences-mention body inner more fits parts.1))
        ∙ sym (joined named_atoms (λ env. prefs T env body) (bind T (environment_of N scope slots) variables))
    preferences-mention (goal.Soft pref) scope slots fills known =
        ap (λ found. found ∷ []) (atoms-mean pref.body scope slots fills (and_parts (is_known_name N pref.name) (is_known_formula N pref.body scope) known).1)

    all-preferences-mention : {n : Count} (parts : Row_of-PreGoal n) (scope : Variables) (slots : Slots) → Fills N scope slots → list_all (λ part. part scope) (fold_goals (known_goal_layer N) parts) ≡ true
        → map (λ made. map seen_atoms (preferences N slots made)) (map (λ part. part scope) (fold_goals (goal_layer N) parts)) ≡ map (λ part. map named_atoms (part (environment_of N scope slots))) (fold_goals (prefs_layer T) parts)
    all-preferences-mention end_of-PreGoal scope slots fills known = refl
    all-preferences-mention (more_of-PreGoal part rest) scope slots fills known =
        let parts = and_parts (is_known_goal N part scope) (list_all (λ part. part scope) (fold_goals (known_goal_layer N) rest)) known in
        λ i. preferences-mention part scope slots fills parts.0 i ∷ all-preferences-mention rest scope slots fills parts.1 i

  -- as instances over the last state

  placed-at-end : (meant : List PlacedPreference) → map seen_parts (map expanded_end meant) ≡ map (λ found. (found ++ []) ∷ []) (map seen_atoms meant)
  unfolding all_operators
  placed-at-end [] = refl
  placed-at-end (placed ∷ meant) = λ i. (map-append (fact_of N) (condition_atoms N placed.slots placed.body) [] i ∷ []) ∷ placed-at-end meant i

  named-at-end : (meant : List StatePref) → map named_parts (map named.at_end meant) ≡ map (λ found. (found ++ []) ∷ []) (map named_atoms meant)
  unfolding operators
  named-at-end [] = refl
  named-at-end (pref ∷ meant) = ap (λ rest. ((named_atoms pref ++ []) ∷ []) ∷ rest) (named-at-end meant)

  pub at-end-mention : (tree : PreGoal) (scope : Variables) (slots : Slots) → Fills N scope slots → is_known_goal N tree scope ≡ true → map seen_parts (map expanded_end (preferences N slots (goal_of N tree scope))) ≡ map named_parts (map named.at_end (prefs T (environment_of N scope slots) tree))
  at-end-mention tree scope slots fills known =
      placed-at-end (preferences N slots (goal_of N tree scope)) ∙ ap (map (λ found. (found ++ []) ∷ [])) (preferences-mention tree scope slots fills known)
      ∙ sym (named-at-end (prefs T (environment_of N scope slots) tree))

-- ---- entry by entry

module _ (T : Task) (N : Numbers) (S : Statics) (atoms : List GroundAtom) where
  abbrev of_placed : PlacedModal → List Fact
  of_placed placed = map (fact_of N) (expanded.operator_atoms N placed)

  own-operator : (placed : PlacedModal) (hard : HardModal) (made : GroundModal) → of_placed placed ≡ operator_atoms T hard → OperatorStands N S atoms placed made → HasOwnAtoms T (facts_of N atoms) hard made
  own-operator placed hard made same stands =
      let those = operator_atoms T hard in
      stands.reads (λ atom. has_fact those (fact_of N atom)) (is_atom_of (facts_of N atoms) those)
      (record { number = λ k atom here passes. ap (λ found. option_map_or (λ fact. has_fact those fact) found false) (map_at (fact_of N) atoms k atom here) ∙ passes })
      (sym (list_all-map (has_fact those) (fact_of N) (expanded.operator_atoms N placed)) ∙ ap (list_all (has_fact those)) same ∙ own-facts those those (λ fact e. e))

  pub own-operators : (placed : List PlacedModal) (meant : List HardModal) (made : List GroundModal) → map of_placed placed ≡ map (operator_atoms T) meant → OperatorsStand N S atoms placed made → AllZip (HasOwnAtoms T (facts_of N atoms)) meant made
  own-operators [] [] made same stand = stand
  own-operators [] (hard ∷ meant) made same stand = absurd (cc)
  own-operators (one ∷ placed) [] made same stand = absurd (cc)
  own-operators (one ∷ placed) (hard ∷ meant) [] same stand = absurd stand
  own-operators (one ∷ placed) (hard ∷ meant) (modal ∷ made) same stand =
      let first : of_placed one ≡ operator_atoms T hard = cc in
      let rest : map of_placed placed ≡ map (operator_atoms T) meant = cc in
      (own-operator one hard modal first stand.0, own-operators placed meant made rest stand.1)

  abbrev placed_parts : PlacedInstance → List (List Fact)
  placed_parts instance = map of_placed (all_operators N instance.slots instance.body)

  abbrev meant_parts : Instance → List (List Fact)
  meant_parts instance = map (operator_atoms T) (operators T instance.env instance.body)

  own-instances : (placed : List PlacedInstance) (meant : List Instance) (made : List GroundSoft) → map placed_parts placed ≡ map meant_parts meant → InstancesStand N S atoms placed made → AllZip (PartsHaveOwnAtoms T (facts_of N atoms)) meant made
  own-instances [] [] made same stand = stand
  own-instances [] (instance ∷ meant) made same stand = absurd (cc)
  own-instances (one ∷ placed) [] made same stand = absurd (cc)
  own-instances (one ∷ placed) (instance ∷ meant) [] same stand = absurd stand
  own-instances (one ∷ placed) (instance ∷ meant) (soft ∷ made) same stand =
      let first : placed_parts one ≡ meant_parts instance = cc in
      let rest : map placed_parts placed ≡ map meant_parts meant = cc in
      (own-operators (all_operators N one.slots one.body) (operators T instance.env instance.body) soft.parts first stand.0.parts, own-instances placed meant made rest stand.1)

-- ---- of a whole task

module _ (T : Task) (X : NumberedTask) (S : Statics) (atoms : List GroundAtom) (expanded_all : AreExpanded T X S atoms) where
  all_known : IsKnownTask T X.numbers
  all_known = task-known T X.numbers expanded_all.well expanded_all.numbered.covers

  fills-none : Fills X.numbers [] []
  fills-none = no-variables X.numbers

  abbrev own-seen : PlacedModal → List Fact
  own-seen placed = map (fact_of X.numbers) (expanded.operator_atoms X.numbers placed)

  hard-of : (tree : Constraint) (made : NumberedConstraint) → made ≡ constraint_of X.numbers tree [] → is_known_constraint X.numbers tree [] ≡ true → map own-seen (hard_operators X.numbers [] made) ≡ map (operator_atoms T) (hard_modals T [] tree)
  hard-of tree made is known = ap (λ one. map own-seen (hard_operators X.numbers [] one)) is ∙ hard-mention T X.numbers expanded_all.numbered.numbering tree [] [] fills-none known

  hard-own : (made : List GroundModal) → OperatorsStand X.numbers S atoms (task_operators X) made → AllZip (HasOwnAtoms T (facts_of X.numbers atoms)) (hard_list T) made
  unfolding hard_list
  hard-own made stand =
      own-operators T X.numbers S atoms (task_operators X) (hard_modals T [] T.domain.constraints.body ++ hard_modals T [] T.problem.constraints.body) made
      (
      map-append own-seen (hard_operators X.numbers [] X.domain_constraints) (hard_operators X.numbers [] X.problem_constraints)
      ∙ (λ i. hard-of T.domain.constraints.body X.domain_constraints expanded_all.numbered.domain all_known.domain i ++ hard-of T.problem.constraints.body X.problem_constraints expanded_all.numbered.problem all_known.problem i)
      ∙ sym (map-append (operator_atoms T) (hard_modals T [] T.domain.constraints.body) (hard_modals T [] T.problem.constraints.body))
      )
      stand

  abbrev own-parts : PlacedInstance → List (List Fact)
  own-parts instance = map own-seen (all_operators X.numbers instance.slots instance.body)

  abbrev meant-parts : Instance → List (List Fact)
  meant-parts instance = map (operator_atoms T) (operators T instance.env instance.body)

  soft-of : (tree : Constraint) (made : NumberedConstraint) → made ≡ constraint_of X.numbers tree [] → is_known_constraint X.numbers tree [] ≡ true → map own-parts (soft_instances X.numbers made []) ≡ map meant-parts (instances_of T tree [])
  soft-of tree made is known = ap (λ one. map own-parts (soft_instances X.numbers one [])) is ∙ instances-mention T X.numbers expanded_all.numbered.numbering tree [] [] fills-none known

  goal-of : map own-parts (map expanded_end (preferences X.numbers [] X.goal)) ≡ map meant-parts (map named.at_end (prefs T [] T.problem.goal.body))
  goal-of = ap (λ tree. map own-parts (map expanded_end (preferences X.numbers [] tree))) expanded_all.numbered.goal ∙ at-end-mention T X.numbers expanded_all.numbered.numbering T.problem.goal.body [] [] fills-none all_known.goal

  soft-own : (made : List GroundSoft) → InstancesStand X.numbers S atoms (task_instances X) made → AllZip (PartsHaveOwnAtoms T (facts_of X.numbers atoms)) (instances T) made
  unfolding instances
  soft-own made stand =
      let placed_domain : List PlacedInstance = soft_instances X.numbers X.domain_constraints [] in
      let placed_problem : List PlacedInstance = soft_instances X.numbers X.problem_constraints [] in
      let placed_goal : List PlacedInstance = map expanded_end (preferences X.numbers [] X.goal) in
      let of_domain : List Instance = instances_of T T.domain.constraints.body [] in
      let of_problem : List Instance = instances_of T T.problem.constraints.body [] in
      let of_goal : List Instance = map named.at_end (prefs T [] T.problem.goal.body) in
      own-instances T X.numbers S atoms (task_instances X) (of_domain ++ (of_problem ++ of_goal)) made
      (
      map-append own-parts placed_domain (placed_problem ++ placed_goal)
      ∙ (λ i. soft-of T.domain.constraints.body X.domain_constraints expanded_all.numbered.domain all_known.domain i ++ map-append own-parts placed_problem placed_goal i)
      ∙ (λ i. map meant-parts of_domain ++ (soft-of T.problem.constraints.body X.problem_constraints expanded_all.numbered.problem all_known.problem i ++ goal-of i))
      ∙ (λ i. map meant-parts of_domain ++ sym (map-append meant-parts of_problem of_goal) i)
      ∙ sym (map-append meant-parts of_domain (of_problem ++ of_goal))
      )
      stand

pub hard-atoms-are-own : OfExpanded HardAtomsAreOwn
hard-atoms-are-own = hard-own

pub soft-atoms-are-own : OfExpanded SoftAtomsAreOwn
soft-atoms-are-own = soft-own
