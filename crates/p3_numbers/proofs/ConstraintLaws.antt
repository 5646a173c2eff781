-- A numbered constraint demands and prefers what the constraint does that it was made of.
use Rattle.std.proofs.Common.{◌≡◌, ◌∙◌, ℕ, Bool, true, ◌&&◌, List, [], ◌∷◌, ◌++◌, map, refl, sym, ap}
use Rattle.std.specs.Prelude.{flat_map, length}
use Rattle.std.specs.List.{list_all}
use Rattle.std.proofs.lemmas.Bool.{and_parts}
use Rattle.std.proofs.lemmas.List.{map-append}
use Rattle.std.proofs.lemmas.List.Folds.{list_all-map}
use mathlib.Core.Former.{Count}
use Rattle.p3_task.specs.Constraints as named
use Rattle.p3_task.specs.Constraints.{HardModal, hard_modals, hard_modals_layer, operators, satisfies, sat, instances_of, instances_of_all, instances_of_one}
use Rattle.p3_task.specs.Folds.{fold_constraints}
use Rattle.p3_task.specs.States.{State, Environment}
use Rattle.p3_task.specs.Bindings.{bind}
use Rattle.p3_task.proofs.OperatorLaws.{sat-operators}
use Rattle.p3_task.specs.Modal.{Modal}
use Rattle.p3_base.proofs.OperatorLaws.{over_over, over_where}
use Rattle.p3_base.specs.Operators as meaning_of
use Rattle.p3_task.specs.declared.constraint.Constraint.{Constraint, Row_of-Constraint, end_of-Constraint, more_of-Constraint}
use Rattle.p3_task.specs.declared.constraint.Constraint.TheVariants.{Both', Each', Single, Soft'}
use Rattle.p3_task.specs.declared.task.Task.{Task}
use Rattle.p3_numbers.specs.Slots.{Slots, bound}
use Rattle.p3_numbers.specs.Places.{Variables, ranges_of, words_of, are_known_types, IsNumbering, Fills, environment_of}
use Rattle.p3_numbers.specs.Conditions.{condition_of, is_known_formula}
use Rattle.p3_task.specs.Plans.{state_at}
use Rattle.p3_numbers.specs.Goals.{numbered_name, is_known_name}
use Rattle.p3_numbers.specs.Constraints.{hard_operators, all_operators, soft_instances, modal_of, constraint_layer, constraint_of, is_known_modal, known_constraint_layer, is_known_constraint, ModalMeaning, test_at, test_of, numbered_modal_meaning, placed_modal_meaning, modal_meaning, hard_modal_meaning, is_met_by, is_satisfied, InstanceMeaning, placed_instance_meaning, instance_meaning}
use Rattle.p3_numbers.specs.declared.numbers.Numbers.{Numbers}
use Rattle.p3_numbers.specs.declared.constraint.NumberedConstraint.{NumberedConstraint}
use Rattle.p3_numbers.proofs.BindingLemmas.{each_binding}
use Rattle.p3_numbers.proofs.ConditionLaws.{condition-means}
use Rattle.p3_numbers.proofs.ConstraintLemmas.{hard_operators-Both, hard_operators-Each, all_operators-Both, all_operators-Each, all_operators-Soft, soft_instances-Both, soft_instances-Each, soft_instances-Soft}
use Rattle.p3_numbers.proofs.GoalLaws.{name-means, number-means}
use Rattle.p3_numbers.proofs.JoinLemmas.{joined}

-- an operator is satisfied where what is seen of it is met
satisfies-meaning : (T : Task) (W : List State) (env : Environment) (operator : Modal) → satisfies T W env operator ≡ is_met_by W (modal_meaning T env operator)
unfolding satisfies
satisfies-meaning T W env operator = ap (meaning_of.is_satisfied (length W)) (sym (over_over (test_of T env) (λ (holds : State → Bool) (i : ℕ). holds (state_at W i)) operator))

module _ (T : Task) (N : Numbers) (ties : IsNumbering T N) where
  modal-means : (operator : Modal) (scope : Variables) (slots : Slots) → Fills N scope slots → is_known_modal N operator scope ≡ true → numbered_modal_meaning N slots (modal_of N operator scope) ≡ modal_meaning T (environment_of N scope slots) operator
  modal-means operator scope slots fills known =
      over_over (λ formula. condition_of N formula scope) (test_at N slots) operator
      ∙ over_where (λ formula. is_known_formula N formula scope) _ (test_of T (environment_of N scope slots)) (λ formula is_known i s. condition-means T N ties s formula scope slots fills is_known i) operator known

  -- ---- the hard operators

  abbrev hard_meanings : Slots → NumberedConstraint → List ModalMeaning
  hard_meanings slots tree = map (placed_modal_meaning N) (hard_operators N slots tree)

  mutual
    unfolding hard_modals constraint_of is_known_constraint hard_operators

    pub hard-operators-mean : (tree : Constraint) (scope : Variables) (slots : Slots) → Fills N scope slots → is_known_constraint N tree scope ≡ true → hard_meanings slots (constraint_of N tree scope) ≡ map (hard_modal_meaning T) (hard_modals T (environment_of N scope slots) tree)
    hard-operators-mean (Both' _ parts) scope slots fills known =
        let made = map (λ part. part scope) (fold_constraints (constraint_layer N) parts) in
        ap (map (placed_modal_meaning N)) (hard_operators-Both N slots made)
        ∙ joined (placed_modal_meaning N) (hard_operators N slots) made
        ∙ ap (flat_map (λ found. found)) (all-hard-operators-mean parts scope slots fills known) ∙ sym (joined (hard_modal_meaning T) (λ part. part (environment_of N scope slots)) (fold_constraints (hard_modals_layer T) parts))
    hard-operators-mean (Each' variables _ (more_of-Constraint body _)) scope slots fills known =
        let inner = scope ++ words_of variables in
        let parts = and_parts (are_known_types N variables) (is_known_constraint N body inner) known in
        let made = constraint_of N body inner in
        ap (map (placed_modal_meaning N)) (hard_operators-Each N slots (ranges_of N variables) made)
        ∙ joined (placed_modal_meaning N) (λ more. hard_operators N more made) (bound N slots (ranges_of N variables))
        ∙ ap (flat_map (λ found. found)) (each_binding T N ties (λ more. hard_meanings more made) (λ env. map (hard_modal_meaning T) (hard_modals T env body)) scope slots variables fills parts.0 (λ more fits. hard-operators-mean body inner more fits parts.1))
        ∙ sym (joined (hard_modal_meaning T) (λ env. hard_modals T env body) (bind T (environment_of N scope slots) variables))
    hard-operators-mean (Single operator) scope slots fills known = ap (λ meaning. meaning ∷ []) (modal-means operator scope slots fills known)
    hard-operators-mean (Soft' at name _ (more_of-Constraint body _)) scope slots fills known = refl

    all-hard-operators-mean : {n : Count} (parts : Row_of-Constraint n) (scope : Variables) (slots : Slots) → Fills N scope slots → list_all (λ part. part scope) (fold_constraints (known_constraint_layer N) parts) ≡ true
        → map (hard_meanings slots) (map (λ part. part scope) (fold_constraints (constraint_layer N) parts)) ≡ map (λ part. map (hard_modal_meaning T) (part (environment_of N scope slots))) (fold_constraints (hard_modals_layer T) parts)
    all-hard-operators-mean end_of-Constraint scope slots fills known = refl
    all-hard-operators-mean (more_of-Constraint part rest) scope slots fills known =
        let parts = and_parts (is_known_constraint N part scope) (list_all (λ part. part scope) (fold_constraints (known_constraint_layer N) rest)) known in
        λ i. hard-operators-mean part scope slots fills parts.0 i ∷ all-hard-operators-mean rest scope slots fills parts.1 i

  -- ---- all operators

  abbrev meanings : Slots → NumberedConstraint → List ModalMeaning
  meanings slots tree = map (placed_modal_meaning N) (all_operators N slots tree)

  mutual
    unfolding operators constraint_of is_known_constraint all_operators

    pub operators-mean : (tree : Constraint) (scope : Variables) (slots : Slots) → Fills N scope slots → is_known_constraint N tree scope ≡ true → meanings slots (constraint_of N tree scope) ≡ map (hard_modal_meaning T) (operators T (environment_of N scope slots) tree)
    operators-mean (Both' _ parts) scope slots fills known =
        let made = map (λ part. part scope) (fold_constraints (constraint_layer N) parts) in
        ap (map (placed_modal_meaning N)) (all_operators-Both N slots made)
        ∙ joined (placed_modal_meaning N) (all_operators N slots) made
        ∙ ap (flat_map (λ found. found)) (all-operators-mean parts scope slots fills known) ∙ sym (joined (hard_modal_meaning T) (λ part. part (environment_of N scope slots)) (fold_constraints (named.operators_layer T) parts))
    operators-mean (Each' variables _ (more_of-Constraint body _)) scope slots fills known =
        let inner = scope ++ words_of variables in
        let parts = and_parts (are_known_types N variables) (is_known_constraint N body inner) known in
        let made = constraint_of N body inner in
        ap (map (placed_modal_meaning N)) (all_operators-Each N slots (ranges_of N variables) made)
        ∙ joined (placed_modal_meaning N) (λ more. all_operators N more made) (bound N slots (ranges_of N variables))
        ∙ ap (flat_map (λ found. found)) (each_binding T N ties (λ more. meanings more made) (λ env. map (hard_modal_meaning T) (operators T env body)) scope slots variables fills parts.0 (λ more fits. operators-mean body inner more fits parts.1))
        ∙ sym (joined (hard_modal_meaning T) (λ env. operators T env body) (bind T (environment_of N scope slots) variables))
    operators-mean (Single operator) scope slots fills known = ap (λ meaning. meaning ∷ []) (modal-means operator scope slots fills known)
    operators-mean (Soft' at name _ (more_of-Constraint body _)) scope slots fills known =
        let parts = and_parts (is_known_name N name) (is_known_constraint N body scope) known in
        ap (map (placed_modal_meaning N)) (all_operators-Soft N slots at (numbered_name N name) (constraint_of N body scope)) ∙ operators-mean body scope slots fills parts.1

    all-operators-mean : {n : Count} (parts : Row_of-Constraint n) (scope : Variables) (slots : Slots) → Fills N scope slots → list_all (λ part. part scope) (fold_constraints (known_constraint_layer N) parts) ≡ true
        → map (meanings slots) (map (λ part. part scope) (fold_constraints (constraint_layer N) parts)) ≡ map (λ part. map (hard_modal_meaning T) (part (environment_of N scope slots))) (fold_constraints (named.operators_layer T) parts)
    all-operators-mean end_of-Constraint scope slots fills known = refl
    all-operators-mean (more_of-Constraint part rest) scope slots fills known =
        let parts = and_parts (is_known_constraint N part scope) (list_all (λ part. part scope) (fold_constraints (known_constraint_layer N) rest)) known in
        λ i. operators-mean part scope slots fills parts.0 i ∷ all-operators-mean rest scope slots fills parts.1 i

  all-satisfied : (W : List State) (found : List HardModal) → list_all (is_met_by W) (map (hard_modal_meaning T) found) ≡ list_all (λ (hard : HardModal). satisfies T W hard.env hard.modal) found
  all-satisfied W [] = refl
  all-satisfied W (hard ∷ found) = λ i. sym (satisfies-meaning T W hard.env hard.modal) i && all-satisfied W found i

  pub satisfaction-means : (W : List State) (tree : Constraint) (scope : Variables) (slots : Slots) → Fills N scope slots → is_known_constraint N tree scope ≡ true → is_satisfied N W slots (constraint_of N tree scope) ≡ sat T W (environment_of N scope slots) tree
  satisfaction-means W tree scope slots fills known =
      sym (list_all-map (is_met_by W) (placed_modal_meaning N) (all_operators N slots (constraint_of N tree scope)))
      ∙ ap (list_all (is_met_by W)) (operators-mean tree scope slots fills known)
      ∙ all-satisfied W (operators T (environment_of N scope slots) tree)
      ∙ sym (sat-operators T W tree (environment_of N scope slots))

  -- ---- preferences

  abbrev instances : Slots → NumberedConstraint → List InstanceMeaning
  instances slots tree = map (placed_instance_meaning N) (soft_instances N tree slots)

  abbrev named_instances : Environment → Constraint → List InstanceMeaning
  named_instances env tree = map (instance_meaning T N) (instances_of T tree env)

  mutual
    unfolding instances_of instances_of_all instances_of_one constraint_of is_known_constraint soft_instances

    pub instances-mean : (tree : Constraint) (scope : Variables) (slots : Slots) → Fills N scope slots → is_known_constraint N tree scope ≡ true → instances slots (constraint_of N tree scope) ≡ named_instances (environment_of N scope slots) tree
    instances-mean (Both' _ parts) scope slots fills known =
        let made = map (λ part. part scope) (fold_constraints (constraint_layer N) parts) in
        ap (map (placed_instance_meaning N)) (soft_instances-Both N slots made)
        ∙ joined (placed_instance_meaning N) (λ part. soft_instances N part slots) made ∙ all-instances-mean parts scope slots fills known
    instances-mean (Each' variables _ (more_of-Constraint body _)) scope slots fills known =
        let inner = scope ++ words_of variables in
        let parts = and_parts (are_known_types N variables) (is_known_constraint N body inner) known in
        let made = constraint_of N body inner in
        ap (map (placed_instance_meaning N)) (soft_instances-Each N slots (ranges_of N variables) made)
        ∙ joined (placed_instance_meaning N) (λ more. soft_instances N made more) (bound N slots (ranges_of N variables))
        ∙ ap (flat_map (λ found. found)) (each_binding T N ties (λ more. instances more made) (λ env. named_instances env body) scope slots variables fills parts.0 (λ more fits. instances-mean body inner more fits parts.1))
        ∙ sym (joined (instance_meaning T N) (λ env. instances_of T body env) (bind T (environment_of N scope slots) variables))
    instances-mean (Single operator) scope slots fills known = refl
    instances-mean (Soft' at name _ (more_of-Constraint body _)) scope slots fills known =
        let parts = and_parts (is_known_name N name) (is_known_constraint N body scope) known in
        ap (map (placed_instance_meaning N)) (soft_instances-Soft N slots at (numbered_name N name) (constraint_of N body scope))
        ∙ (λ i. record { at = at; number = number-means N name i; name = name-means N name parts.0 i; operators = operators-mean body scope slots fills parts.1 i } ∷ [])

    all-instances-mean : {n : Count} (parts : Row_of-Constraint n) (scope : Variables) (slots : Slots) → Fills N scope slots → list_all (λ part. part scope) (fold_constraints (known_constraint_layer N) parts) ≡ true
        → flat_map (λ found. found) (map (instances slots) (map (λ part. part scope) (fold_constraints (constraint_layer N) parts))) ≡ map (instance_meaning T N) (instances_of_all T parts (environment_of N scope slots))
    all-instances-mean end_of-Constraint scope slots fills known = refl
    all-instances-mean (more_of-Constraint part rest) scope slots fills known =
        let parts = and_parts (is_known_constraint N part scope) (list_all (λ part. part scope) (fold_constraints (known_constraint_layer N) rest)) known in
        (λ i. instances-mean part scope slots fills parts.0 i ++ all-instances-mean rest scope slots fills parts.1 i)
        ∙ sym (map-append (instance_meaning T N) (instances_of T part (environment_of N scope slots)) (instances_of_all T rest (environment_of N scope slots)))
