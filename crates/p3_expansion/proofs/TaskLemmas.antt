-- The constraints of a whole task, and what they stand for by name.
use Rattle.std.proofs.Common.{◌≡◌, ◌∙◌, ◌<◌, List, [], ◌∷◌, ◌++◌, map, length, refl, sym, ap, subst}
use Rattle.std.specs.List.{AllZip}
use Rattle.std.proofs.lemmas.List.{map-append}
use Rattle.std.proofs.lemmas.List.Elements.{All-nil}
use Rattle.p3_task.specs.Constraints as named
use Rattle.p3_task.specs.Constraints.{hard_list, hard_modals, instances, instances_of, operators}
use Rattle.p3_task.specs.Goals.{StatePref, prefs}
use Rattle.p3_task.specs.Offences.{WellFormed}
use Rattle.p3_task.specs.declared.task.Task.{Task}
use Rattle.p3_base.specs.declared.operator.Operator.TheVariants.{AtEnd}
use Rattle.p3_formula.specs.GroundModal.{GroundModal}
use Rattle.p3_formula.specs.declared.modal.GroundSoft.{GroundSoft}
use Rattle.p3_numbers.specs.Constraints.{PlacedModal, PlacedInstance, InstanceMeaning, hard_operators, all_operators, soft_instances, placed_modal_meaning, hard_modal_meaning, placed_instance_meaning, instance_meaning}
use Rattle.p3_numbers.specs.Goals.{PlacedPreference, PreferenceMeaning, preferences, placed_preference_meaning, preference_meaning}
use Rattle.p3_numbers.specs.Known.{IsKnownTask}
use Rattle.p3_numbers.specs.Places.{Fills}
use Rattle.p3_numbers.specs.Tasks.{IsNumberedTask}
use Rattle.p3_numbers.specs.declared.numbers.Numbers.{Numbers}
use Rattle.p3_numbers.specs.declared.task.NumberedTask.{NumberedTask}
use Rattle.p3_numbers.proofs.ConstraintLaws.{hard-operators-mean, instances-mean}
use Rattle.p3_numbers.proofs.GoalLaws.{preferences-mean}
use Rattle.p3_numbers.proofs.KnownLaws.{task-known}
use Rattle.p3_expansion.specs.Atoms.{GroundAtom}
use Rattle.p3_expansion.specs.Instances.{at_end, instance_atoms, InstancesStand, PushesInstances}
use Rattle.p3_expansion.specs.Operators.{operator_atoms, HasTruths, OperatorsStand, PushesOperators}
use Rattle.p3_expansion.specs.TaskConstraints.{task_operators, MakesHard, task_instances, HasInstance, MakesSoft}
use Rattle.p3_expansion.specs.declared.statics.Statics.{Statics}
use Rattle.p3_expansion.specs.declared.work.Work.{Work}
use Rattle.p3_expansion.proofs.WalkLemmas.{pushes-join}

pub no-variables : (N : Numbers) → Fills N [] []
no-variables N = record { lengths = refl; objects = All-nil (λ number. number < length N.objects) }

-- ---- what is seen of them is what is seen of those by name

-- of a preference over the last state
abbrev of_preference : PreferenceMeaning → InstanceMeaning
of_preference meant = record { at = meant.at; number = meant.number; name = meant.name; operators = AtEnd meant.holds ∷ [] }

module _ (T : Task) (N : Numbers) where
  placed-at-end : (meant : List PlacedPreference) → map (placed_instance_meaning N) (map at_end meant) ≡ map of_preference (map (placed_preference_meaning N) meant)
  unfolding all_operators
  placed-at-end [] = refl
  placed-at-end (placed ∷ meant) = λ i. one placed i ∷ placed-at-end meant i
    where
      one : (placed : PlacedPreference) → placed_instance_meaning N (at_end placed) ≡ of_preference (placed_preference_meaning N placed)
      one placed = refl

  named-at-end : (meant : List StatePref) → map (instance_meaning T N) (map named.at_end meant) ≡ map of_preference (map (preference_meaning T N) meant)
  unfolding operators
  named-at-end [] = refl
  named-at-end (pref ∷ meant) = λ i. one pref i ∷ named-at-end meant i
    where
      one : (pref : StatePref) → instance_meaning T N (named.at_end pref) ≡ of_preference (preference_meaning T N pref)
      one pref = refl

module _ (T : Task) (X : NumberedTask) (well : WellFormed T) (numbered : IsNumberedTask T X) where
  pub known : IsKnownTask T X.numbers
  known = task-known T X.numbers well numbered.covers

  pub operators-named : map (placed_modal_meaning X.numbers) (task_operators X) ≡ map (hard_modal_meaning T) (hard_list T)
  unfolding hard_list
  operators-named =
      map-append (placed_modal_meaning X.numbers) (hard_operators X.numbers [] X.domain_constraints) (hard_operators X.numbers [] X.problem_constraints)
      ∙ (λ i. of_domain i ++ of_problem i)
      ∙ sym (map-append (hard_modal_meaning T) (hard_modals T [] T.domain.constraints.body) (hard_modals T [] T.problem.constraints.body))
    where
      of_domain : map (placed_modal_meaning X.numbers) (hard_operators X.numbers [] X.domain_constraints) ≡ map (hard_modal_meaning T) (hard_modals T [] T.domain.constraints.body)
      of_domain = ap (λ tree. map (placed_modal_meaning X.numbers) (hard_operators X.numbers [] tree)) numbered.domain ∙ hard-operators-mean T X.numbers numbered.numbering T.domain.constraints.body [] [] (no-variables X.numbers) known.domain

      of_problem : map (placed_modal_meaning X.numbers) (hard_operators X.numbers [] X.problem_constraints) ≡ map (hard_modal_meaning T) (hard_modals T [] T.problem.constraints.body)
      of_problem = ap (λ tree. map (placed_modal_meaning X.numbers) (hard_operators X.numbers [] tree)) numbered.problem ∙ hard-operators-mean T X.numbers numbered.numbering T.problem.constraints.body [] [] (no-variables X.numbers) known.problem

  pub instances-named : map (placed_instance_meaning X.numbers) (task_instances X) ≡ map (instance_meaning T X.numbers) (instances T)
  unfolding instances
  instances-named =
      map-append seen (soft_instances X.numbers X.domain_constraints []) (soft_instances X.numbers X.problem_constraints [] ++ map at_end (preferences X.numbers [] X.goal))
      ∙ (λ i. of_domain i ++ map-append seen (soft_instances X.numbers X.problem_constraints []) (map at_end (preferences X.numbers [] X.goal)) i)
      ∙ (λ i. map means (instances_of T T.domain.constraints.body []) ++ (of_problem i ++ of_goal i))
      ∙ (λ i. map means (instances_of T T.domain.constraints.body []) ++ sym (map-append means (instances_of T T.problem.constraints.body []) (map named.at_end (prefs T [] T.problem.goal.body))) i)
      ∙ sym (map-append means (instances_of T T.domain.constraints.body []) (instances_of T T.problem.constraints.body [] ++ map named.at_end (prefs T [] T.problem.goal.body)))
    where
      seen : PlacedInstance → InstanceMeaning
      seen = placed_instance_meaning X.numbers

      means : named.Instance → InstanceMeaning
      means = instance_meaning T X.numbers

      of_domain : map seen (soft_instances X.numbers X.domain_constraints []) ≡ map means (instances_of T T.domain.constraints.body [])
      of_domain = ap (λ tree. map seen (soft_instances X.numbers tree [])) numbered.domain ∙ instances-mean T X.numbers numbered.numbering T.domain.constraints.body [] [] (no-variables X.numbers) known.domain

      of_problem : map seen (soft_instances X.numbers X.problem_constraints []) ≡ map means (instances_of T T.problem.constraints.body [])
      of_problem = ap (λ tree. map seen (soft_instances X.numbers tree [])) numbered.problem ∙ instances-mean T X.numbers numbered.numbering T.problem.constraints.body [] [] (no-variables X.numbers) known.problem

      of_goal : map seen (map at_end (preferences X.numbers [] X.goal)) ≡ map means (map named.at_end (prefs T [] T.problem.goal.body))
      of_goal =
          placed-at-end T X.numbers (preferences X.numbers [] X.goal)
          ∙ ap (map of_preference) (ap (λ tree. map (placed_preference_meaning X.numbers) (preferences X.numbers [] tree)) numbered.goal ∙ preferences-mean T X.numbers numbered.numbering T.problem.goal.body [] [] (no-variables X.numbers) known.goal)
          ∙ sym (named-at-end T X.numbers (prefs T [] T.problem.goal.body))

-- ---- lists of them

module _ (N : Numbers) (S : Statics) (atoms : List GroundAtom) where
  pub have-truths : (meant : List PlacedModal) (made : List GroundModal) → OperatorsStand N S atoms meant made → AllZip (HasTruths N S atoms) (map (placed_modal_meaning N) meant) made
  have-truths [] [] all = tt
  have-truths [] (one ∷ made) all = absurd all
  have-truths (placed ∷ meant) [] all = absurd all
  have-truths (placed ∷ meant) (one ∷ made) all = (all.0.truths, have-truths meant made all.1)

  pub have-instances : (meant : List PlacedInstance) (made : List GroundSoft) → InstancesStand N S atoms meant made → AllZip (HasInstance N S atoms) (map (placed_instance_meaning N) meant) made
  have-instances [] [] all = tt
  have-instances [] (one ∷ made) all = absurd all
  have-instances (placed ∷ meant) [] all = absurd all
  have-instances (placed ∷ meant) (one ∷ made) all = (record { name = all.0.name; parts = have-truths (all_operators N placed.slots placed.body) one.parts all.0.parts }, have-instances meant made all.1)

module _ (X : NumberedTask) (S : Statics) where
  abbrev N : Numbers
  N = X.numbers

  pub makes-hard : (old mid new : Work) (none first made : List GroundModal) → none ≡ [] → PushesOperators N S (hard_operators N [] X.domain_constraints) old mid none first → PushesOperators N S (hard_operators N [] X.problem_constraints) mid new first made → MakesHard X S old new made
  makes-hard old mid new none first made empty domain problem =
      let joined = pushes-join (OperatorsStand N S) (operator_atoms N) old mid new (hard_operators N [] X.domain_constraints) (hard_operators N [] X.problem_constraints) none first made domain problem in
      let stand : OperatorsStand N S new.atoms (task_operators X) made = joined.made [] (subst (OperatorsStand N S old.atoms []) (sym empty) tt) in
      record {
        grows = joined.grows;
        stand = stand;
        named = λ T well numbered. subst (λ meant. AllZip (HasTruths N S new.atoms) meant made) (operators-named T X well numbered) (have-truths N S new.atoms (task_operators X) made stand);
      }

  pub makes-soft : (old mid late new : Work) (none first second made : List GroundSoft) → none ≡ [] → PushesInstances N S (soft_instances N X.domain_constraints []) old mid none first
      → PushesInstances N S (soft_instances N X.problem_constraints []) mid late first second → PushesInstances N S (map at_end (preferences N [] X.goal)) late new second made → MakesSoft X S old new made
  makes-soft old mid late new none first second made empty domain problem goal =
      let rest = pushes-join (InstancesStand N S) (instance_atoms N) mid late new (soft_instances N X.problem_constraints []) (map at_end (preferences N [] X.goal)) first second made problem goal in
      let joined = pushes-join (InstancesStand N S) (instance_atoms N) old mid new (soft_instances N X.domain_constraints []) (soft_instances N X.problem_constraints [] ++ map at_end (preferences N [] X.goal)) none first made domain rest in
      let stand : InstancesStand N S new.atoms (task_instances X) made = joined.made [] (subst (InstancesStand N S old.atoms []) (sym empty) tt) in
      record {
        grows = joined.grows;
        stand = stand;
        named = λ T well numbered. subst (λ meant. AllZip (HasInstance N S new.atoms) meant made) (instances-named T X well numbered) (have-instances N S new.atoms (task_instances X) made stand);
      }
