-- The preferences of a constraint that is built of given parts, and lists of instances that stand for them.
use Rattle.std.proofs.Common.{◌≡◌, ◌∙◌, ℕ, List, [], ◌∷◌, ◌++◌, map, refl, sym, ap, subst}
use Rattle.std.specs.Prelude.{flat_map}
use Rattle.std.proofs.lemmas.List.{append-nil}
use Rattle.p3_formula.specs.GroundModal.{GroundModal}
use Rattle.p3_formula.specs.declared.modal.GroundPref.{GroundPref}
use Rattle.p3_formula.specs.declared.modal.GroundSoft.{GroundSoft}
use Rattle.p3_numbers.specs.Constraints.{PlacedInstance, all_operators, soft_instances}
use Rattle.p3_numbers.specs.Goals.{PlacedPreference, preferences}
use Rattle.p3_numbers.specs.Slots.{Slots, bound}
use Rattle.p3_numbers.specs.declared.constraint.NumberedConstraint.{NumberedConstraint}
use Rattle.p3_numbers.specs.declared.constraint.NumberedConstraint.TheVariants.{Both, Each, Single}
use Rattle.p3_numbers.specs.NumberedModal.{NumberedModal}
use Rattle.p3_numbers.specs.declared.goal.NumberedGoal.{NumberedGoal}
use Rattle.p3_numbers.specs.declared.numbers.Numbers.{Numbers}
use Rattle.p3_numbers.proofs.ConstraintLemmas.{soft_instances-Both, soft_instances-Each}
use Rattle.p3_expansion.specs.Atoms.{GroundAtom, Keeps}
use Rattle.p3_expansion.specs.Expansions.{Grows}
use Rattle.p3_expansion.specs.Instances.{at_end, made_at_end, instance_atoms, InstanceStands, InstancesStand, PushesInstances}
use Rattle.p3_expansion.specs.Meanings.{condition_atoms}
use Rattle.p3_expansion.specs.Operators.{OperatorsStand, PushesOperators}
use Rattle.p3_expansion.specs.Preferences.{PreferenceStands, PreferencesStand, preference_atoms}
use Rattle.p3_expansion.specs.Walks.{Pushes}
use Rattle.p3_expansion.specs.declared.statics.Statics.{Statics}
use Rattle.p3_expansion.specs.declared.work.Work.{Work}
use Rattle.p3_expansion.proofs.OperatorLemmas.{operators-keep, stands-AtEnd}
use Rattle.p3_expansion.proofs.WalkLemmas.{flat-flat, pushes-by, zip-weaker, zip-push, zip-append}

module _ (N : Numbers) (slots : Slots) where
  pub instances-Single : (modal : NumberedModal) → soft_instances N (Single modal) slots ≡ []
  unfolding soft_instances
  instances-Single modal = refl

-- the atoms of the preferences of a goal
module _ (N : Numbers) where
  instance-atoms-at-end : (placed : PlacedPreference) → instance_atoms N (at_end placed) ≡ condition_atoms N placed.slots placed.body
  unfolding all_operators
  instance-atoms-at-end placed = append-nil (condition_atoms N placed.slots placed.body ++ []) ∙ append-nil (condition_atoms N placed.slots placed.body)

  pub atoms-at-end : (meant : List PlacedPreference) → flat_map (instance_atoms N) (map at_end meant) ≡ flat_map (λ (placed : PlacedPreference). condition_atoms N placed.slots placed.body) meant
  atoms-at-end [] = refl
  atoms-at-end (placed ∷ meant) = λ i. instance-atoms-at-end placed i ++ atoms-at-end meant i

module _ (N : Numbers) (S : Statics) where
  instances-keep : (old new : List GroundAtom) → Keeps old new → (meant : List PlacedInstance) (made : List GroundSoft) → InstancesStand N S old meant made → InstancesStand N S new meant made
  instances-keep old new keeps =
      zip-weaker (InstanceStands N S old) (InstanceStands N S new) (λ meant made one. record { name = one.name; parts = operators-keep N S old new keeps (all_operators N meant.slots meant.body) made.parts one.parts })

  -- an instance more, of operators that were made of none
  pub pushes-instance : (old new : Work) (placed : PlacedInstance) (before after : List GroundSoft) (made : GroundSoft) (none : List GroundModal) → none ≡ [] → PushesOperators N S (all_operators N placed.slots placed.body) old new none made.parts → made.name ≡ placed.name → after ≡ before ++ made ∷ []
      → PushesInstances N S (placed ∷ []) old new before after
  pushes-instance old new placed before after made none empty pushes named is =
      pushes-by (InstancesStand N S) (instance_atoms N placed ++ []) (instance_atoms N placed) old new (placed ∷ []) (placed ∷ []) before after (append-nil (instance_atoms N placed)) refl (record {
        grows = pushes.grows;
        made = λ those stand.
            subst (InstancesStand N S new.atoms (those ++ placed ∷ [])) (sym is)
            (zip-push (InstanceStands N S new.atoms) those before placed made (instances-keep old.atoms new.atoms pushes.grows.atoms those before stand) (record {
              name = named;
              parts = pushes.made [] (subst (OperatorsStand N S old.atoms []) (sym empty) tt);
            }));
      })

  module _ (slots : Slots) (old new : Work) (before after : List GroundSoft) where
    by-instances : (tree : NumberedConstraint) (meant : List PlacedInstance) (reads : List GroundAtom) → soft_instances N tree slots ≡ meant → flat_map (instance_atoms N) meant ≡ reads
        → Pushes (InstancesStand N S) reads old new meant before after → PushesInstances N S (soft_instances N tree slots) old new before after
    by-instances tree meant reads is same pushes =
        pushes-by (InstancesStand N S) (flat_map (instance_atoms N) (soft_instances N tree slots)) reads old new (soft_instances N tree slots) meant before after (ap (flat_map (instance_atoms N)) is ∙ same) is pushes

    pub instances-of-parts : (parts : List NumberedConstraint) → Pushes (InstancesStand N S) (flat_map (λ part. flat_map (instance_atoms N) (soft_instances N part slots)) parts) old new (flat_map (λ part. soft_instances N part slots) parts) before after
        → PushesInstances N S (soft_instances N (Both parts) slots) old new before after
    instances-of-parts parts pushes =
        by-instances (Both parts) (flat_map (λ part. soft_instances N part slots) parts) (flat_map (λ part. flat_map (instance_atoms N) (soft_instances N part slots)) parts) (soft_instances-Both N slots parts) (flat-flat (instance_atoms N) (λ part. soft_instances N part slots) parts) pushes

    pub instances-of-bodies : (ranges : List ℕ) (body : NumberedConstraint)
        → Pushes (InstancesStand N S) (flat_map (λ inner. flat_map (instance_atoms N) (soft_instances N body inner)) (bound N slots ranges)) old new (flat_map (soft_instances N body) (bound N slots ranges)) before after
        → PushesInstances N S (soft_instances N (Each ranges body) slots) old new before after
    instances-of-bodies ranges body pushes =
        by-instances (Each ranges body) (flat_map (soft_instances N body) (bound N slots ranges)) (flat_map (λ inner. flat_map (instance_atoms N) (soft_instances N body inner)) (bound N slots ranges)) (soft_instances-Each N slots ranges body)
        (flat-flat (instance_atoms N) (soft_instances N body) (bound N slots ranges)) pushes

    pub instances-of-one : (tree : NumberedConstraint) (meant : List PlacedInstance) → soft_instances N tree slots ≡ meant → PushesInstances N S meant old new before after → PushesInstances N S (soft_instances N tree slots) old new before after
    instances-of-one tree meant is pushes = by-instances tree meant (flat_map (instance_atoms N) meant) is refl pushes

  -- ---- the preferences of a goal, which speak of the last state

  stands-at-end : (atoms : List GroundAtom) (placed : PlacedPreference) (made : GroundPref) → PreferenceStands N S atoms placed made → InstanceStands N S atoms (at_end placed) (made_at_end made)
  unfolding all_operators
  stands-at-end atoms placed made one = record { name = one.name; parts = (stands-AtEnd N S placed.slots placed.body atoms made.body one.body one.tidy, tt) }

  stand-at-end : (atoms : List GroundAtom) (meant : List PlacedPreference) (made : List GroundPref) → PreferencesStand N S atoms meant made → InstancesStand N S atoms (map at_end meant) (map made_at_end made)
  stand-at-end atoms [] [] all = tt
  stand-at-end atoms [] (one ∷ made) all = absurd all
  stand-at-end atoms (placed ∷ meant) [] all = absurd all
  stand-at-end atoms (placed ∷ meant) (one ∷ made) all = (stands-at-end atoms placed one all.0, stand-at-end atoms meant made all.1)

  pub pushes-at-end : (slots : Slots) (goal : NumberedGoal) (old new : Work) (none made : List GroundPref) (before after : List GroundSoft) → none ≡ [] → Pushes (PreferencesStand N S) (preference_atoms N slots goal) old new (preferences N slots goal) none made → after ≡ before ++ map made_at_end made
      → PushesInstances N S (map at_end (preferences N slots goal)) old new before after
  unfolding preference_atoms
  pushes-at-end slots goal old new none made before after empty pushes is = record {
    grows = subst (λ reads. Grows reads old new) (sym (atoms-at-end N (preferences N slots goal))) pushes.grows;
    made = λ those stand.
        subst (InstancesStand N S new.atoms (those ++ map at_end (preferences N slots goal))) (sym is)
        (zip-append (InstanceStands N S new.atoms) those before (map at_end (preferences N slots goal)) (map made_at_end made) (instances-keep old.atoms new.atoms pushes.grows.atoms those before stand)
        (stand-at-end new.atoms (preferences N slots goal) made (pushes.made [] (subst (PreferencesStand N S old.atoms []) (sym empty) tt))));
  }
