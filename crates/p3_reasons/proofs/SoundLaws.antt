-- What each condition comes to at objects, and the hard part of each goal: it holds where it is met, its atoms are among those that it reads, and they decide it.
use Rattle.std.proofs.Common.{◌≡◌, ◌∙◌, ℕ, Bool, true, false, not, ◌||◌, List, [], ◌∷◌, ◌++◌, map, refl, sym, ap, subst}
use Rattle.std.specs.Prelude.{flat_map}
use Rattle.std.specs.List.{list_any, list_all, AllByRecursion}
use Rattle.std.proofs.Math.Bool.{or-false}
use Rattle.std.proofs.lemmas.List.{append-nil}
use Rattle.std.proofs.lemmas.List.Folds.{list_all-map, flat_map-map}
use Rattle.std.proofs.lemmas.Simd.{map-map}
use mathlib.Core.Former.{Count}
use Rattle.p3_base.specs.Connectives.{◌implies◌}
use Rattle.p3_task.proofs.MeaningLemmas.{list_any-map}
use Rattle.p3_task.specs.States.{State}
use Rattle.p3_numbers.specs.Conditions.{met, met_layer}
use Rattle.p3_numbers.specs.Folds.{fold_condition, fold_conditions, fold_goal, fold_goals}
use Rattle.p3_numbers.specs.Goals.{hard_met, hard_layer}
use Rattle.p3_numbers.specs.Slots.{Slots, bound}
use Rattle.p3_numbers.specs.declared.condition.NumberedCondition.{NumberedCondition, NumberedCondition-F, Row_of-NumberedCondition, end_of-NumberedCondition, more_of-NumberedCondition, items-the_row-NumberedCondition}
use Rattle.p3_numbers.specs.declared.condition.NumberedCondition.TheVariants as condition
use Rattle.p3_numbers.specs.declared.goal.NumberedGoal.{NumberedGoal, NumberedGoal-F, Row_of-NumberedGoal, end_of-NumberedGoal, more_of-NumberedGoal, items-the_row-NumberedGoal}
use Rattle.p3_numbers.specs.declared.goal.NumberedGoal.TheVariants as goal
use Rattle.p3_numbers.specs.declared.numbers.Numbers.{Numbers}
use Rattle.p3_expansion.specs.Atoms.{atom_at}
use Rattle.p3_expansion.specs.Hard.{hard_atoms, hard_atoms_layer}
use Rattle.p3_expansion.specs.Meanings.{atoms_layer, condition_atoms}
use Rattle.p3_reasons.specs.Outcomes.{Test, joined, opposite, outcome, outcome_layer, hard_outcome, hard_outcome_layer}
use Rattle.p3_reasons.proofs.SoundLemmas.{Part, Sound, opposite_part, sound-joined, sound-opposite, sound-fixed, sound-atom}

-- ---- rows as lists

module _ {A : Type 0} (layer : NumberedCondition-F A → A) where
  row_conditions : {n : Count} (row : Row_of-NumberedCondition n) → fold_conditions layer row ≡ map (fold_condition layer) (items-the_row-NumberedCondition n row)
  row_conditions end_of-NumberedCondition = refl
  row_conditions (more_of-NumberedCondition part rest) = λ i. fold_condition layer part ∷ row_conditions rest i

module _ {A : Type 0} (layer : NumberedGoal-F A → A) where
  row_goals : {n : Count} (row : Row_of-NumberedGoal n) → fold_goals layer row ≡ map (fold_goal layer) (items-the_row-NumberedGoal n row)
  row_goals end_of-NumberedGoal = refl
  row_goals (more_of-NumberedGoal part rest) = λ i. fold_goal layer part ∷ row_goals rest i

-- each of several parts is sound that are made of sound things
all-sound : (N : Numbers) {A : Type 0} (part : A → Part) (items : List A) → ((item : A) → Sound N (part item)) → AllByRecursion (Sound N) (map part items)
all-sound N part [] sound = tt
all-sound N part (item ∷ items) sound = (sound item, all-sound N part items sound)

module _ (N : Numbers) where
  -- ---- conditions

  abbrev pub part_of : Slots → NumberedCondition → Part
  part_of slots tree = record { come = λ test. outcome N test slots tree; reads = condition_atoms N slots tree; met = λ s. met N s slots tree }

  abbrev parts_of : Slots → List NumberedCondition → List Part
  parts_of slots trees = map (part_of slots) trees

  abbrev bodies_of : Slots → List ℕ → NumberedCondition → List Part
  bodies_of slots ranges body = map (λ inner. part_of inner body) (bound N slots ranges)

  come-parts : (test : Test) (slots : Slots) {n : Count} (row : Row_of-NumberedCondition n) → map (λ part. part slots) (fold_conditions (outcome_layer N test) row) ≡ map (λ (part : Part). part.come test) (parts_of slots (items-the_row-NumberedCondition n row))
  unfolding outcome
  come-parts test slots {n} row =
      ap (map (λ part. part slots)) (row_conditions (outcome_layer N test) row)
      ∙ map-map (λ part. part slots) (fold_condition (outcome_layer N test)) (items-the_row-NumberedCondition n row)
      ∙ sym (map-map (λ (part : Part). part.come test) (part_of slots) (items-the_row-NumberedCondition n row))

  reads-parts : (slots : Slots) {n : Count} (row : Row_of-NumberedCondition n) → flat_map (λ part. part slots) (fold_conditions (atoms_layer N) row) ≡ flat_map (λ (part : Part). part.reads) (parts_of slots (items-the_row-NumberedCondition n row))
  unfolding condition_atoms
  reads-parts slots {n} row =
      ap (flat_map (λ part. part slots)) (row_conditions (atoms_layer N) row)
      ∙ flat_map-map (λ part. part slots) (fold_condition (atoms_layer N)) (items-the_row-NumberedCondition n row)
      ∙ sym (flat_map-map (λ (part : Part). part.reads) (part_of slots) (items-the_row-NumberedCondition n row))

  all-met : (slots : Slots) (s : State) {n : Count} (row : Row_of-NumberedCondition n) → list_all (λ part. part slots) (fold_conditions (met_layer N s) row) ≡ list_all (λ (part : Part). part.met s) (parts_of slots (items-the_row-NumberedCondition n row))
  unfolding met
  all-met slots s {n} row =
      ap (list_all (λ part. part slots)) (row_conditions (met_layer N s) row)
      ∙ list_all-map (λ part. part slots) (fold_condition (met_layer N s)) (items-the_row-NumberedCondition n row)
      ∙ sym (list_all-map (λ (part : Part). part.met s) (part_of slots) (items-the_row-NumberedCondition n row))

  some-met : (slots : Slots) (s : State) {n : Count} (row : Row_of-NumberedCondition n) → list_any (λ part. part slots) (fold_conditions (met_layer N s) row) ≡ list_any (λ (part : Part). part.met s) (parts_of slots (items-the_row-NumberedCondition n row))
  unfolding met
  some-met slots s {n} row =
      ap (list_any (λ part. part slots)) (row_conditions (met_layer N s) row)
      ∙ list_any-map (λ part. part slots) (fold_condition (met_layer N s)) (items-the_row-NumberedCondition n row)
      ∙ sym (list_any-map (λ (part : Part). part.met s) (part_of slots) (items-the_row-NumberedCondition n row))

  implied : (a b : Bool) → (a implies b) ≡ (not a || (b || false))
  implied true b = sym (or-false b)
  implied false b = refl

  mutual
    unfolding outcome condition_atoms met

    pub sound : (tree : NumberedCondition) (slots : Slots) → Sound N (part_of slots tree)
    sound (condition.Atom predicate args) slots = sound-atom N (atom_at slots predicate args)
    sound (condition.Equal left right) slots = sound-fixed N _
    sound (condition.And' _ parts) slots =
        subst (Sound N) (sym (λ i. record { come = λ test. joined true (come-parts test slots parts i); reads = reads-parts slots parts i; met = λ s. all-met slots s parts i }))
        (sound-joined N true (parts_of slots (items-the_row-NumberedCondition _ parts)) (all-sounds parts slots))
    sound (condition.Or' _ parts) slots =
        subst (Sound N) (sym (λ i. record { come = λ test. joined false (come-parts test slots parts i); reads = reads-parts slots parts i; met = λ s. some-met slots s parts i }))
        (sound-joined N false (parts_of slots (items-the_row-NumberedCondition _ parts)) (all-sounds parts slots))
    sound (condition.Not' _ (more_of-NumberedCondition part _)) slots = sound-opposite N (part_of slots part) (sound part slots)
    sound (condition.Imply' _ (more_of-NumberedCondition first _) _ (more_of-NumberedCondition second _)) slots =
        subst (Sound N)
        (λ i. record {
          come = λ test. joined false (opposite (outcome N test slots first) ∷ outcome N test slots second ∷ []);
          reads = condition_atoms N slots first ++ append-nil (condition_atoms N slots second) i;
          met = λ s. sym (implied (met N s slots first) (met N s slots second)) i;
        })
        (sound-joined N false (opposite_part (part_of slots first) ∷ part_of slots second ∷ []) (sound-opposite N (part_of slots first) (sound first slots), (sound second slots, tt)))
    sound (condition.Exists' ranges _ (more_of-NumberedCondition body _)) slots =
        subst (Sound N)
        (λ i. record {
          come = λ test. joined false (map-map (λ (part : Part). part.come test) (λ inner. part_of inner body) (bound N slots ranges) i);
          reads = flat_map-map (λ (part : Part). part.reads) (λ inner. part_of inner body) (bound N slots ranges) i;
          met = λ s. list_any-map (λ (part : Part). part.met s) (λ inner. part_of inner body) (bound N slots ranges) i;
        })
        (sound-joined N false (bodies_of slots ranges body) (all-sound N (λ inner. part_of inner body) (bound N slots ranges) (sound body)))
    sound (condition.Forall' ranges _ (more_of-NumberedCondition body _)) slots =
        subst (Sound N)
        (λ i. record {
          come = λ test. joined true (map-map (λ (part : Part). part.come test) (λ inner. part_of inner body) (bound N slots ranges) i);
          reads = flat_map-map (λ (part : Part). part.reads) (λ inner. part_of inner body) (bound N slots ranges) i;
          met = λ s. list_all-map (λ (part : Part). part.met s) (λ inner. part_of inner body) (bound N slots ranges) i;
        })
        (sound-joined N true (bodies_of slots ranges body) (all-sound N (λ inner. part_of inner body) (bound N slots ranges) (sound body)))

    all-sounds : {n : Count} (row : Row_of-NumberedCondition n) (slots : Slots) → AllByRecursion (Sound N) (parts_of slots (items-the_row-NumberedCondition n row))
    all-sounds end_of-NumberedCondition slots = tt
    all-sounds (more_of-NumberedCondition part rest) slots = (sound part slots, all-sounds rest slots)

  -- ---- hard parts

  abbrev pub hard_part_of : Slots → NumberedGoal → Part
  hard_part_of slots tree = record { come = λ test. hard_outcome N test slots tree; reads = hard_atoms N slots tree; met = λ s. hard_met N s slots tree }

  abbrev hard_parts_of : Slots → List NumberedGoal → List Part
  hard_parts_of slots trees = map (hard_part_of slots) trees

  come-hard : (test : Test) (slots : Slots) {n : Count} (row : Row_of-NumberedGoal n) → map (λ part. part slots) (fold_goals (hard_outcome_layer N test) row) ≡ map (λ (part : Part). part.come test) (hard_parts_of slots (items-the_row-NumberedGoal n row))
  unfolding hard_outcome
  come-hard test slots {n} row =
      ap (map (λ part. part slots)) (row_goals (hard_outcome_layer N test) row)
      ∙ map-map (λ part. part slots) (fold_goal (hard_outcome_layer N test)) (items-the_row-NumberedGoal n row)
      ∙ sym (map-map (λ (part : Part). part.come test) (hard_part_of slots) (items-the_row-NumberedGoal n row))

  reads-hard : (slots : Slots) {n : Count} (row : Row_of-NumberedGoal n) → flat_map (λ part. part slots) (fold_goals (hard_atoms_layer N) row) ≡ flat_map (λ (part : Part). part.reads) (hard_parts_of slots (items-the_row-NumberedGoal n row))
  unfolding hard_atoms
  reads-hard slots {n} row =
      ap (flat_map (λ part. part slots)) (row_goals (hard_atoms_layer N) row)
      ∙ flat_map-map (λ part. part slots) (fold_goal (hard_atoms_layer N)) (items-the_row-NumberedGoal n row)
      ∙ sym (flat_map-map (λ (part : Part). part.reads) (hard_part_of slots) (items-the_row-NumberedGoal n row))

  hard-met : (slots : Slots) (s : State) {n : Count} (row : Row_of-NumberedGoal n) → list_all (λ part. part slots) (fold_goals (hard_layer N s) row) ≡ list_all (λ (part : Part). part.met s) (hard_parts_of slots (items-the_row-NumberedGoal n row))
  unfolding hard_met
  hard-met slots s {n} row =
      ap (list_all (λ part. part slots)) (row_goals (hard_layer N s) row)
      ∙ list_all-map (λ part. part slots) (fold_goal (hard_layer N s)) (items-the_row-NumberedGoal n row)
      ∙ sym (list_all-map (λ (part : Part). part.met s) (hard_part_of slots) (items-the_row-NumberedGoal n row))

  mutual
    unfolding hard_outcome hard_atoms hard_met

    pub hard-sound : (tree : NumberedGoal) (slots : Slots) → Sound N (hard_part_of slots tree)
    hard-sound (goal.Plain tree) slots = sound tree slots
    hard-sound (goal.Both' _ parts) slots =
        subst (Sound N) (sym (λ i. record { come = λ test. joined true (come-hard test slots parts i); reads = reads-hard slots parts i; met = λ s. hard-met slots s parts i }))
        (sound-joined N true (hard_parts_of slots (items-the_row-NumberedGoal _ parts)) (all-hard-sound parts slots))
    hard-sound (goal.Each' ranges _ (more_of-NumberedGoal body _)) slots =
        subst (Sound N)
        (λ i. record {
          come = λ test. joined true (map-map (λ (part : Part). part.come test) (λ inner. hard_part_of inner body) (bound N slots ranges) i);
          reads = flat_map-map (λ (part : Part). part.reads) (λ inner. hard_part_of inner body) (bound N slots ranges) i;
          met = λ s. list_all-map (λ (part : Part). part.met s) (λ inner. hard_part_of inner body) (bound N slots ranges) i;
        })
        (sound-joined N true (map (λ inner. hard_part_of inner body) (bound N slots ranges)) (all-sound N (λ inner. hard_part_of inner body) (bound N slots ranges) (hard-sound body)))
    hard-sound (goal.Soft preference) slots = sound-fixed N true

    all-hard-sound : {n : Count} (row : Row_of-NumberedGoal n) (slots : Slots) → AllByRecursion (Sound N) (hard_parts_of slots (items-the_row-NumberedGoal n row))
    all-hard-sound end_of-NumberedGoal slots = tt
    all-hard-sound (more_of-NumberedGoal part rest) slots = (hard-sound part slots, all-hard-sound rest slots)
