-- What holds was possible before all objects were chosen.
use Rattle.std.proofs.Common.{◌≡◌, ◌∙◌, ℕ, ◌==◌, Bool, true, false, not, ◌&&◌, ◌||◌, List, [], ◌∷◌, ◌++◌, length, refl, sym, ap, arith, append_assoc, length-append, if◌then◌else◌}
use Rattle.std.specs.Prelude.{flat_map}
use Rattle.std.specs.List.{list_any, list_all}
use Rattle.std.proofs.lemmas.Bool.{and_parts, and_from, or_parts, or_left, or_right, not_from_false, false≢true, ltb-true, lt-ltb}
use Rattle.std.proofs.lemmas.List.{append-nil, get_or_append_left}
use Rattle.std.proofs.lemmas.List.Folds.{list_all-append}
use Rattle.p3_task.proofs.MeaningLemmas.{list_any-map}
use mathlib.Core.Former.{Count}
use Rattle.p3_task.specs.States.{State}
use Rattle.p3_numbers.specs.Conditions.{met, met_layer}
use Rattle.p3_numbers.specs.Folds.{fold_conditions, fold_goals}
use Rattle.p3_numbers.specs.Goals.{hard_met, hard_layer}
use Rattle.p3_numbers.specs.Slots.{Slots, value_of, values_of, tuples_of, bound}
use Rattle.p3_numbers.specs.declared.condition.NumberedArgument.{NumberedArgument}
use Rattle.p3_numbers.specs.declared.condition.NumberedArgument.TheVariants.{Slot, Object}
use Rattle.p3_numbers.specs.declared.condition.NumberedCondition.{NumberedCondition, Row_of-NumberedCondition, end_of-NumberedCondition, more_of-NumberedCondition}
use Rattle.p3_numbers.specs.declared.condition.NumberedCondition.TheVariants.{Atom, Equal, And', Or', Not', Imply', Exists', Forall'}
use Rattle.p3_numbers.specs.declared.goal.NumberedGoal.{NumberedGoal, Row_of-NumberedGoal, end_of-NumberedGoal, more_of-NumberedGoal}
use Rattle.p3_numbers.specs.declared.goal.NumberedGoal.TheVariants as goal
use Rattle.p3_numbers.specs.declared.numbers.Numbers.{Numbers}
use Rattle.p3_expansion.specs.Atoms.{atom_at}
use Rattle.p3_expansion.specs.Statics.{IsSettled, is_decided}
use Rattle.p3_expansion.specs.declared.statics.Statics.{Statics}
use Rattle.p3_steps.specs.Possible.{is_chosen, are_chosen, is_known, is_at_start, has_truth, atom_may, equality_may, bodies_may, may_layer, condition_may, may_be, may_yet_be, goal_may_layer, goal_may, may_begin, may_yet_begin, is_possible, joined_atoms_layer, joined_atoms, goal_joined_layer, goal_joined_atoms}

-- ---- truth values

truth-is : (wish truth : Bool) → truth ≡ wish → has_truth wish truth ≡ true
truth-is true truth is = is
truth-is false truth is = not_from_false truth is

not-true-is : (a : Bool) → not a ≡ true → a ≡ false
not-true-is true is = sym is
not-true-is false is = refl

not-false-is : (a : Bool) → not a ≡ false → a ≡ true
not-false-is true is = refl
not-false-is false is = sym is

-- one of two follows from one of two
or-follows : (a b p q : Bool) → (a || b) ≡ true → (a ≡ true → p ≡ true) → (b ≡ true → q ≡ true) → (p || q) ≡ true
or-follows true b p q is first second = or_left p q (first refl)
or-follows false b p q is first second = or_right p q (second is)

fails-follow : (a b p q : Bool) → (a && b) ≡ false → (a ≡ false → p ≡ true) → (b ≡ false → q ≡ true) → (p || q) ≡ true
fails-follow true b p q is first second = or_right p q (second is)
fails-follow false b p q is first second = or_left p q (first refl)

-- what each of some tests needs, one that passes needs
module _ {A : Type 0} (test : A → Bool) (p : Bool) where
  any-step : (x : A) (xs : List A) (b : Bool) → test x ≡ b → (b || list_any test xs) ≡ true → (test x ≡ true → p ≡ true) → (list_any test xs ≡ true → p ≡ true) → p ≡ true
  any-step x xs true passes _ first _ = first passes
  any-step x xs false _ is _ rest = rest is

  any-needs : (xs : List A) → ((x : A) → test x ≡ true → p ≡ true) → list_any test xs ≡ true → p ≡ true
  any-needs [] need is = absurd (false≢true is)
  any-needs (x ∷ xs) need is = any-step x xs (test x) refl is (need x) (any-needs xs need)

-- what each item that passes needs, where each passes or some do
module _ {A : Type 0} (test needed : A → Bool) where
  all-follow : (xs : List A) → ((x : A) → test x ≡ true → needed x ≡ true) → list_all test xs ≡ true → list_all needed xs ≡ true
  all-follow [] need is = refl
  all-follow (x ∷ xs) need is = let both = and_parts (test x) (list_all test xs) is in and_from (needed x) (list_all needed xs) (need x both.0) (all-follow xs need both.1)

  some-follow : (xs : List A) → ((x : A) → test x ≡ true → needed x ≡ true) → list_any test xs ≡ true → list_any needed xs ≡ true
  some-follow [] need is = is
  some-follow (x ∷ xs) need is = or-follows (test x) (list_any test xs) (needed x) (list_any needed xs) is (need x) (some-follow xs need)

  none-follow : (xs : List A) → ((x : A) → test x ≡ false → needed x ≡ true) → list_any test xs ≡ false → list_all needed xs ≡ true
  none-follow [] need is = refl
  none-follow (x ∷ xs) need is = let both = or_parts (test x) (list_any test xs) is in and_from (needed x) (list_all needed xs) (need x both.0) (none-follow xs need both.1)

  not-all-follow : (xs : List A) → ((x : A) → test x ≡ false → needed x ≡ true) → list_all test xs ≡ false → list_any needed xs ≡ true
  not-all-follow [] need is = sym is
  not-all-follow (x ∷ xs) need is = fails-follow (test x) (list_all test xs) (needed x) (list_any needed xs) is (need x) (not-all-follow xs need)

-- ---- arguments whose objects are chosen

module _ (slots rest : Slots) where
  chosen-value : (arg : NumberedArgument) → is_chosen slots arg ≡ true → value_of (slots ++ rest) arg ≡ value_of slots arg
  chosen-value (Slot place) chosen = get_or_append_left slots rest 0 place (ltb-true place (length slots) chosen)
  chosen-value (Object number) chosen = refl

  chosen-values : (args : List NumberedArgument) → are_chosen slots args ≡ true → values_of (slots ++ rest) args ≡ values_of slots args
  chosen-values [] chosen = refl
  chosen-values (arg ∷ args) chosen =
      let parts = and_parts (is_chosen slots arg) (are_chosen slots args) chosen in
      λ i. chosen-value arg parts.0 i ∷ chosen-values args parts.1 i

-- ---- conditions

module _ (N : Numbers) (S : Statics) (s : State) (settled : IsSettled N S s) where
  atom-may-where-met : (slots : Slots) (predicate : ℕ) (args : List NumberedArgument) (wish : Bool) → met N s slots (Atom predicate args) ≡ wish → may_be N S slots (Atom predicate args) wish ≡ true
  unfolding met condition_may
  atom-may-where-met slots predicate args wish is = by (is_known N S slots predicate args) refl
    where
      by : (known : Bool) → is_known N S slots predicate args ≡ known → (not known || has_truth wish (is_at_start S (atom_at slots predicate args))) ≡ true
      by false _ = refl
      by true known =
          truth-is wish (is_at_start S (atom_at slots predicate args))
          (sym (settled.same (atom_at slots predicate args) (and_parts (are_chosen slots args) (is_decided N S (atom_at slots predicate args)) known).1) ∙ is)

  equality-may-where-met : (slots : Slots) (left right : NumberedArgument) (wish : Bool) → met N s slots (Equal left right) ≡ wish → may_be N S slots (Equal left right) wish ≡ true
  unfolding met condition_may
  equality-may-where-met slots left right wish is = or_right (not (is_chosen slots left && is_chosen slots right)) _ (truth-is wish (value_of slots left == value_of slots right) is)

  mutual
    unfolding met condition_may

    pub may-where-met : (slots : Slots) (tree : NumberedCondition) (wish : Bool) → met N s slots tree ≡ wish → may_be N S slots tree wish ≡ true
    may-where-met slots (Atom predicate args) wish is = atom-may-where-met slots predicate args wish is
    may-where-met slots (Equal left right) wish is = equality-may-where-met slots left right wish is
    may-where-met slots (And' _ parts) true is = all-true slots parts is
    may-where-met slots (And' _ parts) false is = some-false slots parts is
    may-where-met slots (Or' _ parts) true is = some-true slots parts is
    may-where-met slots (Or' _ parts) false is = all-false slots parts is
    may-where-met slots (Not' _ (more_of-NumberedCondition part _)) true is = may-where-met slots part false (not-true-is (met N s slots part) is)
    may-where-met slots (Not' _ (more_of-NumberedCondition part _)) false is = may-where-met slots part true (not-false-is (met N s slots part) is)
    may-where-met slots (Imply' _ (more_of-NumberedCondition first _) _ (more_of-NumberedCondition second _)) true is =
        or-follows (not (met N s slots first)) (met N s slots second) (may_be N S slots first false) (may_be N S slots second true) is
        (λ e. may-where-met slots first false (not-true-is (met N s slots first) e)) (may-where-met slots second true)
    may-where-met slots (Imply' _ (more_of-NumberedCondition first _) _ (more_of-NumberedCondition second _)) false is =
        let parts = or_parts (not (met N s slots first)) (met N s slots second) is in
        and_from (may_be N S slots first true) (may_be N S slots second false) (may-where-met slots first true (not-false-is (met N s slots first) parts.0)) (may-where-met slots second false parts.1)
    may-where-met slots (Exists' ranges _ (more_of-NumberedCondition body _)) true is =
        some-follow (λ inner. met N s inner body) (λ inner. may_be N S inner body true) (bound N slots ranges) (λ inner. may-where-met inner body true) is
    may-where-met slots (Exists' ranges _ (more_of-NumberedCondition body _)) false is =
        none-follow (λ inner. met N s inner body) (λ inner. may_be N S inner body false) (bound N slots ranges) (λ inner. may-where-met inner body false) is
    may-where-met slots (Forall' ranges _ (more_of-NumberedCondition body _)) true is =
        all-follow (λ inner. met N s inner body) (λ inner. may_be N S inner body true) (bound N slots ranges) (λ inner. may-where-met inner body true) is
    may-where-met slots (Forall' ranges _ (more_of-NumberedCondition body _)) false is =
        not-all-follow (λ inner. met N s inner body) (λ inner. may_be N S inner body false) (bound N slots ranges) (λ inner. may-where-met inner body false) is

    all-true : {n : Count} (slots : Slots) (parts : Row_of-NumberedCondition n) → list_all (λ part. part slots) (fold_conditions (met_layer N s) parts) ≡ true → list_all (λ part. part slots true) (fold_conditions (may_layer N S true) parts) ≡ true
    all-true slots end_of-NumberedCondition is = refl
    all-true slots (more_of-NumberedCondition part others) is =
        let both = and_parts (met N s slots part) (list_all (λ part. part slots) (fold_conditions (met_layer N s) others)) is in
        and_from (may_be N S slots part true) (list_all (λ part. part slots true) (fold_conditions (may_layer N S true) others)) (may-where-met slots part true both.0) (all-true slots others both.1)

    all-false : {n : Count} (slots : Slots) (parts : Row_of-NumberedCondition n) → list_any (λ part. part slots) (fold_conditions (met_layer N s) parts) ≡ false → list_all (λ part. part slots false) (fold_conditions (may_layer N S true) parts) ≡ true
    all-false slots end_of-NumberedCondition is = refl
    all-false slots (more_of-NumberedCondition part others) is =
        let both = or_parts (met N s slots part) (list_any (λ part. part slots) (fold_conditions (met_layer N s) others)) is in
        and_from (may_be N S slots part false) (list_all (λ part. part slots false) (fold_conditions (may_layer N S true) others)) (may-where-met slots part false both.0) (all-false slots others both.1)

    some-true : {n : Count} (slots : Slots) (parts : Row_of-NumberedCondition n) → list_any (λ part. part slots) (fold_conditions (met_layer N s) parts) ≡ true → list_any (λ part. part slots true) (fold_conditions (may_layer N S true) parts) ≡ true
    some-true slots end_of-NumberedCondition is = is
    some-true slots (more_of-NumberedCondition part others) is =
        or-follows (met N s slots part) (list_any (λ part. part slots) (fold_conditions (met_layer N s) others)) (may_be N S slots part true)
        (list_any (λ part. part slots true) (fold_conditions (may_layer N S true) others)) is (may-where-met slots part true) (some-true slots others)

    some-false : {n : Count} (slots : Slots) (parts : Row_of-NumberedCondition n) → list_all (λ part. part slots) (fold_conditions (met_layer N s) parts) ≡ false → list_any (λ part. part slots false) (fold_conditions (may_layer N S true) parts) ≡ true
    some-false slots end_of-NumberedCondition is = sym is
    some-false slots (more_of-NumberedCondition part others) is =
        fails-follow (met N s slots part) (list_all (λ part. part slots) (fold_conditions (met_layer N s) others)) (may_be N S slots part false)
        (list_any (λ part. part slots false) (fold_conditions (may_layer N S true) others)) is (may-where-met slots part false) (some-false slots others)

  mutual
    unfolding hard_met goal_may

    pub may-begin-where-met : (slots : Slots) (tree : NumberedGoal) → hard_met N s slots tree ≡ true → may_begin N S slots tree ≡ true
    may-begin-where-met slots (goal.Plain condition) is = may-where-met slots condition true is
    may-begin-where-met slots (goal.Both' _ parts) is = all-begin slots parts is
    may-begin-where-met slots (goal.Each' ranges _ (more_of-NumberedGoal body _)) is =
        all-follow (λ inner. hard_met N s inner body) (λ inner. may_begin N S inner body) (bound N slots ranges) (λ inner. may-begin-where-met inner body) is
    may-begin-where-met slots (goal.Soft preference) is = refl

    all-begin : {n : Count} (slots : Slots) (parts : Row_of-NumberedGoal n) → list_all (λ part. part slots) (fold_goals (hard_layer N s) parts) ≡ true → list_all (λ part. part slots) (fold_goals (goal_may_layer N S true) parts) ≡ true
    all-begin slots end_of-NumberedGoal is = refl
    all-begin slots (more_of-NumberedGoal part others) is =
        let both = and_parts (hard_met N s slots part) (list_all (λ part. part slots) (fold_goals (hard_layer N s) others)) is in
        and_from (may_begin N S slots part) (list_all (λ part. part slots) (fold_goals (goal_may_layer N S true) others)) (may-begin-where-met slots part both.0) (all-begin slots others both.1)

-- ---- what more objects rule out

module _ (N : Numbers) (S : Statics) (slots rest : Slots) where
  chosen-wider : (arg : NumberedArgument) → is_chosen slots arg ≡ true → is_chosen (slots ++ rest) arg ≡ true
  chosen-wider (Slot place) chosen = lt-ltb place (length (slots ++ rest)) (omega (arith, ltb-true place (length slots) chosen, length-append slots rest))
  chosen-wider (Object number) chosen = refl

  all-chosen-wider : (args : List NumberedArgument) → are_chosen slots args ≡ true → are_chosen (slots ++ rest) args ≡ true
  all-chosen-wider [] chosen = refl
  all-chosen-wider (arg ∷ args) chosen =
      let parts = and_parts (is_chosen slots arg) (are_chosen slots args) chosen in
      and_from (is_chosen (slots ++ rest) arg) (are_chosen (slots ++ rest) args) (chosen-wider arg parts.0) (all-chosen-wider args parts.1)

  atom-wider : (predicate : ℕ) (args : List NumberedArgument) (wish : Bool) → atom_may N S (slots ++ rest) predicate args wish ≡ true → atom_may N S slots predicate args wish ≡ true
  atom-wider predicate args wish may = by (are_chosen slots args) refl
    where
      by : (chosen : Bool) → are_chosen slots args ≡ chosen → (not (chosen && is_decided N S (atom_at slots predicate args)) || has_truth wish (is_at_start S (atom_at slots predicate args))) ≡ true
      by false _ = refl
      by true chosen =
          (λ i. not (sym (all-chosen-wider args chosen) i && is_decided N S (predicate ∷ sym (chosen-values slots rest args chosen) i)) || has_truth wish (is_at_start S (predicate ∷ sym (chosen-values slots rest args chosen) i)))
          ∙ may

  equality-wider : (left right : NumberedArgument) (wish : Bool) → equality_may (slots ++ rest) left right wish ≡ true → equality_may slots left right wish ≡ true
  equality-wider left right wish may = by (is_chosen slots left) (is_chosen slots right) refl refl
    where
      by : (first second : Bool) → is_chosen slots left ≡ first → is_chosen slots right ≡ second → (not (first && second) || has_truth wish (value_of slots left == value_of slots right)) ≡ true
      by false second _ _ = refl
      by true false _ _ = refl
      by true true first second =
          (λ i. not (sym (chosen-wider left first) i && sym (chosen-wider right second) i) || has_truth wish (sym (chosen-value slots rest left first) i == sym (chosen-value slots rest right second) i))
          ∙ may

-- one of the bodies under a quantifier has the truth
some-body : (N : Numbers) (whole : Bool) (slots : Slots) (ranges : List ℕ) (body : Slots → Bool) (p : Bool) → (body slots ≡ true → p ≡ true) → ((tuple : List ℕ) → body (slots ++ tuple) ≡ true → p ≡ true)
    → bodies_may N whole false body slots ranges ≡ true → p ≡ true
some-body N true slots ranges body p here inside may = any-needs (λ tuple. body (slots ++ tuple)) p (tuples_of N ranges) inside (sym (list_any-map body (λ tuple. slots ++ tuple) (tuples_of N ranges)) ∙ may)
some-body N false slots ranges body p here inside may = here may

module _ (N : Numbers) (S : Statics) (whole : Bool) (slots : Slots) where
  mutual
    unfolding condition_may

    pub wider : (rest : Slots) (tree : NumberedCondition) (wish : Bool) → condition_may N S whole (slots ++ rest) tree wish ≡ true → may_yet_be N S slots tree wish ≡ true
    wider rest (Atom predicate args) wish may = atom-wider N S slots rest predicate args wish may
    wider rest (Equal left right) wish may = equality-wider N S slots rest left right wish may
    wider rest (And' _ parts) true may = all-wider rest parts true may
    wider rest (And' _ parts) false may = some-wider rest parts false may
    wider rest (Or' _ parts) true may = some-wider rest parts true may
    wider rest (Or' _ parts) false may = all-wider rest parts false may
    wider rest (Not' _ (more_of-NumberedCondition part _)) wish may = wider rest part (not wish) may
    wider rest (Imply' _ (more_of-NumberedCondition first _) _ (more_of-NumberedCondition second _)) true may =
        or-follows (condition_may N S whole (slots ++ rest) first false) (condition_may N S whole (slots ++ rest) second true) (may_yet_be N S slots first false) (may_yet_be N S slots second true) may
        (wider rest first false) (wider rest second true)
    wider rest (Imply' _ (more_of-NumberedCondition first _) _ (more_of-NumberedCondition second _)) false may =
        let both = and_parts (condition_may N S whole (slots ++ rest) first true) (condition_may N S whole (slots ++ rest) second false) may in
        and_from (may_yet_be N S slots first true) (may_yet_be N S slots second false) (wider rest first true both.0) (wider rest second false both.1)
    wider rest (Exists' ranges _ (more_of-NumberedCondition body _)) true may =
        some-body N whole (slots ++ rest) ranges (λ inner. condition_may N S whole inner body true) (may_yet_be N S slots body true) (wider rest body true)
        (λ tuple e. wider (rest ++ tuple) body true (ap (λ all. condition_may N S whole all body true) (sym (append_assoc slots rest tuple)) ∙ e)) may
    wider rest (Exists' ranges _ (more_of-NumberedCondition body _)) false may = refl
    wider rest (Forall' ranges _ (more_of-NumberedCondition body _)) true may = refl
    wider rest (Forall' ranges _ (more_of-NumberedCondition body _)) false may =
        some-body N whole (slots ++ rest) ranges (λ inner. condition_may N S whole inner body false) (may_yet_be N S slots body false) (wider rest body false)
        (λ tuple e. wider (rest ++ tuple) body false (ap (λ all. condition_may N S whole all body false) (sym (append_assoc slots rest tuple)) ∙ e)) may

    all-wider : {n : Count} (rest : Slots) (parts : Row_of-NumberedCondition n) (wish : Bool) → list_all (λ part. part (slots ++ rest) wish) (fold_conditions (may_layer N S whole) parts) ≡ true
        → list_all (λ part. part slots wish) (fold_conditions (may_layer N S false) parts) ≡ true
    all-wider rest end_of-NumberedCondition wish may = refl
    all-wider rest (more_of-NumberedCondition part others) wish may =
        let both = and_parts (condition_may N S whole (slots ++ rest) part wish) (list_all (λ part. part (slots ++ rest) wish) (fold_conditions (may_layer N S whole) others)) may in
        and_from (may_yet_be N S slots part wish) (list_all (λ part. part slots wish) (fold_conditions (may_layer N S false) others)) (wider rest part wish both.0) (all-wider rest others wish both.1)

    some-wider : {n : Count} (rest : Slots) (parts : Row_of-NumberedCondition n) (wish : Bool) → list_any (λ part. part (slots ++ rest) wish) (fold_conditions (may_layer N S whole) parts) ≡ true
        → list_any (λ part. part slots wish) (fold_conditions (may_layer N S false) parts) ≡ true
    some-wider rest end_of-NumberedCondition wish may = may
    some-wider rest (more_of-NumberedCondition part others) wish may =
        or-follows (condition_may N S whole (slots ++ rest) part wish) (list_any (λ part. part (slots ++ rest) wish) (fold_conditions (may_layer N S whole) others)) (may_yet_be N S slots part wish)
        (list_any (λ part. part slots wish) (fold_conditions (may_layer N S false) others)) may (wider rest part wish) (some-wider rest others wish)

  mutual
    unfolding goal_may

    pub begins-wider : (rest : Slots) (tree : NumberedGoal) → goal_may N S whole (slots ++ rest) tree ≡ true → may_yet_begin N S slots tree ≡ true
    begins-wider rest (goal.Plain condition) may = wider rest condition true may
    begins-wider rest (goal.Both' _ parts) may = all-begin-wider rest parts may
    begins-wider rest (goal.Each' ranges _ body) may = refl
    begins-wider rest (goal.Soft preference) may = refl

    all-begin-wider : {n : Count} (rest : Slots) (parts : Row_of-NumberedGoal n) → list_all (λ part. part (slots ++ rest)) (fold_goals (goal_may_layer N S whole) parts) ≡ true
        → list_all (λ part. part slots) (fold_goals (goal_may_layer N S false) parts) ≡ true
    all-begin-wider rest end_of-NumberedGoal may = refl
    all-begin-wider rest (more_of-NumberedGoal part others) may =
        let both = and_parts (goal_may N S whole (slots ++ rest) part) (list_all (λ part. part (slots ++ rest)) (fold_goals (goal_may_layer N S whole) others)) may in
        and_from (may_yet_begin N S slots part) (list_all (λ part. part slots) (fold_goals (goal_may_layer N S false) others)) (begins-wider rest part both.0) (all-begin-wider rest others both.1)

-- what cannot begin yet cannot with more objects
pub cannot-narrower : (N : Numbers) (S : Statics) (slots rest : Slots) (tree : NumberedGoal) → may_yet_begin N S slots tree ≡ false → may_yet_begin N S (slots ++ rest) tree ≡ false
cannot-narrower N S slots rest tree cannot = by (may_yet_begin N S (slots ++ rest) tree) refl
  where
    by : (may : Bool) → may_yet_begin N S (slots ++ rest) tree ≡ may → may ≡ false
    by true may = absurd (false≢true (sym cannot ∙ begins-wider N S false slots rest tree may))
    by false may = refl

-- what may begin could begin so far
pub may-begin-yet : (N : Numbers) (S : Statics) (slots : Slots) (tree : NumberedGoal) → may_begin N S slots tree ≡ true → may_yet_begin N S slots tree ≡ true
may-begin-yet N S slots tree may = begins-wider N S true slots [] tree (ap (λ all. may_begin N S all tree) (append-nil slots) ∙ may)

-- ---- what `and` alone joins

module _ (N : Numbers) (S : Statics) (slots : Slots) where
  atom-possible : (predicate : ℕ) (args : List NumberedArgument) → may_yet_be N S slots (Atom predicate args) true ≡ true → list_all (is_possible N S) (joined_atoms slots (Atom predicate args)) ≡ true
  unfolding condition_may joined_atoms
  atom-possible predicate args may = by (are_chosen slots args) refl may
    where
      by : (chosen : Bool) → are_chosen slots args ≡ chosen → (not (chosen && is_decided N S (atom_at slots predicate args)) || is_at_start S (atom_at slots predicate args)) ≡ true
          → list_all (is_possible N S) (if chosen then atom_at slots predicate args ∷ [] else []) ≡ true
      by true _ may = and_from (is_possible N S (atom_at slots predicate args)) true may refl
      by false _ may = refl

  mutual
    unfolding condition_may joined_atoms

    joined-possible : (tree : NumberedCondition) → may_yet_be N S slots tree true ≡ true → list_all (is_possible N S) (joined_atoms slots tree) ≡ true
    joined-possible (Atom predicate args) may = atom-possible predicate args may
    joined-possible (Equal left right) may = refl
    joined-possible (And' _ parts) may = parts-possible parts may
    joined-possible (Or' _ parts) may = refl
    joined-possible (Not' _ part) may = refl
    joined-possible (Imply' _ first _ second) may = refl
    joined-possible (Exists' ranges _ body) may = refl
    joined-possible (Forall' ranges _ body) may = refl

    parts-possible : {n : Count} (parts : Row_of-NumberedCondition n) → list_all (λ part. part slots true) (fold_conditions (may_layer N S false) parts) ≡ true → list_all (is_possible N S) (flat_map (λ part. part) (fold_conditions (joined_atoms_layer slots) parts)) ≡ true
    parts-possible end_of-NumberedCondition may = refl
    parts-possible (more_of-NumberedCondition part others) may =
        let both = and_parts (may_yet_be N S slots part true) (list_all (λ part. part slots true) (fold_conditions (may_layer N S false) others)) may in
        list_all-append (is_possible N S) (joined_atoms slots part) (flat_map (λ part. part) (fold_conditions (joined_atoms_layer slots) others))
        ∙ and_from (list_all (is_possible N S) (joined_atoms slots part)) _ (joined-possible part both.0) (parts-possible others both.1)

  mutual
    unfolding goal_may goal_joined_atoms

    goal-possible : (tree : NumberedGoal) → may_yet_begin N S slots tree ≡ true → list_all (is_possible N S) (goal_joined_atoms slots tree) ≡ true
    goal-possible (goal.Plain condition) may = joined-possible condition may
    goal-possible (goal.Both' _ parts) may = goals-possible parts may
    goal-possible (goal.Each' ranges _ body) may = refl
    goal-possible (goal.Soft preference) may = refl

    goals-possible : {n : Count} (parts : Row_of-NumberedGoal n) → list_all (λ part. part slots) (fold_goals (goal_may_layer N S false) parts) ≡ true → list_all (is_possible N S) (flat_map (λ part. part) (fold_goals (goal_joined_layer slots) parts)) ≡ true
    goals-possible end_of-NumberedGoal may = refl
    goals-possible (more_of-NumberedGoal part others) may =
        let both = and_parts (may_yet_begin N S slots part) (list_all (λ part. part slots) (fold_goals (goal_may_layer N S false) others)) may in
        list_all-append (is_possible N S) (goal_joined_atoms slots part) (flat_map (λ part. part) (fold_goals (goal_joined_layer slots) others))
        ∙ and_from (list_all (is_possible N S) (goal_joined_atoms slots part)) _ (goal-possible part both.0) (goals-possible others both.1)

pub begins-possible : (N : Numbers) (S : Statics) (slots : Slots) (tree : NumberedGoal) → may_begin N S slots tree ≡ true → list_all (is_possible N S) (goal_joined_atoms slots tree) ≡ true
begins-possible N S slots tree may = goal-possible N S slots tree (may-begin-yet N S slots tree may)
