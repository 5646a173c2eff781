-- The state after changes, and truth in states that agree.
use Rattle.std.proofs.Common.{◌≡◌, ◌∙◌, ℕ, ◌<◌, ◌≤◌, nat_lt, ◌==◌, Bool, true, false, not, ◌&&◌, ◌||◌, List, [], ◌∷◌, ◌++◌, map, length, refl, sym, ap, arith}
use Rattle.std.specs.List.{list_any, list_all, range_with_len}
use Rattle.std.specs.List.Sorted.{IsPermutation}
use Rattle.std.proofs.Math.Bool.{and-true, or-false}
use Rattle.std.proofs.lemmas.Bool.{and_parts, not-true}
use Rattle.std.proofs.lemmas.Bool.Decides.{nat_tests}
use Rattle.std.proofs.lemmas.List.Folds.{list_any-append}
use Rattle.std.proofs.lemmas.List.Sorted.{list_any-IsPermutation}
use Rattle.std.proofs.lemmas.List.FromFn.{get_or-map-range_with_len, length-map-range_with_len}
use Rattle.std.proofs.Math.ListN.{get_or-eq_default}
use mathlib.Core.Former.{Count}
use Rattle.p3_formula.specs.Folds.{fold_forms}
use Rattle.p3_formula.specs.Alike.{AreAlike, AgreeBelow, AreConditionsBelow}
use Rattle.p3_formula.specs.Forms.{State, is_set, truth, truth_layer, has_atoms, within_layer, IsBelow}
use Rattle.p3_formula.specs.Next.{is_added, is_deleted, is_set_after, after}
use Rattle.p3_formula.specs.declared.form.Change.{Change}
use Rattle.p3_formula.specs.declared.form.Form.{Form, Row_of-Form, end_of-Form, more_of-Form}
use Rattle.p3_formula.specs.declared.form.Form.TheVariants.{True, False, Atom, Not', And', Or'}

-- what is none of those is none of the same under one more condition, and under two
none_here : (a b c x y : Bool) → (a || x) ≡ false → (x ≡ false → y ≡ false) → (a && b && c || y) ≡ false
none_here false b c x y h k = k h
none_here true b c x y h k = absurd (cc)

none_of : (atom : ℕ) (first second : Change → Bool) (effects : List Change)
    → list_any (λ change. change.atom == atom) effects ≡ false
    → list_any (λ change. (change.atom == atom) && first change && second change) effects ≡ false
none_of atom first second [] h = refl
none_of atom first second (change ∷ rest) h = none_here (change.atom == atom) (first change) (second change) _ _ h (none_of atom first second rest)

module _ (state : State) (effects : List Change) where
  pub length-after : length (after state effects) ≡ length state
  unfolding after
  length-after = length-map-range_with_len (is_set_after state effects) 0 (length state)

  pub is_set-after : (atom : ℕ) → atom < length state → is_set (after state effects) atom ≡ is_set_after state effects atom
  unfolding after
  is_set-after atom within = get_or-map-range_with_len (is_set_after state effects) 0 (length state) atom atom false within (omega arith)

  -- an atom beyond the state stays unset
  pub is_set-beyond : (atom : ℕ) → length state ≤ atom → is_set (after state effects) atom ≡ is_set state atom
  is_set-beyond atom beyond =
      get_or-eq_default (after state effects) false (let e = length-after in omega arith) ∙ sym (get_or-eq_default state false beyond)

  -- an atom that no change names keeps its value
  pub is_set-unchanged : (atom : ℕ) → list_any (λ change. change.atom == atom) effects ≡ false → is_set (after state effects) atom ≡ is_set state atom
  is_set-unchanged atom unchanged = by (nat_lt atom (length state)) refl where
    by : (b : Bool) → nat_lt atom (length state) ≡ b → is_set (after state effects) atom ≡ is_set state atom
    by true within =
        is_set-after atom (grind (arith, nat_tests))
        ∙ ap (λ b. b || is_set state atom && not (is_deleted state effects atom)) (none_of atom (λ change. change.add) (λ change. truth state change.cond) effects unchanged)
        ∙ ap (λ b. is_set state atom && not b) (none_of atom (λ change. not change.add) (λ change. truth state change.cond) effects unchanged)
        ∙ and-true (is_set state atom)
    by false beyond = is_set-beyond atom (grind (arith, nat_tests))

-- of two lists of changes that are made at once, the one that does not name the atom does not matter
module _ (state : State) (front back : List Change) (atom : ℕ) where
  pub is_set_after-front : list_any (λ change. change.atom == atom) back ≡ false → is_set_after state (front ++ back) atom ≡ is_set_after state front atom
  is_set_after-front none =
      let added = list_any-append (λ change. (change.atom == atom) && change.add && truth state change.cond) front back in
      let deleted = list_any-append (λ change. (change.atom == atom) && not change.add && truth state change.cond) front back in
      let no_add = none_of atom (λ change. change.add) (λ change. truth state change.cond) back none in
      let no_delete = none_of atom (λ change. not change.add) (λ change. truth state change.cond) back none in
      (λ i. added i || is_set state atom && not (deleted i))
      ∙ (λ i. (is_added state front atom || no_add i) || is_set state atom && not (is_deleted state front atom || no_delete i))
      ∙ (λ i. or-false (is_added state front atom) i || is_set state atom && not (or-false (is_deleted state front atom) i))

  pub is_set_after-back : list_any (λ change. change.atom == atom) front ≡ false → is_set_after state (front ++ back) atom ≡ is_set_after state back atom
  is_set_after-back none =
      let added = list_any-append (λ change. (change.atom == atom) && change.add && truth state change.cond) front back in
      let deleted = list_any-append (λ change. (change.atom == atom) && not change.add && truth state change.cond) front back in
      let no_add = none_of atom (λ change. change.add) (λ change. truth state change.cond) front none in
      let no_delete = none_of atom (λ change. not change.add) (λ change. truth state change.cond) front none in
      (λ i. added i || is_set state atom && not (deleted i))
      ∙ (λ i. (no_add i || is_added state back atom) || is_set state atom && not (no_delete i || is_deleted state back atom))

-- the order of changes does not matter
pub after-permutation : (state : State) (effects others : List Change) → IsPermutation effects others → after state effects ≡ after state others
unfolding after
after-permutation state effects others same =
    λ i. map
    (λ atom. list_any-IsPermutation (λ change. (change.atom == atom) && change.add && truth state change.cond) effects others same i || is_set state atom && not (list_any-IsPermutation (λ change. (change.atom == atom) && not change.add && truth state change.cond) effects others same i))
    (range_with_len 0 (length state))

-- a form has the same truth in states that agree on its atoms
module _ (first second : State) (allowed : ℕ → Bool) (agree : (atom : ℕ) → allowed atom ≡ true → is_set first atom ≡ is_set second atom) where
  mutual
    unfolding truth has_atoms

    pub truth-agree : (form : Form) → has_atoms allowed form ≡ true → truth first form ≡ truth second form
    truth-agree True h = refl
    truth-agree False h = refl
    truth-agree (Atom atom) h = agree atom h
    truth-agree (Not' shape (more_of-Form part rest)) h = ap not (truth-agree part h)
    truth-agree (And' shape parts) h = ap (list_all (λ part. part)) (truths-agree parts h)
    truth-agree (Or' shape parts) h = ap (list_any (λ part. part)) (truths-agree parts h)

    truths-agree : {n : Count} (parts : Row_of-Form n) → list_all (λ part. part) (fold_forms (within_layer allowed) parts) ≡ true → fold_forms (truth_layer first) parts ≡ fold_forms (truth_layer second) parts
    truths-agree end_of-Form h = refl
    truths-agree (more_of-Form part rest) h =
        λ i. truth-agree part (and_parts (has_atoms allowed part) _ h).0 i ∷ truths-agree rest (and_parts (has_atoms allowed part) _ h).1 i

-- a form whose atoms no change names keeps its truth
pub truth-unchanged : (state : State) (effects : List Change) (form : Form)
    → has_atoms (λ atom. not (list_any (λ change. change.atom == atom) effects)) form ≡ true → truth (after state effects) form ≡ truth state form
truth-unchanged state effects = truth-agree (after state effects) state _ (λ atom h. is_set-unchanged state effects atom (not-true _ h))

module _ (state : State) where
  any-alike : (pick : Bool → Bool) (atom : ℕ) (effects others : List Change) → AreAlike effects others
      → list_any (λ (change : Change). (change.atom == atom) && pick change.add && truth state change.cond) effects ≡ list_any (λ (change : Change). (change.atom == atom) && pick change.add && truth state change.cond) others
  any-alike pick atom [] [] alike = refl
  any-alike pick atom [] (other ∷ others) alike = absurd alike
  any-alike pick atom (one ∷ effects) [] alike = absurd alike
  any-alike pick atom (one ∷ effects) (other ∷ others) alike =
      λ i. ((alike.0.atom i == atom) && pick (alike.0.add i) && alike.0.cond state i) || any-alike pick atom effects others alike.1 i

  -- such changes make the same state
  pub after-alike : (effects others : List Change) → AreAlike effects others → after state effects ≡ after state others
  unfolding after
  after-alike effects others alike =
      λ i. map (λ atom. any-alike (λ add. add) atom effects others alike i || is_set state atom && not (any-alike not atom effects others alike i)) (range_with_len 0 (length state))

-- states that agree on the atoms below a number agree there after changes under conditions on these atoms
module _ (count : ℕ) (first second : State) (agree : AgreeBelow count first second) where
  pub truth-below : (form : Form) → IsBelow count form → truth first form ≡ truth second form
  truth-below = truth-agree first second (λ atom. nat_lt atom count) (λ atom h. agree atom (grind (arith, nat_tests)))

  any-agree : (pick : Bool → Bool) (atom : ℕ) (effects : List Change) → AreConditionsBelow count effects
      → list_any (λ (change : Change). (change.atom == atom) && pick change.add && truth first change.cond) effects ≡ list_any (λ (change : Change). (change.atom == atom) && pick change.add && truth second change.cond) effects
  any-agree pick atom [] below = refl
  any-agree pick atom (change ∷ effects) below =
      let parts = and_parts (has_atoms (λ other. nat_lt other count) change.cond) _ below in
      λ i. ((change.atom == atom) && pick change.add && truth-below change.cond parts.0 i) || any-agree pick atom effects parts.1 i

  pub after-agree : (effects : List Change) → AreConditionsBelow count effects → count ≤ length first → count ≤ length second → AgreeBelow count (after first effects) (after second effects)
  after-agree effects below room_first room_second atom within =
      is_set-after first effects atom (omega (arith, within, room_first))
      ∙ (λ i. any-agree (λ add. add) atom effects below i || agree atom within i && not (any-agree not atom effects below i))
      ∙ sym (is_set-after second effects atom (omega (arith, within, room_second)))
