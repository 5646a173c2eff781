-- What is set after some atoms were cleared and others set.
use Rattle.std.proofs.Common.{◌≡◌, ◌∙◌, ℕ, inl, inr, ◌<◌, ◌≤◌, nat_lt, Bool, true, false, not, ◌&&◌, ◌||◌, List, [], ◌∷◌, ◌++◌, map, length, refl, sym, ap, arith}
use Rattle.std.specs.Prelude.{◌==◌}
use Rattle.std.specs.List.{list_any, list_all}
use Rattle.std.proofs.Math.Bool.{or-false}
use Rattle.std.proofs.lemmas.Bool.{and_parts, or_from, ne_eqb, ltb-true, cases_lt}
use Rattle.std.proofs.lemmas.List.Folds.{list_any-append}
use Rattle.p3_formula.specs.Constructors.{sets, clears}
use Rattle.p3_formula.specs.Forms.{State, is_set, truth, has_atoms}
use Rattle.p3_formula.specs.Guards.{turned, is_changed}
use Rattle.p3_formula.specs.Next.{after, is_set_after, is_added, is_deleted}
use Rattle.p3_formula.specs.Targets.{is_sized_change}
use Rattle.p3_formula.specs.declared.form.Change.{Change}
use Rattle.p3_formula.specs.declared.form.Form.TheVariants.{True}
use Rattle.p3_formula.proofs.FormLemmas.{truth-True}
use Rattle.p3_formula.proofs.NextLaws.{is_set-after, is_set-beyond, is_set_after-front, is_set_after-back}

-- the list has the atom
abbrev pub is_among : List ℕ → ℕ → Bool
is_among atoms atom = list_any (λ one. one == atom) atoms

-- what the cleared and the set ones add and delete
module _ (bits : State) (atom : ℕ) where
  added_off : (off : List ℕ) → is_added bits (map clears off) atom ≡ false
  added_off [] = refl
  added_off (one ∷ off) = or_from _ _ (no (one == atom)) (added_off off) where
    no : (b : Bool) → (b && false && truth bits True) ≡ false
    no true = refl
    no false = refl

  added_on : (on : List ℕ) → is_added bits (map sets on) atom ≡ is_among on atom
  added_on [] = refl
  added_on (one ∷ on) = λ i. yes (one == atom) i || added_on on i where
    yes : (b : Bool) → (b && true && truth bits True) ≡ b
    yes true = truth-True bits
    yes false = refl

  deleted_off : (off : List ℕ) → is_deleted bits (map clears off) atom ≡ is_among off atom
  deleted_off [] = refl
  deleted_off (one ∷ off) = λ i. yes (one == atom) i || deleted_off off i where
    yes : (b : Bool) → (b && true && truth bits True) ≡ b
    yes true = truth-True bits
    yes false = refl

  deleted_on : (on : List ℕ) → is_deleted bits (map sets on) atom ≡ false
  deleted_on [] = refl
  deleted_on (one ∷ on) = or_from _ _ (no (one == atom)) (deleted_on on) where
    no : (b : Bool) → (b && false && truth bits True) ≡ false
    no true = refl
    no false = refl

  turned_bit : (off on : List ℕ) → is_set_after bits (turned off on) atom ≡ (is_among on atom || is_set bits atom && not (is_among off atom))
  turned_bit off on =
      (λ i. (list_any-append (λ (change : Change). (change.atom == atom) && change.add && truth bits change.cond) (map clears off) (map sets on) i)
      || is_set bits atom && not (list_any-append (λ (change : Change). (change.atom == atom) && not change.add && truth bits change.cond) (map clears off) (map sets on) i))
      ∙ (λ i. (added_off off i || added_on on i) || is_set bits atom && not (deleted_off off i || deleted_on on i))
      ∙ (λ i. is_among on atom || is_set bits atom && not (or-false (is_among off atom) i))

named_turned : (off on : List ℕ) (atom : ℕ) → is_changed (turned off on) atom ≡ (is_among off atom || is_among on atom)
named_turned off on atom = list_any-append (λ (change : Change). change.atom == atom) (map clears off) (map sets on) ∙ (λ i. cleared off i || set_ones on i)
  where
    cleared : (off : List ℕ) → is_changed (map clears off) atom ≡ is_among off atom
    cleared [] = refl
    cleared (one ∷ off) = ap (λ b. (one == atom) || b) (cleared off)

    set_ones : (on : List ℕ) → is_changed (map sets on) atom ≡ is_among on atom
    set_ones [] = refl
    set_ones (one ∷ on) = ap (λ b. (one == atom) || b) (set_ones on)

module _ (bits : State) (effects : List Change) (off on : List ℕ) (atom : ℕ) where
  -- an atom that the effects leave alone
  pub turned_at : atom < length bits → is_changed effects atom ≡ false → is_set (after bits (effects ++ turned off on)) atom ≡ (is_among on atom || is_set bits atom && not (is_among off atom))
  turned_at within none = is_set-after bits (effects ++ turned off on) atom within ∙ is_set_after-back bits effects (turned off on) atom none ∙ turned_bit bits atom off on

  -- an atom that is neither cleared nor set
  pub turned_other : is_among off atom ≡ false → is_among on atom ≡ false → is_set (after bits (effects ++ turned off on)) atom ≡ is_set (after bits effects) atom
  turned_other no_off no_on = elim (cases_lt atom (length bits)) as (λ _. is_set (after bits (effects ++ turned off on)) atom ≡ is_set (after bits effects) atom) [
    | inl within ↦ is_set-after bits (effects ++ turned off on) atom within
        ∙ is_set_after-front bits effects (turned off on) atom (named_turned off on atom ∙ or_from _ _ no_off no_on) ∙ sym (is_set-after bits effects atom within)
    | inr beyond ↦ is_set-beyond bits (effects ++ turned off on) atom beyond ∙ sym (is_set-beyond bits effects atom beyond)
  ]

-- no effect changes an atom above all of theirs
pub unnamed_above : (count : ℕ) (effects : List Change) (atom : ℕ) → list_all (is_sized_change count) effects ≡ true → count ≤ atom → is_changed effects atom ≡ false
unnamed_above count [] atom below high = refl
unnamed_above count (change ∷ effects) atom below high =
    let parts = and_parts (is_sized_change count change) _ below in
    let low = ltb-true change.atom count (and_parts (nat_lt change.atom count) _ parts.0).0 in
    or_from (change.atom == atom) (is_changed effects atom) (ne_eqb change.atom atom (λ same. omega (arith, same, low, high))) (unnamed_above count effects atom parts.1 high)

pub conditions_below : (count : ℕ) (effects : List Change) → list_all (is_sized_change count) effects ≡ true → list_all (λ (change : Change). has_atoms (λ other. nat_lt other count) change.cond) effects ≡ true
conditions_below count [] below = refl
conditions_below count (change ∷ effects) below =
    let parts = and_parts (is_sized_change count change) _ below in
    λ i. ((and_parts (nat_lt change.atom count) _ parts.0).1 i) && conditions_below count effects parts.1 i
