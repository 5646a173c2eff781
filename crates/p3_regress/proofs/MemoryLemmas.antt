-- Answers that are noted, and that stay right while the table grows.
use Rattle.std.proofs.Common.{◌≡◌, ◌∙◌, ◌≢◌, ℕ, zero, suc, ◌+◌, ◌<◌, ◌==◌, Bool, true, false, List, [], ◌∷◌, ◌++◌, map, length, take, get_or, Option, Some, None, refl, sym, ap, subst, arith}
use Rattle.std.specs.List.Sorted.{IsPermutation}
use Rattle.std.proofs.lemmas.Bool.Decides.{nat_tests}
use Rattle.std.proofs.lemmas.List.{map-append}
use Rattle.p3_formula.specs.Nodes.{form_of, node_form, Grows}
use Rattle.p3_formula.specs.declared.form.Change.{Change}
use Rattle.p3_formula.specs.declared.form.Form.{Form}
use Rattle.p3_formula.specs.declared.node.Node.{Node}
use Rattle.p3_formula.proofs.NodeLemmas.{grows-trans, form-grows, take-next}
use Rattle.p3_regress.specs.Memory.{answer_of, IsAnswer, AreRight, GoesOn, Regression, Extends}
use Rattle.p3_regress.specs.Regressed.{IsTrueBefore, HasAtomsOfBoth, regressed}
use Rattle.p3_regress.proofs.RegressedLaws.{sorted_truth, sorted_atoms}

-- room for one more changes no answer
pub wider : (answers : List (Option ℕ)) (other : ℕ) → answer_of (answers ++ None ∷ []) other ≡ answer_of answers other
wider [] zero = refl
wider [] (suc other) = refl
wider (answer ∷ answers) zero = refl
wider (answer ∷ answers) (suc other) = wider answers other

module _ {changes : List Change} where
  -- answers stay right where the table grows
  pub right_grows : (old new : List Node) (answers : List (Option ℕ)) → Grows old new → AreRight changes old answers → AreRight changes new answers
  right_grows old new answers grows right = record {
    each = λ number before is.
        let answer = right.each number before is in record {
          given = omega (arith, answer.given, grows.longer);
          within = omega (arith, answer.within, grows.longer);
          stands = form-grows old new before grows answer.within ∙ answer.stands ∙ ap (regressed changes) (sym (form-grows old new number grows answer.given));
        };
  }

  pub goes_on_grows : (old new : List Node) (answers : List (Option ℕ)) → Grows old new → AreRight changes old answers → GoesOn changes old new answers answers
  goes_on_grows old new answers grows right = record { grows = grows; right = right_grows old new answers grows right; keeps = λ number before is. is }

  pub goes_on_trans : {old mid new : List Node} {first second third : List (Option ℕ)} → GoesOn changes old mid first second → GoesOn changes mid new second third → GoesOn changes old new first third
  goes_on_trans {old} {mid} {new} a b = record {
    grows = grows-trans old mid new a.grows b.grows;
    right = b.right;
    keeps = λ number before is. b.keeps number before (a.keeps number before is);
  }

  -- the table alone grew
  pub goes_on_add : {old new : List Node} {answers later : List (Option ℕ)} → Grows old new → later ≡ answers → AreRight changes old answers → GoesOn changes old new answers later
  goes_on_add {old} {new} {answers} grows same right = subst (GoesOn changes old new answers) (sym same) (goes_on_grows old new answers grows right)

  pub goes_on_then : {old mid new : List Node} {first second third : List (Option ℕ)} → GoesOn changes old mid first second → Grows mid new → third ≡ second → GoesOn changes old new first third
  goes_on_then goes grows same = goes_on_trans goes (goes_on_add grows same goes.right)

  module _ {old new later : List Node} {first second third : List (Option ℕ)} (goes : GoesOn changes old new first second) (same : later ≡ new) (number : ℕ)
      (others : (other : ℕ) → other ≢ number → answer_of third other ≡ answer_of second other) where
    -- an answer was not noted, for want of memory
    pub goes_on_unnoted : answer_of third number ≡ answer_of second number → GoesOn changes old later first third
    goes_on_unnoted here = record {
      grows = subst (Grows old) (sym same) goes.grows;
      right = record { each = λ other before is. subst (λ nodes. IsAnswer changes nodes other before) (sym same) (goes.right.each other before (sym (all other) ∙ is)) };
      keeps = λ other before is. all other ∙ goes.keeps other before is;
    } where
      by : (other : ℕ) (b : Bool) → (other == number) ≡ b → answer_of third other ≡ answer_of second other
      by other true e = let at : other ≡ number = grind (arith, nat_tests) in ap (answer_of third) at ∙ here ∙ sym (ap (answer_of second) at)
      by other false e = let apart : other ≢ number = grind (arith, nat_tests) in others other apart

      all : (other : ℕ) → answer_of third other ≡ answer_of second other
      all other = by other (other == number) refl

    -- a right answer was noted for a number that had none
    pub goes_on_noted : (before : ℕ) → answer_of first number ≡ None → IsAnswer changes new number before → answer_of third number ≡ Some before → GoesOn changes old later first third
    goes_on_noted before none answer here = record {
      grows = subst (Grows old) (sym same) goes.grows;
      right = record { each = λ other given is. subst (λ nodes. IsAnswer changes nodes other given) (sym same) (by other given (other == number) refl is) };
      keeps = λ other given is. others other (λ at. absurd (let wrong : None ≡ Some given = sym none ∙ ap (answer_of first) (sym at) ∙ is in cc)) ∙ goes.keeps other given is;
    } where
      by : (other given : ℕ) (b : Bool) → (other == number) ≡ b → answer_of third other ≡ Some given → IsAnswer changes new other given
      by other given true e is =
          let at : other ≡ number = grind (arith, nat_tests) in
          let told : Some given ≡ Some before = sym is ∙ ap (answer_of third) at ∙ here in
          let value : given ≡ before = cc in
          subst (λ k. IsAnswer changes new k given) (sym at) (subst (IsAnswer changes new number) (sym value) answer)
      by other given false e is = let apart : other ≢ number = grind (arith, nat_tests) in goes.right.each other given (sym (others other apart) ∙ is)

  -- the form before the changes of a number that was answered
  pub answered_stands : {old mid : List Node} {first second : List (Option ℕ)} → GoesOn changes old mid first second → (number before : ℕ) → number < length old → answer_of second number ≡ Some before → form_of mid before ≡ regressed changes (form_of old number)
  answered_stands {old} {mid} goes number before within is = (goes.right.each number before is).stands ∙ ap (regressed changes) (form-grows old mid number goes.grows within)

  pub answered_within : {old mid : List Node} {first second : List (Option ℕ)} → GoesOn changes old mid first second → (number before : ℕ) → answer_of second number ≡ Some before → before < length mid
  answered_within goes number before is = (goes.right.each number before is).within

  -- a node's number is answered where the node is
  pub node_answer : {old new : List Node} (node : Node) (number before : ℕ) → Grows old new → number < length old → before < length new → form_of old number ≡ node_form (form_of old) node
      → form_of new before ≡ regressed changes (node_form (form_of old) node) → IsAnswer changes new number before
  node_answer {old} {new} node number before grows given within is stands = record {
    given = omega (arith, given, grows.longer);
    within = within;
    stands = stands ∙ ap (regressed changes) (sym is ∙ sym (form-grows old new number grows given));
  }

-- the next number of a list, with its answer
pub next_regressed : (changes : List Change) (form : ℕ → Form) (numbers : List ℕ) (index : ℕ) → index < length numbers
    → map (regressed changes) (map form (take index numbers)) ++ regressed changes (form (get_or numbers index 0)) ∷ [] ≡ map (regressed changes) (map form (take (index + 1) numbers))
next_regressed changes form numbers index within =
    sym (map-append (regressed changes) (map form (take index numbers)) (form (get_or numbers index 0) ∷ []))
    ∙ ap (map (regressed changes)) (sym (map-append form (take index numbers) (get_or numbers index 0 ∷ [])) ∙ ap (map form) (take-next numbers index 0 (get_or numbers index 0) within refl))

-- what was answered is true before the effects, whose changes were sorted, where the number is after them
pub answered_truth : (effects sorted : List Change) → IsPermutation effects sorted → {old mid : List Node} {first second : List (Option ℕ)} → GoesOn sorted old mid first second → (number before : ℕ) → number < length old → answer_of second number ≡ Some before
    → IsTrueBefore effects (form_of old number) (form_of mid before)
answered_truth effects sorted same {old} goes number before within is =
    subst (IsTrueBefore effects (form_of old number)) (sym (answered_stands goes number before within is)) (sorted_truth effects sorted same (form_of old number))

-- it has no atoms but those of the number and of the conditions
pub answered_atoms : (effects sorted : List Change) → IsPermutation effects sorted → {old mid : List Node} {first second : List (Option ℕ)} → GoesOn sorted old mid first second → (number before : ℕ) → number < length old → answer_of second number ≡ Some before
    → HasAtomsOfBoth effects (form_of old number) (form_of mid before)
answered_atoms effects sorted same {old} goes number before within is =
    subst (HasAtomsOfBoth effects (form_of old number)) (sym (answered_stands goes number before within is)) (sorted_atoms effects sorted same (form_of old number))

-- ---- what contracts see

pub extends_trans : {first second third : Regression} → Extends first second → Extends second third → Extends first third
extends_trans {first} {second} {third} a b = record {
  effects = b.effects ∙ a.effects;
  grows = grows-trans first.table second.table third.table a.grows b.grows;
  keeps = λ number before is. b.keeps number before (a.keeps number before is);
}
