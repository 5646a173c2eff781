-- How sets of atoms grow by what steps may add.
use Rattle.std.proofs.Common.{◌≡◌, ◌∙◌, ℕ, zero, suc, ◌+◌, ◌<◌, Bool, true, ◌&&◌, List, [], ◌∷◌, length, take, set, get_or, slice_get, Some, refl, sym, ap, false}
use Rattle.std.proofs.lemmas.Option.{get_or_from_slice_get, slice_get_within}
use Rattle.std.specs.List.{list_all}
use Rattle.std.proofs.lemmas.Bool.{and_parts}
use Rattle.std.proofs.lemmas.List.{length-set}
use Rattle.std.proofs.lemmas.List.Folds.{list_all_at, list_all_more}
use Rattle.p3_formula.specs.Forms.{State, is_set}
use Rattle.p3_formula.specs.declared.form.Change.{Change}
use Rattle.p3_formula.specs.declared.task.GroundStep.{GroundStep}
use Rattle.p3_reach.specs.May.{may_hold}
use Rattle.p3_reach.specs.Closed.{change_keeps, step_keeps}
use Rattle.p3_reach.specs.Grown.{IsGrown}
use Rattle.p3_reach.proofs.DerivedLaws.{set_grows}
use Rattle.p3_reach.proofs.MayGrows.{hold-grows}
use Rattle.p3_reach.proofs.ReachLaws.{has-of}

-- one after the other
pub grown_join : (first second both : State → Bool) (old mid new : State) → ((atoms : State) → both atoms ≡ (first atoms && second atoms)) → IsGrown first old mid → IsGrown second mid new → IsGrown both old new
grown_join first second both old mid new is one two = record {
  size = two.size ∙ one.size;
  within = λ atom has. two.within atom (one.within atom has);
  least = λ other kept within.
      let parts = and_parts (first other) (second other) (sym (is other) ∙ kept) in
      two.least other parts.1 (one.least other parts.0 within);
}

-- twice by the same
pub grown_again : (keeps : State → Bool) (old mid new : State) → IsGrown keeps old mid → IsGrown keeps mid new → IsGrown keeps old new
grown_again keeps old mid new one two = record {
  size = two.size ∙ one.size;
  within = λ atom has. two.within atom (one.within atom has);
  least = λ other kept within. two.least other kept (one.least other kept within);
}

in_all : {X : Type 0} (test : X → Bool) (items : List X) (i : ℕ) (item : X) → slice_get items i ≡ Some item → list_all test items ≡ true → test item ≡ true
in_all test items i item here all = by (test item) refl
  where
    by : (b : Bool) → test item ≡ b → test item ≡ true
    by true is = is
    by false is =
        absurd (let bad : true ≡ false = sym all ∙ list_all_at test items i item (slice_get_within items i item here) (ap test (get_or_from_slice_get items i item item here) ∙ is) in cc)

-- by one of a list
pub grown_among : {X : Type 0} (keeps : State → X → Bool) (items : List X) (i : ℕ) (item : X) (old new : State) → slice_get items i ≡ Some item
    → IsGrown (λ atoms. keeps atoms item) old new → IsGrown (λ atoms. list_all (keeps atoms) items) old new
grown_among keeps items i item old new here one = record {
  size = one.size;
  within = one.within;
  least = λ other kept within. one.least other (in_all (keeps other) items i item here kept) within;
}

-- by one more of a list
pub grown_next : {X : Type 0} (keeps : State → X → Bool) (items : List X) (i : ℕ) (item : X) (old mid new : State) → i < length items → item ≡ get_or items i item
    → IsGrown (λ atoms. list_all (keeps atoms) (take i items)) old mid → IsGrown (λ atoms. keeps atoms item) mid new → IsGrown (λ atoms. list_all (keeps atoms) (take (i + 1) items)) old new
grown_next keeps items i item old mid new within is one two =
    grown_join (λ atoms. list_all (keeps atoms) (take i items)) (λ atoms. keeps atoms item) (λ atoms. list_all (keeps atoms) (take (i + 1) items)) old mid new
    (λ atoms. list_all_more (keeps atoms) items i item within ∙ ap (λ x. list_all (keeps atoms) (take i items) && keeps atoms x) (sym is)) one two

set_has : (has : ℕ → Type 0) (atoms : State) (atom : ℕ) → ((one : ℕ) → is_set atoms one ≡ true → has one) → has atom → (one : ℕ) → is_set (set atoms atom true) one ≡ true → has one
set_has has [] atom within here one h = within one h
set_has has (bit ∷ atoms) zero within here zero h = here
set_has has (bit ∷ atoms) zero within here (suc one) h = within (suc one) h
set_has has (bit ∷ atoms) (suc atom) within here zero h = within zero h
set_has has (bit ∷ atoms) (suc atom) within here (suc one) h = set_has (λ n. has (suc n)) atoms atom (λ n. within (suc n)) here one h

-- by the atom of a change that may be made
pub grown_by_change : (old : State) (change : Change) → change.add ≡ true → may_hold old change.cond ≡ true → IsGrown (λ atoms. change_keeps atoms change) old (set old change.atom true)
grown_by_change old change adds may = record {
  size = length-set old change.atom true;
  within = set_grows old change.atom;
  least = λ other kept within. set_has (λ atom. is_set other atom ≡ true) old change.atom within
      (has-of (change.add && may_hold other change.cond) (is_set other change.atom) kept
      (ap (λ a. a && may_hold other change.cond) adds ∙ hold-grows old other within change.cond may));
}

-- by the changes of a step that may fit
pub grown_by_step : (old new : State) (step : GroundStep) → may_hold old step.pre ≡ true → IsGrown (λ atoms. list_all (change_keeps atoms) step.effects) old new → IsGrown (λ atoms. step_keeps atoms step) old new
grown_by_step old new step may grown = record {
  size = grown.size;
  within = grown.within;
  least = λ other kept within. grown.least other (has-of (may_hold other step.pre) (list_all (change_keeps other) step.effects) kept (hold-grows old other within step.pre may)) within;
}
