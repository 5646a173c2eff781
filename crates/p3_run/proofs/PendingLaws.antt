-- What reads an atom is in one state more once it was looked at; a second look changes nothing.
use Rattle.std.proofs.Common.{◌≡◌, ◌∙◌, ℕ, ◌+◌, ◌<◌, ◌==◌, Bool, true, false, ◌||◌, cond, List, [], ◌∷◌, length, get_or, take, refl, sym, ap, subst, arith}
use Rattle.std.specs.Prelude.{◌⊎◌, None}
use Rattle.std.specs.List.{All, list_any}
use Rattle.std.proofs.lemmas.Bool.{eqb-true, or_cases, or_left, or_right}
use Rattle.std.proofs.lemmas.List.{ext_get_or, take_more}
use Rattle.std.proofs.lemmas.List.Folds.{list_any-append}
use Rattle.std.proofs.lemmas.List.Sums.{fold-append}
use mathlib.Core.Logic.{inl, inr, ⊎_elim}
use Rattle.p3_formula.specs.Forms.{State, is_set}
use Rattle.p3_formula.specs.declared.form.Change.{Change}
use Rattle.p3_formula.specs.declared.task.GroundTask.{GroundTask}
use Rattle.p3_formula.proofs.ReadAtoms.{same_number}
use Rattle.p3_run.specs.Changing.{touched, touched_at}
use Rattle.p3_run.specs.Groups.{CanRenew, HasShape, IsReader, Watch, modal_at, modals_of, renewed_all, renewed_at, watch_at}
use Rattle.p3_run.specs.Pending.{AreTakenOf, is_named, is_pending}
use Rattle.p3_run.specs.Readers.{AreReaders, is_same}
use Rattle.p3_run.specs.Stages.{accepting, next_stage}
use Rattle.p3_run.specs.Tallies.{Counted}
use Rattle.p3_run.specs.declared.readers.OperatorReader.{OperatorReader}
use Rattle.p3_run.specs.declared.stages.Stage.{Stage}
use Rattle.p3_run.proofs.ChangeLaws.{touched_more}
use Rattle.p3_run.proofs.FollowLaws.{all_renewed, names_after, shape_after, stage_in, touched_within, at_within}
use Rattle.p3_run.proofs.StageLaws.{stage_twice}

-- ---- the first atoms that are named

pub named_by_one : (effects : List Change) (place : ℕ) (one : Change) → place < length effects → (atom : ℕ)
    → (atom ≡ (get_or effects place one).atom) ⊎ (is_named atom (take place effects) ≡ true) → is_named atom (take (place + 1) effects) ≡ true
named_by_one effects place one within atom named =
    let change = get_or effects place one in
    ap (is_named atom) (take_more effects place one within)
    ∙ list_any-append (λ (other : Change). other.atom == atom) (take place effects) (change ∷ [])
    ∙ ⊎_elim
    (λ here. or_right (is_named atom (take place effects)) (is_named atom (change ∷ [])) (ap (λ b. b || false) (ap (λ a. change.atom == a) here ∙ same_number change.atom)))
    (λ before. or_left (is_named atom (take place effects)) (is_named atom (change ∷ [])) before)
    named

-- one atom more is taken
pub taken_more : (effects : List Change) (place : ℕ) (one : Change) → place < length effects → (old new : List Bool)
    → ((other : ℕ) → is_pending new other ≡ false → (other ≡ (get_or effects place one).atom) ⊎ (is_pending old other ≡ false))
    → AreTakenOf effects place old → AreTakenOf effects (place + 1) new
taken_more effects place one within old new rest taken = λ k d inside gone.
    let atom = (get_or effects k d).atom in
    named_by_one effects place one within atom (⊎_elim (λ here. inl here) (λ before. inr (taken k d inside before)) (rest atom gone))

pub can_follow_still : (G : GroundTask) (by_name : List ℕ) (state : State) (groups groups' : List Watch) (tally tally' : Counted) → groups' ≡ groups → tally' ≡ tally
    → CanRenew G by_name state groups tally → CanRenew G by_name state groups' tally'
can_follow_still G by_name state groups groups' tally tally' same_groups same_tally can =
    subst (λ (list : List Watch). CanRenew G by_name state list tally') (sym same_groups) (subst (λ (one : Counted). CanRenew G by_name state groups one) (sym same_tally) can)

-- ---- those that were renewed are renewed once more

module _ (G : GroundTask) (state : State) (watches : List Watch) (shape : HasShape G watches) (others more : List OperatorReader) (others_are : All (IsReader G) others) (more_are : All (IsReader G) more)
    (within : (reader : OperatorReader) → list_any (is_same reader) more ≡ true → list_any (is_same reader) others ≡ true) where
  abbrev once : List Watch
  once = renewed_all G state watches others

  abbrev again : List Watch
  again = renewed_all G state once more

  shape_once : HasShape G once
  shape_once = shape_after G state others watches shape others_are

  shape_again : HasShape G again
  shape_again = shape_after G state more once shape_once more_are

  module _ (reader : OperatorReader) (is : IsReader G reader) where
    abbrev N : Stage → Stage
    N stage = next_stage state (modal_at G reader) stage

    same_stage : stage_in again reader ≡ stage_in once reader
    same_stage = all_renewed G state reader is more once shape_once more_are ∙ by (list_any (is_same reader) more) refl where
      by : (b : Bool) → list_any (is_same reader) more ≡ b → cond b (N (stage_in once reader)) (stage_in once reader) ≡ stage_in once reader
      by false e = refl
      by true e =
          let first = all_renewed G state reader is others watches shape others_are ∙ ap (λ b. cond b (N (stage_in watches reader)) (stage_in watches reader)) (within reader e) in
          ap N first ∙ stage_twice state (modal_at G reader) (stage_in watches reader) ∙ sym first

  same_group : (group : ℕ) → group < length (modals_of G) → watch_at again group ≡ watch_at once group
  same_group group lt = λ i. record { name = names_after G state more once group shape_once more_are i; stages = stages i } where
    stages : (watch_at again group).stages ≡ (watch_at once group).stages
    stages = ext_get_or (accepting false) (watch_at again group).stages (watch_at once group).stages
        (shape_again.places group ∙ sym (shape_once.places group))
        (λ place place_lt. same_stage (record { group = group; place = place }) (record { group = lt; place = let s = shape_again.places group in omega (arith, place_lt, s) }))

  pub renewed_again : again ≡ once
  renewed_again = ext_get_or (record { name = None; stages = [] }) again once
      (shape_again.groups ∙ sym shape_once.groups)
      (λ group lt. same_group group (let s = shape_again.groups in omega (arith, lt, s)))

-- ---- a change of an atom that was looked at

-- what reads a named atom is among the touched ones
touched_named : (readers : List (List OperatorReader)) (before state : State) (reader : OperatorReader) (atom : ℕ) (effects : List Change) → is_named atom effects ≡ true
    → list_any (is_same reader) (touched_at readers state (is_set before atom) atom) ≡ true → list_any (is_same reader) (touched readers before state effects) ≡ true
touched_named readers before state reader atom [] named there = absurd (cc)
touched_named readers before state reader atom (change ∷ effects) named there =
    let first = touched_at readers state (is_set before change.atom) change.atom in
    list_any-append (is_same reader) first (touched readers before state effects)
    ∙ ⊎_elim
    (λ here. or_left (list_any (is_same reader) first) (list_any (is_same reader) (touched readers before state effects))
    (ap (λ a. list_any (is_same reader) (touched_at readers state (is_set before a) a)) (eqb-true change.atom atom here) ∙ there))
    (λ later. or_right (list_any (is_same reader) first) (list_any (is_same reader) (touched readers before state effects)) (touched_named readers before state reader atom effects later there))
    (or_cases (change.atom == atom) (is_named atom effects) named)

module _ (G : GroundTask) (readers : List (List OperatorReader)) (are : AreReaders G readers) (before state : State) (effects : List Change) (place : ℕ) (within : place < length effects) (one : Change) where
  abbrev change : Change
  change = get_or effects place one

  pub followed_already : (old now : List Watch) → HasShape G old → is_named change.atom (take place effects) ≡ true
      → now ≡ renewed_all G state old (touched readers before state (take place effects)) → now ≡ renewed_all G state old (touched readers before state (take (place + 1) effects))
  followed_already old now shape named so_far =
      let first = touched readers before state (take place effects) in
      let more = touched_at readers state (is_set before change.atom) change.atom in
      so_far
      ∙ sym (renewed_again G state old shape first more (touched_within G readers are before state (take place effects)) (at_within G readers are before state (is_set before change.atom) change.atom)
      (λ reader there. touched_named readers before state reader change.atom (take place effects) named there))
      ∙ sym (fold-append (renewed_at G state) old first more)
      ∙ ap (renewed_all G state old) (sym (touched_more before effects place within one readers state))
