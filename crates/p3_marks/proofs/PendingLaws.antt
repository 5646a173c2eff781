-- What reads an atom is in one state more once it was looked at; a second look changes nothing.
use Rattle.std.proofs.Common.{◌≡◌, ◌∙◌, ℕ, ◌+◌, ◌<◌, ◌==◌, Bool, true, false, cond, List, [], ◌∷◌, length, get_or, take, refl, sym, ap, arith}
use Rattle.std.specs.List.{All, list_any}
use Rattle.std.proofs.lemmas.Bool.{eqb-true, or_cases, or_left, or_right}
use Rattle.std.proofs.lemmas.List.{ext_get_or}
use Rattle.std.proofs.lemmas.List.Folds.{list_any-append}
use Rattle.std.proofs.lemmas.List.Sums.{fold-append}
use mathlib.Core.Logic.{⊎_elim}
use Rattle.p3_formula.specs.Forms.{State}
use Rattle.p3_formula.specs.declared.form.Change.{Change}
use Rattle.p3_formula.specs.declared.task.GroundTask.{GroundTask}
use Rattle.p3_run.specs.Groups.{IsReader, modal_at, modals_of}
use Rattle.p3_run.specs.Pending.{is_named}
use Rattle.p3_run.specs.Readers.{AreReaders, is_same, readers_at}
use Rattle.p3_run.specs.declared.readers.OperatorReader.{OperatorReader}
use Rattle.p3_marks.specs.Marked.{HasShape, group_at, mark_at, named_by, renewed_all, renewed_at}
use Rattle.p3_marks.specs.Marks.{next_mark, no_mark}
use Rattle.p3_marks.specs.declared.mark.Mark.{Mark}
use Rattle.p3_marks.proofs.FollowLaws.{all_renewed, named_more, named_within, shape_after}
use Rattle.p3_marks.proofs.MarkLaws.{mark_twice}

-- ---- those that were renewed are renewed once more

module _ (G : GroundTask) (next : ℕ) (state : State) (groups : List (List Mark)) (shape : HasShape G groups) (others more : List OperatorReader) (others_are : All (IsReader G) others) (more_are : All (IsReader G) more)
    (within : (reader : OperatorReader) → list_any (is_same reader) more ≡ true → list_any (is_same reader) others ≡ true) where
  abbrev once : List (List Mark)
  once = renewed_all G next state groups others

  abbrev again : List (List Mark)
  again = renewed_all G next state once more

  shape_once : HasShape G once
  shape_once = shape_after G next state others groups shape others_are

  shape_again : HasShape G again
  shape_again = shape_after G next state more once shape_once more_are

  module _ (reader : OperatorReader) (is : IsReader G reader) where
    abbrev N : Mark → Mark
    N mark = next_mark next state (modal_at G reader) mark

    same_mark : mark_at again reader ≡ mark_at once reader
    same_mark = all_renewed G next state reader is more once shape_once more_are ∙ by (list_any (is_same reader) more) refl where
      by : (b : Bool) → list_any (is_same reader) more ≡ b → cond b (N (mark_at once reader)) (mark_at once reader) ≡ mark_at once reader
      by false e = refl
      by true e =
          let first = all_renewed G next state reader is others groups shape others_are ∙ ap (λ b. cond b (N (mark_at groups reader)) (mark_at groups reader)) (within reader e) in
          ap N first ∙ mark_twice next next state (modal_at G reader) (mark_at groups reader) ∙ sym first

  same_group : (group : ℕ) → group < length (modals_of G) → group_at again group ≡ group_at once group
  same_group group lt = ext_get_or no_mark (group_at again group) (group_at once group)
      (shape_again.places group ∙ sym (shape_once.places group))
      (λ place place_lt. same_mark (record { group = group; place = place }) (record { group = lt; place = let s = shape_again.places group in omega (arith, place_lt, s) }))

  pub renewed_again : again ≡ once
  renewed_again = ext_get_or [] again once
      (shape_again.count ∙ sym shape_once.count)
      (λ group lt. same_group group (let s = shape_again.count in omega (arith, lt, s)))

-- ---- a change of an atom that was looked at

-- what reads a named atom is among those that read one
read_named : (readers : List (List OperatorReader)) (reader : OperatorReader) (atom : ℕ) (effects : List Change) → is_named atom effects ≡ true
    → list_any (is_same reader) (readers_at readers atom) ≡ true → list_any (is_same reader) (named_by readers effects) ≡ true
read_named readers reader atom [] named there = absurd (cc)
read_named readers reader atom (change ∷ effects) named there =
    let first = readers_at readers change.atom in
    list_any-append (is_same reader) first (named_by readers effects)
    ∙ ⊎_elim
    (λ here. or_left (list_any (is_same reader) first) (list_any (is_same reader) (named_by readers effects))
    (ap (λ a. list_any (is_same reader) (readers_at readers a)) (eqb-true change.atom atom here) ∙ there))
    (λ later. or_right (list_any (is_same reader) first) (list_any (is_same reader) (named_by readers effects)) (read_named readers reader atom effects later there))
    (or_cases (change.atom == atom) (is_named atom effects) named)

module _ (G : GroundTask) (readers : List (List OperatorReader)) (are : AreReaders G readers) (effects : List Change) (place : ℕ) (within : place < length effects) (one : Change) where
  abbrev change : Change
  change = get_or effects place one

  pub followed_already : (next : ℕ) (state : State) (old now : List (List Mark)) → HasShape G old → is_named change.atom (take place effects) ≡ true
      → now ≡ renewed_all G next state old (named_by readers (take place effects)) → now ≡ renewed_all G next state old (named_by readers (take (place + 1) effects))
  followed_already next state old now shape named so_far =
      let first = named_by readers (take place effects) in
      let more = readers_at readers change.atom in
      so_far
      ∙ sym (renewed_again G next state old shape first more (named_within G readers are (take place effects)) (are.within change.atom)
      (λ reader there. read_named readers reader change.atom (take place effects) named there))
      ∙ sym (fold-append (renewed_at G next state) old first more)
      ∙ ap (renewed_all G next state old) (sym (named_more readers effects place within one))
