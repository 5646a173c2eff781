-- Where the operators that read an atom which a change names are in one state more, so are all operators.
use Rattle.std.proofs.Common.{◌≡◌, ◌∙◌, ℕ, suc, zero, ◌+◌, ◌<◌, ◌≤◌, ◌==◌, Bool, true, false, ◌||◌, cond, List, [], ◌∷◌, ◌++◌, length, get_or, map, take, refl, sym, ap, subst, arith, length-set}
use Rattle.std.specs.Prelude.{◌⊎◌, None}
use Rattle.std.specs.List.{All, list_any, flat_map}
use Rattle.std.proofs.lemmas.Bool.{cases_eq, cases_lt, and_from, or_left, or_right, or_cases, eqb-true, true≢false, ne_eqb, and_left, and_right}
use Rattle.std.proofs.lemmas.Grind.{flat_map-append}
use Rattle.std.proofs.lemmas.List.Sums.{fold-append}
use Rattle.std.proofs.lemmas.List.{append-nil, take_more, get_or-map, get_or-set_same, get_or-set_other, length-map}
use Rattle.std.proofs.lemmas.List.Folds.{list_any-append}
use Rattle.std.proofs.lemmas.List.Elements.{All-append, All-nil}
use Rattle.std.proofs.Math.ListN.{get_or-eq_default}
use mathlib.Core.Logic.{inl, inr, ⊎_elim}
use Rattle.p3_base.specs.Limits.{instance_limit}
use Rattle.p3_formula.specs.Conditions.{HasAtomsBelow}
use Rattle.p3_formula.specs.Forms.{State, is_set}
use Rattle.p3_formula.specs.Modals.{IsModalBelow, is_read}
use Rattle.p3_formula.specs.Next.{after}
use Rattle.p3_formula.specs.declared.form.Change.{Change}
use Rattle.p3_formula.specs.declared.form.Form.TheVariants.{True}
use Rattle.p3_base.specs.declared.operator.Operator.TheVariants.{AtEnd}
use Rattle.p3_formula.specs.declared.modal.GroundSoft.{GroundSoft}
use Rattle.p3_formula.specs.declared.task.GroundTask.{GroundTask}
use Rattle.p3_formula.proofs.NextLaws.{is_set-unchanged}
use Rattle.p3_formula.proofs.ReadAtoms.{same_number}
use Rattle.p3_run.specs.Groups.{IsReader, modal_at, modals_at, modals_of}
use Rattle.p3_run.specs.Readers.{AreReaders, is_same, readers_at}
use Rattle.p3_run.specs.declared.readers.OperatorReader.{OperatorReader}
use Rattle.p3_run.proofs.ReaderLaws.{modal_below, same_reader}
use Rattle.p3_marks.specs.Marks.{mark_of, next_mark, no_mark}
use Rattle.p3_marks.specs.Marked.{AreMarks, CanMark, HasShape, Marked, all_begun, begun, followed, group_at, later, mark_at, named_by, place_in, renewed_all, renewed_at}
use Rattle.p3_marks.specs.declared.mark.Mark.{Mark}
use Rattle.p3_marks.proofs.MarkLaws.{mark_begins, mark_next, mark_stays, mark_twice}

-- ---- the shape stays

pub shape_kept : (G : GroundTask) (next : ℕ) (state : State) (groups : List (List Mark)) → HasShape G groups → (reader : OperatorReader) → IsReader G reader → HasShape G (renewed_at G next state groups reader)
shape_kept G next state groups shape reader is = record { count = length-set groups reader.group then_is ∙ shape.count; places = places } where
  then_is : List Mark
  then_is = later (modal_at G reader) next state groups reader

  places : (group : ℕ) → length (group_at (renewed_at G next state groups reader) group) ≡ length (modals_at G group)
  places group = by (cases_eq group reader.group) where
    by : (group ≡ reader.group) ⊎ (group ≡ reader.group → ⊥) → length (group_at (renewed_at G next state groups reader) group) ≡ length (modals_at G group)
    by (inl same) =
        ap (λ (g : ℕ). length (group_at (renewed_at G next state groups reader) g)) same
        ∙ ap length (get_or-set_same groups reader.group (later (modal_at G reader) next state groups reader) _ (let g = is.group in let s = shape.count in omega (arith, g, s)))
        ∙ length-set (group_at groups reader.group) reader.place _
        ∙ shape.places reader.group
        ∙ ap (λ (g : ℕ). length (modals_at G g)) (sym same)
    by (inr other) = ap length (get_or-set_other groups reader.group group (later (modal_at G reader) next state groups reader) _ other) ∙ shape.places group

module _ (G : GroundTask) (state : State) (groups : List (List Mark)) (can : CanMark G groups) (reader : OperatorReader) (is : IsReader G reader) where
  pub place_within : reader.place < length (group_at groups reader.group)
  place_within = let p = is.place in let s = can.shape.places reader.group in omega (arith, p, s)

  pub reader_below : length state ≡ G.atoms → IsModalBelow (length state) (modal_at G reader)
  reader_below bits = subst (λ count. IsModalBelow count (modal_at G reader)) (sym bits) (modal_below G can.below reader is)

  pub can_still : (next : ℕ) → CanMark G (renewed_at G next state groups reader)
  can_still next = record { below = can.below; few = can.few; shape = shape_kept G next state groups can.shape reader is }

-- ---- one operator after others were renewed

module _ (G : GroundTask) (next : ℕ) (state : State) (reader : OperatorReader) (is : IsReader G reader) where
  abbrev N : Mark → Mark
  N mark = next_mark next state (modal_at G reader) mark

  one_renewed : (groups : List (List Mark)) (other : OperatorReader) → HasShape G groups → IsReader G other
      → mark_at (renewed_at G next state groups other) reader ≡ cond (is_same reader other) (N (mark_at groups reader)) (mark_at groups reader)
  one_renewed groups other shape is_other = by (cases_eq reader.group other.group) (cases_eq reader.place other.place) where
    within : other.group < length groups
    within = let g = is_other.group in let s = shape.count in omega (arith, g, s)

    inside : other.place < length (group_at groups other.group)
    inside = let p = is_other.place in let s = shape.places other.group in omega (arith, p, s)

    by : (reader.group ≡ other.group) ⊎ (reader.group ≡ other.group → ⊥) → (reader.place ≡ other.place) ⊎ (reader.place ≡ other.place → ⊥)
        → mark_at (renewed_at G next state groups other) reader ≡ cond (is_same reader other) (N (mark_at groups reader)) (mark_at groups reader)
    by (inl group) (inl place) =
        let e = same_reader other reader (sym group) (sym place) in
        let h : is_same reader other ≡ true = ap (is_same reader) e ∙ and_from (reader.group == reader.group) (reader.place == reader.place) (same_number reader.group) (same_number reader.place) in
        ap (λ r. mark_at (renewed_at G next state groups other) r) (sym e)
        ∙ ap (λ (list : List Mark). place_in list other.place) (get_or-set_same groups other.group (later (modal_at G other) next state groups other) _ within)
        ∙ get_or-set_same (group_at groups other.group) other.place (next_mark next state (modal_at G other) (mark_at groups other)) _ inside
        ∙ ap (λ r. next_mark next state (modal_at G r) (mark_at groups r)) e
        ∙ ap (λ b. cond b (N (mark_at groups reader)) (mark_at groups reader)) (sym h)
    by (inl group) (inr place) =
        let h : is_same reader other ≡ false = and_right (other.group == reader.group) (other.place == reader.place) (ne_eqb other.place reader.place (λ e. place (sym e))) in
        ap (λ g. place_in (group_at (renewed_at G next state groups other) g) reader.place) group
        ∙ ap (λ (list : List Mark). place_in list reader.place) (get_or-set_same groups other.group (later (modal_at G other) next state groups other) _ within)
        ∙ get_or-set_other (group_at groups other.group) other.place reader.place (next_mark next state (modal_at G other) (mark_at groups other)) _ place
        ∙ ap (λ g. place_in (group_at groups g) reader.place) (sym group)
        ∙ ap (λ b. cond b (N (mark_at groups reader)) (mark_at groups reader)) (sym h)
    by (inr group) place =
        let h : is_same reader other ≡ false = and_left (other.group == reader.group) (other.place == reader.place) (ne_eqb other.group reader.group (λ e. group (sym e))) in
        ap (λ (list : List Mark). place_in list reader.place) (get_or-set_other groups other.group reader.group (later (modal_at G other) next state groups other) _ group)
        ∙ ap (λ b. cond b (N (mark_at groups reader)) (mark_at groups reader)) (sym h)

  twice : (a b : Bool) (mark : Mark) → cond a (N (cond b (N mark) mark)) (cond b (N mark) mark) ≡ cond (b || a) (N mark) mark
  twice true true mark = mark_twice next next state (modal_at G reader) mark
  twice true false mark = refl
  twice false true mark = refl
  twice false false mark = refl

  pub all_renewed : (others : List OperatorReader) (groups : List (List Mark)) → HasShape G groups → All (IsReader G) others
      → mark_at (renewed_all G next state groups others) reader ≡ cond (list_any (is_same reader) others) (N (mark_at groups reader)) (mark_at groups reader)
  all_renewed [] groups shape all = refl
  all_renewed (other ∷ others) groups shape all =
      all_renewed others (renewed_at G next state groups other) (shape_kept G next state groups shape other (all 0 other (omega arith))) (λ k d within. all (suc k) d (omega (arith, within)))
      ∙ ap (λ mark. cond (list_any (is_same reader) others) (N mark) mark) (one_renewed groups other shape (all 0 other (omega arith)))
      ∙ twice (list_any (is_same reader) others) (is_same reader other) (mark_at groups reader)

module _ (G : GroundTask) (next : ℕ) (state : State) where
  pub shape_after : (others : List OperatorReader) (groups : List (List Mark)) → HasShape G groups → All (IsReader G) others → HasShape G (renewed_all G next state groups others)
  shape_after [] groups shape all = shape
  shape_after (other ∷ others) groups shape all =
      shape_after others (renewed_at G next state groups other) (shape_kept G next state groups shape other (all 0 other (omega arith))) (λ k d within. all (suc k) d (omega (arith, within)))

-- ---- the operators that read a named atom

module _ (G : GroundTask) (readers : List (List OperatorReader)) (are : AreReaders G readers) where
  pub named_within : (effects : List Change) → All (IsReader G) (named_by readers effects)
  named_within [] = All-nil (IsReader G)
  named_within (change ∷ effects) = All-append (IsReader G) (readers_at readers change.atom) (named_by readers effects) (are.within change.atom) (named_within effects)

  reached : (reader : OperatorReader) → IsReader G reader → (atom : ℕ) → is_read (modal_at G reader) atom ≡ true → (effects : List Change)
      → list_any (λ (change : Change). change.atom == atom) effects ≡ true → list_any (is_same reader) (named_by readers effects) ≡ true
  reached reader is atom read [] named = absurd (cc)
  reached reader is atom read (change ∷ effects) named =
      list_any-append (is_same reader) (readers_at readers change.atom) (named_by readers effects)
      ∙ ⊎_elim
      (λ here. or_left (list_any (is_same reader) (readers_at readers change.atom)) (list_any (is_same reader) (named_by readers effects))
      (ap (λ a. list_any (is_same reader) (readers_at readers a)) (eqb-true change.atom atom here) ∙ are.filed reader is atom read))
      (λ there. or_right (list_any (is_same reader) (readers_at readers change.atom)) (list_any (is_same reader) (named_by readers effects)) (reached reader is atom read effects there))
      (or_cases (change.atom == atom) (list_any (λ (one : Change). one.atom == atom) effects) named)

-- ---- one change more

module _ (readers : List (List OperatorReader)) (effects : List Change) (place : ℕ) (within : place < length effects) (one : Change) where
  abbrev change : Change
  change = get_or effects place one

  pub named_more : named_by readers (take (place + 1) effects) ≡ named_by readers (take place effects) ++ readers_at readers change.atom
  named_more =
      let each = λ (c : Change). readers_at readers c.atom in
      ap (flat_map each) (take_more effects place one within)
      ∙ flat_map-append each (take place effects) (change ∷ [])
      ∙ ap (λ rest. flat_map each (take place effects) ++ rest) (append-nil (each change))

  pub follow_more : (G : GroundTask) (next : ℕ) (state : State) (old now : List (List Mark)) → now ≡ renewed_all G next state old (named_by readers (take place effects))
      → renewed_all G next state now (readers_at readers change.atom) ≡ renewed_all G next state old (named_by readers (take (place + 1) effects))
  follow_more G next state old now so_far =
      ap (λ groups. renewed_all G next state groups (readers_at readers change.atom)) so_far
      ∙ sym (fold-append (renewed_at G next state) old (named_by readers (take place effects)) (readers_at readers change.atom))
      ∙ ap (renewed_all G next state old) (sym named_more)

-- ---- all operators

module _ (G : GroundTask) (V : List State) (before : State) (effects : List Change) (marked : Marked) (all : AreMarks G (V ++ before ∷ []) marked) where
  abbrev W : List State
  W = V ++ before ∷ []

  abbrev then_state : State
  then_state = after before effects

  abbrev those : List OperatorReader
  those = named_by marked.readers effects

  within : All (IsReader G) those
  within = named_within G marked.readers all.follows.readers effects

  module _ (reader : OperatorReader) (is : IsReader G reader) where
    agree : list_any (is_same reader) those ≡ false → (atom : ℕ) → is_read (modal_at G reader) atom ≡ true → is_set then_state atom ≡ is_set before atom
    agree none atom read = by (list_any (λ (change : Change). change.atom == atom) effects) refl where
      by : (b : Bool) → list_any (λ (change : Change). change.atom == atom) effects ≡ b → is_set then_state atom ≡ is_set before atom
      by false unnamed = is_set-unchanged before effects atom unnamed
      by true named = absurd (true≢false (sym (reached G marked.readers all.follows.readers reader is atom read effects named) ∙ none))

    mark_after : mark_at (renewed_all G (length W) then_state marked.groups those) reader ≡ mark_of (W ++ then_state ∷ []) (modal_at G reader)
    mark_after = all_renewed G (length W) then_state reader is those marked.groups all.follows.can.shape within ∙ by (list_any (is_same reader) those) refl where
      stands : mark_at marked.groups reader ≡ mark_of W (modal_at G reader)
      stands = all.right reader is

      by : (b : Bool) → list_any (is_same reader) those ≡ b → cond b (next_mark (length W) then_state (modal_at G reader) (mark_at marked.groups reader)) (mark_at marked.groups reader) ≡ mark_of (W ++ then_state ∷ []) (modal_at G reader)
      by true named = ap (next_mark (length W) then_state (modal_at G reader)) stands ∙ mark_next W then_state (modal_at G reader)
      by false not_named = stands ∙ sym (mark_stays V before then_state (modal_at G reader) (agree not_named))

  -- the marks are right of one state more
  pub all_follow : AreMarks G (W ++ then_state ∷ []) (followed G (length W) then_state effects marked)
  all_follow = record {
    follows = record {
      can = record { below = all.follows.can.below; few = all.follows.can.few; shape = shape_after G (length W) then_state those marked.groups all.follows.can.shape within };
      readers = all.follows.readers;
    };
    right = mark_after;
  }

-- ---- the first state

module _ (G : GroundTask) where
  group_begins : (group : ℕ) → group < length (modals_of G) → group_at (all_begun G) group ≡ map (begun G.initial) (modals_at G group)
  group_begins zero lt = refl
  group_begins (suc k) lt =
      let in_soft : k < length G.soft = let l = length-map G.soft (λ (soft : GroundSoft). soft.parts) in omega (arith, lt, l) in
      let d : GroundSoft = record { name = None; parts = [] } in
      get_or-map (λ (soft : GroundSoft). map (begun G.initial) soft.parts) G.soft k d _ in_soft
      ∙ ap (map (begun G.initial)) (sym (get_or-map (λ (soft : GroundSoft). soft.parts) G.soft k d [] in_soft))

  shape_begins : HasShape G (all_begun G)
  shape_begins = record { count = count; places = places } where
    count : length (all_begun G) ≡ length (modals_of G)
    count = let l = length-map G.soft (λ (soft : GroundSoft). soft.parts) in let m = length-map G.soft (λ (soft : GroundSoft). map (begun G.initial) soft.parts) in omega (arith, l, m)

    places : (group : ℕ) → length (group_at (all_begun G) group) ≡ length (modals_at G group)
    places group = by (cases_lt group (length (modals_of G))) where
      by : (group < length (modals_of G)) ⊎ (length (modals_of G) ≤ group) → length (group_at (all_begun G) group) ≡ length (modals_at G group)
      by (inl lt) = ap length (group_begins group lt) ∙ length-map (modals_at G group) (begun G.initial)
      by (inr beyond) = ap length (get_or-eq_default (all_begun G) [] (let c = count in omega (arith, beyond, c))) ∙ ap length (sym (get_or-eq_default (modals_of G) [] beyond))

  pub all_begin : HasAtomsBelow G → length G.soft ≤ instance_limit → (readers : List (List OperatorReader)) → AreReaders G readers → AreMarks G (G.initial ∷ []) (record { readers = readers; groups = all_begun G })
  all_begin below few readers are = record {
    follows = record { can = record { below = below; few = few; shape = shape_begins }; readers = are };
    right = λ reader is.
        ap (λ (list : List Mark). place_in list reader.place) (group_begins reader.group is.group)
        ∙ get_or-map (begun G.initial) (modals_at G reader.group) reader.place (AtEnd True) no_mark is.place
        ∙ mark_begins G.initial (modal_at G reader);
  }
