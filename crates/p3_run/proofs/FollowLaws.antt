-- Where the operators that read an atom which has changed are in one state more, so are all operators.
use Rattle.std.proofs.Common.{◌≡◌, ◌∙◌, ℕ, zero, suc, ◌<◌, ◌≤◌, ◌==◌, Bool, true, false, ◌&&◌, ◌||◌, cond, if◌then◌else◌, None, List, [], ◌∷◌, ◌++◌, length, map, refl, sym, ap, arith}
use Rattle.std.specs.Prelude.{◌⊎◌}
use Rattle.std.specs.List.{All, list_any}
use Rattle.std.proofs.lemmas.Bool.{cases_eq, cases_lt, and_from, or_left, or_right, or_cases, eqb-true, true≢false, ne_eqb, and_left, and_right}
use Rattle.std.proofs.lemmas.List.{ext_get_or, get_or-map, get_or-set_same, get_or-set_other, length-map}
use Rattle.std.proofs.lemmas.List.Folds.{list_any-append}
use Rattle.std.proofs.lemmas.List.Elements.{All-append, All-nil}
use mathlib.Core.Logic.{inl, inr, ⊎_elim}
use Rattle.p3_formula.specs.Forms.{State, is_set}
use Rattle.p3_formula.specs.Modals.{is_read}
use Rattle.p3_formula.specs.Next.{after}
use Rattle.p3_formula.specs.declared.form.Change.{Change}
use Rattle.p3_formula.specs.declared.form.Form.TheVariants.{True}
use Rattle.p3_base.specs.declared.operator.Operator.TheVariants.{AtEnd}
use Rattle.p3_formula.specs.declared.modal.GroundSoft.{GroundSoft}
use Rattle.p3_formula.specs.declared.task.GroundTask.{GroundTask}
use Rattle.std.proofs.Math.ListN.{get_or-eq_default}
use Rattle.p3_formula.proofs.ReadAtoms.{same_number}
use Rattle.p3_formula.proofs.NextLaws.{is_set-unchanged}
use Rattle.p3_run.specs.Changing.{differ, touched_at, touched}
use Rattle.p3_run.specs.Groups.{Watch, watch_of, watches_of, modals_of, modals_at, modal_at, watch_at, stage_at, later, renewed_at, renewed_all, IsReader, HasShape}
use Rattle.p3_run.specs.Readers.{readers_at, is_same, AreReaders}
use Rattle.p3_run.specs.Stages.{stage_of, next_stage, accepting}
use Rattle.p3_run.specs.declared.readers.OperatorReader.{OperatorReader}
use Rattle.p3_run.specs.declared.stages.Stage.{Stage}
use Rattle.p3_run.proofs.ReaderLaws.{same_reader}
use Rattle.p3_run.proofs.RenewLaws.{shape_kept}
use Rattle.p3_run.proofs.StageLaws.{stage_next, stage_twice, stage_stays}

-- the stage of the operator that reads
abbrev pub stage_in : List Watch → OperatorReader → Stage
stage_in watches reader = stage_at (watch_at watches reader.group).stages reader.place

apart : (a b : Bool) → (a && b) ≡ false → (a ≡ true) → b ≡ false
apart true b e h = e
apart false b e h = absurd (cc)

-- ---- one operator after others were renewed

module _ (G : GroundTask) (state : State) (reader : OperatorReader) (is : IsReader G reader) where
  abbrev N : Stage → Stage
  N stage = next_stage state (modal_at G reader) stage

  one_renewed : (watches : List Watch) (other : OperatorReader) → HasShape G watches → IsReader G other → stage_in (renewed_at G state watches other) reader ≡ cond (is_same reader other) (N (stage_in watches reader)) (stage_in watches reader)
  one_renewed watches other shape is_other = by (cases_eq reader.group other.group) (cases_eq reader.place other.place) where
    within : other.group < length watches
    within = let g = is_other.group in let s = shape.groups in omega (arith, g, s)

    place_within : other.place < length (watch_at watches other.group).stages
    place_within = let p = is_other.place in let s = shape.places other.group in omega (arith, p, s)

    then_is : Watch
    then_is = later (modal_at G other) state watches other

    by : (reader.group ≡ other.group) ⊎ (reader.group ≡ other.group → ⊥) → (reader.place ≡ other.place) ⊎ (reader.place ≡ other.place → ⊥)
        → stage_in (renewed_at G state watches other) reader ≡ cond (is_same reader other) (N (stage_in watches reader)) (stage_in watches reader)
    by (inl group) (inl place) =
        let e = same_reader other reader (sym group) (sym place) in
        let h : is_same reader other ≡ true = ap (is_same reader) e ∙ and_from (reader.group == reader.group) (reader.place == reader.place) (same_number reader.group) (same_number reader.place) in
        ap (λ r. stage_in (renewed_at G state watches other) r) (sym e)
        ∙ ap (λ (w : Watch). stage_at w.stages other.place) (get_or-set_same watches other.group (later (modal_at G other) state watches other) _ within)
        ∙ get_or-set_same (watch_at watches other.group).stages other.place (next_stage state (modal_at G other) (stage_in watches other)) _ place_within
        ∙ ap (λ r. next_stage state (modal_at G r) (stage_in watches r)) e
        ∙ ap (λ b. cond b (N (stage_in watches reader)) (stage_in watches reader)) (sym h)
    by (inl group) (inr place) =
        let h : is_same reader other ≡ false = and_right (other.group == reader.group) (other.place == reader.place) (ne_eqb other.place reader.place (λ e. place (sym e))) in
        ap (λ g. stage_at (watch_at (renewed_at G state watches other) g).stages reader.place) group
        ∙ ap (λ (w : Watch). stage_at w.stages reader.place) (get_or-set_same watches other.group (later (modal_at G other) state watches other) _ within)
        ∙ get_or-set_other (watch_at watches other.group).stages other.place reader.place (next_stage state (modal_at G other) (stage_in watches other)) _ place
        ∙ ap (λ g. stage_at (watch_at watches g).stages reader.place) (sym group)
        ∙ ap (λ b. cond b (N (stage_in watches reader)) (stage_in watches reader)) (sym h)
    by (inr group) place =
        let h : is_same reader other ≡ false = and_left (other.group == reader.group) (other.place == reader.place) (ne_eqb other.group reader.group (λ e. group (sym e))) in
        ap (λ (w : Watch). stage_at w.stages reader.place) (get_or-set_other watches other.group reader.group (later (modal_at G other) state watches other) _ group)
        ∙ ap (λ b. cond b (N (stage_in watches reader)) (stage_in watches reader)) (sym h)

  twice : (a b : Bool) (s : Stage) → cond a (N (cond b (N s) s)) (cond b (N s) s) ≡ cond (b || a) (N s) s
  twice true true s = stage_twice state (modal_at G reader) s
  twice true false s = refl
  twice false true s = refl
  twice false false s = refl

  pub all_renewed : (others : List OperatorReader) (watches : List Watch) → HasShape G watches → All (IsReader G) others
      → stage_in (renewed_all G state watches others) reader ≡ cond (list_any (is_same reader) others) (N (stage_in watches reader)) (stage_in watches reader)
  all_renewed [] watches shape all = refl
  all_renewed (other ∷ others) watches shape all =
      all_renewed others (renewed_at G state watches other) (shape_kept G state watches shape other (all 0 other (omega arith))) (λ k d within. all (suc k) d (omega (arith, within)))
      ∙ ap (λ s. cond (list_any (is_same reader) others) (N s) s) (one_renewed watches other shape (all 0 other (omega arith)))
      ∙ twice (list_any (is_same reader) others) (is_same reader other) (stage_in watches reader)

-- shape and names stay
module _ (G : GroundTask) (state : State) where
  pub shape_after : (others : List OperatorReader) (watches : List Watch) → HasShape G watches → All (IsReader G) others → HasShape G (renewed_all G state watches others)
  shape_after [] watches shape all = shape
  shape_after (other ∷ others) watches shape all =
      shape_after others (renewed_at G state watches other) (shape_kept G state watches shape other (all 0 other (omega arith))) (λ k d within. all (suc k) d (omega (arith, within)))

  one_name : (watches : List Watch) (other : OperatorReader) (group : ℕ) → other.group < length watches → (watch_at (renewed_at G state watches other) group).name ≡ (watch_at watches group).name
  one_name watches other group within = by (cases_eq group other.group) where
    by : (group ≡ other.group) ⊎ (group ≡ other.group → ⊥) → (watch_at (renewed_at G state watches other) group).name ≡ (watch_at watches group).name
    by (inl same) =
        ap (λ g. (watch_at (renewed_at G state watches other) g).name) same
        ∙ ap (λ (w : Watch). w.name) (get_or-set_same watches other.group (later (modal_at G other) state watches other) _ within)
        ∙ ap (λ g. (watch_at watches g).name) (sym same)
    by (inr other_one) = ap (λ (w : Watch). w.name) (get_or-set_other watches other.group group (later (modal_at G other) state watches other) _ other_one)

  pub names_after : (others : List OperatorReader) (watches : List Watch) (group : ℕ) → HasShape G watches → All (IsReader G) others → (watch_at (renewed_all G state watches others) group).name ≡ (watch_at watches group).name
  names_after [] watches group shape all = refl
  names_after (other ∷ others) watches group shape all =
      let is = all 0 other (omega arith) in
      names_after others (renewed_at G state watches other) group (shape_kept G state watches shape other is) (λ k d within. all (suc k) d (omega (arith, within)))
      ∙ one_name watches other group (let g = is.group in let s = shape.groups in omega (arith, g, s))

-- ---- the groups of a task

module _ (G : GroundTask) (W : List State) where
  stages_at : (group : ℕ) → group < length (modals_of G) → (watch_at (watches_of W G) group).stages ≡ map (stage_of W) (modals_at G group)
  stages_at zero within = refl
  stages_at (suc k) within =
      let lt : k < length G.soft = let l = length-map G.soft (λ (soft : GroundSoft). soft.parts) in omega (arith, within, l) in
      let d : GroundSoft = record { name = None; parts = [] } in
      ap (λ (w : Watch). w.stages) (get_or-map (λ (soft : GroundSoft). watch_of W soft.name soft.parts) G.soft k d _ lt)
      ∙ ap (map (stage_of W)) (sym (get_or-map (λ (soft : GroundSoft). soft.parts) G.soft k d [] lt))

  pub shape_of : HasShape G (watches_of W G)
  shape_of = record { groups = count; places = places } where
    count : length (watches_of W G) ≡ length (modals_of G)
    count = let l = length-map G.soft (λ (soft : GroundSoft). soft.parts) in let m = length-map G.soft (λ (soft : GroundSoft). watch_of W soft.name soft.parts) in omega (arith, l, m)

    places : (group : ℕ) → length (watch_at (watches_of W G) group).stages ≡ length (modals_at G group)
    places group = by (cases_lt group (length (modals_of G))) where
      by : (group < length (modals_of G)) ⊎ (length (modals_of G) ≤ group) → length (watch_at (watches_of W G) group).stages ≡ length (modals_at G group)
      by (inl within) = ap length (stages_at group within) ∙ length-map (modals_at G group) (stage_of W)
      by (inr beyond) =
          ap (λ (w : Watch). length w.stages) (get_or-eq_default (watches_of W G) _ (omega (arith, beyond, count)))
          ∙ ap length (sym (get_or-eq_default (modals_of G) [] beyond))

  pub stage_is : (reader : OperatorReader) → IsReader G reader → stage_in (watches_of W G) reader ≡ stage_of W (modal_at G reader)
  stage_is reader is =
      ap (λ stages. stage_at stages reader.place) (stages_at reader.group is.group)
      ∙ get_or-map (stage_of W) (modals_at G reader.group) reader.place (AtEnd True) (accepting false) is.place

-- the names of the groups do not depend on the states
same_names : (G : GroundTask) (V W : List State) (group : ℕ) → (watch_at (watches_of V G) group).name ≡ (watch_at (watches_of W G) group).name
same_names G V W zero = refl
same_names G V W (suc k) = by G.soft k where
  by : (softs : List GroundSoft) (k : ℕ) → (watch_at (map (λ (soft : GroundSoft). watch_of V soft.name soft.parts) softs) k).name ≡ (watch_at (map (λ (soft : GroundSoft). watch_of W soft.name soft.parts) softs) k).name
  by [] k = refl
  by (soft ∷ softs) zero = refl
  by (soft ∷ softs) (suc k) = by softs k

-- ---- the touched operators

module _ (G : GroundTask) (readers : List (List OperatorReader)) (are : AreReaders G readers) (before next : State) where
  pub at_within : (set : Bool) (atom : ℕ) → All (IsReader G) (touched_at readers next set atom)
  at_within set atom = by (differ (is_set next atom) set) where
    by : (b : Bool) → All (IsReader G) (if b then readers_at readers atom else [])
    by true = are.within atom
    by false = All-nil (IsReader G)

  pub touched_within : (effects : List Change) → All (IsReader G) (touched readers before next effects)
  touched_within [] = All-nil (IsReader G)
  touched_within (change ∷ effects) = All-append (IsReader G) (touched_at readers next (is_set before change.atom) change.atom) (touched readers before next effects) (at_within (is_set before change.atom) change.atom) (touched_within effects)

  module _ (reader : OperatorReader) (is : IsReader G reader) (atom : ℕ) (read : is_read (modal_at G reader) atom ≡ true) (changed : differ (is_set next atom) (is_set before atom) ≡ true) where
    at_atom : list_any (is_same reader) (touched_at readers next (is_set before atom) atom) ≡ true
    at_atom = ap (λ b. list_any (is_same reader) (if b then readers_at readers atom else [])) changed ∙ are.filed reader is atom read

    reached : (effects : List Change) → list_any (λ (change : Change). change.atom == atom) effects ≡ true → list_any (is_same reader) (touched readers before next effects) ≡ true
    reached [] named = absurd (cc)
    reached (change ∷ effects) named =
        list_any-append (is_same reader) (touched_at readers next (is_set before change.atom) change.atom) (touched readers before next effects)
        ∙ ⊎_elim
        (λ here. or_left (list_any (is_same reader) (touched_at readers next (is_set before change.atom) change.atom)) (list_any (is_same reader) (touched readers before next effects))
        (ap (λ a. list_any (is_same reader) (touched_at readers next (is_set before a) a)) (eqb-true change.atom atom here) ∙ at_atom))
        (λ later. or_right (list_any (is_same reader) (touched_at readers next (is_set before change.atom) change.atom)) (list_any (is_same reader) (touched readers before next effects)) (reached effects later))
        (or_cases (change.atom == atom) (list_any (λ (one : Change). one.atom == atom) effects) named)

same_where : (a b : Bool) → differ a b ≡ false → a ≡ b
same_where true true e = refl
same_where true false e = absurd (cc)
same_where false true e = absurd (cc)
same_where false false e = refl

differ_same : (a b : Bool) → a ≡ b → differ a b ≡ true → ⊥
differ_same true true e h = cc
differ_same true false e h = cc
differ_same false true e h = cc
differ_same false false e h = cc

-- ---- all operators

module _ (G : GroundTask) (readers : List (List OperatorReader)) (are : AreReaders G readers) (V : List State) (before : State) (effects : List Change) where
  abbrev W : List State
  W = V ++ before ∷ []

  abbrev next : State
  next = after before effects

  abbrev those : List OperatorReader
  those = touched readers before next effects

  abbrev watches : List Watch
  watches = renewed_all G next (watches_of W G) those

  within : All (IsReader G) those
  within = touched_within G readers are before next effects

  -- an atom that is not named has not changed
  changed_named : (atom : ℕ) (b : Bool) → list_any (λ (change : Change). change.atom == atom) effects ≡ b → differ (is_set next atom) (is_set before atom) ≡ true → list_any (λ (change : Change). change.atom == atom) effects ≡ true
  changed_named atom true e changed = e
  changed_named atom false e changed = absurd (differ_same (is_set next atom) (is_set before atom) (is_set-unchanged before effects atom e) changed)

  module _ (reader : OperatorReader) (is : IsReader G reader) where
    agree : list_any (is_same reader) those ≡ false → (atom : ℕ) → is_read (modal_at G reader) atom ≡ true → is_set next atom ≡ is_set before atom
    agree none atom read = by (differ (is_set next atom) (is_set before atom)) refl where
      by : (b : Bool) → differ (is_set next atom) (is_set before atom) ≡ b → is_set next atom ≡ is_set before atom
      by false same = same_where (is_set next atom) (is_set before atom) same
      by true changed =
          let there = reached G readers are before next reader is atom read changed effects (changed_named atom (list_any (λ (change : Change). change.atom == atom) effects) refl changed) in
          absurd (true≢false (sym there ∙ none))

    stage_after : stage_in watches reader ≡ stage_of (W ++ next ∷ []) (modal_at G reader)
    stage_after = all_renewed G next reader is those (watches_of W G) (shape_of G W) within ∙ by (list_any (is_same reader) those) refl where
      stands : stage_in (watches_of W G) reader ≡ stage_of W (modal_at G reader)
      stands = stage_is G W reader is

      by : (b : Bool) → list_any (is_same reader) those ≡ b → cond b (next_stage next (modal_at G reader) (stage_in (watches_of W G) reader)) (stage_in (watches_of W G) reader) ≡ stage_of (W ++ next ∷ []) (modal_at G reader)
      by true touched_it = ap (next_stage next (modal_at G reader)) stands ∙ stage_next W next (modal_at G reader)
      by false not_touched = stands ∙ sym (stage_stays V before next (modal_at G reader) (agree not_touched))

  shape : HasShape G watches
  shape = shape_after G next those (watches_of W G) (shape_of G W) within

  group_after : (group : ℕ) → group < length (modals_of G) → watch_at watches group ≡ watch_at (watches_of (W ++ next ∷ []) G) group
  group_after group lt = λ i. record { name = name i; stages = stages i } where
    name : (watch_at watches group).name ≡ (watch_at (watches_of (W ++ next ∷ []) G) group).name
    name = names_after G next those (watches_of W G) group (shape_of G W) within ∙ same_names G W (W ++ next ∷ []) group

    stages : (watch_at watches group).stages ≡ (watch_at (watches_of (W ++ next ∷ []) G) group).stages
    stages = ext_get_or (accepting false) (watch_at watches group).stages (watch_at (watches_of (W ++ next ∷ []) G) group).stages
        (shape.places group ∙ sym ((shape_of G (W ++ next ∷ [])).places group))
        (λ place place_lt.
        let reader : OperatorReader = record { group = group; place = place } in
        let is : IsReader G reader = record { group = lt; place = let s = shape.places group in omega (arith, place_lt, s) } in
        stage_after reader is ∙ sym (stage_is G (W ++ next ∷ []) reader is))

  pub all_follow : watches ≡ watches_of (W ++ next ∷ []) G
  all_follow = ext_get_or (record { name = None; stages = [] }) watches (watches_of (W ++ next ∷ []) G)
      (shape.groups ∙ sym ((shape_of G (W ++ next ∷ [])).groups))
      (λ group lt. group_after group (let s = shape.groups in omega (arith, lt, s)))
