-- What happens where it is known which conditions hold: the same as by the conditions.
use Rattle.std.proofs.Common.{◌≡◌, ◌∙◌, ℕ, suc, zero, ◌==◌, Bool, true, false, not, ◌&&◌, ◌||◌, cond, List, [], ◌∷◌, ◌++◌, length, map, refl, sym, ap}
use Rattle.std.specs.Prelude.{Option, Some, None, slice_get, slice_index_or, if◌then◌else◌}
use Rattle.std.specs.List.{All, AllZip, filter, list_all, list_any, range_with_len}
use Rattle.std.proofs.lemmas.Bool.{and_parts, and_from, eqb-true}
use Rattle.std.proofs.lemmas.List.Elements.{All-nil, All-cons}
use Rattle.p3_formula.specs.Forms.{State, is_set, truth}
use Rattle.p3_formula.specs.Next.{after, is_added, is_deleted, is_set_after}
use Rattle.p3_formula.specs.Targets.{has_change_atoms}
use Rattle.p3_formula.specs.declared.form.Change.{Change}
use Rattle.p3_formula.specs.declared.form.Form.{Form}
use Rattle.p3_formula.specs.declared.form.Form.TheVariants.{True}
use Rattle.p3_formula.proofs.FormLemmas.{truth-True, has_atoms-True}
use Rattle.p3_flat.proofs.ItemLemmas.{none_no_some, some_is}
use Rattle.p3_flat.specs.declared.placing.Placed.{Placed}
use Rattle.p3_flat.specs.Splitting.{HasPlace, IsPlaced, always, holds_in, is_added_in, is_kept, settled, settled_by}

-- ---- conditions at their places

get_map : (state : State) (forms : List Form) (place : ℕ) (form : Form) → slice_get forms place ≡ Some form → slice_index_or (map (truth state) forms) place false ≡ truth state form
get_map state [] place form h = absurd (none_no_some form h)
get_map state (other ∷ forms) zero form h = ap (truth state) (some_is other form h)
get_map state (other ∷ forms) (suc place) form h = get_map state forms place form h

holds_place : (state : State) (forms : List Form) (form : Form) (place : Option ℕ) → HasPlace forms form place → holds_in (map (truth state) forms) place ≡ truth state form
holds_place state forms form None h = sym (truth-True state) ∙ ap (truth state) (sym h)
holds_place state forms form (Some place) h = get_map state forms place form h

-- ---- one change

kept_sets : (holds add here x : Bool) → ((holds && not (not add && x)) && (here && add && true)) ≡ (here && add && holds)
kept_sets false true true x = refl
kept_sets false false true x = refl
kept_sets false true false x = refl
kept_sets false false false x = refl
kept_sets true true here x = refl
kept_sets true false true true = refl
kept_sets true false true false = refl
kept_sets true false false true = refl
kept_sets true false false false = refl

kept_clears : (holds add here x : Bool) → ((holds && not (not add && x)) && (here && not add && true)) ≡ ((here && not add && holds) && not x)
kept_clears false true true x = refl
kept_clears false false true x = refl
kept_clears false true false x = refl
kept_clears false false false x = refl
kept_clears true true true x = refl
kept_clears true true false x = refl
kept_clears true false true true = refl
kept_clears true false true false = refl
kept_clears true false false true = refl
kept_clears true false false false = refl

-- the same test at the atom that is named
at_atom : (added : ℕ → Bool) (one atom : ℕ) (add holds : Bool) → (((one == atom) && not add && holds) && not (added one)) ≡ (((one == atom) && not add && holds) && not (added atom))
at_atom added one atom add holds = by (one == atom) refl
  where
    by : (b : Bool) → (one == atom) ≡ b → ((b && not add && holds) && not (added one)) ≡ ((b && not add && holds) && not (added atom))
    by true same = ap (λ n. (not add && holds) && not (added n)) (eqb-true one atom same)
    by false differs = refl

both_or : (x y z : Bool) → ((x && z) || (y && z)) ≡ ((x || y) && z)
both_or true y true = refl
both_or true true false = refl
both_or true false false = refl
both_or false y z = refl

set_first : (added set deleted : Bool) → (added || set && not (deleted && not added)) ≡ (added || set && not deleted)
set_first true set deleted = refl
set_first false set true = refl
set_first false set false = refl

-- some of the changes that are kept passes
any_kept : (test : Change → Bool) (kept : Placed → Bool) (changes : List Placed) → list_any test (map always (filter kept changes)) ≡ list_any (λ one. kept one && test (always one)) changes
any_kept test kept [] = refl
any_kept test kept (one ∷ changes) = by (kept one) (any_kept test kept changes)
  where
    by : (b : Bool) → list_any test (map always (filter kept changes)) ≡ list_any (λ other. kept other && test (always other)) changes
        → list_any test (map always (cond b (one ∷ filter kept changes) (filter kept changes))) ≡ (b && test (always one) || list_any (λ other. kept other && test (always other)) changes)
    by true rest = ap (λ b. test (always one) || b) rest
    by false rest = rest

-- ---- all changes

module _ (state : State) (forms : List Form) where
  added_same : (effects : List Change) (changes : List Placed) → AllZip (IsPlaced forms) effects changes → (atom : ℕ) → is_added_in (map (truth state) forms) changes atom ≡ is_added state effects atom
  added_same [] [] h atom = refl
  added_same [] (one ∷ changes) h atom = absurd h
  added_same (change ∷ effects) [] h atom = absurd h
  added_same (change ∷ effects) (one ∷ changes) h atom =
      λ i. ((h.0.atom i == atom) && h.0.add i && holds_place state forms change.cond one.place h.0.place i) || added_same effects changes h.1 atom i

  module _ (added : ℕ → Bool) (atom : ℕ) where
    sets_same : (effects : List Change) (changes : List Placed) → AllZip (IsPlaced forms) effects changes
        → list_any (λ one. is_kept (map (truth state) forms) added one && ((one.atom == atom) && one.add && truth state True)) changes ≡ is_added state effects atom
    sets_same [] [] h = refl
    sets_same [] (one ∷ changes) h = absurd h
    sets_same (change ∷ effects) [] h = absurd h
    sets_same (change ∷ effects) (one ∷ changes) h =
        (λ i. (is_kept (map (truth state) forms) added one && ((one.atom == atom) && one.add && truth-True state i)) || sets_same effects changes h.1 i)
        ∙ ap (λ b. b || is_added state effects atom) (kept_sets (holds_in (map (truth state) forms) one.place) one.add (one.atom == atom) (added one.atom))
        ∙ (λ i. ((h.0.atom i == atom) && h.0.add i && holds_place state forms change.cond one.place h.0.place i) || is_added state effects atom)

    clears_same : (effects : List Change) (changes : List Placed) → AllZip (IsPlaced forms) effects changes
        → list_any (λ one. is_kept (map (truth state) forms) added one && ((one.atom == atom) && not one.add && truth state True)) changes ≡ (is_deleted state effects atom && not (added atom))
    clears_same [] [] h = refl
    clears_same [] (one ∷ changes) h = absurd h
    clears_same (change ∷ effects) [] h = absurd h
    clears_same (change ∷ effects) (one ∷ changes) h =
        (λ i. (is_kept (map (truth state) forms) added one && ((one.atom == atom) && not one.add && truth-True state i)) || clears_same effects changes h.1 i)
        ∙ ap (λ b. b || (is_deleted state effects atom && not (added atom))) (kept_clears (holds_in (map (truth state) forms) one.place) one.add (one.atom == atom) (added one.atom) ∙ at_atom added one.atom atom one.add (holds_in (map (truth state) forms) one.place))
        ∙ (λ i. (((h.0.atom i == atom) && not (h.0.add i) && holds_place state forms change.cond one.place h.0.place i) && not (added atom)) || (is_deleted state effects atom && not (added atom)))
        ∙ both_or ((change.atom == atom) && not change.add && truth state change.cond) (is_deleted state effects atom) (not (added atom))

  pub settled_same : (effects : List Change) (changes : List Placed) → AllZip (IsPlaced forms) effects changes → after state (settled (map (truth state) forms) changes) ≡ after state effects
  unfolding after
  settled_same effects changes h = λ i. map (λ atom. at atom i) (range_with_len 0 (length state))
    where
      at : (atom : ℕ) → is_set_after state (settled (map (truth state) forms) changes) atom ≡ is_set_after state effects atom
      at atom =
          let added = is_added_in (map (truth state) forms) changes in
          let adds = any_kept (λ change. (change.atom == atom) && change.add && truth state change.cond) (is_kept (map (truth state) forms) added) changes ∙ sets_same added atom effects changes h in
          let clears = any_kept (λ change. (change.atom == atom) && not change.add && truth state change.cond) (is_kept (map (truth state) forms) added) changes ∙ clears_same added atom effects changes h in
          (λ i. adds i || is_set state atom && not (clears i))
          ∙ (λ i. is_added state effects atom || is_set state atom && not (is_deleted state effects atom && not (added_same effects changes h atom i)))
          ∙ set_first (is_added state effects atom) (is_set state atom) (is_deleted state effects atom)

-- ---- what is so of the changes that happen

pub settled_free : (pattern : List Bool) (added : ℕ → Bool) (changes : List Placed) → All (λ (change : Change). change.cond ≡ True) (settled_by pattern added changes)
settled_free pattern added [] = All-nil (λ (change : Change). change.cond ≡ True)
settled_free pattern added (one ∷ changes) = by (is_kept pattern added one) (settled_free pattern added changes)
  where
    by : (b : Bool) → All (λ (change : Change). change.cond ≡ True) (settled_by pattern added changes) → All (λ (change : Change). change.cond ≡ True) (map always (cond b (one ∷ filter (is_kept pattern added) changes) (filter (is_kept pattern added) changes)))
    by true rest = All-cons (λ (change : Change). change.cond ≡ True) (always one) (settled_by pattern added changes) refl rest
    by false rest = rest

pub settled_atoms : (allowed : ℕ → Bool) (pattern : List Bool) (added : ℕ → Bool) (forms : List Form) (effects : List Change) (changes : List Placed) → AllZip (IsPlaced forms) effects changes
    → list_all (has_change_atoms allowed) effects ≡ true → list_all (has_change_atoms allowed) (settled_by pattern added changes) ≡ true
settled_atoms allowed pattern added forms [] [] h within = refl
settled_atoms allowed pattern added forms [] (one ∷ changes) h within = absurd h
settled_atoms allowed pattern added forms (change ∷ effects) [] h within = absurd h
settled_atoms allowed pattern added forms (change ∷ effects) (one ∷ changes) h within = by (is_kept pattern added one) (settled_atoms allowed pattern added forms effects changes h.1 (and_parts (has_change_atoms allowed change) _ within).1)
  where
    by : (b : Bool) → list_all (has_change_atoms allowed) (settled_by pattern added changes) ≡ true → list_all (has_change_atoms allowed) (map always (cond b (one ∷ filter (is_kept pattern added) changes) (filter (is_kept pattern added) changes))) ≡ true
    by true rest = and_from (has_change_atoms allowed (always one)) _
        (and_from (allowed one.atom) _ (ap allowed h.0.atom ∙ (and_parts (allowed change.atom) _ (and_parts (has_change_atoms allowed change) _ within).0).0) (has_atoms-True allowed))
        rest
    by false rest = rest

-- ---- the loops

-- the atoms that are set decide
pub settled_is : (pattern : List Bool) (added : ℕ → Bool) (changes : List Placed) → ((atom : ℕ) → added atom ≡ is_added_in pattern changes atom) → settled_by pattern added changes ≡ settled pattern changes
settled_is pattern added changes same = λ i. settled_by pattern (λ atom. same atom i) changes
