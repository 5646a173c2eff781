-- What is written for a form holds where the form does.
use Rattle.std.proofs.Common.{◌≡◌, ◌∙◌, ℕ, ◌<◌, nat_lt, refl, ap, Bool, true, not, ◌&&◌, ◌||◌, List, [], length, map}
use Rattle.std.specs.Prelude.{slice_index_or}
use Rattle.std.specs.List.{list_any, list_all}
use Rattle.std.proofs.lemmas.Bool.{and_parts, ltb-true}
use mathlib.Core.Former.{Count}
use Rattle.p3_task.specs.Names.{Name}
use Rattle.p3_task.specs.States as named
use Rattle.p3_task.specs.States.{has_fact}
use Rattle.p3_task.specs.Formulas.{holds}
use Rattle.p3_task.specs.Goals.{hard_holds}
use Rattle.p3_task.proofs.Computes.{trees_compute}
use Rattle.p3_task.proofs.MeaningLemmas.{holds-And, holds-Or, hard_holds-Both}
use Rattle.p3_task.specs.declared.state.Fact.{Fact}
use Rattle.p3_task.specs.declared.task.Task.{Task}
use Rattle.p3_formula.specs.Folds.{fold_forms}
use Rattle.p3_formula.specs.Forms.{State, is_set, truth, truth_layer, has_atoms, within_layer}
use Rattle.p3_formula.specs.declared.form.Form.{Form, Row_of-Form, end_of-Form, more_of-Form}
use Rattle.p3_formula.specs.declared.form.Form.TheVariants as form
use Rattle.p3_writer.specs.TaskOf.{Trees, trees_of, trees_layer}

abbrev pub atom : List Name → ℕ → Fact
atom names i = record { name = slice_index_or names i []; args = [] }

-- the state has the atoms that are set
abbrev pub IsSame : List Name → named.State → State → Type 0
IsSame names s b = (i : ℕ) → i < length names → has_fact s (atom names i) ≡ is_set b i

abbrev pub are_below : ℕ → Form → Bool
are_below count tree = has_atoms (λ atom. nat_lt atom count) tree

module _ (T : Task) (names : List Name) (s : named.State) (b : State) (same : IsSame names s b) where
  mutual
    unfolding trees_compute trees_of truth has_atoms holds

    pub form_holds : (tree : Form) → are_below (length names) tree ≡ true → holds T s [] (trees_of names tree).formula ≡ truth b tree
    form_holds form.True h = holds-And T s [] []
    form_holds form.False h = holds-Or T s [] []
    form_holds (form.Atom a) h = same a (ltb-true a (length names) h)
    form_holds (form.Not' _ (more_of-Form part rest)) h = ap not (form_holds part h)
    form_holds (form.And' _ parts) h = holds-And T s [] (map (λ (t : Trees). t.formula) (fold_forms (trees_layer names) parts)) ∙ all_hold parts h
    form_holds (form.Or' _ parts) h = holds-Or T s [] (map (λ (t : Trees). t.formula) (fold_forms (trees_layer names) parts)) ∙ any_hold parts h

    all_hold : {n : Count} (row : Row_of-Form n) → list_all (λ part. part) (fold_forms (within_layer (λ atom. nat_lt atom (length names))) row) ≡ true
        → list_all (holds T s []) (map (λ (t : Trees). t.formula) (fold_forms (trees_layer names) row)) ≡ list_all (λ part. part) (fold_forms (truth_layer b) row)
    all_hold end_of-Form h = refl
    all_hold (more_of-Form part rest) h = let e = and_parts (are_below (length names) part) _ h in λ i. form_holds part e.0 i && all_hold rest e.1 i

    any_hold : {n : Count} (row : Row_of-Form n) → list_all (λ part. part) (fold_forms (within_layer (λ atom. nat_lt atom (length names))) row) ≡ true
        → list_any (holds T s []) (map (λ (t : Trees). t.formula) (fold_forms (trees_layer names) row)) ≡ list_any (λ part. part) (fold_forms (truth_layer b) row)
    any_hold end_of-Form h = refl
    any_hold (more_of-Form part rest) h = let e = and_parts (are_below (length names) part) _ h in λ i. form_holds part e.0 i || any_hold rest e.1 i

  mutual
    unfolding trees_compute trees_of truth has_atoms hard_holds

    pub goal_holds : (tree : Form) → are_below (length names) tree ≡ true → hard_holds T s [] (trees_of names tree).goal ≡ truth b tree
    goal_holds form.True h = hard_holds-Both T s [] []
    goal_holds form.False h = form_holds form.False h
    goal_holds (form.Atom a) h = form_holds (form.Atom a) h
    goal_holds (form.Not' shape (more_of-Form part rest)) h = form_holds (form.Not' shape (more_of-Form part rest)) h
    goal_holds (form.And' _ parts) h = hard_holds-Both T s [] (map (λ (t : Trees). t.goal) (fold_forms (trees_layer names) parts)) ∙ all_goals parts h
    goal_holds (form.Or' shape parts) h = form_holds (form.Or' shape parts) h

    all_goals : {n : Count} (row : Row_of-Form n) → list_all (λ part. part) (fold_forms (within_layer (λ atom. nat_lt atom (length names))) row) ≡ true
        → list_all (hard_holds T s []) (map (λ (t : Trees). t.goal) (fold_forms (trees_layer names) row)) ≡ list_all (λ part. part) (fold_forms (truth_layer b) row)
    all_goals end_of-Form h = refl
    all_goals (more_of-Form part rest) h = let e = and_parts (are_below (length names) part) _ h in λ i. goal_holds part e.0 i && all_goals rest e.1 i
