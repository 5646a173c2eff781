-- Forms, as they are written: their documents, the bytes of these, and what the grammar makes of them.
use Rattle.std.proofs.Common.{◌≡◌, ◌∙◌, ℕ, ◌+◌, true, List, [], ◌∷◌, ◌++◌, map, length, nat_lt, append_assoc, Some, None, refl, sym, ap, subst}
use Rattle.std.specs.Prelude.{codes, slice_index_or}
use Rattle.std.specs.List.{list_all}
use Rattle.std.proofs.lemmas.Bool.{and_parts}
use mathlib.Core.Former.{Count}
use Rattle.p3_base.specs.Words.{Name}
use Rattle.p3_task.specs.Erased.{erased_formula, erased_goal}
use Rattle.p3_task.specs.Grammar.Words.{◌>>=◌, each_at, descend_parts}
use Rattle.p3_task.specs.Grammar.Formulas.{formula_in, formula_place}
use Rattle.p3_task.specs.Grammar.Goals.{goal_forms, goal_in, goal_place, plain_form}
use Rattle.p3_task.proofs.Computes.{texts_compute}
use Rattle.p3_task.specs.declared.expression.Expression.{Expression}
use Rattle.p3_task.specs.declared.expression.Expression.TheBlock.{hidden-the_row-Expression-0}
use Rattle.p3_task.specs.declared.expression.Expression.TheVariants.{Word, Group}
use Rattle.p3_task.specs.declared.formula.Formula.{Formula}
use Rattle.p3_task.specs.declared.formula.Formula.TheVariants as formula
use Rattle.p3_task.specs.declared.goal.PreGoal.{PreGoal}
use Rattle.p3_task.specs.declared.goal.PreGoal.TheVariants as goal
use Rattle.p3_formula.specs.Folds.{fold_forms}
use Rattle.p3_formula.specs.Forms.{has_atoms, is_below, within_layer}
use Rattle.p3_formula.specs.declared.form.Form.{Form, Row_of-Form, end_of-Form, more_of-Form}
use Rattle.p3_formula.specs.declared.form.Form.TheVariants as form
use Rattle.p3_writer.specs.Layout.{atom_text, negated_text, spaced, form_layer, form_text}
use Rattle.p3_writer.specs.TaskOf.{Trees, plain, conjunction, trees_layer, trees_of}
use Rattle.p3_writer.specs.TaskOf as written
use Rattle.p3_writer.proofs.Texts.Atoms.{atom_formula}
use Rattle.p3_writer.proofs.Texts.Documents.{Document, end, space, list, bytes, beyond, placed}
use Rattle.p3_writer.proofs.Texts.Erasures.{erased_and, erased_or, erased_both}
use Rattle.p3_writer.proofs.Texts.Places.{Given, given_none, given_more, given_under, heads_none, choose_other, at_offset, parts_given}
use Rattle.p3_writer.proofs.Texts.Symbols.{Symbol, names_of, no_goal, IsSymbol, symbol_at}
use Rattle.p3_lexer.proofs.WordLemmas.{IsWord, past}

-- a list that begins with a word, and what stands behind it
abbrev pub group : (at within next : ℕ) → Name → Document → Expression
group at within next head inside = Group at (Word within head ∷ placed next inside)

-- a form that is written as one list
pub record Piece (trees : Trees) (text : List ℕ) : Type 0 where
  pub head : Name
  pub fits : IsWord head
  pub inside : Document
  pub laid : (others : List ℕ) → 40 ∷ (head ++ bytes inside (41 ∷ others)) ≡ text ++ others
  pub formula : (at within next : ℕ) → Given erased_formula (formula_place (group at within next head inside)) trees.formula
  pub goal : (at within next : ℕ) → Given erased_goal (goal_place (group at within next head inside)) trees.goal

-- forms, each behind a space
pub record Pieces (all : List Trees) (texts : List (List ℕ)) : Type 0 where
  pub inside : Document
  pub laid : (others : List ℕ) → bytes inside others ≡ spaced texts ++ others
  pub formulas : (at : ℕ) → Given (map erased_formula) (each_at formula_place (placed at inside)) (map (λ (trees : Trees). trees.formula) all)
  pub goals : (at : ℕ) → Given (map erased_goal) (each_at goal_place (placed at inside)) (map (λ (trees : Trees). trees.goal) all)

-- ---- what the grammar makes of them

-- a list that begins with another word than those of goals is a formula
plain_goal : (at within : ℕ) (head : Name) (es : List Expression) (tree : Formula) → heads_none head goal_forms ≡ true
    → Given erased_formula (formula_place (Group at (Word within head ∷ es))) tree
    → Given erased_goal (goal_place (Group at (Word within head ∷ es))) (goal.Plain tree)
unfolding texts_compute
plain_goal at within head es tree none given = record {
  made = goal.Plain given.made;
  found = ap (λ form. form (at_offset head within) (descend_parts (λ word. None) goal_in (hidden-the_row-Expression-0 es)))
      (choose_other head goal_forms (λ word behind. plain_form (Group at (Word within head ∷ es))) none)
      ∙ ap (λ found. found >>= λ part. Some (goal.Plain part)) given.found;
  same = λ i. goal.Plain (given.same i);
}

module _ (at within : ℕ) (es : List Expression) where
  module _ (trees : List Formula) (given : Given (map erased_formula) (each_at formula_place es) trees) where
    and_formula : Given erased_formula (formula_place (Group at (Word within (codes "and") ∷ es))) (formula.And trees)
    unfolding texts_compute
    and_formula =
        given_under erased_formula erased_formula formula.And erased_and _ _ (parts_given (λ word. None) (λ list parts. formula_in parts) (λ tree. tree) es) trees given

    or_formula : Given erased_formula (formula_place (Group at (Word within (codes "or") ∷ es))) (formula.Or trees)
    unfolding texts_compute
    or_formula =
        given_under erased_formula erased_formula formula.Or erased_or _ _ (parts_given (λ word. None) (λ list parts. formula_in parts) (λ tree. tree) es) trees given

  both_goal : (trees : List PreGoal) → Given (map erased_goal) (each_at goal_place es) trees
      → Given erased_goal (goal_place (Group at (Word within (codes "and") ∷ es))) (goal.Both trees)
  unfolding texts_compute
  both_goal trees given = given_under erased_goal erased_goal goal.Both erased_both _ _ (parts_given (λ word. None) goal_in (λ tree. tree) es) trees given

not_formula : (at within : ℕ) (e : Expression) (tree : Formula) → Given erased_formula (formula_place e) tree
    → Given erased_formula (formula_place (Group at (Word within (codes "not") ∷ e ∷ []))) (formula.Not tree)
unfolding texts_compute
not_formula at within e tree given = record {
  made = formula.Not given.made;
  found = ap (λ found. found >>= λ part. Some (formula.Not part)) given.found;
  same = λ i. formula.Not (given.same i);
}

-- ---- forms

pub atom_piece : (s : Symbol) → Piece (plain (formula.Atom (written.word s.name) [])) (atom_text s.name)
atom_piece s = record {
  head = s.name;
  fits = s.fits;
  inside = end;
  laid = λ others. ap (λ text. 40 ∷ text) (sym (append_assoc s.name (codes ")") others));
  formula = λ at within next. atom_formula at within s;
  goal = λ at within next. plain_goal at within s.name [] _ (no_goal s) (atom_formula at within s);
}

pub not_piece : {trees : Trees} {text : List ℕ} → Piece trees text → Piece (plain (formula.Not trees.formula)) (negated_text text)
not_piece {trees} {text} part =
    let given : (at within next : ℕ) → Given erased_formula (formula_place (group at within next (codes "not") (space (list part.head part.fits part.inside end)))) (formula.Not trees.formula)
    = λ at within next. not_formula at within _ trees.formula (part.formula (next + 1) (next + 1 + 1) (past (next + 1 + 1) part.head)) in
    record {
      head = codes "not";
      fits = refl;
      inside = space (list part.head part.fits part.inside end);
      laid = λ others. ap (λ later. codes "(not " ++ later) (part.laid (41 ∷ others) ∙ sym (append_assoc text (codes ")") others));
      formula = given;
      goal = λ at within next. plain_goal at within (codes "not") _ _ refl (given at within next);
    }

joined_bytes : (all : List Trees) (texts : List (List ℕ)) (parts : Pieces all texts) (others : List ℕ)
    → bytes parts.inside (41 ∷ others) ≡ (spaced texts ++ codes ")") ++ others
joined_bytes all texts parts others = parts.laid (41 ∷ others) ∙ sym (append_assoc (spaced texts) (codes ")") others)

pub and_piece : {all : List Trees} {texts : List (List ℕ)} → Pieces all texts → Piece (conjunction all) (codes "(and" ++ spaced texts ++ codes ")")
and_piece {all} {texts} parts = record {
  head = codes "and";
  fits = refl;
  inside = parts.inside;
  laid = λ others. ap (λ later. codes "(and" ++ later) (joined_bytes all texts parts others);
  formula = λ at within next. and_formula at within _ _ (parts.formulas next);
  goal = λ at within next. both_goal at within _ _ (parts.goals next);
}

or_piece : {all : List Trees} {texts : List (List ℕ)} → Pieces all texts
    → Piece (plain (formula.Or (map (λ (trees : Trees). trees.formula) all))) (codes "(or" ++ spaced texts ++ codes ")")
or_piece {all} {texts} parts = record {
  head = codes "or";
  fits = refl;
  inside = parts.inside;
  laid = λ others. ap (λ later. codes "(or" ++ later) (joined_bytes all texts parts others);
  formula = λ at within next. or_formula at within _ _ (parts.formulas next);
  goal = λ at within next. plain_goal at within (codes "or") _ _ refl (or_formula at within _ _ (parts.formulas next));
}

pub no_pieces : Pieces [] []
no_pieces = record {
  inside = end;
  laid = λ others. refl;
  formulas = λ at. given_none erased_formula formula_place;
  goals = λ at. given_none erased_goal goal_place;
}

pub one_more : {trees : Trees} {text : List ℕ} {all : List Trees} {texts : List (List ℕ)} → Piece trees text → Pieces all texts → Pieces (trees ∷ all) (text ∷ texts)
one_more {trees} {text} {all} {texts} part rest = record {
  inside = space (list part.head part.fits part.inside rest.inside);
  laid = λ others. ap (λ later. 32 ∷ later)
      (part.laid (bytes rest.inside others) ∙ ap (λ later. text ++ later) (rest.laid others) ∙ sym (append_assoc text (spaced texts) others));
  formulas = λ at. given_more erased_formula formula_place _ _ _ _
      (part.formula (at + 1) (at + 1 + 1) (past (at + 1 + 1) part.head)) (rest.formulas (beyond (past (at + 1 + 1) part.head) part.inside + 1));
  goals = λ at. given_more erased_goal goal_place _ _ _ _
      (part.goal (at + 1) (at + 1 + 1) (past (at + 1 + 1) part.head)) (rest.goals (beyond (past (at + 1 + 1) part.head) part.inside + 1));
}

abbrev NamedAtom : Name → Type 0
NamedAtom name = Piece (plain (formula.Atom (written.word name) [])) (atom_text name)

module _ (symbols : List Symbol) where
  mutual
    unfolding trees_of form_text has_atoms

    pub form_piece : (tree : Form) → is_below (length (names_of symbols)) tree ≡ true → Piece (trees_of (names_of symbols) tree) (form_text (names_of symbols) tree)
    form_piece form.True h = and_piece no_pieces
    form_piece form.False h = or_piece no_pieces
    form_piece (form.Atom atom) h =
        let own : IsSymbol (slice_index_or (names_of symbols) atom []) = symbol_at symbols atom h in subst NamedAtom own.named (atom_piece own.symbol)
    form_piece (form.Not' _ (more_of-Form part rest)) h = not_piece (form_piece part h)
    form_piece (form.And' _ parts) h = and_piece (form_pieces parts h)
    form_piece (form.Or' _ parts) h = or_piece (form_pieces parts h)

    form_pieces : {n : Count} (row : Row_of-Form n) → list_all (λ part. part) (fold_forms (within_layer (λ atom. nat_lt atom (length (names_of symbols)))) row) ≡ true
        → Pieces (fold_forms (trees_layer (names_of symbols)) row) (fold_forms (form_layer (names_of symbols)) row)
    form_pieces end_of-Form h = no_pieces
    form_pieces (more_of-Form part rest) h =
        let both = and_parts (is_below (length (names_of symbols)) part) _ h in one_more (form_piece part both.0) (form_pieces rest both.1)
