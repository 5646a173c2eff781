-- What the places of the grammar make of lists of expressions.
use Rattle.std.proofs.Common.{◌≡◌, ◌∙◌, ℕ, Bool, not, List, [], ◌∷◌, map, Option, Some, None, refl, ap, sym, subst, true}
use Rattle.std.specs.Prelude.{if◌then◌else◌}
use Rattle.std.specs.List.{list_all}
use Rattle.std.proofs.lemmas.Bool.{and_parts, not-true}
use Rattle.p3_task.specs.Names.{Name, same_name}
use Rattle.p3_task.specs.Grammar.Words.{◌>>=◌, Place, ListPart, descend, descend_parts, expressions, all_trees, each_at, choose}
use Rattle.p3_task.proofs.Computes.{texts_compute}
use Rattle.p3_task.specs.declared.expression.Expression.{Expression}
use Rattle.p3_task.specs.declared.expression.Expression.TheBlock.{hidden-the_row-Expression-0}
use Rattle.p3_task.specs.declared.term.Ref.{Ref}

-- what was found is the tree, but for offsets
pub record Given {A : Type 0} (erase : A → A) (option : Option A) (tree : A) : Type 0 where
  pub made : A
  pub found : option ≡ Some made
  pub same : erase made ≡ erase tree

-- each of a list
pub given_none : {X A : Type 0} (erase : A → A) (reads : X → Option A) → Given (map erase) (all_trees (map reads [])) []
given_none erase reads = record { made = []; found = refl; same = refl }

pub given_more : {X A : Type 0} (erase : A → A) (reads : X → Option A) (x : X) (xs : List X) (tree : A) (trees : List A)
    → Given erase (reads x) tree → Given (map erase) (all_trees (map reads xs)) trees
    → Given (map erase) (all_trees (map reads (x ∷ xs))) (tree ∷ trees)
given_more erase reads x xs tree trees first others = record {
  made = first.made ∷ others.made;
  found = λ i. first.found i >>= λ one. others.found i >>= λ more. Some (one ∷ more);
  same = λ i. first.same i ∷ others.same i;
}

-- a list of trees under one constructor
pub given_under : {A B : Type 0} (erase : A → A) (erase_whole : B → B) (whole : List A → B)
    → ((trees : List A) → erase_whole (whole trees) ≡ whole (map erase trees))
    → (options others : List (Option A)) → others ≡ options → (trees : List A) → Given (map erase) (all_trees options) trees
    → Given erase_whole (all_trees others >>= λ found. Some (whole found)) (whole trees)
given_under erase erase_whole whole erased options others is trees parts = record {
  made = whole parts.made;
  found = ap (λ list. all_trees list >>= λ found. Some (whole found)) is ∙ ap (λ option. option >>= λ found. Some (whole found)) parts.found;
  same = erased parts.made ∙ ap whole parts.same ∙ sym (erased trees);
}

-- ---- lists that begin with a word

-- no form begins with the name
abbrev pub heads_none : {F : Type 0} → Name → List (Name × F) → Bool
heads_none name forms = list_all (λ form. not (same_name form.0 name)) forms

-- a list that begins with the name has none of these forms
pub choose_other : {F : Type 0} (name : Name) (forms : List (Name × F)) (other : F) → heads_none name forms ≡ true → choose name forms other ≡ other
choose_other name [] other e = refl
choose_other name (form ∷ forms) other e =
    let both = and_parts (not (same_name form.0 name)) (heads_none name forms) e in
    ap (λ same. if same then form.1 else choose name forms other) (not-true (same_name form.0 name) both.0) ∙ choose_other name forms other both.1

abbrev pub at_offset : Name → ℕ → Ref
at_offset name at = record { name = name; at = at }

abbrev pub checked : Bool → Ref → Option Ref
checked passes word = if passes then Some word else None

-- ---- parts of a list

-- what a list gives of its parts is what the place gives of each
pub parts_given : {A B : Type 0} (word : Expression → A) (list : Expression → List (ListPart A) → A) (view : A → B) (es : List Expression)
    → map (λ (part : ListPart A). view part.tree) (descend_parts word list (hidden-the_row-Expression-0 es)) ≡ map (λ e. view (descend word list e)) es
unfolding texts_compute
parts_given word list view [] = refl
parts_given word list view (e ∷ es) = ap (λ others. view (descend word list e) ∷ others) (parts_given word list view es)

-- the parts of a list, as the grammar shows them
abbrev pub shown : List Expression → List Expression
shown es = expressions (hidden-the_row-Expression-0 es)

pub shown_is : (es : List Expression) → shown es ≡ es
unfolding texts_compute
shown_is [] = refl
shown_is (e ∷ es) = ap (λ others. e ∷ others) (shown_is es)

pub shown_given : {A : Type 0} (erase : A → A) (place : Place A) (es : List Expression) (trees : List A)
    → Given (map erase) (each_at place es) trees → Given (map erase) (each_at place (shown es)) trees
shown_given erase place es trees given = subst (λ list. Given (map erase) (each_at place list) trees) (sym (shown_is es)) given
